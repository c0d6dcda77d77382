-- A part that is the longest that begins there is what is read there.
use Rattle.std.proofs.Common.{◌≡◌, ℕ, zero, suc, ◌+◌, ◌-◌, ◌<◌, ◌≤◌, ◌^◌, ◌==◌, inl, inr, not, nat_lt, nat_le, Bool, true, false, pos, neg_ℤ, List, [], ◌∷◌, ◌++◌, length, take, drop, Option, Some, None, unwrap_or, refl, sym, ap, subst, ◌∙◌, append_assoc, length-append, length-take, take-append-drop, take_at, arith}
use Rattle.std.proofs.Math.Seq.{take-append-add}
use Rattle.std.proofs.lemmas.Bool.{eqb-true}
use Rattle.std.proofs.lemmas.Bool.Decides.{nat_tests}
use Rattle.std.proofs.lemmas.List.Sums.{prefix_len-le-length}
use Rattle.std.specs.List.{list_all, prefix_len}
use Rattle.std.specs.Char.{is_ascii_digit}
use Rattle.std.specs.Str.{encode_utf8_all}
use Rattle.qtt_base.specs.Parts.{has_long_part}
use Rattle.qtt_lexer.specs.Characters.{begins_part}
use Rattle.qtt_lexer.specs.Forms.{IsName, IsToken, IsGap, IsPart}
use Rattle.qtt_lexer.specs.Forms.IsToken.{word as is_word, hole as is_hole, number as is_number, negative as is_negative, text as is_text, one as is_one, two as is_two}
use Rattle.qtt_lexer.specs.Forms.IsGap.{blank as is_blank_gap, line as is_line, comment as is_comment}
use Rattle.qtt_lexer.specs.Piece.{piece_at, by_front, front_of, name_tail, name_at, word_of, reserved, hole_at, hole_of, names_hole, number_at, number_of, decimal, quoted, text_of, comment_tail, comment_of, symbol_at, symbol_of, of_one, sized, or_else, listed, pairs, singles}
use Rattle.qtt_lexer.specs.declared.front.Front.{Front}
use Rattle.qtt_lexer.specs.declared.front.Front.TheVariants as front
use Rattle.qtt_lexer.specs.declared.quoted.Quotation.TheVariants.{Closed}
use Rattle.qtt_lexer.specs.declared.token.TokenKind.{TokenKind}
use Rattle.qtt_lexer.specs.declared.token.TokenKind.TheVariants as kind
use Rattle.qtt_lexer.specs.declared.piece.Piece.{Piece}
use Rattle.qtt_lexer.specs.declared.piece.Piece.TheVariants.{Gap, Token}
use Rattle.qtt_lexer.proofs.Ascii.{front_of-name, front_of-number}
use Rattle.qtt_lexer.proofs.Longest.{all_go_on-name_tail, spelled-quoted}
use Rattle.qtt_lexer.proofs.Sound.{name_tail-all_go_on, prefix_passes}
use Rattle.qtt_lexer.proofs.Words.{name_tail-le-length}
use Rattle.qtt_lexer_laws.specs.Cuts.{IsWord, AreDigits, BelongTogether, EndBefore}
use Rattle.qtt_lexer_laws.specs.Cuts.BelongTogether.{part, word, hole, digits, negative, opening}
use Rattle.qtt_lexer_laws.proofs.Least.{first_passes, prefix_least, negative_front, pair_front, single_front, IsSymbolFront, front_of-blank, nested-tail}
use Rattle.qtt_lexer_laws.proofs.Standing.{piece_by, both, take_one, begins_with, Shows, front_of-shows, hole_word}

abbrev pub part_of : Option TokenKind → ℕ → Piece
part_of None n = Gap n
part_of (Some k) n = Token k n

pub piece_is : (broken : Bool) (c : ℕ) (cs : List ℕ) (f : Front) (q : Piece) → front_of c cs ≡ f →
    by_front broken c cs f ≡ q → piece_at broken (c ∷ cs) ≡ q
piece_is broken c cs f q e h = sym (piece_by broken c cs f q e h)

-- so many characters belong together that are no fewer than those that nothing goes on behind
exact : (before cs behind : List ℕ) (n : ℕ) → length cs ≤ n → n ≤ length (cs ++ behind) →
    EndBefore (before ++ cs) behind → BelongTogether (before ++ take n (cs ++ behind)) → n ≡ length cs
exact before cs behind n low high h together = by (n - length cs) (omega (arith, low)) where
  by : (k : ℕ) → n ≡ length cs + k → n ≡ length cs
  by zero e = omega (arith, e)
  by (suc k) e =
      let more = take (suc k) behind in
      let same : before ++ take n (cs ++ behind) ≡ (before ++ cs) ++ more =
      ap (λ (m : ℕ). before ++ take m (cs ++ behind)) e ∙
      ap (λ (ds : List ℕ). before ++ ds) (take-append-add cs behind (suc k)) ∙ sym (append_assoc before cs more) in
      let some : 0 < length more = omega (arith, length-take (suc k) behind, length-append cs behind, high, e) in
      absurd (h more (drop (suc k) behind) (sym (take-append-drop (suc k) behind)) some
      (subst BelongTogether same together))

-- Words

front_word : (c : ℕ) (cs : List ℕ) → begins_part c ≡ true → IsWord c (take (name_tail cs) cs)
front_word c cs h = record { begins = h; goes_on = name_tail-all_go_on cs }

pub word_ends : (c : ℕ) (cs behind : List ℕ) → IsWord c cs → EndBefore (c ∷ cs) behind →
    name_tail (cs ++ behind) ≡ length cs
word_ends c cs behind h e =
    exact (c ∷ []) cs behind (name_tail (cs ++ behind)) (all_go_on-name_tail cs behind h.goes_on)
    (name_tail-le-length (cs ++ behind)) e
    (word c (take (name_tail (cs ++ behind)) (cs ++ behind)) (front_word c (cs ++ behind) h.begins))

pub hole_ends : (c : ℕ) (cs behind : List ℕ) → IsWord c cs → EndBefore (63 ∷ c ∷ cs) behind →
    name_tail (cs ++ behind) ≡ length cs
hole_ends c cs behind h e =
    exact (63 ∷ c ∷ []) cs behind (name_tail (cs ++ behind)) (all_go_on-name_tail cs behind h.goes_on)
    (name_tail-le-length (cs ++ behind)) e
    (hole c (take (name_tail (cs ++ behind)) (cs ++ behind)) (front_word c (cs ++ behind) h.begins))

taken : (n c : ℕ) (cs behind : List ℕ) → n ≡ length cs → take (n + 1) (c ∷ (cs ++ behind)) ≡ c ∷ cs
taken n c cs behind e =
    take_one n c (cs ++ behind) ∙ ap (λ (ds : List ℕ). c ∷ ds) (take_at cs behind n (sym e))

pub name_read : (c : ℕ) (cs behind : List ℕ) → name_tail (cs ++ behind) ≡ length cs →
    name_at (c ∷ (cs ++ behind)) ≡ word_of (length (c ∷ cs)) (encode_utf8_all (c ∷ cs))
unfolding name_at
name_read c cs behind e =
    let t = name_tail (cs ++ behind) in
    let same : t + 1 ≡ length (c ∷ cs) = omega (arith, e) in
    ap (λ (ds : List ℕ). word_of (t + 1) (encode_utf8_all ds)) (taken t c cs behind e) ∙
    ap (λ (n : ℕ). word_of n (encode_utf8_all (c ∷ cs))) same

pub hole_read : (c : ℕ) (cs behind : List ℕ) → begins_part c ≡ true → name_tail (cs ++ behind) ≡ length cs →
    hole_at (c ∷ (cs ++ behind)) ≡ hole_of (length (c ∷ cs)) (encode_utf8_all (c ∷ cs))
hole_read c cs behind h e =
    let t = name_tail (cs ++ behind) in
    let same : t + 1 ≡ length (c ∷ cs) = omega (arith, e) in
    hole_word c (cs ++ behind) h ∙
    ap (λ (ds : List ℕ). hole_of (t + 1) (encode_utf8_all ds)) (taken t c cs behind e) ∙
    ap (λ (n : ℕ). hole_of n (encode_utf8_all (c ∷ cs))) same

of_name : (c : ℕ) (cs : List ℕ) → IsName c cs → IsWord c cs
of_name c cs h = record { begins = h.begins; goes_on = h.goes_on }

short_word : (n : ℕ) (w : List ℕ) → has_long_part w ≡ false →
    word_of n w ≡ Token (unwrap_or (reserved w) (kind.Name w)) n
short_word n w h = rw h refl

short_hole : (n : ℕ) (w : List ℕ) → names_hole w ≡ true → has_long_part w ≡ false →
    hole_of n w ≡ Token (kind.Hole w) (n + 1)
short_hole n w h k = rw (h, k) refl

module _ (broken : Bool) where
  exact_word : (c : ℕ) (cs behind : List ℕ) (k : TokenKind) → IsName c cs →
      k ≡ unwrap_or (reserved (encode_utf8_all (c ∷ cs))) (kind.Name (encode_utf8_all (c ∷ cs))) →
      EndBefore (c ∷ cs) behind → piece_at broken (c ∷ (cs ++ behind)) ≡ Token k (length (c ∷ cs))
  exact_word c cs behind k h e ends =
      piece_is broken c (cs ++ behind) front.Name (Token k (length (c ∷ cs)))
      (front_of-name c (cs ++ behind) h.begins)
      (name_read c cs behind (word_ends c cs behind (of_name c cs h) ends) ∙
      short_word (length (c ∷ cs)) (encode_utf8_all (c ∷ cs)) h.short ∙
      ap (λ (j : TokenKind). Token j (length (c ∷ cs))) (sym e))

  exact_hole : (c : ℕ) (cs behind w : List ℕ) → IsName c cs → w ≡ encode_utf8_all (c ∷ cs) →
      names_hole w ≡ true → EndBefore (63 ∷ c ∷ cs) behind →
      piece_at broken (63 ∷ c ∷ (cs ++ behind)) ≡ Token (kind.Hole w) (length (63 ∷ c ∷ cs))
  exact_hole c cs behind w h e i ends =
      let n = length (c ∷ cs) in
      let v = encode_utf8_all (c ∷ cs) in
      let same : n + 1 ≡ length (63 ∷ c ∷ cs) = omega arith in
      piece_is broken 63 (c ∷ (cs ++ behind)) front.Hole (Token (kind.Hole w) (length (63 ∷ c ∷ cs))) refl
      (hole_read c cs behind h.begins (hole_ends c cs behind (of_name c cs h) ends) ∙
      short_hole n v (ap names_hole (sym e) ∙ i) h.short ∙
      ap (λ (u : List ℕ). Token (kind.Hole u) (n + 1)) (sym e) ∙ ap (Token (kind.Hole w)) same)

-- Numbers

rest_passes : (c : ℕ) (cs : List ℕ) → AreDigits (c ∷ cs) → AreDigits cs
rest_passes c cs h = (both (is_ascii_digit c) (list_all is_ascii_digit cs) h).1

front_digits : (c : ℕ) (cs : List ℕ) → is_ascii_digit c ≡ true →
    AreDigits (c ∷ take (prefix_len is_ascii_digit cs) cs)
front_digits c cs h = rw h (prefix_passes is_ascii_digit cs)

pub digits_end : (c : ℕ) (cs behind : List ℕ) → AreDigits (c ∷ cs) → EndBefore (c ∷ cs) behind →
    prefix_len is_ascii_digit (cs ++ behind) ≡ length cs
digits_end c cs behind h e =
    exact (c ∷ []) cs behind (prefix_len is_ascii_digit (cs ++ behind))
    (prefix_least is_ascii_digit cs behind (rest_passes c cs h))
    (prefix_len-le-length is_ascii_digit (cs ++ behind)) e
    (digits c (take (prefix_len is_ascii_digit (cs ++ behind)) (cs ++ behind))
    (front_digits c (cs ++ behind) (first_passes is_ascii_digit c cs h)))

pub negative_ends : (c : ℕ) (cs behind : List ℕ) → AreDigits (c ∷ cs) → EndBefore (45 ∷ c ∷ cs) behind →
    prefix_len is_ascii_digit (cs ++ behind) ≡ length cs
negative_ends c cs behind h e =
    exact (45 ∷ c ∷ []) cs behind (prefix_len is_ascii_digit (cs ++ behind))
    (prefix_least is_ascii_digit cs behind (rest_passes c cs h))
    (prefix_len-le-length is_ascii_digit (cs ++ behind)) e
    (negative c (take (prefix_len is_ascii_digit (cs ++ behind)) (cs ++ behind))
    (front_digits c (cs ++ behind) (first_passes is_ascii_digit c cs h)))

pub number_read : (below : Bool) (c : ℕ) (cs behind : List ℕ) → is_ascii_digit c ≡ true →
    prefix_len is_ascii_digit (cs ++ behind) ≡ length cs →
    number_at below (c ∷ (cs ++ behind)) ≡ number_of below (length (c ∷ cs)) (decimal (c ∷ cs))
unfolding number_at
number_read below c cs behind h e =
    let n = prefix_len is_ascii_digit (c ∷ (cs ++ behind)) in
    let more : n ≡ 1 + prefix_len is_ascii_digit (cs ++ behind) = rw h refl in
    let same : n ≡ length (c ∷ cs) = omega (arith, more, e) in
    ap (λ (ds : List ℕ). number_of below n (decimal ds)) (take_at (c ∷ cs) behind n (sym same)) ∙
    ap (λ (m : ℕ). number_of below m (decimal (c ∷ cs))) same

lt_true : (a b : ℕ) → a < b → nat_lt a b ≡ true
lt_true a b h = grind (arith, nat_tests)

le_true : (a b : ℕ) → a ≤ b → nat_le a b ≡ true
le_true a b h = grind (arith, nat_tests)

narrow : (n v : ℕ) → v < 2 ^ 63 → number_of false n v ≡ Token (kind.Number (pos v)) n
narrow n v h = let k = lt_true v (2 ^ 63) h in rw k refl

narrow_negative : (n v : ℕ) → v ≤ 2 ^ 63 → number_of true n v ≡ Token (kind.Number (neg_ℤ (pos v))) (n + 1)
narrow_negative n v h = let k = le_true v (2 ^ 63) h in rw k refl

module _ (broken : Bool) where
  exact_number : (c n : ℕ) (cs behind : List ℕ) → AreDigits (c ∷ cs) → n ≡ decimal (c ∷ cs) → n < 2 ^ 63 →
      EndBefore (c ∷ cs) behind →
      piece_at broken (c ∷ (cs ++ behind)) ≡ Token (kind.Number (pos n)) (length (c ∷ cs))
  exact_number c n cs behind h e i ends =
      let digit = first_passes is_ascii_digit c cs h in
      piece_is broken c (cs ++ behind) front.Number (Token (kind.Number (pos n)) (length (c ∷ cs)))
      (front_of-number c (cs ++ behind) digit)
      (number_read false c cs behind digit (digits_end c cs behind h ends) ∙
      ap (number_of false (length (c ∷ cs))) (sym e) ∙ narrow (length (c ∷ cs)) n i)

  exact_negative : (c n : ℕ) (cs behind : List ℕ) → AreDigits (c ∷ cs) → n ≡ decimal (c ∷ cs) → n ≤ 2 ^ 63 →
      EndBefore (45 ∷ c ∷ cs) behind →
      piece_at broken (45 ∷ c ∷ (cs ++ behind)) ≡ Token (kind.Number (neg_ℤ (pos n))) (length (45 ∷ c ∷ cs))
  exact_negative c n cs behind h e i ends =
      let digit = first_passes is_ascii_digit c cs h in
      let same : length (c ∷ cs) + 1 ≡ length (45 ∷ c ∷ cs) = omega arith in
      piece_is broken 45 (c ∷ (cs ++ behind)) front.Negative
      (Token (kind.Number (neg_ℤ (pos n))) (length (45 ∷ c ∷ cs))) (negative_front c (cs ++ behind) digit)
      (number_read true c cs behind digit (negative_ends c cs behind h ends) ∙
      ap (number_of true (length (c ∷ cs))) (sym e) ∙ narrow_negative (length (c ∷ cs)) n i ∙
      ap (Token (kind.Number (neg_ℤ (pos n)))) same)

  -- Texts and comments

  exact_text : (body value cs behind : List ℕ) → quoted (body ++ 34 ∷ behind) ≡ Closed value (length body + 1) →
      cs ≡ 34 ∷ (body ++ 34 ∷ []) → piece_at broken (cs ++ behind) ≡ Token (kind.Text value) (length cs)
  exact_text body value cs behind m e =
      let quote : quoted ((body ++ 34 ∷ []) ++ behind) ≡ Closed value (length body + 1) =
      ap quoted (append_assoc body (34 ∷ []) behind) ∙ m in
      let same : length body + 1 + 1 ≡ length cs = omega (arith, ap length e, length-append body (34 ∷ [])) in
      ap (λ (ds : List ℕ). piece_at broken (ds ++ behind)) e ∙
      piece_is broken 34 ((body ++ 34 ∷ []) ++ behind) front.Text (Token (kind.Text value) (length body + 1 + 1)) refl
      (ap (text_of broken) quote) ∙ ap (Token (kind.Text value)) same

  exact_comment : (cs behind : List ℕ) → comment_tail 0 (cs ++ behind) ≡ Some (length cs) →
      piece_at broken (123 ∷ 45 ∷ (cs ++ behind)) ≡ Gap (length (123 ∷ 45 ∷ cs))
  exact_comment cs behind m =
      let same : length cs + 2 ≡ length (123 ∷ 45 ∷ cs) = omega arith in
      piece_is broken 123 (45 ∷ (cs ++ behind)) front.Comment (Gap (length (123 ∷ 45 ∷ cs))) refl
      (ap (comment_of broken (length (45 ∷ (cs ++ behind)) + 1)) m ∙ ap Gap same)

  exact_line : (cs behind : List ℕ) → list_all (λ c. not (c == 10)) cs ≡ true → EndBefore (45 ∷ 45 ∷ cs) behind →
      piece_at broken (45 ∷ 45 ∷ (cs ++ behind)) ≡ Gap (length (45 ∷ 45 ∷ cs))
  exact_line cs behind h ends =
      let n = prefix_len (λ c. not (c == 10)) (cs ++ behind) in
      let all : n ≡ length cs =
      exact (45 ∷ 45 ∷ []) cs behind n (prefix_least (λ c. not (c == 10)) cs behind h)
      (prefix_len-le-length (λ c. not (c == 10)) (cs ++ behind)) ends
      (part None (45 ∷ 45 ∷ take n (cs ++ behind))
      (is_line (take n (cs ++ behind)) (prefix_passes (λ c. not (c == 10)) (cs ++ behind)))) in
      let same : 1 + n + 1 ≡ length (45 ∷ 45 ∷ cs) = omega (arith, all) in
      piece_is broken 45 (45 ∷ (cs ++ behind)) front.Line (Gap (length (45 ∷ 45 ∷ cs))) refl (ap Gap same)

  -- Symbols

  no_comment : (c : ℕ) (behind : List ℕ) → EndBefore (c ∷ []) behind → front_of c behind ≡ front.Comment → ⊥
  no_comment c behind ends e =
      let shown = subst (λ (f : Front). Shows f c behind) e (front_of-shows c behind) in
      let parts = both (c == 123) _ shown in
      let is = eqb-true c 123 parts.0 in
      ends (45 ∷ []) (drop 1 behind) (begins_with 45 behind parts.1) (omega arith)
      (subst (λ (x : ℕ). BelongTogether (x ∷ 45 ∷ [])) (sym is) opening)

  no_pair : (c e : ℕ) (ds : List ℕ) (o : Option TokenKind) → EndBefore (c ∷ []) (e ∷ ds) →
      listed pairs (c ∷ e ∷ []) ≡ o → o ≡ None
  no_pair c e ds None ends h = refl
  no_pair c e ds (Some k) ends h =
      absurd (ends (e ∷ []) ds refl (omega arith) (part (Some k) (c ∷ e ∷ []) (is_two c e k h)))

  one_read : (c : ℕ) (k : TokenKind) (behind : List ℕ) → listed singles (c ∷ []) ≡ Some k →
      EndBefore (c ∷ []) behind → symbol_at (c ∷ behind) ≡ Some (k, 1)
  unfolding symbol_at
  one_read c k [] h ends = ap (sized 1) h
  one_read c k (e ∷ ds) h ends =
      ap (λ (o : Option TokenKind). or_else (sized 2 o) (of_one c))
      (no_pair c e ds (listed pairs (c ∷ e ∷ [])) ends refl) ∙ ap (sized 1) h

  exact_one : (c : ℕ) (k : TokenKind) (behind : List ℕ) → listed singles (c ∷ []) ≡ Some k →
      EndBefore (c ∷ []) behind → IsSymbolFront (front_of c behind) → piece_at broken (c ∷ behind) ≡ Token k 1
  exact_one c k behind h ends (inl e) =
      piece_is broken c behind front.Symbol (Token k 1) e (ap (symbol_of c) (one_read c k behind h ends))
  exact_one c k behind h ends (inr e) = absurd (no_comment c behind ends e)

  two_read : (c e : ℕ) (k : TokenKind) (behind : List ℕ) → listed pairs (c ∷ e ∷ []) ≡ Some k →
      symbol_at (c ∷ e ∷ behind) ≡ Some (k, 2)
  unfolding symbol_at
  two_read c e k behind h = ap (λ (o : Option TokenKind). or_else (sized 2 o) (of_one c)) h

  exact_two : (c e : ℕ) (k : TokenKind) (behind : List ℕ) → listed pairs (c ∷ e ∷ []) ≡ Some k →
      piece_at broken (c ∷ e ∷ behind) ≡ Token k 2
  exact_two c e k behind h =
      piece_is broken c (e ∷ behind) front.Symbol (Token k 2) (pair_front c e k behind h)
      (ap (symbol_of c) (two_read c e k behind h))

  -- All together

  exact_token : (k : TokenKind) (cs behind : List ℕ) → IsToken k cs → EndBefore cs behind →
      piece_at broken (cs ++ behind) ≡ Token k (length cs)
  exact_token k cs behind (is_word c rest j h e) ends = exact_word broken c rest behind j h e ends
  exact_token k cs behind (is_hole c rest w h e i) ends = exact_hole broken c rest behind w h e i ends
  exact_token k cs behind (is_number c n rest h e i) ends = exact_number c n rest behind h e i ends
  exact_token k cs behind (is_negative c n rest h e i) ends = exact_negative c n rest behind h e i ends
  exact_token k cs behind (is_text body value all m e) ends =
      exact_text body value all behind (spelled-quoted body value behind m) e
  exact_token k cs behind (is_one c j h) ends = exact_one c j behind h ends (single_front c j behind h)
  exact_token k cs behind (is_two c e j h) ends = exact_two c e j behind h

  exact_gap : (cs behind : List ℕ) → IsGap cs → EndBefore cs behind → piece_at broken (cs ++ behind) ≡ Gap (length cs)
  exact_gap cs behind (is_blank_gap c h) ends =
      piece_is broken c behind front.Blank (Gap 1) (front_of-blank c behind h) refl
  exact_gap cs behind (is_line rest h) ends = exact_line rest behind h ends
  exact_gap cs behind (is_comment rest m) ends = exact_comment rest behind (nested-tail 0 rest behind m)

  pub exact_part : (o : Option TokenKind) (cs behind : List ℕ) → IsPart o cs → EndBefore cs behind →
      piece_at broken (cs ++ behind) ≡ part_of o (length cs)
  exact_part None cs behind h ends = exact_gap cs behind h ends
  exact_part (Some k) cs behind h ends = exact_token k cs behind h ends
