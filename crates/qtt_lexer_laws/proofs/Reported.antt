-- A fault that stands at the front of characters is reported.
use Rattle.std.proofs.Common.{◌≡◌, ◌≢◌, ℕ, suc, ◌+◌, ◌<◌, ◌≤◌, ◌^◌, nat_lt, nat_le, Bool, true, false, List, [], ◌∷◌, ◌++◌, length, take, drop, Option, Some, None, Err, encode_utf8, refl, sym, ap, subst, ◌∙◌, take-append-drop, take_all, take_at, arith}
use Rattle.std.proofs.lemmas.Bool.Decides.{nat_tests}
use Rattle.std.specs.Char.{is_ascii_digit}
use Rattle.std.specs.Str.{encode_utf8_all}
use Rattle.qtt_base.specs.Parts.{has_long_part}
use Rattle.qtt_lexer.specs.Forms.{IsGap, Nested}
use Rattle.qtt_lexer.specs.Forms.IsGap.{blank as is_blank_gap, line as is_line, comment as is_comment}
use Rattle.qtt_lexer.specs.Lexed.{tokens_from}
use Rattle.qtt_lexer.specs.Piece.{piece_at, hole_of, names_hole, number_of, decimal, quoted, text_of, comment_tail, comment_of, bad}
use Rattle.qtt_lexer.specs.declared.front.Front.TheVariants as front
use Rattle.qtt_lexer.specs.declared.quoted.Quotation.{Quotation}
use Rattle.qtt_lexer.specs.declared.quoted.Quotation.TheVariants.{LineEnds, TextEnds, BadEscape}
use Rattle.qtt_lexer.specs.declared.piece.Cause.{Cause}
use Rattle.qtt_lexer.specs.declared.piece.Cause.TheVariants.{NotUtf8, BadCharacter, OpenText, OpenComment, NumberTooWide, NameTooLong}
use Rattle.qtt_lexer.specs.declared.piece.Piece.{Piece}
use Rattle.qtt_lexer.specs.declared.piece.Piece.TheVariants.{Gap, Token, Wrong}
use Rattle.qtt_lexer.specs.declared.place.Place.{Place}
use Rattle.qtt_lexer.proofs.Ascii.{front_of-name, front_of-number}
use Rattle.qtt_lexer.proofs.Lexing.{tokens_from-wrong}
use Rattle.qtt_lexer.proofs.Sound.{IsRight, piece_at-right}
use Rattle.qtt_lexer_laws.specs.Cuts.{IsWord, AreDigits, EndBefore}
use Rattle.qtt_lexer_laws.specs.Cuts.BelongTogether.{part as stands_alone, word as says, hole as asks, digits as counts, negative as below, opening}
use Rattle.qtt_lexer_laws.specs.Flaws.{Flaw, flaw, BeginNothing, StayOpen, IsFlaw, reported}
use Rattle.qtt_lexer_laws.specs.Flaws.IsFlaw.{broken, broken_text, broken_comment, character, question, backslash, line, input, comment, number, negative, name, hole}
use Rattle.qtt_lexer_laws.proofs.Exact.{piece_is, word_ends, hole_ends, name_read, hole_read, digits_end, negative_ends, number_read}
use Rattle.qtt_lexer_laws.proofs.Least.{first_passes, negative_front}
use Rattle.qtt_lexer_laws.proofs.Questions.{same_first, same_rest}
use Rattle.qtt_lexer_laws.proofs.Quotations.{quoted-line, quoted-input, quoted-backslash}
use Rattle.qtt_lexer_laws.proofs.Standing.{is_broken, flaw_of, FlawIn, piece_at-flaw, take_one, long_word, long_hole}

-- A character that begins nothing

no_quote : (all body : List ℕ) (c : ℕ) (cs : List ℕ) → all ≡ 34 ∷ body → all ≡ c ∷ cs → c ≢ 34 → ⊥
no_quote all body c cs e is h = absurd (h (same_first c 34 cs body (sym is ∙ e)))

-- no other fault stands at a character that begins nothing
only_character : (rest all : List ℕ) (f : Flaw) (c : ℕ) (cs : List ℕ) → IsFlaw rest all f → all ≡ c ∷ cs → c ≢ 34 →
    BeginNothing all → f ≡ flaw 2 [] 1 (encode_utf8 c)
only_character rest all f c cs (broken r some) is h n = absurd (let e = is in cc)
only_character rest all f c cs (broken_text r body value tail ds some m cut e) is h n =
    absurd (no_quote all (body ++ tail) c cs e is h)
only_character rest all f c cs (broken_comment r ds some stays) is h n =
    absurd (n (123 ∷ 45 ∷ []) ds refl opening)
only_character rest all f c cs (character r d ds i m) is h n =
    ap (λ (x : ℕ). flaw 2 [] 1 (encode_utf8 x)) (same_first d c ds cs is)
only_character rest all f c cs (question r d ds behind es w ends i e) is h n =
    absurd (n (63 ∷ d ∷ ds) behind e (asks d ds w))
only_character rest all f c cs (backslash r body value x more ds m i j e) is h n =
    absurd (no_quote all (body ++ 92 ∷ x ∷ more) c cs e is h)
only_character rest all f c cs (line r body value tail more ds m cut e) is h n =
    absurd (no_quote all (body ++ (tail ++ 10 ∷ more)) c cs e is h)
only_character rest all f c cs (input body value tail ds m cut e) is h n =
    absurd (no_quote all (body ++ tail) c cs e is h)
only_character rest all f c cs (comment ds stays) is h n =
    absurd (n (123 ∷ 45 ∷ []) ds refl opening)
only_character rest all f c cs (number r d ds behind es i ends w e) is h n =
    absurd (n (d ∷ ds) behind e (counts d ds i))
only_character rest all f c cs (negative r d ds behind es i ends w e) is h n =
    absurd (n (45 ∷ d ∷ ds) behind e (below d ds i))
only_character rest all f c cs (name r d ds behind es w ends i e) is h n =
    absurd (n (d ∷ ds) behind e (says d ds w))
only_character rest all f c cs (hole r d ds behind es w ends i j e) is h n =
    absurd (n (63 ∷ d ∷ ds) behind e (asks d ds w))

broken_true : (rest : List ℕ) → 0 < length rest → is_broken rest ≡ true
broken_true [] h = absurd (omega (arith, h))
broken_true (b ∷ bs) h = refl

-- Comments that stay open

comment_inside : (all cs : List ℕ) → IsGap all → all ≡ 123 ∷ 45 ∷ cs → Nested 0 cs
comment_inside all cs (is_blank_gap c h) is = absurd (omega (arith, ap length is))
comment_inside all cs (is_line ds h) is = absurd (omega (arith, same_first 45 123 (45 ∷ ds) (45 ∷ cs) is))
comment_inside all cs (is_comment ds m) is =
    subst (Nested 0) (same_rest 45 45 ds cs (same_rest 123 123 (45 ∷ ds) (45 ∷ cs) is)) m

-- a comment that is read to its end closes
closes_at : (cs : List ℕ) (n : ℕ) → comment_tail 0 cs ≡ Some n → StayOpen cs → ⊥
closes_at cs n e stays =
    let is : piece_at false (123 ∷ 45 ∷ cs) ≡ Gap (n + 2) =
    piece_is false 123 (45 ∷ cs) front.Comment (Gap (n + 2)) refl (ap (comment_of false (length (45 ∷ cs) + 1)) e) in
    let right : IsGap (take (n + 2) (123 ∷ 45 ∷ cs)) =
    subst (IsRight (123 ∷ 45 ∷ cs)) is (piece_at-right false (123 ∷ 45 ∷ cs) (omega arith)) in
    let two : n + 2 ≡ suc (suc n) = omega arith in
    absurd (stays (take n cs) (drop n cs) (sym (take-append-drop n cs))
    (comment_inside (take (n + 2) (123 ∷ 45 ∷ cs)) (take n cs) right
    (ap (λ (m : ℕ). take m (123 ∷ 45 ∷ cs)) two)))

module _ (p : Place) where
  abbrev Reads : List ℕ → List ℕ → Flaw → Type 0
  Reads rest cs f = tokens_from (is_broken rest) p 0 cs ≡ Err (reported p f)

  by_wrong : (rest : List ℕ) (c : ℕ) (cs : List ℕ) (f : Flaw) (cause : Cause) (before n : ℕ) →
      piece_at (is_broken rest) (c ∷ cs) ≡ Wrong cause before n → flaw_of (c ∷ cs) cause before n ≡ f →
      Reads rest (c ∷ cs) f
  by_wrong rest c cs f cause before n e h =
      tokens_from-wrong (is_broken rest) p cause before n (c ∷ cs) (omega arith) (sym e) ∙
      ap (λ (g : Flaw). Err (reported p g)) h

  character_piece : (rest : List ℕ) (c : ℕ) (cs : List ℕ) (q : Piece) → c ≢ 34 → BeginNothing (c ∷ cs) →
      piece_at (is_broken rest) (c ∷ cs) ≡ q → FlawIn rest (c ∷ cs) q → IsRight (c ∷ cs) q →
      Reads rest (c ∷ cs) (flaw 2 [] 1 (encode_utf8 c))
  character_piece rest c cs (Gap n) h m e stands right =
      absurd (m (take n (c ∷ cs)) (drop n (c ∷ cs)) (sym (take-append-drop n (c ∷ cs)))
      (stands_alone None (take n (c ∷ cs)) right))
  character_piece rest c cs (Token k n) h m e stands right =
      absurd (m (take n (c ∷ cs)) (drop n (c ∷ cs)) (sym (take-append-drop n (c ∷ cs)))
      (stands_alone (Some k) (take n (c ∷ cs)) right))
  character_piece rest c cs (Wrong cause before n) h m e stands right =
      by_wrong rest c cs (flaw 2 [] 1 (encode_utf8 c)) cause before n e
      (only_character rest (c ∷ cs) (flaw_of (c ∷ cs) cause before n) c cs stands refl h m)

  -- Texts

  text_piece : (b : Bool) (cs : List ℕ) (q : Quotation) → quoted cs ≡ q → piece_at b (34 ∷ cs) ≡ text_of b q
  text_piece b cs q h = piece_is b 34 cs front.Text (text_of b q) refl (ap (text_of b) h)

  text_reads : (rest cs : List ℕ) (q : Quotation) (f : Flaw) (cause : Cause) (before n : ℕ) → quoted cs ≡ q →
      text_of (is_broken rest) q ≡ Wrong cause before n → flaw_of (34 ∷ cs) cause before n ≡ f →
      Reads rest (34 ∷ cs) f
  text_reads rest cs q f cause before n h k e =
      by_wrong rest 34 cs f cause before n (text_piece (is_broken rest) cs q h ∙ k) e

  ends_broken : (b : Bool) (n : ℕ) → b ≡ true → text_of b (TextEnds n) ≡ Wrong NotUtf8 (n + 1) 0
  ends_broken true n h = refl
  ends_broken false n h = absurd (let e = h in cc)

  broken_text_reads : (rest cs : List ℕ) → 0 < length rest → quoted cs ≡ TextEnds (length cs) →
      Reads rest (34 ∷ cs) (flaw 1 (34 ∷ cs) 0 [])
  broken_text_reads rest cs some h =
      text_reads rest cs (TextEnds (length cs)) (flaw 1 (34 ∷ cs) 0 []) NotUtf8 (length cs + 1) 0 h
      (ends_broken (is_broken rest) (length cs) (broken_true rest some))
      (ap (λ (ds : List ℕ). flaw 1 ds 0 []) (take_all (length cs + 1) (34 ∷ cs) (omega arith)))

  backslash_reads : (rest body more : List ℕ) → quoted (body ++ 92 ∷ more) ≡ BadEscape (length body) →
      Reads rest (34 ∷ (body ++ 92 ∷ more)) (flaw 2 (34 ∷ body) 1 (encode_utf8 92))
  backslash_reads rest body more h =
      let front : take (length body + 1) (34 ∷ (body ++ 92 ∷ more)) ≡ 34 ∷ body =
      take_one (length body) 34 (body ++ 92 ∷ more) ∙
      ap (λ (ds : List ℕ). 34 ∷ ds) (take_at body (92 ∷ more) (length body) refl) in
      text_reads rest (body ++ 92 ∷ more) (BadEscape (length body)) (flaw 2 (34 ∷ body) 1 (encode_utf8 92))
      (BadCharacter 92) (length body + 1) 1 h refl (ap (λ (ds : List ℕ). flaw 2 ds 1 (encode_utf8 92)) front)

  -- Comments

  comment_piece : (b : Bool) (cs : List ℕ) → StayOpen cs →
      piece_at b (123 ∷ 45 ∷ cs) ≡ comment_of b (length (45 ∷ cs) + 1) None
  comment_piece b cs stays =
      piece_is b 123 (45 ∷ cs) front.Comment (comment_of b (length (45 ∷ cs) + 1) None) refl
      (ap (comment_of b (length (45 ∷ cs) + 1)) (not_closed (comment_tail 0 cs) refl))
    where
      not_closed : (o : Option ℕ) → comment_tail 0 cs ≡ o → o ≡ None
      not_closed None e = refl
      not_closed (Some n) e = absurd (closes_at cs n e stays)

  ends_open : (b : Bool) (n : ℕ) → b ≡ true → comment_of b n None ≡ Wrong NotUtf8 n 0
  ends_open true n h = refl
  ends_open false n h = absurd (let e = h in cc)

  broken_comment_reads : (rest cs : List ℕ) → 0 < length rest → StayOpen cs →
      Reads rest (123 ∷ 45 ∷ cs) (flaw 1 (123 ∷ 45 ∷ cs) 0 [])
  broken_comment_reads rest cs some stays =
      let n = length (45 ∷ cs) + 1 in
      by_wrong rest 123 (45 ∷ cs) (flaw 1 (123 ∷ 45 ∷ cs) 0 []) NotUtf8 n 0
      (comment_piece (is_broken rest) cs stays ∙ ends_open (is_broken rest) n (broken_true rest some))
      (ap (λ (ds : List ℕ). flaw 1 ds 0 []) (take_all n (123 ∷ 45 ∷ cs) (omega arith)))

  -- Names and numbers

  question_piece : (n : ℕ) (w : List ℕ) → names_hole w ≡ false → hole_of n w ≡ bad 63
  question_piece n w h = rw h refl

  question_reads : (rest : List ℕ) (c : ℕ) (cs behind : List ℕ) → IsWord c cs → EndBefore (63 ∷ c ∷ cs) behind →
      names_hole (encode_utf8_all (c ∷ cs)) ≡ false →
      Reads rest (63 ∷ c ∷ (cs ++ behind)) (flaw 2 [] 1 (encode_utf8 63))
  question_reads rest c cs behind w ends h =
      by_wrong rest 63 (c ∷ (cs ++ behind)) (flaw 2 [] 1 (encode_utf8 63)) (BadCharacter 63) 0 1
      (piece_is (is_broken rest) 63 (c ∷ (cs ++ behind)) front.Hole (bad 63) refl
      (hole_read c cs behind w.begins (hole_ends c cs behind w ends) ∙
      question_piece (length (c ∷ cs)) (encode_utf8_all (c ∷ cs)) h)) refl

  hole_reads : (rest : List ℕ) (c : ℕ) (cs behind : List ℕ) → IsWord c cs → EndBefore (63 ∷ c ∷ cs) behind →
      names_hole (encode_utf8_all (c ∷ cs)) ≡ true → has_long_part (encode_utf8_all (c ∷ cs)) ≡ true →
      Reads rest (63 ∷ c ∷ (cs ++ behind)) (flaw 6 (63 ∷ []) (length (c ∷ cs)) [])
  hole_reads rest c cs behind w ends h k =
      by_wrong rest 63 (c ∷ (cs ++ behind)) (flaw 6 (63 ∷ []) (length (c ∷ cs)) []) NameTooLong 1 (length (c ∷ cs))
      (piece_is (is_broken rest) 63 (c ∷ (cs ++ behind)) front.Hole (Wrong NameTooLong 1 (length (c ∷ cs))) refl
      (hole_read c cs behind w.begins (hole_ends c cs behind w ends) ∙
      long_hole (length (c ∷ cs)) (encode_utf8_all (c ∷ cs)) h k)) refl

  name_reads : (rest : List ℕ) (c : ℕ) (cs behind : List ℕ) → IsWord c cs → EndBefore (c ∷ cs) behind →
      has_long_part (encode_utf8_all (c ∷ cs)) ≡ true →
      Reads rest (c ∷ (cs ++ behind)) (flaw 6 [] (length (c ∷ cs)) [])
  name_reads rest c cs behind w ends h =
      by_wrong rest c (cs ++ behind) (flaw 6 [] (length (c ∷ cs)) []) NameTooLong 0 (length (c ∷ cs))
      (piece_is (is_broken rest) c (cs ++ behind) front.Name (Wrong NameTooLong 0 (length (c ∷ cs)))
      (front_of-name c (cs ++ behind) w.begins)
      (name_read c cs behind (word_ends c cs behind w ends) ∙
      long_word (length (c ∷ cs)) (encode_utf8_all (c ∷ cs)) h)) refl

  lt_false : (a b : ℕ) → b ≤ a → nat_lt a b ≡ false
  lt_false a b h = grind (arith, nat_tests)

  le_false : (a b : ℕ) → b < a → nat_le a b ≡ false
  le_false a b h = grind (arith, nat_tests)

  wide : (n v : ℕ) → 2 ^ 63 ≤ v → number_of false n v ≡ Wrong NumberTooWide 0 n
  wide n v h = let k = lt_false v (2 ^ 63) h in rw k refl

  wide_negative : (n v : ℕ) → 2 ^ 63 < v → number_of true n v ≡ Wrong NumberTooWide 0 (n + 1)
  wide_negative n v h = let k = le_false v (2 ^ 63) h in rw k refl

  number_reads : (rest : List ℕ) (c : ℕ) (cs behind : List ℕ) → AreDigits (c ∷ cs) → EndBefore (c ∷ cs) behind →
      2 ^ 63 ≤ decimal (c ∷ cs) → Reads rest (c ∷ (cs ++ behind)) (flaw 5 [] (length (c ∷ cs)) [])
  number_reads rest c cs behind h ends w =
      let digit = first_passes is_ascii_digit c cs h in
      by_wrong rest c (cs ++ behind) (flaw 5 [] (length (c ∷ cs)) []) NumberTooWide 0 (length (c ∷ cs))
      (piece_is (is_broken rest) c (cs ++ behind) front.Number (Wrong NumberTooWide 0 (length (c ∷ cs)))
      (front_of-number c (cs ++ behind) digit)
      (number_read false c cs behind digit (digits_end c cs behind h ends) ∙
      wide (length (c ∷ cs)) (decimal (c ∷ cs)) w)) refl

  negative_reads : (rest : List ℕ) (c : ℕ) (cs behind : List ℕ) → AreDigits (c ∷ cs) →
      EndBefore (45 ∷ c ∷ cs) behind → 2 ^ 63 < decimal (c ∷ cs) →
      Reads rest (45 ∷ c ∷ (cs ++ behind)) (flaw 5 [] (length (45 ∷ c ∷ cs)) [])
  negative_reads rest c cs behind h ends w =
      let digit = first_passes is_ascii_digit c cs h in
      let same : length (c ∷ cs) + 1 ≡ length (45 ∷ c ∷ cs) = omega arith in
      by_wrong rest 45 (c ∷ (cs ++ behind)) (flaw 5 [] (length (45 ∷ c ∷ cs)) []) NumberTooWide 0
      (length (c ∷ cs) + 1)
      (piece_is (is_broken rest) 45 (c ∷ (cs ++ behind)) front.Negative (Wrong NumberTooWide 0 (length (c ∷ cs) + 1))
      (negative_front c (cs ++ behind) digit)
      (number_read true c cs behind digit (negative_ends c cs behind h ends) ∙
      wide_negative (length (c ∷ cs)) (decimal (c ∷ cs)) w)) (ap (λ (n : ℕ). flaw 5 [] n []) same)

  -- All together

  nothing_left : (rest : List ℕ) → 0 < length rest → Reads rest [] (flaw 1 [] 0 [])
  unfolding tokens_from
  nothing_left [] h = absurd (omega (arith, h))
  nothing_left (b ∷ bs) h = refl

  -- whatever stands there is what is reported
  pub flaw_reads : (rest cs : List ℕ) (f : Flaw) → IsFlaw rest cs f → Reads rest cs f
  flaw_reads rest cs f (broken r some) = nothing_left r some
  flaw_reads rest cs f (broken_text r body value tail all some m cut e) =
      subst (λ (ds : List ℕ). Reads r ds (flaw 1 ds 0 [])) (sym e)
      (broken_text_reads r (body ++ tail) some (quoted-input body value tail m cut))
  flaw_reads rest cs f (broken_comment r all some stays) = broken_comment_reads r all some stays
  flaw_reads rest cs f (character r c all h m) =
      character_piece r c all (piece_at (is_broken r) (c ∷ all)) h m refl (piece_at-flaw r c all)
      (piece_at-right (is_broken r) (c ∷ all) (omega arith))
  flaw_reads rest cs f (question r c ds behind all w ends h e) =
      subst (λ (es : List ℕ). Reads r es (flaw 2 [] 1 (encode_utf8 63))) (sym e)
      (question_reads r c ds behind w ends h)
  flaw_reads rest cs f (backslash r body value x more all m h k e) =
      subst (λ (es : List ℕ). Reads r es (flaw 2 (34 ∷ body) 1 (encode_utf8 92))) (sym e)
      (backslash_reads r body (x ∷ more) (quoted-backslash body value x more m h k))
  flaw_reads rest cs f (line r body value tail more all m cut e) =
      subst (λ (es : List ℕ). Reads r es (flaw 3 [] 1 [])) (sym e)
      (text_reads r (body ++ (tail ++ 10 ∷ more)) LineEnds (flaw 3 [] 1 []) OpenText 0 1
      (quoted-line body value tail more m cut) refl refl)
  flaw_reads rest cs f (input body value tail all m cut e) =
      subst (λ (es : List ℕ). Reads [] es (flaw 3 [] 1 [])) (sym e)
      (text_reads [] (body ++ tail) (TextEnds (length (body ++ tail))) (flaw 3 [] 1 []) OpenText 0 1
      (quoted-input body value tail m cut) refl refl)
  flaw_reads rest cs f (comment all stays) =
      by_wrong [] 123 (45 ∷ all) (flaw 4 [] 2 []) OpenComment 0 2 (comment_piece false all stays) refl
  flaw_reads rest cs f (number r c ds behind all h ends w e) =
      subst (λ (es : List ℕ). Reads r es (flaw 5 [] (length (c ∷ ds)) [])) (sym e)
      (number_reads r c ds behind h ends w)
  flaw_reads rest cs f (negative r c ds behind all h ends w e) =
      subst (λ (es : List ℕ). Reads r es (flaw 5 [] (length (45 ∷ c ∷ ds)) [])) (sym e)
      (negative_reads r c ds behind h ends w)
  flaw_reads rest cs f (name r c ds behind all w ends h e) =
      subst (λ (es : List ℕ). Reads r es (flaw 6 [] (length (c ∷ ds)) [])) (sym e)
      (name_reads r c ds behind w ends h)
  flaw_reads rest cs f (hole r c ds behind all w ends h k e) =
      subst (λ (es : List ℕ). Reads r es (flaw 6 (63 ∷ []) (length (c ∷ ds)) [])) (sym e)
      (hole_reads r c ds behind w ends h k)
