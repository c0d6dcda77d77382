-- A fault that is read at the front of characters stands there.
use Rattle.std.proofs.Common.{◌≡◌, ℕ, suc, ◌+◌, ◌<◌, ◌≤◌, ◌^◌, ◌==◌, ◌&&◌, nat_lt, nat_le, Bool, true, false, cond, pos, neg_ℤ, List, [], ◌∷◌, ◌++◌, length, take, drop, Option, Some, None, unwrap_or, encode_utf8, refl, sym, ap, subst, ◌∙◌, append_assoc, length-append, length-take, take-append-drop, take_all, take_at, add-one, arith}
use Rattle.std.proofs.lemmas.Bool.{eqb-true}
use Rattle.std.proofs.lemmas.Bool.Decides.{nat_tests}
use Rattle.std.proofs.lemmas.List.Sums.{prefix_len-le-length}
use Rattle.std.specs.List.{list_all, prefix_len}
use Rattle.std.specs.Char.{is_ascii_digit}
use Rattle.std.specs.Str.{encode_utf8_all}
use Rattle.qtt_base.specs.Parts.{has_long_part}
use Rattle.qtt_lexer.specs.Characters.{is_blank, begins, begins_part}
use Rattle.qtt_lexer.specs.Lexed.{kind_of, kept_word}
use Rattle.qtt_lexer.specs.Piece.{piece_at, by_front, front_of, is_dash, name_tail, name_at, word_of, reserved, hole_at, hole_of, names_hole, number_at, number_of, decimal, quoted, text_of, comment_tail, comment_of, symbol_at, symbol_of, bad}
use Rattle.qtt_lexer.specs.declared.front.Front.{Front}
use Rattle.qtt_lexer.specs.declared.front.Front.TheVariants as front
use Rattle.qtt_lexer.specs.declared.quoted.Quotation.{Quotation}
use Rattle.qtt_lexer.specs.declared.quoted.Quotation.TheVariants.{Closed, LineEnds, TextEnds, BadEscape}
use Rattle.qtt_lexer.specs.declared.token.TokenKind.{TokenKind}
use Rattle.qtt_lexer.specs.declared.token.TokenKind.TheVariants as kind
use Rattle.qtt_lexer.specs.declared.piece.Cause.{Cause}
use Rattle.qtt_lexer.specs.declared.piece.Cause.TheVariants.{NotUtf8, BadCharacter, OpenText, OpenComment, NumberTooWide, NameTooLong}
use Rattle.qtt_lexer.specs.declared.piece.Piece.{Piece}
use Rattle.qtt_lexer.specs.declared.piece.Piece.TheVariants.{Gap, Token, Wrong}
use Rattle.qtt_lexer.proofs.Sound.{name_tail-all_go_on, prefix_passes}
use Rattle.qtt_lexer.proofs.Words.{name_tail-le-length}
use Rattle.qtt_lexer_laws.specs.Cuts.{IsWord, EndBefore}
use Rattle.qtt_lexer_laws.specs.Flaws.{Flaw, flaw, BeginNothing, StayOpen, IsFlaw}
use Rattle.qtt_lexer_laws.specs.Flaws.IsFlaw.{broken_text, broken_comment, character, question, backslash, line, input, comment, number, negative, name, hole}
use Rattle.qtt_lexer_laws.proofs.Least.{AtLeast, together_least, nested-tail}
use Rattle.qtt_lexer_laws.proofs.Quotations.{Stops, quoted-stops}
use Rattle.qtt_lexer_laws.proofs.Questions.{question_begins_nothing, question_ends}

-- bytes stand behind the characters
abbrev pub is_broken : List ℕ → Bool
is_broken [] = false
is_broken (b ∷ bs) = true

abbrev pub flaw_of : List ℕ → Cause → ℕ → ℕ → Flaw
flaw_of cs cause before n = flaw (kind_of cause) (take before cs) n (kept_word cause)

-- a fault that was read stands there
abbrev pub FlawIn : List ℕ → List ℕ → Piece → Type 0
FlawIn rest cs (Gap n) = Unit {0}
FlawIn rest cs (Token k n) = Unit {0}
FlawIn rest cs (Wrong cause before n) = IsFlaw rest cs (flaw_of cs cause before n)

flaw_if : (b : Bool) (rest cs : List ℕ) (p q : Piece) → (b ≡ true → FlawIn rest cs p) →
    (b ≡ false → FlawIn rest cs q) → FlawIn rest cs (cond b p q)
flaw_if true rest cs p q h k = h refl
flaw_if false rest cs p q h k = k refl

pub both : (a b : Bool) → (a && b) ≡ true → (a ≡ true) × (b ≡ true)
both true true h = (refl, refl)
both true false h = cc
both false b h = cc

pub take_one : (n c : ℕ) (cs : List ℕ) → take (n + 1) (c ∷ cs) ≡ c ∷ take n cs
take_one n c cs = ap (λ (m : ℕ). take m (c ∷ cs)) (add-one n)

take_first : (n c : ℕ) (cs : List ℕ) → take (1 + n) (c ∷ cs) ≡ c ∷ take n cs
take_first n c cs = let e : 1 + n ≡ suc n = omega arith in ap (λ (m : ℕ). take m (c ∷ cs)) e

-- What ends where

-- the piece has at most so many characters, or it is a number or name beyond its limit that has
abbrev pub AtMost : ℕ → Piece → Type 0
AtMost m (Gap n) = n ≤ m
AtMost m (Token k n) = n ≤ m
AtMost m (Wrong NotUtf8 before n) = ⊥
AtMost m (Wrong (BadCharacter c) before n) = ⊥
AtMost m (Wrong OpenText before n) = ⊥
AtMost m (Wrong OpenComment before n) = ⊥
AtMost m (Wrong NumberTooWide before n) = n ≤ m
AtMost m (Wrong NameTooLong before n) = before + n ≤ m

bounded : (m k : ℕ) (q : Piece) → AtMost m q → AtLeast k q → k ≤ m
bounded m k (Gap n) h l = omega (arith, h, l)
bounded m k (Token kind n) h l = omega (arith, h, l)
bounded m k (Wrong NotUtf8 before n) h l = absurd h
bounded m k (Wrong (BadCharacter c) before n) h l = absurd h
bounded m k (Wrong OpenText before n) h l = absurd h
bounded m k (Wrong OpenComment before n) h l = absurd h
bounded m k (Wrong NumberTooWide before n) h l = omega (arith, h, l)
bounded m k (Wrong NameTooLong before n) h l = omega (arith, h, l)

-- what a piece has is the longest that begins there
pub ends : (broken : Bool) (cs before behind : List ℕ) → cs ≡ before ++ behind →
    AtMost (length before) (piece_at broken cs) → EndBefore before behind
ends broken cs before behind is most more rest e some together =
    let same : (before ++ more) ++ rest ≡ cs =
    append_assoc before more rest ∙ ap (λ (ds : List ℕ). before ++ ds) (sym e) ∙ sym is in
    let least = subst (λ (ds : List ℕ). AtLeast (length (before ++ more)) (piece_at broken ds)) same
    (together_least broken (before ++ more) rest together) in
    absurd (omega (
      arith,
      bounded (length before) (length (before ++ more)) (piece_at broken cs) most least,
      length-append before more,
      some,
    ))

pub piece_by : (broken : Bool) (c : ℕ) (cs : List ℕ) (f : Front) (q : Piece) → front_of c cs ≡ f →
    by_front broken c cs f ≡ q → q ≡ piece_at broken (c ∷ cs)
unfolding piece_at
piece_by broken c cs f q e h = sym (ap (by_front broken c cs) e ∙ h)

module _ (rest : List ℕ) (c : ℕ) (cs : List ℕ) (f : Front) (e : front_of c cs ≡ f) where
  -- the fault of a piece that has all of these characters
  ends_by : (before behind : List ℕ) (q : Piece) → by_front (is_broken rest) c cs f ≡ q → c ∷ cs ≡ before ++ behind →
      AtMost (length before) q → EndBefore before behind
  ends_by before behind q h is most =
      ends (is_broken rest) (c ∷ cs) before behind is
      (subst (AtMost (length before)) (piece_by (is_broken rest) c cs f q e h) most)

-- Comments

stays_open : (cs : List ℕ) → comment_tail 0 cs ≡ None → StayOpen cs
stays_open cs none before behind e nested =
    let f = sym none ∙ ap (comment_tail 0) e ∙ nested-tail 0 before behind nested in absurd (let g = f in cc)

whole_take : (n : ℕ) (cs : List ℕ) → length cs ≤ n → cs ≡ take n cs
whole_take n cs h = sym (take_all n cs h)

comment_flaw : (rest cs : List ℕ) (o : Option ℕ) → comment_tail 0 cs ≡ o →
    FlawIn rest (123 ∷ 45 ∷ cs) (comment_of (is_broken rest) (length (45 ∷ cs) + 1) o)
comment_flaw rest cs (Some n) e = tt
comment_flaw [] cs None e = comment cs (stays_open cs e)
comment_flaw (b ∷ bs) cs None e =
    subst (λ (ds : List ℕ). IsFlaw (b ∷ bs) (123 ∷ 45 ∷ cs) (flaw 1 ds 0 []))
    (whole_take (length (45 ∷ cs) + 1) (123 ∷ 45 ∷ cs) (omega arith))
    (broken_comment (b ∷ bs) cs (omega arith) (stays_open cs e))

pub begins_with : (k : ℕ) (cs : List ℕ) → begins (λ c. c == k) cs ≡ true → cs ≡ k ∷ drop 1 cs
begins_with k [] h = cc
begins_with k (c ∷ cs) h = ap (λ (x : ℕ). x ∷ cs) (eqb-true c k h)

comment_front : (rest : List ℕ) (c : ℕ) (cs ds : List ℕ) → c ≡ 123 → cs ≡ 45 ∷ ds →
    FlawIn rest (c ∷ cs) (by_front (is_broken rest) c cs front.Comment)
comment_front rest c cs ds h k =
    subst (λ (es : List ℕ). FlawIn rest (c ∷ es) (by_front (is_broken rest) c es front.Comment)) (sym k)
    (subst (λ (x : ℕ). FlawIn rest (x ∷ 45 ∷ ds) (by_front (is_broken rest) x (45 ∷ ds) front.Comment)) (sym h)
    (comment_flaw rest ds (comment_tail 0 ds) refl))

-- Texts

body_taken : (n : ℕ) (cs body more : List ℕ) → cs ≡ body ++ more → n ≡ length body →
    34 ∷ body ≡ take (n + 1) (34 ∷ cs)
body_taken n cs body more e h =
    ap (λ (ds : List ℕ). 34 ∷ ds) (sym (take_at body more n (sym h)) ∙ ap (take n) (sym e)) ∙
    sym (take_one n 34 cs)

text_flaw : (rest cs : List ℕ) (q : Quotation) → Stops cs q → FlawIn rest (34 ∷ cs) (text_of (is_broken rest) q)
text_flaw rest cs (Closed value n) m = tt
text_flaw rest cs LineEnds m =
    line rest m.0 m.1 m.2 m.3 (34 ∷ cs) m.4 m.5 (ap (λ (ds : List ℕ). 34 ∷ ds) m.6)
text_flaw [] cs (TextEnds n) m =
    input m.0 m.1 m.2 (34 ∷ cs) m.3 m.4 (ap (λ (ds : List ℕ). 34 ∷ ds) m.5)
text_flaw (b ∷ bs) cs (TextEnds n) m =
    subst (λ (ds : List ℕ). IsFlaw (b ∷ bs) (34 ∷ cs) (flaw 1 ds 0 []))
    (whole_take (n + 1) (34 ∷ cs) (omega (arith, m.6)))
    (broken_text (b ∷ bs) m.0 m.1 m.2 (34 ∷ cs) (omega arith) m.3 m.4
    (ap (λ (ds : List ℕ). 34 ∷ ds) m.5))
text_flaw rest cs (BadEscape n) m =
    subst (λ (ds : List ℕ). IsFlaw rest (34 ∷ cs) (flaw 2 ds 1 (encode_utf8 92)))
    (body_taken n cs m.0 (92 ∷ m.2 ∷ m.3) m.7 m.8)
    (backslash rest m.0 m.1 m.2 m.3 (34 ∷ cs) m.4 m.5 m.6 (ap (λ (ds : List ℕ). 34 ∷ ds) m.7))

text_front : (rest : List ℕ) (c : ℕ) (cs : List ℕ) → c ≡ 34 →
    FlawIn rest (c ∷ cs) (by_front (is_broken rest) c cs front.Text)
text_front rest c cs h =
    subst (λ (x : ℕ). FlawIn rest (x ∷ cs) (text_of (is_broken rest) (quoted cs))) (sym h)
    (text_flaw rest cs (quoted cs) (quoted-stops cs))

-- Names

tail_length : (cs : List ℕ) → length (take (name_tail cs) cs) ≡ name_tail cs
tail_length cs = omega (arith, length-take (name_tail cs) cs, name_tail-le-length cs)

word_front : (c : ℕ) (cs : List ℕ) → begins_part c ≡ true → IsWord c (take (name_tail cs) cs)
word_front c cs h = record { begins = h; goes_on = name_tail-all_go_on cs }

word_whole : (x : ℕ) (cs : List ℕ) → x ∷ cs ≡ x ∷ (take (name_tail cs) cs ++ drop (name_tail cs) cs)
word_whole x cs = ap (λ (ds : List ℕ). x ∷ ds) (sym (take-append-drop (name_tail cs) cs))

pub long_word : (n : ℕ) (w : List ℕ) → has_long_part w ≡ true → word_of n w ≡ Wrong NameTooLong 0 n
long_word n w h = rw h refl

name_flaw : (rest : List ℕ) (c : ℕ) (cs : List ℕ) → front_of c cs ≡ front.Name → begins_part c ≡ true →
    FlawIn rest (c ∷ cs) (name_at (c ∷ cs))
unfolding name_at
name_flaw rest c cs e h =
    let t = name_tail cs in
    let w = encode_utf8_all (take (t + 1) (c ∷ cs)) in
    flaw_if (has_long_part w) rest (c ∷ cs) (Wrong NameTooLong 0 (t + 1))
    (Token (unwrap_or (reserved w) (kind.Name w)) (t + 1))
    (λ k. let same : length (c ∷ take t cs) ≡ t + 1 = omega (arith, tail_length cs) in
    subst (λ (n : ℕ). IsFlaw rest (c ∷ cs) (flaw 6 [] n [])) same
    (name rest c (take t cs) (drop t cs) (c ∷ cs) (word_front c cs h)
    (ends_by rest c cs front.Name e (c ∷ take t cs) (drop t cs) (Wrong NameTooLong 0 (t + 1))
    (long_word (t + 1) w k) (word_whole c cs) (omega (arith, tail_length cs)))
    (ap (λ (ds : List ℕ). has_long_part (encode_utf8_all ds)) (sym (take_one t c cs)) ∙ k) (word_whole c cs)))
    (λ k. tt)

-- Holes

pub long_hole : (n : ℕ) (w : List ℕ) → names_hole w ≡ true → has_long_part w ≡ true →
    hole_of n w ≡ Wrong NameTooLong 1 n
long_hole n w h k = rw (h, k) refl

pub hole_word : (c : ℕ) (cs : List ℕ) → begins_part c ≡ true →
    hole_at (c ∷ cs) ≡ hole_of (name_tail cs + 1) (encode_utf8_all (take (name_tail cs + 1) (c ∷ cs)))
unfolding hole_at
hole_word c cs h = rw h refl

bad_question : (rest cs : List ℕ) → begins begins_part cs ≡ false → FlawIn rest (63 ∷ cs) (bad 63)
bad_question rest cs h =
    character rest 63 cs (λ e. omega (arith, e)) (question_begins_nothing cs h)

hole_named : (rest : List ℕ) (c : ℕ) (cs : List ℕ) → begins_part c ≡ true →
    FlawIn rest (63 ∷ c ∷ cs) (hole_of (name_tail cs + 1) (encode_utf8_all (take (name_tail cs + 1) (c ∷ cs))))
hole_named rest c cs h =
    let t = name_tail cs in
    let w = encode_utf8_all (take (t + 1) (c ∷ cs)) in
    let whole : 63 ∷ c ∷ cs ≡ 63 ∷ c ∷ (take t cs ++ drop t cs) =
    ap (λ (ds : List ℕ). 63 ∷ ds) (word_whole c cs) in
    let spelled : encode_utf8_all (c ∷ take t cs) ≡ w = ap encode_utf8_all (sym (take_one t c cs)) in
    flaw_if (names_hole w) rest (63 ∷ c ∷ cs)
    (cond (has_long_part w) (Wrong NameTooLong 1 (t + 1)) (Token (kind.Hole w) (t + 1 + 1))) (bad 63)
    (λ j. flaw_if (has_long_part w) rest (63 ∷ c ∷ cs) (Wrong NameTooLong 1 (t + 1))
    (Token (kind.Hole w) (t + 1 + 1))
    (λ k. let same : length (c ∷ take t cs) ≡ t + 1 = omega (arith, tail_length cs) in
    subst (λ (n : ℕ). IsFlaw rest (63 ∷ c ∷ cs) (flaw 6 (63 ∷ []) n [])) same
    (hole rest c (take t cs) (drop t cs) (63 ∷ c ∷ cs) (word_front c cs h) (question_ends c cs)
    (ap names_hole spelled ∙ j) (ap has_long_part spelled ∙ k) whole))
    (λ k. tt))
    (λ j. question rest c (take t cs) (drop t cs) (63 ∷ c ∷ cs) (word_front c cs h) (question_ends c cs)
    (ap names_hole spelled ∙ j) whole)

hole_flaw : (rest cs : List ℕ) → FlawIn rest (63 ∷ cs) (hole_at cs)
unfolding hole_at
hole_flaw rest [] = bad_question rest [] refl
hole_flaw rest (c ∷ cs) =
    flaw_if (begins_part c) rest (63 ∷ c ∷ cs)
    (hole_of (name_tail cs + 1) (encode_utf8_all (take (name_tail cs + 1) (c ∷ cs)))) (bad 63)
    (λ h. hole_named rest c cs h) (λ h. bad_question rest (c ∷ cs) h)

hole_front : (rest : List ℕ) (c : ℕ) (cs : List ℕ) → c ≡ 63 →
    FlawIn rest (c ∷ cs) (by_front (is_broken rest) c cs front.Hole)
hole_front rest c cs h =
    subst (λ (x : ℕ). FlawIn rest (x ∷ cs) (hole_at cs)) (sym h) (hole_flaw rest cs)

-- Numbers

not_below : (a b : ℕ) → nat_lt a b ≡ false → b ≤ a
not_below a b h = grind (arith, nat_tests)

above : (a b : ℕ) → nat_le a b ≡ false → b < a
above a b h = grind (arith, nat_tests)

digits_front : (c : ℕ) (cs : List ℕ) → is_ascii_digit c ≡ true →
    take (prefix_len is_ascii_digit (c ∷ cs)) (c ∷ cs) ≡ c ∷ take (prefix_len is_ascii_digit cs) cs
digits_front c cs h =
    ap (λ (b : Bool). take (cond b (1 + prefix_len is_ascii_digit cs) 0) (c ∷ cs)) h ∙
    take_first (prefix_len is_ascii_digit cs) c cs

digits_length : (c : ℕ) (cs : List ℕ) → is_ascii_digit c ≡ true →
    length (c ∷ take (prefix_len is_ascii_digit cs) cs) ≡ prefix_len is_ascii_digit (c ∷ cs)
digits_length c cs h =
    let n = prefix_len is_ascii_digit cs in
    let one : prefix_len is_ascii_digit (c ∷ cs) ≡ 1 + n = rw h refl in
    omega (arith, one, length-take n cs, prefix_len-le-length is_ascii_digit cs)

digits_whole : (x : ℕ) (cs : List ℕ) →
    x ∷ cs ≡ x ∷ (take (prefix_len is_ascii_digit cs) cs ++ drop (prefix_len is_ascii_digit cs) cs)
digits_whole x cs = ap (λ (ds : List ℕ). x ∷ ds) (sym (take-append-drop (prefix_len is_ascii_digit cs) cs))

wide : (n value : ℕ) → nat_lt value (2 ^ 63) ≡ false → number_of false n value ≡ Wrong NumberTooWide 0 n
wide n value h = rw h refl

wide_negative : (n value : ℕ) → nat_le value (2 ^ 63) ≡ false →
    number_of true n value ≡ Wrong NumberTooWide 0 (n + 1)
wide_negative n value h = rw h refl

number_flaw : (rest : List ℕ) (c : ℕ) (cs : List ℕ) → front_of c cs ≡ front.Number → is_ascii_digit c ≡ true →
    FlawIn rest (c ∷ cs) (number_at false (c ∷ cs))
unfolding number_at
number_flaw rest c cs e h =
    let n = prefix_len is_ascii_digit (c ∷ cs) in
    let t = prefix_len is_ascii_digit cs in
    let value = decimal (take n (c ∷ cs)) in
    let same = digits_front c cs h in
    flaw_if (nat_lt value (2 ^ 63)) rest (c ∷ cs) (Token (kind.Number (pos value)) n) (Wrong NumberTooWide 0 n)
    (λ k. tt)
    (λ k. subst (λ (m : ℕ). IsFlaw rest (c ∷ cs) (flaw 5 [] m [])) (digits_length c cs h)
    (number rest c (take t cs) (drop t cs) (c ∷ cs)
    (ap (list_all is_ascii_digit) (sym same) ∙ prefix_passes is_ascii_digit (c ∷ cs))
    (ends_by rest c cs front.Number e (c ∷ take t cs) (drop t cs) (Wrong NumberTooWide 0 n) (wide n value k)
    (digits_whole c cs) (omega (arith, digits_length c cs h)))
    (subst (λ (ds : List ℕ). 2 ^ 63 ≤ decimal ds) same (not_below value (2 ^ 63) k)) (digits_whole c cs)))

negative_flaw : (rest : List ℕ) (c : ℕ) (cs : List ℕ) → front_of 45 (c ∷ cs) ≡ front.Negative →
    is_ascii_digit c ≡ true → FlawIn rest (45 ∷ c ∷ cs) (number_at true (c ∷ cs))
unfolding number_at
negative_flaw rest c cs e h =
    let n = prefix_len is_ascii_digit (c ∷ cs) in
    let t = prefix_len is_ascii_digit cs in
    let value = decimal (take n (c ∷ cs)) in
    let same = digits_front c cs h in
    let whole : 45 ∷ c ∷ cs ≡ 45 ∷ c ∷ (take t cs ++ drop t cs) =
    ap (λ (ds : List ℕ). 45 ∷ ds) (digits_whole c cs) in
    let long : length (45 ∷ c ∷ take t cs) ≡ n + 1 = omega (arith, digits_length c cs h) in
    flaw_if (nat_le value (2 ^ 63)) rest (45 ∷ c ∷ cs) (Token (kind.Number (neg_ℤ (pos value))) (n + 1))
    (Wrong NumberTooWide 0 (n + 1))
    (λ k. tt)
    (λ k. subst (λ (m : ℕ). IsFlaw rest (45 ∷ c ∷ cs) (flaw 5 [] m [])) long
    (negative rest c (take t cs) (drop t cs) (45 ∷ c ∷ cs)
    (ap (list_all is_ascii_digit) (sym same) ∙ prefix_passes is_ascii_digit (c ∷ cs))
    (ends_by rest 45 (c ∷ cs) front.Negative e (45 ∷ c ∷ take t cs) (drop t cs) (Wrong NumberTooWide 0 (n + 1))
    (wide_negative n value k) whole (omega (arith, long)))
    (subst (λ (ds : List ℕ). 2 ^ 63 < decimal ds) same (above value (2 ^ 63) k)) whole))

negative_front : (rest : List ℕ) (c : ℕ) (cs : List ℕ) → front_of c cs ≡ front.Negative → c ≡ 45 →
    begins is_ascii_digit cs ≡ true → FlawIn rest (c ∷ cs) (by_front (is_broken rest) c cs front.Negative)
negative_front rest c [] e h k = cc
negative_front rest c (d ∷ cs) e h k =
    subst (λ (x : ℕ). FlawIn rest (x ∷ d ∷ cs) (number_at true (d ∷ cs))) (sym h)
    (negative_flaw rest d cs (ap (λ (x : ℕ). front_of x (d ∷ cs)) (sym h) ∙ e) k)

-- Symbols

bad_piece : (broken : Bool) (c : ℕ) (cs : List ℕ) → front_of c cs ≡ front.Symbol → symbol_at (c ∷ cs) ≡ None →
    bad c ≡ piece_at broken (c ∷ cs)
bad_piece broken c cs e h = piece_by broken c cs front.Symbol (bad c) e (ap (symbol_of c) h)

not_front : (c k : ℕ) (cs : List ℕ) (f : Front) → front_of c cs ≡ front.Symbol → front_of k cs ≡ f → c ≡ k →
    front.Symbol ≡ f
not_front c k cs f e h is = sym e ∙ ap (λ (x : ℕ). front_of x cs) is ∙ h

begins_nothing : (c : ℕ) (cs : List ℕ) → front_of c cs ≡ front.Symbol → symbol_at (c ∷ cs) ≡ None →
    BeginNothing (c ∷ cs)
begins_nothing c cs e h before behind is together =
    let least : AtLeast (length before) (piece_at false (c ∷ cs)) =
    subst (λ (ds : List ℕ). AtLeast (length before) (piece_at false ds)) (sym is)
    (together_least false before behind together) in
    let question : c ≡ 63 = subst (AtLeast (length before)) (sym (bad_piece false c cs e h)) least in
    absurd (let f = not_front c 63 cs front.Hole e refl question in cc)

symbol_flaw : (rest : List ℕ) (c : ℕ) (cs : List ℕ) (o : Option (TokenKind × ℕ)) → front_of c cs ≡ front.Symbol →
    symbol_at (c ∷ cs) ≡ o → FlawIn rest (c ∷ cs) (symbol_of c o)
symbol_flaw rest c cs (Some s) e h = tt
symbol_flaw rest c cs None e h =
    character rest c cs (λ is. absurd (let f = not_front c 34 cs front.Text e refl is in cc))
    (begins_nothing c cs e h)

-- All together

abbrev pub Shows : Front → ℕ → List ℕ → Type 0
Shows front.Blank c cs = is_blank c ≡ true
Shows front.Line c cs = (is_dash c && begins is_dash cs) ≡ true
Shows front.Comment c cs = ((c == 123) && begins is_dash cs) ≡ true
Shows front.Text c cs = (c == 34) ≡ true
Shows front.Hole c cs = (c == 63) ≡ true
Shows front.Name c cs = begins_part c ≡ true
Shows front.Number c cs = is_ascii_digit c ≡ true
Shows front.Negative c cs = (is_dash c && begins is_ascii_digit cs) ≡ true
Shows front.Symbol c cs = Unit {0}

shows_if : (b : Bool) (f g : Front) (c : ℕ) (cs : List ℕ) → (b ≡ true → Shows f c cs) → Shows g c cs →
    Shows (cond b f g) c cs
shows_if true f g c cs h k = h refl
shows_if false f g c cs h k = k

pub front_of-shows : (c : ℕ) (cs : List ℕ) → Shows (front_of c cs) c cs
front_of-shows c cs =
    shows_if (is_blank c) front.Blank _ c cs (λ h. h)
    (shows_if (is_dash c && begins is_dash cs) front.Line _ c cs (λ h. h)
    (shows_if ((c == 123) && begins is_dash cs) front.Comment _ c cs (λ h. h)
    (shows_if (c == 34) front.Text _ c cs (λ h. h)
    (shows_if (c == 63) front.Hole _ c cs (λ h. h)
    (shows_if (begins_part c) front.Name _ c cs (λ h. h)
    (shows_if (is_ascii_digit c) front.Number _ c cs (λ h. h)
    (shows_if (is_dash c && begins is_ascii_digit cs) front.Negative front.Symbol c cs (λ h. h) tt)))))))

front_flaw : (rest : List ℕ) (c : ℕ) (cs : List ℕ) (f : Front) → front_of c cs ≡ f → Shows f c cs →
    FlawIn rest (c ∷ cs) (by_front (is_broken rest) c cs f)
front_flaw rest c cs front.Blank e h = tt
front_flaw rest c cs front.Line e h = tt
front_flaw rest c cs front.Comment e h =
    let parts = both (c == 123) (begins is_dash cs) h in
    comment_front rest c cs (drop 1 cs) (eqb-true c 123 parts.0) (begins_with 45 cs parts.1)
front_flaw rest c cs front.Text e h = text_front rest c cs (eqb-true c 34 h)
front_flaw rest c cs front.Hole e h = hole_front rest c cs (eqb-true c 63 h)
front_flaw rest c cs front.Name e h = name_flaw rest c cs e h
front_flaw rest c cs front.Number e h = number_flaw rest c cs e h
front_flaw rest c cs front.Negative e h =
    let parts = both (is_dash c) (begins is_ascii_digit cs) h in
    negative_front rest c cs e (eqb-true c 45 parts.0) parts.1
front_flaw rest c cs front.Symbol e h = symbol_flaw rest c cs (symbol_at (c ∷ cs)) e refl

-- what is read as a fault is one
pub piece_at-flaw : (rest : List ℕ) (c : ℕ) (cs : List ℕ) → FlawIn rest (c ∷ cs) (piece_at (is_broken rest) (c ∷ cs))
unfolding piece_at
piece_at-flaw rest c cs = front_flaw rest c cs (front_of c cs) refl (front_of-shows c cs)
