-- Whatever has the form of a token, a blank or a comment is read as a piece at least as long.
use Rattle.std.proofs.Common.{◌≡◌, ℕ, suc, ◌+◌, ◌-◌, ◌≤◌, ◌^◌, ◌==◌, ◌&&◌, ◌||◌, ◌⊎◌, inl, inr, not, nat_lt, nat_le, Bool, true, false, cond, pos, neg_ℤ, List, [], ◌∷◌, ◌++◌, length, take, Option, Some, None, option_map, unwrap_or, refl, sym, ap, subst, ◌∙◌, append_assoc, length-append, arith}
use Rattle.std.proofs.lemmas.Bool.{eqb-true}
use Rattle.std.proofs.lemmas.Bool.Decides.{eqb_tells}
use Rattle.std.specs.List.{list_all, prefix_len}
use Rattle.std.specs.Char.{is_ascii_digit}
use Rattle.std.specs.Str.{encode_utf8_all}
use Rattle.qtt_base.specs.Parts.{has_long_part}
use Rattle.qtt_lexer.specs.Characters.{begins, begins_part, continues_part, goes_on}
use Rattle.qtt_lexer.specs.Forms.{all_go_on, IsName, Spells, Nested, IsToken, IsGap, IsPart}
use Rattle.qtt_lexer.specs.Forms.Spells.{nothing, plain, escaped}
use Rattle.qtt_lexer.specs.Forms.Nested.{last, opened, closed, other}
use Rattle.qtt_lexer.specs.Forms.IsToken.{word as is_word, hole as is_hole, number as is_number, negative as is_negative, text as is_text, one as is_one, two as is_two}
use Rattle.qtt_lexer.specs.Forms.IsGap.{blank as is_blank_gap, line as is_line, comment as is_comment}
use Rattle.qtt_lexer.specs.Fitting.{Fits}
use Rattle.qtt_lexer.specs.Piece.{piece_at, by_front, front_of, name_tail, name_at, word_of, reserved, hole_at, hole_of, names_hole, number_at, number_of, quoted, preceded, by_escape, text_of, comment_tail, comment_of, symbol_at, symbol_of, of_one, sized, or_else, listed, pairs, bad}
use Rattle.qtt_lexer.specs.declared.front.Front.{Front}
use Rattle.qtt_lexer.specs.declared.front.Front.TheVariants as front
use Rattle.qtt_lexer.specs.declared.quoted.Quotation.{Quotation}
use Rattle.qtt_lexer.specs.declared.quoted.Quotation.TheVariants.{Closed}
use Rattle.qtt_lexer.specs.declared.token.TokenKind.{TokenKind}
use Rattle.qtt_lexer.specs.declared.token.TokenKind.TheVariants as kind
use Rattle.qtt_lexer.specs.declared.piece.Cause.TheVariants.{NameTooLong}
use Rattle.qtt_lexer.specs.declared.piece.Piece.{Piece}
use Rattle.qtt_lexer.specs.declared.piece.Piece.TheVariants.{Gap, Token, Wrong}
use Rattle.qtt_lexer.proofs.Ascii.{front_of-name, front_of-number, begins_part-ascii}
use Rattle.qtt_lexer.proofs.Fittings.{piece_at-fits}
use Rattle.qtt_lexer.proofs.Texts.{quoted-closed, quoted-plain, quoted-escape}

-- the piece has so many characters, or it is a fault
abbrev pub AtLeast : ℕ → Piece → Type 0
AtLeast m (Gap n) = m ≤ n
AtLeast m (Token k n) = m ≤ n
AtLeast m (Wrong cause before n) = Unit {0}

least_if : (b : Bool) (m : ℕ) (p q : Piece) → AtLeast m p → AtLeast m q → AtLeast m (cond b p q)
least_if true m p q h k = h
least_if false m p q h k = k

from_front : (broken : Bool) (m c : ℕ) (cs : List ℕ) (f : Front) → front_of c cs ≡ f →
    AtLeast m (by_front broken c cs f) → AtLeast m (piece_at broken (c ∷ cs))
unfolding piece_at
from_front broken m c cs f e h = subst (λ (g : Front). AtLeast m (by_front broken c cs g)) (sym e) h

-- one character is always read
single : (broken : Bool) (c : ℕ) (cs : List ℕ) → AtLeast 1 (piece_at broken (c ∷ cs))
single broken c cs = some_of (piece_at broken (c ∷ cs)) (piece_at-fits broken (c ∷ cs) (omega arith)) where
  some_of : (p : Piece) → Fits (length (c ∷ cs)) p → AtLeast 1 p
  some_of (Gap n) h = h.0
  some_of (Token k n) h = h.0
  some_of (Wrong cause before n) h = tt

-- Names

begins-append : (p : ℕ → Bool) (cs ds : List ℕ) → begins p cs ≡ true → begins p (cs ++ ds) ≡ true
begins-append p [] ds h = cc
begins-append p (c ∷ cs) ds h = h

goes_on_more : (b : Bool) (c : ℕ) (cs ds : List ℕ) → continues_part c ≡ b → goes_on c cs ≡ true →
    goes_on c (cs ++ ds) ≡ true
goes_on_more true c cs ds e h = rw e refl
goes_on_more false c cs ds e h =
    let h' : ((c == 46) && begins begins_part cs) ≡ true =
    ap (λ (b : Bool). b || ((c == 46) && begins begins_part cs)) (sym e) ∙ h in
    rw (e, eqb_of (c == 46) (begins begins_part cs) h')
    (begins-append begins_part cs ds (snd_of (c == 46) (begins begins_part cs) h'))
  where
    eqb_of : (a b : Bool) → (a && b) ≡ true → a ≡ true
    eqb_of true b h = refl
    eqb_of false b h = cc

    snd_of : (a b : Bool) → (a && b) ≡ true → b ≡ true
    snd_of true b h = h
    snd_of false b h = cc

tail_by : (b : Bool) (c : ℕ) (cs ds : List ℕ) → goes_on c cs ≡ b → cond b (all_go_on cs) false ≡ true →
    (all_go_on cs ≡ true → length cs ≤ name_tail (cs ++ ds)) → suc (length cs) ≤ name_tail (c ∷ (cs ++ ds))
unfolding name_tail
tail_by true c cs ds e h rest = rw (goes_on_more (continues_part c) c cs ds refl e) (omega (arith, rest h))
tail_by false c cs ds e h rest = cc

pub all_go_on-name_tail : (cs ds : List ℕ) → all_go_on cs ≡ true → length cs ≤ name_tail (cs ++ ds)
all_go_on-name_tail [] ds h = omega arith
all_go_on-name_tail (c ∷ cs) ds h = tail_by (goes_on c cs) c cs ds refl h (all_go_on-name_tail cs ds)

word_least : (m n : ℕ) (ds : List ℕ) → m ≤ n → AtLeast m (word_of n ds)
word_least m n ds h = least_if (has_long_part ds) m (Wrong NameTooLong 0 n)
    (Token (unwrap_or (reserved ds) (kind.Name ds)) n) tt h

name_least : (broken : Bool) (c : ℕ) (cs ds : List ℕ) → IsName c cs →
    AtLeast (suc (length cs)) (piece_at broken (c ∷ (cs ++ ds)))
unfolding name_at
name_least broken c cs ds h =
    from_front broken (suc (length cs)) c (cs ++ ds) front.Name (front_of-name c (cs ++ ds) h.begins)
    (word_least (suc (length cs)) (name_tail (cs ++ ds) + 1)
    (encode_utf8_all (take (name_tail (cs ++ ds) + 1) (c ∷ (cs ++ ds))))
    (omega (arith, all_go_on-name_tail cs ds h.goes_on)))

hole_least : (m n : ℕ) (ds : List ℕ) → m ≤ n + 1 → AtLeast m (hole_of n ds)
hole_least m n ds h =
    least_if (names_hole ds) m (cond (has_long_part ds) (Wrong NameTooLong 1 n) (Token (kind.Hole ds) (n + 1))) (bad 63)
    (least_if (has_long_part ds) m (Wrong NameTooLong 1 n) (Token (kind.Hole ds) (n + 1)) tt h) tt

hole_at-least : (c : ℕ) (cs ds : List ℕ) → IsName c cs → AtLeast (suc (suc (length cs))) (hole_at (c ∷ (cs ++ ds)))
unfolding hole_at
hole_at-least c cs ds h =
    let n = name_tail (cs ++ ds) + 1 in
    least_if (begins_part c) (suc (suc (length cs))) (hole_of n (encode_utf8_all (take n (c ∷ (cs ++ ds))))) (bad 63)
    (hole_least (suc (suc (length cs))) n (encode_utf8_all (take n (c ∷ (cs ++ ds))))
    (omega (arith, all_go_on-name_tail cs ds h.goes_on))) tt

-- Numbers

prefix_least : (p : ℕ → Bool) (cs ds : List ℕ) → list_all p cs ≡ true → length cs ≤ prefix_len p (cs ++ ds)
prefix_least p [] ds h = omega arith
prefix_least p (c ∷ cs) ds h = by_test (p c) (list_all p cs) (prefix_len p (cs ++ ds)) h (prefix_least p cs ds) where
  by_test : (a b : Bool) (n : ℕ) → (a && b) ≡ true → (b ≡ true → length cs ≤ n) → suc (length cs) ≤ cond a (1 + n) 0
  by_test true b n h rest = omega (arith, rest h)
  by_test false b n h rest = cc

first_passes : (p : ℕ → Bool) (c : ℕ) (cs : List ℕ) → list_all p (c ∷ cs) ≡ true → p c ≡ true
first_passes p c cs h = left_of (p c) (list_all p cs) h where
  left_of : (a b : Bool) → (a && b) ≡ true → a ≡ true
  left_of true b h = refl
  left_of false b h = cc

positive_least : (m n value : ℕ) → m ≤ n → AtLeast m (number_of false n value)
positive_least m n value h = least_if (nat_lt value (2 ^ 63)) m (Token (kind.Number (pos value)) n) _ h tt

negative_least : (m n value : ℕ) → m ≤ n + 1 → AtLeast m (number_of true n value)
negative_least m n value h = least_if (nat_le value (2 ^ 63)) m (Token (kind.Number (neg_ℤ (pos value))) (n + 1)) _ h tt

number_least : (broken : Bool) (c : ℕ) (cs ds : List ℕ) → list_all is_ascii_digit (c ∷ cs) ≡ true →
    AtLeast (suc (length cs)) (piece_at broken (c ∷ (cs ++ ds)))
unfolding number_at
number_least broken c cs ds h =
    from_front broken (suc (length cs)) c (cs ++ ds) front.Number
    (front_of-number c (cs ++ ds) (first_passes is_ascii_digit c cs h))
    (positive_least (suc (length cs)) (prefix_len is_ascii_digit (c ∷ (cs ++ ds))) _
    (prefix_least is_ascii_digit (c ∷ cs) ds h))

negative_front : (c : ℕ) (cs : List ℕ) → is_ascii_digit c ≡ true → front_of 45 (c ∷ cs) ≡ front.Negative
negative_front c cs h =
    rw (not_dash (eqb_tells c 45), begins_part-ascii 45 (omega arith), h) refl
  where
    not_dash : (((c == 45) ≡ true) × (c ≡ 45)) ⊎ (((c == 45) ≡ false) × (c ≡ 45 → ⊥)) → (c == 45) ≡ false
    not_dash (inl e) = absurd (let f = sym h ∙ ap is_ascii_digit e.1 in cc)
    not_dash (inr e) = e.0

negative_at-least : (broken : Bool) (c : ℕ) (cs ds : List ℕ) → list_all is_ascii_digit (c ∷ cs) ≡ true →
    AtLeast (suc (suc (length cs))) (piece_at broken (45 ∷ c ∷ (cs ++ ds)))
unfolding number_at
negative_at-least broken c cs ds h =
    from_front broken (suc (suc (length cs))) 45 (c ∷ (cs ++ ds)) front.Negative
    (negative_front c (cs ++ ds) (first_passes is_ascii_digit c cs h))
    (negative_least (suc (suc (length cs))) (prefix_len is_ascii_digit (c ∷ (cs ++ ds))) _
    (omega (arith, prefix_least is_ascii_digit (c ∷ cs) ds h)))

-- Texts

pub spelled-quoted : (body value rest : List ℕ) → Spells body value →
    quoted (body ++ 34 ∷ rest) ≡ Closed value (length body + 1)
spelled-quoted body value rest nothing = quoted-closed rest
spelled-quoted body value rest (plain c ds more v h i j m e) =
    quoted-plain c (ds ++ 34 ∷ rest) h i j
    ∙ ap (preceded c 1) (spelled-quoted ds more rest m)
    ∙ ap (λ (w : List ℕ). Closed w (1 + (length ds + 1))) (sym e) ∙ ap (Closed v) (omega arith)
spelled-quoted body value rest (escaped y c ds more v h k m e) =
    quoted-escape y (ds ++ 34 ∷ rest) h
    ∙ ap (λ (o : Option ℕ). by_escape o (quoted (ds ++ 34 ∷ rest))) k
    ∙ ap (preceded c 2) (spelled-quoted ds more rest m)
    ∙ ap (λ (w : List ℕ). Closed w (2 + (length ds + 1))) (sym e) ∙ ap (Closed v) (omega arith)

text_least : (broken : Bool) (body value ds : List ℕ) → Spells body value →
    AtLeast (length body + 2) (piece_at broken (34 ∷ ((body ++ 34 ∷ []) ++ ds)))
text_least broken body value ds m =
    let cs = (body ++ 34 ∷ []) ++ ds in
    let is : quoted cs ≡ Closed value (length body + 1) =
    ap quoted (append_assoc body (34 ∷ []) ds) ∙ spelled-quoted body value ds m in
    from_front broken (length body + 2) 34 cs front.Text refl
    (subst (λ (q : Quotation). AtLeast (length body + 2) (text_of broken q)) (sym is) (omega arith))

-- Comments

nested-tail : (d : ℕ) (cs ds : List ℕ) → Nested d cs → comment_tail d (cs ++ ds) ≡ Some (length cs)
unfolding comment_tail
nested-tail d cs ds last = refl
nested-tail d cs ds (opened f rest m) =
    ap (option_map (λ n. n + 2)) (nested-tail (suc f) rest ds m) ∙ ap Some (omega arith)
nested-tail d cs ds (closed f rest m) =
    let less : suc f - 1 ≡ f = omega arith in
    ap (λ (j : ℕ). option_map (λ n. n + 2) (comment_tail j (rest ++ ds))) less ∙ ap (option_map (λ n. n + 2))
    (nested-tail f rest ds m) ∙ ap Some (omega arith)
nested-tail d cs ds (other f c e rest h k m) =
    rw (h, k) (ap (option_map (λ n. n + 1)) (nested-tail f (e ∷ rest) ds m) ∙ ap Some (omega arith))

comment_least : (broken : Bool) (cs ds : List ℕ) → Nested 0 cs →
    AtLeast (suc (suc (length cs))) (piece_at broken (123 ∷ 45 ∷ (cs ++ ds)))
comment_least broken cs ds m =
    from_front broken (suc (suc (length cs))) 123 (45 ∷ (cs ++ ds)) front.Comment refl
    (subst (λ (o : Option ℕ). AtLeast (suc (suc (length cs)))
    (comment_of broken (length (45 ∷ (cs ++ ds)) + 1) o)) (sym (nested-tail 0 cs ds m)) (omega arith))

line_least : (broken : Bool) (cs ds : List ℕ) → list_all (λ c. not (c == 10)) cs ≡ true →
    AtLeast (suc (suc (length cs))) (piece_at broken (45 ∷ 45 ∷ (cs ++ ds)))
line_least broken cs ds h =
    from_front broken (suc (suc (length cs))) 45 (45 ∷ (cs ++ ds)) front.Line refl
    (omega (arith, prefix_least (λ c. not (c == 10)) cs ds h))

-- Symbols

choose : (P : Type 0) (a b c d : Bool) (p q r s k : TokenKind) →
    cond a (Some p) (cond b (Some q) (cond c (Some r) (cond d (Some s) None))) ≡ Some k → (a ≡ true → P) →
    (b ≡ true → P) → (c ≡ true → P) → (d ≡ true → P) → P
choose P true b c d p q r s k h f g i j = f refl
choose P false true c d p q r s k h f g i j = g refl
choose P false false true d p q r s k h f g i j = i refl
choose P false false false true p q r s k h f g i j = j refl
choose P false false false false p q r s k h f g i j = absurd (let e = h in cc)

two_of : (a b : Bool) → (a && (b && true)) ≡ true → (a ≡ true) × (b ≡ true)
two_of true true h = (refl, refl)
two_of true false h = cc
two_of false b h = cc

pair_at : (c e x y : ℕ) (ds : List ℕ) → ((c == x) && ((e == y) && true)) ≡ true →
    front_of x (y ∷ ds) ≡ front.Symbol → front_of c (e ∷ ds) ≡ front.Symbol
pair_at c e x y ds h k =
    let parts = two_of (c == x) (e == y) h in
    ap (λ (z : ℕ). front_of z (e ∷ ds)) (eqb-true c x parts.0) ∙ ap (λ (z : ℕ). front_of x (z ∷ ds))
    (eqb-true e y parts.1) ∙ k

-- two characters that are a symbol begin nothing else
pair_front : (c e : ℕ) (k : TokenKind) (ds : List ℕ) → listed pairs (c ∷ e ∷ []) ≡ Some k →
    front_of c (e ∷ ds) ≡ front.Symbol
pair_front c e k ds h =
    choose (front_of c (e ∷ ds) ≡ front.Symbol) _ _ _ _ kind.DotParen kind.Arrow kind.LeftArrow kind.FatArrow k h
    (λ i. pair_at c e 46 40 ds i (rw (begins_part-ascii 46 (omega arith)) refl))
    (λ i. pair_at c e 45 62 ds i (rw (begins_part-ascii 45 (omega arith)) refl))
    (λ i. pair_at c e 60 45 ds i (rw (begins_part-ascii 60 (omega arith)) refl))
    (λ i. pair_at c e 61 62 ds i (rw (begins_part-ascii 61 (omega arith)) refl))

pair_least : (broken : Bool) (c e : ℕ) (k : TokenKind) (ds : List ℕ) → listed pairs (c ∷ e ∷ []) ≡ Some k →
    AtLeast 2 (piece_at broken (c ∷ e ∷ ds))
unfolding symbol_at
pair_least broken c e k ds h =
    from_front broken 2 c (e ∷ ds) front.Symbol (pair_front c e k ds h)
    (subst (λ (o : Option TokenKind). AtLeast 2 (symbol_of c (or_else (sized 2 o) (of_one c)))) (sym h) (omega arith))

-- All together

token_least : (broken : Bool) (k : TokenKind) (cs ds : List ℕ) → IsToken k cs →
    AtLeast (length cs) (piece_at broken (cs ++ ds))
token_least broken k cs ds (is_word c rest j h e) = name_least broken c rest ds h
token_least broken k cs ds (is_hole c rest w h e i) =
    from_front broken (suc (suc (length rest))) 63 (c ∷ (rest ++ ds)) front.Hole refl (hole_at-least c rest ds h)
token_least broken k cs ds (is_number c n rest h e i) = number_least broken c rest ds h
token_least broken k cs ds (is_negative c n rest h e i) = negative_at-least broken c rest ds h
token_least broken k cs ds (is_text body value all m e) =
    let same : 34 ∷ ((body ++ 34 ∷ []) ++ ds) ≡ all ++ ds = ap (λ (es : List ℕ). es ++ ds) (sym e) in
    let long : length all ≡ length body + 2 = omega (arith, ap length e, length-append body (34 ∷ [])) in
    subst (λ (es : List ℕ). AtLeast (length all) (piece_at broken es)) same
    (subst (λ (m' : ℕ). AtLeast m' (piece_at broken (34 ∷ ((body ++ 34 ∷ []) ++ ds)))) (sym long)
    (text_least broken body value ds m))
token_least broken k cs ds (is_one c j h) = single broken c ds
token_least broken k cs ds (is_two c e j h) = pair_least broken c e j ds h

gap_least : (broken : Bool) (cs ds : List ℕ) → IsGap cs → AtLeast (length cs) (piece_at broken (cs ++ ds))
gap_least broken cs ds (is_blank_gap c h) = single broken c ds
gap_least broken cs ds (is_line rest h) = line_least broken rest ds h
gap_least broken cs ds (is_comment rest m) = comment_least broken rest ds m

-- what has a form is read as a piece at least as long, whatever follows
pub part_least : (broken : Bool) (o : Option TokenKind) (cs ds : List ℕ) → IsPart o cs →
    AtLeast (length cs) (piece_at broken (cs ++ ds))
part_least broken None cs ds h = gap_least broken cs ds h
part_least broken (Some k) cs ds h = token_least broken k cs ds h
