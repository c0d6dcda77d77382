-- What is read at the front of characters has the form of a token, a blank or a comment.
use Rattle.std.proofs.Common.{◌≡◌, ℕ, zero, suc, ◌+◌, ◌-◌, ◌<◌, ◌≤◌, ◌^◌, ◌==◌, ◌&&◌, ◌||◌, not, nat_lt, nat_le, Bool, true, false, cond, pos, neg_ℤ, List, [], ◌∷◌, ◌++◌, length, take, drop, encode_utf8, Option, Some, None, option_map, unwrap_or, IfSome, refl, sym, ap, subst, ◌∙◌, add-one, arith}
use Rattle.std.proofs.lemmas.Bool.{eqb-true, eqb-false}
use Rattle.std.proofs.lemmas.Bool.Decides.{nat_tests}
use Rattle.std.specs.List.{list_all, prefix_len}
use Rattle.std.specs.Char.{is_ascii_digit}
use Rattle.std.specs.Str.{encode_utf8_all}
use Rattle.qtt_base.specs.Parts.{has_long_part}
use Rattle.qtt_lexer.specs.Characters.{is_blank, begins, begins_part, continues_part, goes_on}
use Rattle.qtt_lexer.specs.Forms.{all_go_on, IsName, Spells, Nested, IsToken, IsGap}
use Rattle.qtt_lexer.specs.Forms.Spells.{nothing, plain, escaped}
use Rattle.qtt_lexer.specs.Forms.Nested.{last, opened, closed, other}
use Rattle.qtt_lexer.specs.Forms.IsToken.{word as is_word, hole as is_hole, number as is_number, negative as is_negative, text as is_text, one as is_one, two as is_two}
use Rattle.qtt_lexer.specs.Forms.IsGap.{blank as is_blank_gap, line as is_line, comment as is_comment}
use Rattle.qtt_lexer.specs.Piece.{piece_at, by_front, front_of, is_dash, name_tail, name_at, reserved, hole_at, hole_of, names_hole, number_at, decimal, quoted, preceded, by_escape, escape, text_of, comment_tail, closing, opens, closes, comment_of, symbol_at, symbol_of, of_one, sized, or_else, listed, pairs, singles, bad}
use Rattle.qtt_lexer.specs.declared.front.Front.{Front}
use Rattle.qtt_lexer.specs.declared.front.Front.TheVariants as front
use Rattle.qtt_lexer.specs.declared.quoted.Quotation.{Quotation}
use Rattle.qtt_lexer.specs.declared.quoted.Quotation.TheVariants.{Closed, LineEnds, TextEnds, BadEscape}
use Rattle.qtt_lexer.specs.declared.token.TokenKind.{TokenKind}
use Rattle.qtt_lexer.specs.declared.token.TokenKind.TheVariants as kind
use Rattle.qtt_lexer.specs.declared.piece.Cause.TheVariants.{NameTooLong}
use Rattle.qtt_lexer.specs.declared.piece.Piece.{Piece}
use Rattle.qtt_lexer.specs.declared.piece.Piece.TheVariants.{Gap, Token, Wrong}
use Rattle.qtt_lexer.proofs.Ascii.{continues_part-begins}
use Rattle.qtt_lexer.proofs.Fittings.{comment_tail-within}

-- the front of the characters that the piece has is of its form
abbrev pub IsRight : List ℕ → Piece → Type 0
IsRight cs (Gap n) = IsGap (take n cs)
IsRight cs (Token k n) = IsToken k (take n cs)
IsRight cs (Wrong cause before n) = Unit {0}

right_if : (b : Bool) (cs : List ℕ) (p q : Piece) → (b ≡ true → IsRight cs p) →
    (b ≡ false → IsRight cs q) → IsRight cs (cond b p q)
right_if true cs p q h k = h refl
right_if false cs p q h k = k refl

both : (a b : Bool) → (a && b) ≡ true → (a ≡ true) × (b ≡ true)
both true true h = (refl, refl)
both true false h = cc
both false b h = cc

take_one : (n c : ℕ) (cs : List ℕ) → take (n + 1) (c ∷ cs) ≡ c ∷ take n cs
take_one n c cs = ap (λ (m : ℕ). take m (c ∷ cs)) (add-one n)

take_first : (n c : ℕ) (cs : List ℕ) → take (1 + n) (c ∷ cs) ≡ c ∷ take n cs
take_first n c cs = let e : 1 + n ≡ suc n = omega arith in ap (λ (m : ℕ). take m (c ∷ cs)) e

take_two : (n c e : ℕ) (cs : List ℕ) → take (n + 2) (c ∷ e ∷ cs) ≡ c ∷ e ∷ take n cs
take_two n c e cs = let is : n + 2 ≡ suc (suc n) = omega arith in ap (λ (m : ℕ). take m (c ∷ e ∷ cs)) is

-- Comments

abbrev NestedIn : ℕ → List ℕ → Option ℕ → Type 0
NestedIn d cs o = IfSome o (λ n. Nested d (take n cs))

nested_if : (b : Bool) (d : ℕ) (cs : List ℕ) (o p : Option ℕ) → (b ≡ true → NestedIn d cs o) →
    (b ≡ false → NestedIn d cs p) → NestedIn d cs (cond b o p)
nested_if true d cs o p h k = h refl
nested_if false d cs o p h k = k refl

nested_opens : (d c e : ℕ) (cs : List ℕ) (o : Option ℕ) → c ≡ 123 → e ≡ 45 → NestedIn (suc d) cs o →
    NestedIn d (c ∷ e ∷ cs) (option_map (λ n. n + 2) o)
nested_opens d c e cs None h k m = tt
nested_opens d c e cs (Some n) h k m =
    let same : 123 ∷ 45 ∷ take n cs ≡ take (n + 2) (c ∷ e ∷ cs) = rw (h, k) (sym (take_two n 123 45 cs)) in
    subst (Nested d) same (opened d (take n cs) m)

nested_closes : (d c e : ℕ) (cs : List ℕ) (o : Option ℕ) → c ≡ 45 → e ≡ 125 → NestedIn (d - 1) cs o →
    NestedIn d (c ∷ e ∷ cs) (closing d o)
nested_closes zero c e cs o h k m =
    let same : 45 ∷ 125 ∷ [] ≡ take 2 (c ∷ e ∷ cs) = rw (h, k) refl in
    subst (Nested 0) same last
nested_closes (suc d) c e cs None h k m = tt
nested_closes (suc d) c e cs (Some n) h k m =
    let same : 45 ∷ 125 ∷ take n cs ≡ take (n + 2) (c ∷ e ∷ cs) = rw (h, k) (sym (take_two n 45 125 cs)) in
    let less : suc d - 1 ≡ d = omega arith in
    subst (Nested (suc d)) same (closed d (take n cs) (subst (λ (j : ℕ). Nested j (take n cs)) less m))

nested_skips : (d c e : ℕ) (cs : List ℕ) (o : Option ℕ) → opens c e ≡ false → closes c e ≡ false →
    IfSome o (λ n. 0 < n) → NestedIn d (e ∷ cs) o → NestedIn d (c ∷ e ∷ cs) (option_map (λ n. n + 1) o)
nested_skips d c e cs None h k some m = tt
nested_skips d c e cs (Some zero) h k some m = absurd (omega (arith, some))
nested_skips d c e cs (Some (suc n)) h k some m =
    subst (Nested d) (sym (take_one (suc n) c (e ∷ cs))) (other d c e (take n cs) h k m)

nested_some : (d : ℕ) (cs : List ℕ) → IfSome (comment_tail d cs) (λ n. 0 < n)
nested_some d cs = some_of (comment_tail d cs) (comment_tail-within d cs) where
  some_of : (o : Option ℕ) → IfSome o (λ n. (0 < n) × (n ≤ length cs)) → IfSome o (λ n. 0 < n)
  some_of None h = tt
  some_of (Some n) h = h.0

comment_tail-nested : (d : ℕ) (cs : List ℕ) → NestedIn d cs (comment_tail d cs)
unfolding comment_tail
comment_tail-nested d [] = tt
comment_tail-nested d (c ∷ []) = tt
comment_tail-nested d (c ∷ e ∷ cs) =
    nested_if (opens c e) d (c ∷ e ∷ cs) _ _
    (λ h. nested_opens d c e cs (comment_tail (suc d) cs) (eqb-true c 123 (both (c == 123) (e == 45) h).0)
    (eqb-true e 45 (both (c == 123) (e == 45) h).1) (comment_tail-nested (suc d) cs))
    (λ h. nested_if (closes c e) d (c ∷ e ∷ cs) _ _
    (λ k. nested_closes d c e cs (comment_tail (d - 1) cs) (eqb-true c 45 (both (c == 45) (e == 125) k).0)
    (eqb-true e 125 (both (c == 45) (e == 125) k).1) (comment_tail-nested (d - 1) cs))
    (λ k. nested_skips d c e cs (comment_tail d (e ∷ cs)) h k (nested_some d (e ∷ cs))
    (comment_tail-nested d (e ∷ cs))))

comment_right : (broken : Bool) (all : ℕ) (cs : List ℕ) (o : Option ℕ) → NestedIn 0 cs o →
    IsRight (123 ∷ 45 ∷ cs) (comment_of broken all o)
comment_right broken all cs (Some n) h = subst IsGap (sym (take_two n 123 45 cs)) (is_comment (take n cs) h)
comment_right true all cs None h = tt
comment_right false all cs None h = tt

begins_with : (k : ℕ) (cs : List ℕ) → begins (λ c. c == k) cs ≡ true → cs ≡ k ∷ drop 1 cs
begins_with k [] h = cc
begins_with k (c ∷ cs) h = ap (λ (x : ℕ). x ∷ cs) (eqb-true c k h)

comment-right : (broken : Bool) (c : ℕ) (cs : List ℕ) → ((c == 123) && begins is_dash cs) ≡ true →
    IsRight (c ∷ cs) (by_front broken c cs front.Comment)
comment-right broken c cs h =
    let parts = both (c == 123) (begins is_dash cs) h in
    let same : 123 ∷ 45 ∷ drop 1 cs ≡ c ∷ cs =
    ap (λ (x : ℕ). x ∷ 45 ∷ drop 1 cs) (sym (eqb-true c 123 parts.0)) ∙ ap (λ (ds : List ℕ). c ∷ ds)
    (sym (begins_with 45 cs parts.1)) in
    let right = comment_right broken (length cs + 1) (drop 1 cs) (comment_tail 0 (drop 1 cs))
    (comment_tail-nested 0 (drop 1 cs)) in
    subst (λ (ds : List ℕ). IsRight ds (comment_of broken (length cs + 1) (comment_tail 0 (drop 1 cs)))) same right

passes_by : (p : ℕ → Bool) (c : ℕ) (cs : List ℕ) (b : Bool) → p c ≡ b →
    list_all p (take (prefix_len p cs) cs) ≡ true →
    list_all p (take (cond b (1 + prefix_len p cs) 0) (c ∷ cs)) ≡ true
passes_by p c cs false e h = refl
passes_by p c cs true e h = ap (list_all p) (take_first (prefix_len p cs) c cs) ∙ rw e h

pub prefix_passes : (p : ℕ → Bool) (cs : List ℕ) → list_all p (take (prefix_len p cs) cs) ≡ true
prefix_passes p [] = refl
prefix_passes p (c ∷ cs) = passes_by p c cs (p c) refl (prefix_passes p cs)

line-right : (broken : Bool) (c : ℕ) (cs : List ℕ) → (is_dash c && begins is_dash cs) ≡ true →
    IsRight (c ∷ cs) (by_front broken c cs front.Line)
line-right broken c cs h =
    let parts = both (is_dash c) (begins is_dash cs) h in
    line_from c cs (eqb-true c 45 parts.0) (begins_with 45 cs parts.1)
  where
    line_at : (ds : List ℕ) → IsGap (take (prefix_len (λ x. not (x == 10)) (45 ∷ ds) + 1) (45 ∷ 45 ∷ ds))
    line_at ds =
        let n = prefix_len (λ x. not (x == 10)) ds in
        let same : 45 ∷ 45 ∷ take n ds ≡ take (1 + n + 1) (45 ∷ 45 ∷ ds) =
        ap (λ (es : List ℕ). 45 ∷ es) (sym (take_first n 45 ds)) ∙ sym (take_one (1 + n) 45 (45 ∷ ds)) in
        subst IsGap same (is_line (take n ds) (prefix_passes (λ x. not (x == 10)) ds))

    line_from : (x : ℕ) (ds : List ℕ) → x ≡ 45 → ds ≡ 45 ∷ drop 1 ds →
        IsGap (take (prefix_len (λ y. not (y == 10)) ds + 1) (x ∷ ds))
    line_from x ds is e =
        let same : 45 ∷ 45 ∷ drop 1 ds ≡ x ∷ ds =
        ap (λ (y : ℕ). y ∷ 45 ∷ drop 1 ds) (sym is) ∙ ap (λ (es : List ℕ). x ∷ es) (sym e) in
        let at = line_at (drop 1 ds) in
        let there : IsGap (take (prefix_len (λ y. not (y == 10)) ds + 1) (45 ∷ 45 ∷ drop 1 ds)) =
        subst (λ (es : List ℕ). IsGap (take (prefix_len (λ y. not (y == 10)) es + 1) (45 ∷ 45 ∷ drop 1 ds)))
        (sym e) at in
        subst (λ (es : List ℕ). IsGap (take (prefix_len (λ y. not (y == 10)) ds + 1) es)) same there

-- Texts

abbrev SpellsIn : List ℕ → Quotation → Type 0
SpellsIn cs (Closed value n) = (body : List ℕ) × (take n cs ≡ body ++ 34 ∷ []) × Spells body value
SpellsIn cs LineEnds = Unit {0}
SpellsIn cs (TextEnds n) = Unit {0}
SpellsIn cs (BadEscape n) = Unit {0}

spells_if : (b : Bool) (cs : List ℕ) (q r : Quotation) → (b ≡ true → SpellsIn cs q) →
    (b ≡ false → SpellsIn cs r) → SpellsIn cs (cond b q r)
spells_if true cs q r h k = h refl
spells_if false cs q r h k = k refl

spells_closed : (c : ℕ) (cs : List ℕ) → (c == 34) ≡ true → SpellsIn (c ∷ cs) (Closed [] 1)
spells_closed c cs h = ([], ap (λ (x : ℕ). x ∷ []) (eqb-true c 34 h), nothing)

spells_plain : (c : ℕ) (cs : List ℕ) (q : Quotation) → (c == 34) ≡ false → (c == 10) ≡ false →
    (c == 92) ≡ false → SpellsIn cs q → SpellsIn (c ∷ cs) (preceded c 1 q)
spells_plain c cs (Closed value n) h i j m = (
  c ∷ m.0,
  take_first n c cs ∙ ap (λ (ds : List ℕ). c ∷ ds) m.1,
  plain c m.0 value (encode_utf8 c ++ value)
      (eqb-false c 34 h) (eqb-false c 10 i) (eqb-false c 92 j) m.2 refl,
)
spells_plain c cs LineEnds h i j m = tt
spells_plain c cs (TextEnds n) h i j m = tt
spells_plain c cs (BadEscape n) h i j m = tt

spells_escaped : (x e c : ℕ) (cs : List ℕ) (q : Quotation) → x ≡ 92 → (e == 10) ≡ false → escape e ≡ Some c →
    SpellsIn cs q → SpellsIn (x ∷ e ∷ cs) (preceded c 2 q)
spells_escaped x e c cs (Closed value n) is h k m =
    let two : 2 + n ≡ n + 2 = omega arith in (
      92 ∷ e ∷ m.0,
      ap (λ (j : ℕ). take j (x ∷ e ∷ cs)) two ∙ take_two n x e cs ∙
          ap (λ (y : ℕ). y ∷ e ∷ take n cs) is ∙ ap (λ (ds : List ℕ). 92 ∷ e ∷ ds) m.1,
      escaped e c m.0 value (encode_utf8 c ++ value) (eqb-false e 10 h) k m.2 refl,
    )
spells_escaped x e c cs LineEnds is h k m = tt
spells_escaped x e c cs (TextEnds n) is h k m = tt
spells_escaped x e c cs (BadEscape n) is h k m = tt

spells_escape : (x e : ℕ) (cs : List ℕ) (o : Option ℕ) (q : Quotation) → escape e ≡ o → x ≡ 92 →
    (e == 10) ≡ false → SpellsIn cs q → SpellsIn (x ∷ e ∷ cs) (by_escape o q)
spells_escape x e cs None q k is h m = tt
spells_escape x e cs (Some c) q k is h m = spells_escaped x e c cs q is h k m

quoted-spells : (cs : List ℕ) → SpellsIn cs (quoted cs)
unfolding quoted
quoted-spells [] = tt
quoted-spells (c ∷ []) =
    spells_if (c == 34) (c ∷ []) _ _ (spells_closed c [])
    (λ h. spells_if (c == 10) (c ∷ []) LineEnds (TextEnds 1) (λ i. tt) (λ i. tt))
quoted-spells (c ∷ e ∷ cs) =
    let escapes = cond (e == 10) LineEnds (by_escape (escape e) (quoted cs)) in
    let plainly = preceded c 1 (quoted (e ∷ cs)) in
    spells_if (c == 34) (c ∷ e ∷ cs) (Closed [] 1) (cond (c == 10) LineEnds (cond (c == 92) escapes plainly))
    (spells_closed c (e ∷ cs))
    (λ h. spells_if (c == 10) (c ∷ e ∷ cs) LineEnds (cond (c == 92) escapes plainly) (λ i. tt)
    (λ i. spells_if (c == 92) (c ∷ e ∷ cs) escapes plainly
    (λ j. spells_if (e == 10) (c ∷ e ∷ cs) LineEnds (by_escape (escape e) (quoted cs)) (λ k. tt)
    (λ k. spells_escape c e cs (escape e) (quoted cs) refl (eqb-true c 92 j) k (quoted-spells cs)))
    (λ j. spells_plain c (e ∷ cs) (quoted (e ∷ cs)) h i j (quoted-spells (e ∷ cs)))))

text_right : (broken : Bool) (cs : List ℕ) (q : Quotation) → SpellsIn cs q → IsRight (34 ∷ cs) (text_of broken q)
text_right broken cs (Closed value n) m =
    is_text m.0 value (take (n + 1) (34 ∷ cs)) m.2 (take_one n 34 cs ∙ ap (λ (ds : List ℕ). 34 ∷ ds) m.1)
text_right broken cs LineEnds m = tt
text_right true cs (TextEnds n) m = tt
text_right false cs (TextEnds n) m = tt
text_right broken cs (BadEscape n) m = tt

text-right : (broken : Bool) (c : ℕ) (cs : List ℕ) →
    (c == 34) ≡ true → IsRight (c ∷ cs) (by_front broken c cs front.Text)
text-right broken c cs h =
    subst (λ (x : ℕ). IsRight (x ∷ cs) (text_of broken (quoted cs))) (sym (eqb-true c 34 h))
    (text_right broken cs (quoted cs) (quoted-spells cs))

-- Names and holes

starts_tail : (x : ℕ) (cs : List ℕ) → begins_part x ≡ true → name_tail (x ∷ cs) ≡ name_tail cs + 1
unfolding name_tail
starts_tail x cs h = rw (continues_part-begins x h) refl

goes_on_by : (b : Bool) (c : ℕ) (cs : List ℕ) → continues_part c ≡ b → goes_on c cs ≡ true →
    goes_on c (take (name_tail cs) cs) ≡ true
unfolding name_tail
goes_on_by true c cs e h = rw e refl
goes_on_by false c [] e h = h
goes_on_by false c (x ∷ cs) e h =
    let h' : ((c == 46) && begins_part x) ≡ true = ap (λ (b : Bool). b || ((c == 46) && begins_part x)) (sym e) ∙ h in
    let x_begins = (both (c == 46) (begins_part x) h').1 in
    ap (λ (n : ℕ). goes_on c (take n (x ∷ cs))) (starts_tail x cs x_begins)
    ∙ ap (goes_on c) (take_one (name_tail cs) x cs)
    ∙ rw e h'

goes_on_front : (c : ℕ) (cs : List ℕ) → goes_on c cs ≡ true → goes_on c (take (name_tail cs) cs) ≡ true
goes_on_front c cs h = goes_on_by (continues_part c) c cs refl h

all_by : (b : Bool) (c : ℕ) (cs : List ℕ) → goes_on c cs ≡ b → all_go_on (take (name_tail cs) cs) ≡ true →
    all_go_on (take (cond b (name_tail cs + 1) 0) (c ∷ cs)) ≡ true
all_by false c cs e h = refl
all_by true c cs e h = ap all_go_on (take_one (name_tail cs) c cs) ∙ rw (goes_on_front c cs e) h

pub name_tail-all_go_on : (cs : List ℕ) → all_go_on (take (name_tail cs) cs) ≡ true
unfolding name_tail
name_tail-all_go_on [] = refl
name_tail-all_go_on (c ∷ cs) = all_by (goes_on c cs) c cs refl (name_tail-all_go_on cs)

name_front : (c : ℕ) (cs : List ℕ) → begins_part c ≡ true →
    has_long_part (encode_utf8_all (c ∷ take (name_tail cs) cs)) ≡ false → IsName c (take (name_tail cs) cs)
name_front c cs h k = record { begins = h; goes_on = name_tail-all_go_on cs; short = k }

word_if : (b : Bool) (n : ℕ) (ds word : List ℕ) →
    (b ≡ false → IsToken (unwrap_or (reserved word) (kind.Name word)) (take n ds)) →
    IsRight ds (cond b (Wrong NameTooLong 0 n) (Token (unwrap_or (reserved word) (kind.Name word)) n))
word_if true n ds word h = tt
word_if false n ds word h = h refl

abbrev kind_of_word : List ℕ → TokenKind
kind_of_word ds = unwrap_or (reserved (encode_utf8_all ds)) (kind.Name (encode_utf8_all ds))

name-right : (c : ℕ) (cs : List ℕ) → begins_part c ≡ true → IsRight (c ∷ cs) (name_at (c ∷ cs))
unfolding name_at
name-right c cs h =
    let n = name_tail cs in
    let same = take_one n c cs in
    word_if (has_long_part (encode_utf8_all (take (n + 1) (c ∷ cs)))) (n + 1) (c ∷ cs)
    (encode_utf8_all (take (n + 1) (c ∷ cs)))
    (λ k. subst (λ (ds : List ℕ). IsToken (kind_of_word ds) ds) (sym same)
    (is_word c (take n cs) _ (name_front c cs h
    (ap (λ (ds : List ℕ). has_long_part (encode_utf8_all ds)) (sym same) ∙ k)) refl))

hole_if : (a b : Bool) (n c : ℕ) (ds word : List ℕ) →
    (a ≡ true → b ≡ false → IsToken (kind.Hole word) (take (n + 1) ds)) →
    IsRight ds (cond a (cond b (Wrong NameTooLong 1 n) (Token (kind.Hole word) (n + 1))) (bad c))
hole_if true true n c ds word h = tt
hole_if true false n c ds word h = h refl refl
hole_if false b n c ds word h = tt

hole_named : (c : ℕ) (cs : List ℕ) → begins_part c ≡ true →
    IsRight (63 ∷ c ∷ cs) (hole_of (name_tail cs + 1) (encode_utf8_all (take (name_tail cs + 1) (c ∷ cs))))
hole_named c cs h =
    let n = name_tail cs in
    let same = take_one n c cs in
    let word = encode_utf8_all (take (n + 1) (c ∷ cs)) in
    hole_if (names_hole word) (has_long_part word) (n + 1) 63 (63 ∷ c ∷ cs) word
    (λ a b. subst (IsToken (kind.Hole word))
    (ap (λ (ds : List ℕ). 63 ∷ ds) (sym same) ∙ sym (take_one (n + 1) 63 (c ∷ cs)))
    (is_hole c (take n cs) word
    (name_front c cs h (ap (λ (ds : List ℕ). has_long_part (encode_utf8_all ds)) (sym same) ∙ b))
    (ap encode_utf8_all same) a))

hole_at-right : (cs : List ℕ) → IsRight (63 ∷ cs) (hole_at cs)
unfolding hole_at
hole_at-right [] = tt
hole_at-right (c ∷ cs) = right_if (begins_part c) (63 ∷ c ∷ cs) _ (bad 63) (λ h. hole_named c cs h) (λ h. tt)

hole-right : (broken : Bool) (c : ℕ) (cs : List ℕ) →
    (c == 63) ≡ true → IsRight (c ∷ cs) (by_front broken c cs front.Hole)
hole-right broken c cs h = subst (λ (x : ℕ). IsRight (x ∷ cs) (hole_at cs)) (sym (eqb-true c 63 h)) (hole_at-right cs)

-- Numbers

below : (a b : ℕ) → nat_lt a b ≡ true → a < b
below a b h = grind (arith, nat_tests)

at_most : (a b : ℕ) → nat_le a b ≡ true → a ≤ b
at_most a b h = grind (arith, nat_tests)

number_front : (c : ℕ) (cs : List ℕ) → is_ascii_digit c ≡ true →
    take (prefix_len is_ascii_digit (c ∷ cs)) (c ∷ cs) ≡ c ∷ take (prefix_len is_ascii_digit cs) cs
number_front c cs h =
    ap (λ (b : Bool). take (cond b (1 + prefix_len is_ascii_digit cs) 0) (c ∷ cs)) h ∙
    take_first (prefix_len is_ascii_digit cs) c cs

number-right : (c : ℕ) (cs : List ℕ) → is_ascii_digit c ≡ true → IsRight (c ∷ cs) (number_at false (c ∷ cs))
unfolding number_at
number-right c cs h =
    let n = prefix_len is_ascii_digit (c ∷ cs) in
    let ds = take (prefix_len is_ascii_digit cs) cs in
    let same = number_front c cs h in
    right_if (nat_lt (decimal (take n (c ∷ cs))) (2 ^ 63)) (c ∷ cs)
    (Token (kind.Number (pos (decimal (take n (c ∷ cs))))) n) _
    (λ k. subst (IsToken (kind.Number (pos (decimal (take n (c ∷ cs)))))) (sym same)
    (is_number c (decimal (take n (c ∷ cs))) ds
    (ap (list_all is_ascii_digit) (sym same) ∙ prefix_passes is_ascii_digit (c ∷ cs)) (ap decimal same)
    (below (decimal (take n (c ∷ cs))) (2 ^ 63) k)))
    (λ k. tt)

negative_right : (c : ℕ) (cs : List ℕ) → is_ascii_digit c ≡ true → IsRight (45 ∷ c ∷ cs) (number_at true (c ∷ cs))
unfolding number_at
negative_right c cs h =
    let n = prefix_len is_ascii_digit (c ∷ cs) in
    let ds = take (prefix_len is_ascii_digit cs) cs in
    let same = number_front c cs h in
    right_if (nat_le (decimal (take n (c ∷ cs))) (2 ^ 63)) (45 ∷ c ∷ cs)
    (Token (kind.Number (neg_ℤ (pos (decimal (take n (c ∷ cs)))))) (n + 1)) _
    (λ k. subst (IsToken (kind.Number (neg_ℤ (pos (decimal (take n (c ∷ cs)))))))
    (ap (λ (es : List ℕ). 45 ∷ es) (sym same) ∙ sym (take_one n 45 (c ∷ cs)))
    (is_negative c (decimal (take n (c ∷ cs))) ds
    (ap (list_all is_ascii_digit) (sym same) ∙ prefix_passes is_ascii_digit (c ∷ cs)) (ap decimal same)
    (at_most (decimal (take n (c ∷ cs))) (2 ^ 63) k)))
    (λ k. tt)

negative_from : (cs : List ℕ) → begins is_ascii_digit cs ≡ true → IsRight (45 ∷ cs) (number_at true cs)
negative_from [] h = cc
negative_from (c ∷ cs) h = negative_right c cs h

negative-right : (broken : Bool) (c : ℕ) (cs : List ℕ) → (is_dash c && begins is_ascii_digit cs) ≡ true →
    IsRight (c ∷ cs) (by_front broken c cs front.Negative)
negative-right broken c cs h =
    let parts = both (is_dash c) (begins is_ascii_digit cs) h in
    subst (λ (x : ℕ). IsRight (x ∷ cs) (number_at true cs)) (sym (eqb-true c 45 parts.0)) (negative_from cs parts.1)

-- Symbols

one_right : (c : ℕ) (cs : List ℕ) (o : Option TokenKind) → listed singles (c ∷ []) ≡ o →
    IsRight (c ∷ cs) (symbol_of c (sized 1 o))
one_right c cs None h = tt
one_right c cs (Some k) h = is_one c k h

two_right : (c e : ℕ) (cs : List ℕ) (o : Option TokenKind) → listed pairs (c ∷ e ∷ []) ≡ o →
    IsRight (c ∷ e ∷ cs) (symbol_of c (or_else (sized 2 o) (of_one c)))
two_right c e cs None h = one_right c (e ∷ cs) (listed singles (c ∷ [])) refl
two_right c e cs (Some k) h = is_two c e k h

symbol-right : (c : ℕ) (cs : List ℕ) → IsRight (c ∷ cs) (symbol_of c (symbol_at (c ∷ cs)))
unfolding symbol_at
symbol-right c [] = one_right c [] (listed singles (c ∷ [])) refl
symbol-right c (e ∷ cs) = two_right c e cs (listed pairs (c ∷ e ∷ [])) refl

-- All together

abbrev Says : Front → ℕ → List ℕ → Type 0
Says front.Blank c cs = is_blank c ≡ true
Says front.Line c cs = (is_dash c && begins is_dash cs) ≡ true
Says front.Comment c cs = ((c == 123) && begins is_dash cs) ≡ true
Says front.Text c cs = (c == 34) ≡ true
Says front.Hole c cs = (c == 63) ≡ true
Says front.Name c cs = begins_part c ≡ true
Says front.Number c cs = is_ascii_digit c ≡ true
Says front.Negative c cs = (is_dash c && begins is_ascii_digit cs) ≡ true
Says front.Symbol c cs = Unit {0}

says_if : (b : Bool) (f g : Front) (c : ℕ) (cs : List ℕ) → (b ≡ true → Says f c cs) → Says g c cs →
    Says (cond b f g) c cs
says_if true f g c cs h k = h refl
says_if false f g c cs h k = k

front_of-says : (c : ℕ) (cs : List ℕ) → Says (front_of c cs) c cs
front_of-says c cs =
    says_if (is_blank c) front.Blank _ c cs (λ h. h)
    (says_if (is_dash c && begins is_dash cs) front.Line _ c cs (λ h. h)
    (says_if ((c == 123) && begins is_dash cs) front.Comment _ c cs (λ h. h)
    (says_if (c == 34) front.Text _ c cs (λ h. h)
    (says_if (c == 63) front.Hole _ c cs (λ h. h)
    (says_if (begins_part c) front.Name _ c cs (λ h. h)
    (says_if (is_ascii_digit c) front.Number _ c cs (λ h. h)
    (says_if (is_dash c && begins is_ascii_digit cs) front.Negative front.Symbol c cs (λ h. h) tt)))))))

front_right : (broken : Bool) (c : ℕ) (cs : List ℕ) (f : Front) → Says f c cs →
    IsRight (c ∷ cs) (by_front broken c cs f)
front_right broken c cs front.Blank h = is_blank_gap c h
front_right broken c cs front.Line h = line-right broken c cs h
front_right broken c cs front.Comment h = comment-right broken c cs h
front_right broken c cs front.Text h = text-right broken c cs h
front_right broken c cs front.Hole h = hole-right broken c cs h
front_right broken c cs front.Name h = name-right c cs h
front_right broken c cs front.Number h = number-right c cs h
front_right broken c cs front.Negative h = negative-right broken c cs h
front_right broken c cs front.Symbol h = symbol-right c cs

-- the piece at the front of characters is of its form
pub piece_at-right : (broken : Bool) (cs : List ℕ) → 0 < length cs → IsRight cs (piece_at broken cs)
unfolding piece_at
piece_at-right broken [] h = absurd (omega (arith, h))
piece_at-right broken (c ∷ cs) h = front_right broken c cs (front_of c cs) (front_of-says c cs)
