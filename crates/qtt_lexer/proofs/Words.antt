-- Words and symbols that are looked up.
use Rattle.std.proofs.Common.{◌≡◌, ℕ, suc, ◌+◌, ◌-◌, ◌<◌, ◌≤◌, Bool, true, false, cond, nat_eq, get_or, List, [], ◌∷◌, ◌++◌, length, take, drop, encode_utf8, Some, None, refl, sym, ap, ◌∙◌, arith}
use Rattle.std.specs.Cmp.Lexicographic.{pointwise}
use Rattle.std.specs.Str.{encode_utf8_all}
use Rattle.std.proofs.lemmas.Slice.Eq.{bytes_eq-Decides}
use Rattle.std.proofs.lemmas.List.{at_drop_more, at_drop_all, take_more, take_rest, append-nil}
use Rattle.std.proofs.lemmas.Str.{encodes-append}
use Rattle.qtt_lexer.specs.Piece.{listed, name_tail}
use Rattle.qtt_lexer.specs.Characters.{goes_on}
use Rattle.qtt_lexer.specs.declared.token.TokenKind.{TokenKind}

unequal_by : (b : Bool) → (b ≡ true → ⊥) → b ≡ false
unequal_by true h = absurd (h refl)
unequal_by false h = refl

unequal : (word key : List ℕ) → (word ≡ key → ⊥) → pointwise nat_eq word key ≡ false
unequal word key h = unequal_by (pointwise nat_eq word key) (λ e. h ((bytes_eq-Decides word key).0 e))

-- the word is the first of no pair
abbrev pub IsUnlisted : List (List ℕ × TokenKind) → List ℕ → Type 0
IsUnlisted [] word = Unit {0}
IsUnlisted (pair ∷ pairs) word = (word ≡ pair.0 → ⊥) × IsUnlisted pairs word

pub listed_none : (pairs : List (List ℕ × TokenKind)) (word : List ℕ) → IsUnlisted pairs word → listed pairs word ≡ None
listed_none [] word h = refl
listed_none (pair ∷ pairs) word h =
    ap (λ (b : Bool). cond b (Some pair.1) (listed pairs word)) (unequal word pair.0 h.0) ∙ listed_none pairs word h.1

-- how a name goes on from the character at i
tail_at : (b : Bool) (cs : List ℕ) (i c : ℕ) → i < length cs → c ≡ get_or cs i c →
    b ≡ goes_on c (take (length cs - (i + 1)) (drop (i + 1) cs)) →
    name_tail (drop i cs) ≡ cond b (name_tail (drop (i + 1) cs) + 1) 0
unfolding name_tail
tail_at b cs i c lt e h =
    let rest = drop (i + 1) cs in
    at_drop_more name_tail cs i c lt
    ∙ ap (λ (x : ℕ). cond (goes_on x rest) (name_tail rest + 1) 0) (sym e)
    ∙ ap (λ (cs' : List ℕ). cond (goes_on c cs') (name_tail rest + 1) 0) (sym (take_rest cs (i + 1)))
    ∙ ap (λ (x : Bool). cond x (name_tail rest + 1) 0) (sym h)

pub tail_stops : (cs : List ℕ) (i c : ℕ) → i < length cs → c ≡ get_or cs i c →
    false ≡ goes_on c (take (length cs - (i + 1)) (drop (i + 1) cs)) → name_tail (drop i cs) ≡ 0
tail_stops cs i c lt e h = tail_at false cs i c lt e h

pub tail_goes_on : (cs : List ℕ) (i c : ℕ) → i < length cs → c ≡ get_or cs i c →
    true ≡ goes_on c (take (length cs - (i + 1)) (drop (i + 1) cs)) →
    name_tail (drop i cs) ≡ name_tail (drop (i + 1) cs) + 1
tail_goes_on cs i c lt e h = tail_at true cs i c lt e h

pub tail_end : (cs : List ℕ) (i : ℕ) → length cs ≤ i → name_tail (drop i cs) ≡ 0
unfolding name_tail
tail_end cs i le = at_drop_all name_tail cs i le

tail_step : (b : Bool) (n m : ℕ) → n ≤ m → cond b (n + 1) 0 ≤ suc m
tail_step true n m h = omega (arith, h)
tail_step false n m h = omega arith

pub name_tail-le-length : (cs : List ℕ) → name_tail cs ≤ length cs
unfolding name_tail
name_tail-le-length [] = omega arith
name_tail-le-length (c ∷ cs) = tail_step (goes_on c cs) (name_tail cs) (length cs) (name_tail-le-length cs)

pub spelled_more : (cs : List ℕ) (i c : ℕ) → i < length cs → c ≡ get_or cs i c →
    encode_utf8_all (take (i + 1) cs) ≡ encode_utf8_all (take i cs) ++ encode_utf8 c
spelled_more cs i c lt e =
    ap encode_utf8_all (take_more cs i c lt)
    ∙ encodes-append (take i cs) (get_or cs i c ∷ [])
    ∙ ap (λ (x : ℕ). encode_utf8_all (take i cs) ++ (encode_utf8 x ++ [])) (sym e)
    ∙ ap (λ (bs : List ℕ). encode_utf8_all (take i cs) ++ bs) (append-nil (encode_utf8 c))
