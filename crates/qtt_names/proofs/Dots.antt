-- Names that are split at their last dot.
use Rattle.std.proofs.Common.{◌≡◌, ℕ, suc, ◌<◌, ◌≤◌, ◌+◌, ◌≢◌, ◌==◌, Bool, false, cond, List, [], ◌∷◌, ◌++◌, take, drop, length, get_or, Option, Some, None, Bor, MatchOption, option_map, refl, ap, sym, ◌∙◌, arith}
use Rattle.std.specs.Str.Pattern.{RFindsChar}
use Rattle.std.proofs.lemmas.Bool.Decides.{nat_tests}
use Rattle.std.proofs.lemmas.List.{take-append-drop}
use Rattle.std.proofs.lemmas.Str.Pattern.{NoCharPasses-char, drop_at_char}
use Rattle.qtt_names.specs.Target.{in_front, split_at_dot}

-- the text has no dot
Dotless : List ℕ → Type 0
Dotless s = (i : ℕ) → i < length s → get_or s i 0 ≢ 46

not_dot : (b : ℕ) → b ≢ 46 → (b == 46) ≡ false
not_dot b h = grind (arith, nat_tests)

split_none : (s : List ℕ) → Dotless s → split_at_dot s ≡ None
unfolding Dotless
split_none [] h = refl
split_none (b ∷ s) h =
    ap (λ (r : Option (List ℕ × List ℕ)). in_front b r s) (split_none s (λ i l. h (suc i) (omega arith)))
    ∙ ap (λ (c : Bool). cond c (Some ([], s)) None) (not_dot b (h 0 (omega arith)))

split_found : (front back : List ℕ) → Dotless back → split_at_dot (front ++ 46 ∷ back) ≡ Some (front, back)
split_found [] back h = ap (λ (r : Option (List ℕ × List ℕ)). in_front 46 r back) (split_none back h)
split_found (b ∷ front) back h =
    ap (λ (r : Option (List ℕ × List ℕ)). in_front b r (front ++ 46 ∷ back)) (split_found front back h)

-- what `rsplit_once` answers
pub split_gives : (text : List ℕ) (r : Option (Bor (List ℕ) × Bor (List ℕ)))
    → MatchOption r (RFindsChar 46 text None)
    (λ x. (i : ℕ) × (j : ℕ) × RFindsChar 46 text (Some (i, j)) × (x.0.now ≡ take i text) ×
    (x.1.now ≡ drop j text) × (i ≤ j) × (length x.0.now ≡ i) × (length x.1.now + j ≡ length text))
    → option_map (λ x. (x.0.now, x.1.now)) r ≡ split_at_dot text
unfolding Dotless
split_gives text None h = sym (split_none text (λ i l. NoCharPasses-char 46 text i h (omega arith) l))
split_gives text (Some x) h =
    let i = h.0 in
    let j = h.1 in
    let low : 46 < 128 = omega arith in
    let whole : text ≡ take i text ++ 46 ∷ drop j text =
    sym (take-append-drop i text) ∙ ap (λ (l : List ℕ). take i text ++ l) (drop_at_char 46 text i j h.2.1 low)
    in
    let found = ap split_at_dot whole ∙ split_found (take i text) (drop j text)
    (λ k l. NoCharPasses-char 46 (drop j text) k h.2.0 low l) in
    (λ t. Some (h.3 t, h.4 t)) ∙ sym found
