-- Pieces of the texts, as they are written.
use Rattle.std.proofs.Common.{◌≡◌, ℕ, zero, suc, ◌+◌, ◌≤◌, ◌-◌, ℤ, List, [], ◌∷◌, ◌++◌, map, codes, refl, arith, add-one, append_assoc, ap, sym, ◌∙◌, Vec}
use Rattle.std.specs.Global.{Global}
use Rattle.std.proofs.lemmas.Grind.{flat_map-append}
use Rattle.std.proofs.lemmas.List.{append-nil, map-append}
use Rattle.qtt_gen.specs.Generated.{below, function_name, module_at, module_name, next, import_lines, side, step, step_text, value, written}
use Rattle.qtt_gen.specs.Seen.{seen}

-- ---- one below
below_suc : (i b : ℕ) → b ≡ suc i - 1 → b ≡ i
below_suc i b e = omega (arith, e)

pub import_below : (i j b k : ℕ) → 1 ≤ i → b ≡ i - 1 → k ≡ next j →
    import_lines i j ≡ (codes "import " ++ module_name b k) ∷ []
import_below zero j b k l e f = absurd (omega (arith, l))
import_below (suc i) j b k l e f = rw (below_suc i b e, f) refl

pub side_below : (i j b k : ℕ) → 1 ≤ i → b ≡ i - 1 → k ≡ next j →
    side i j ≡ function_name b k ++ codes " (" ++ step_text i j ++ codes ")"
side_below zero j b k l e f = absurd (omega (arith, l))
side_below (suc i) j b k l e f = rw (below_suc i b e, f) refl

pub side_at_zero : (i j : ℕ) → (1 ≤ i → ⊥) → step_text i j ≡ side i j
side_at_zero zero j h = refl
side_at_zero (suc i) j h = absurd (h (omega arith))

pub value_below : (i j b : ℕ) (x : ℤ) → 1 ≤ i → b ≡ i - 1 → value i j x ≡ value b (next j) (step i j x)
value_below zero j b x l e = absurd (omega (arith, l))
value_below (suc i) j b x l e = rw (below_suc i b e) refl

-- ---- lines
written_last : (lines : List (List ℕ)) (l : List ℕ) → written (lines ++ l ∷ []) ≡ written lines ++ (l ++ codes "\n")
written_last lines l = simp (flat_map-append, append-nil) refl

-- one more of them
pub written_more : (line : ℕ → List ℕ) (j : ℕ) →
    written (map line (below (j + 1))) ≡ written (map line (below j)) ++ (line j ++ codes "\n")
written_more line j = rw (add-one, map-append) (written_last (map line (below j)) (line j))

pub main_lines : (xs ys : List (List ℕ)) →
    written (codes "module Main" ∷ (xs ++ codes "main : IO Unit" ∷ codes "main = do" ∷ ys)) ≡
    codes "module Main\n" ++ written xs ++ codes "main : IO Unit\nmain = do\n" ++ written ys
main_lines xs ys = simp (flat_map-append, append_assoc) refl

-- ---- one more module
pub module_more : (ms : List (List ℕ × Vec ℕ Global)) (m : List ℕ × Vec ℕ Global) (front : List (List ℕ × List ℕ))
    (i j : ℕ) → map seen ms ≡ front ++ map (module_at i) (below j) → seen m ≡ module_at i j →
    map seen (ms ++ m ∷ []) ≡ front ++ map (module_at i) (below (j + 1))
module_more ms m front i j before e =
    rw add-one (map-append seen ms (m ∷ []) ∙ ap (λ (v : List (List ℕ × List ℕ)). v ++ seen m ∷ []) before ∙
    ap (λ (x : List ℕ × List ℕ). (front ++ map (module_at i) (below j)) ++ x ∷ []) e ∙
    append_assoc front (map (module_at i) (below j)) (module_at i j ∷ []) ∙
    ap (λ (v : List (List ℕ × List ℕ)). front ++ v) (sym (map-append (module_at i) (below j) (j ∷ []))))
