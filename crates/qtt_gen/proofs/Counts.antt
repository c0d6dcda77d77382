-- How many modules are generated.
use Rattle.std.proofs.Common.{◌≡◌, ℕ, zero, suc, ◌+◌, ◌*◌, [], ◌∷◌, ◌++◌, length, refl, arith, length-append}
use Rattle.std.specs.List.{flat_map}
use Rattle.std.proofs.lemmas.Grind.{flat_map-append}
use Rattle.qtt_gen.specs.Generated.{below, modules_of, generated}

four_more : (n : ℕ) → length (flat_map modules_of (below n)) ≡ 4 * n →
    length (flat_map modules_of (below n ++ n ∷ [])) ≡ 4 * suc n
four_more n e = rw (flat_map-append modules_of (below n) (n ∷ []), length-append) (omega (arith, e))

pub counted : (n : ℕ) → length (flat_map modules_of (below n)) ≡ 4 * n
counted zero = refl
counted (suc n) = four_more n (counted n)

-- 4 modules for each number below n, and Main
pub modules_counted : (n : ℕ) → length (generated n) ≡ 4 * n + 1
modules_counted n = rw (length-append, counted n) (omega arith)
