-- The values of generated modules are numbers of 64 bits.
use Rattle.std.proofs.Common.{ℕ, zero, suc, ℤ, rules, w64, FitsSigned}
use Rattle.qtt_gen.specs.Generated.{next, step, value}

step_fits : (i j : ℕ) (x : ℤ) → FitsSigned w64 (step i j x)
step_fits i j x = search rules

pub value_fits : (i j : ℕ) (x : ℤ) → FitsSigned w64 (value i j x)
value_fits zero j x = step_fits 0 j x
value_fits (suc i) j x = value_fits i (next j) (step (suc i) j x)
