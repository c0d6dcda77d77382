-- What the code answers, where a filling answers a value with what is left, or stops.
use Rattle.std.specs.Prelude.{◌≡◌, ℕ, Result, Ok, Err}
use Rattle.qtt_implicit.specs.Filling.{Stop}
use Rattle.qtt_implicit.specs.declared.filling.stop.Stop as stop_code
use Rattle.qtt_implicit.specs.declared.filling.stop.Stop.TheVariants as code

-- the same stop; want of memory alone is free
abbrev pub IsStop : {A : Type 0} → stop_code.Stop → Result (A × ℕ) Stop → Type 0
IsStop (code.Unsolved n s) o = o ≡ Err (Stop.unsolved n.now s)
IsStop (code.Braces k m s) o = o ≡ Err (Stop.braces k m s)
IsStop code.TooLarge o = o ≡ Err Stop.too_large
IsStop code.Memory o = Unit {0}

-- a value that stands for the filling's, with what is left, or the same stop
abbrev pub Meets : {X A : Type 0} → (X → A) → Result X stop_code.Stop → Result (A × ℕ) Stop → ℕ → Type 0
Meets view (Ok x) o left = o ≡ Ok (view x, left)
Meets view (Err e) o left = IsStop e o
