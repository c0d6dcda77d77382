-- Whether something occurs at all.
use Rattle.std.specs.Prelude.{ℕ, Bool, true, false, cond, eqb}

abbrev pub is_some : ℕ → Bool
is_some n = cond (eqb n 0) false true
