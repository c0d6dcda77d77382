-- How often something occurs: never, once, or more often.
use Rattle.std.specs.Prelude.{ℕ, zero, suc, Bool, true, false}
use Rattle.qtt_unify.specs.declared.occurrences.Frequency.{Frequency}
use Rattle.qtt_unify.specs.declared.occurrences.Frequency.TheVariants.{Never, Once, Often}

abbrev pub how_often : ℕ → Frequency
how_often zero = Never
how_often (suc zero) = Once
how_often (suc (suc n)) = Often

abbrev pub both : Frequency → Frequency → Frequency
both Never o = o
both Once Never = Once
both Once Once = Often
both Once Often = Often
both Often o = Often

abbrev pub is_once : Frequency → Bool
is_once Never = false
is_once Once = true
is_once Often = false

abbrev pub is_never : Frequency → Bool
is_never Never = true
is_never Once = false
is_never Often = false
