-- Laws of strict positivity.
use Rattle.std.specs.Prelude.{◌≡◌, ◌↔◌, ℕ, Some, None}
use Rattle.qtt_base.specs.declared.place.GlobalId.{GlobalId}
use Rattle.qtt_term.specs.Signature.{Family}
use Rattle.qtt_term.specs.Positivity.{Positive}
use Rattle.qtt_positive.specs.FirstBad.{first_bad, IsFirstBad}

-- the test is its relation
pub record FirstBadIsFirst : Type 0 where
  pub none : (f : GlobalId) (F : Family) → (first_bad f F ≡ None) ↔ Positive f F
  pub some : (f : GlobalId) (F : Family) (c k : ℕ) → (first_bad f F ≡ Some (c, k)) ↔ IsFirstBad f F c k
