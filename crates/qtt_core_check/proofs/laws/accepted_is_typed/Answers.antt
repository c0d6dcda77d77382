use Rattle.qtt_core_check.proofs.Acceptance.{typed-of, dead-uses-nothing, accepted-of}
use Rattle.qtt_core_check.proofs.laws.accepted_is_typed.Goals as goal

pub returns : goal.returns
returns c = λ E. record {
  typed = λ p Γ t A u h. typed-of h;
  dead = λ p Γ t A u e h. dead-uses-nothing p Γ t A u e h;
  accepted = λ p Γ t A u h s n. accepted-of h s n;
}
