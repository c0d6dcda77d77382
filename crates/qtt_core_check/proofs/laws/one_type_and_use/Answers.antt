use Rattle.qtt_core_check.proofs.OneType.{one-type}
use Rattle.qtt_core_check.proofs.OneUse.{one-accepted, one-use}
use Rattle.qtt_core_check.proofs.laws.one_type_and_use.Goals as goal

pub returns : goal.returns
returns c = λ E bodies. record {
  type = λ p r Γ t A B u w h k. one-type E bodies t p r Γ A B u w h k;
  accepted_uses = λ Γ t A B u w h k. one-accepted E t Γ A B u w h k;
  uses = λ Γ t A B u w n h k. one-use E t n Γ A B u w h k;
}
