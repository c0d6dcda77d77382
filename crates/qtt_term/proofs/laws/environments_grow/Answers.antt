use Rattle.std.proofs.Common.{refl}
use Rattle.qtt_term.specs.Items.{family_id, definition_id, given_body}
use Rattle.qtt_term.proofs.Order.{with_id-inserted, with_id-all_inserted, with_id-changed, disjoint-insert}
use Rattle.qtt_term.proofs.Giving.{given-inserted}
use Rattle.qtt_term.proofs.laws.environments_grow.Goals as goal

pub returns : goal.returns
returns c = record {
  family = λ F Fs new_id f. with_id-inserted family_id F Fs f new_id;
  definition = λ D Ds new_id d. with_id-inserted definition_id D Ds d new_id;
  families = λ Fs Gs up apart f. with_id-all_inserted family_id Fs Gs f (disjoint-insert family_id Fs Gs up apart);
  definitions = λ Ds Es up apart d. with_id-all_inserted definition_id Ds Es d
      (disjoint-insert definition_id Ds Es up apart);
  constructors = given-inserted;
  body = λ i b Ds d. with_id-changed definition_id i (given_body b) d Ds (λ D. refl);
}
