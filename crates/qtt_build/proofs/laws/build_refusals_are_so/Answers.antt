use Rattle.qtt_build.proofs.Refusals.{build_refusals_are_so_holds}
use Rattle.qtt_build.proofs.laws.build_refusals_are_so.Goals as goal

pub returns : goal.returns
returns c = build_refusals_are_so_holds c.texts_keep_form_beside.ensures c.premises_are_false_so.ensures
