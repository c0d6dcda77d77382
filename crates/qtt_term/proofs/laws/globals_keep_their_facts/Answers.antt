use Rattle.qtt_term.proofs.Kept.{globals-closed, globals-counted}
use Rattle.qtt_term.proofs.laws.globals_keep_their_facts.Goals as goal

pub returns : goal.returns
returns c g = record {
  bodies_closed = globals-closed g;
  results_counted = globals-counted g;
  families_ascend = g.families_ascend;
  definitions_ascend = g.definitions_ascend;
}
