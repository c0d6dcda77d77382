use Rattle.qtt_cli.proofs.Rows.{answer-rows}
use Rattle.qtt_cli.proofs.examples.answers_as_worked.Goals as goal

pub returns : goal.returns
returns c = answer-rows (record {
  derived = c.accepted_is_derived.ensures;
  reasons = c.refused_for_reason.ensures;
  lacking = c.absent_is_told.ensures;
  evaluations = c.runs_are_evaluations.ensures;
  complete = c.derived_goes_on.ensures;
  generated = c.generated_lack_none.ensures;
  jobs = c.jobs_change_nothing.ensures;
})
