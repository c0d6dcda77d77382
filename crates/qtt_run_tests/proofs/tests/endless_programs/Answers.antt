use Rattle.qtt_programs.proofs.Worked.{forever-runs, false-proof-runs}
use Rattle.qtt_run_tests.proofs.tests.endless_programs.Goals as goal

pub rows-requires-clause-runnable : goal.rows-requires-clause-runnable
rows-requires-clause-runnable g c κs = forever-runs _ _ c.in_ok-forever.ensures c.item.ensures

pub rows-requires-2-clause-runnable : goal.rows-requires-2-clause-runnable
rows-requires-2-clause-runnable g c κs = false-proof-runs _ _ c.in_ok-false_proof.ensures c.item-2.ensures
