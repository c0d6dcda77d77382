use Rattle.qtt_programs.proofs.Worked.{handles-runs, trapping-runs}
use Rattle.qtt_run_tests.proofs.tests.failing_tapes.Goals as goal

pub left-requires-clause-runnable : goal.left-requires-clause-runnable
left-requires-clause-runnable g c κs = handles-runs _ _ c.in_ok-handles.ensures c.item.ensures

pub left-requires-2-clause-runnable : goal.left-requires-2-clause-runnable
left-requires-2-clause-runnable g c κs = trapping-runs _ _ c.in_ok-trapping.ensures c.item-2.ensures
