use Rattle.qtt_programs.proofs.Worked.{handles-runs, closing-later-runs, trapping-runs}
use Rattle.qtt_run_tests.proofs.tests.tapes.Goals as goal

pub rows-requires-clause-runnable : goal.rows-requires-clause-runnable
rows-requires-clause-runnable g c κs = handles-runs _ _ c.in_ok-handles.ensures c.item.ensures

pub rows-requires-2-clause-runnable : goal.rows-requires-2-clause-runnable
rows-requires-2-clause-runnable g c κs = closing-later-runs _ _ c.in_ok-closing_later.ensures c.item-2.ensures

pub rows-requires-3-clause-runnable : goal.rows-requires-3-clause-runnable
rows-requires-3-clause-runnable g c κs = trapping-runs _ _ c.in_ok-trapping.ensures c.item-3.ensures
