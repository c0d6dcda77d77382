use Rattle.qtt_programs.proofs.Worked.{two-lines-runs}
use Rattle.qtt_run_tests.proofs.tests.failing_puts.Goals as goal

pub rows-requires-clause-runnable : goal.rows-requires-clause-runnable
rows-requires-clause-runnable g c κs = two-lines-runs _ _ c.in_ok-two_lines.ensures c.item-main.ensures

pub left-requires-clause-runnable : goal.left-requires-clause-runnable
left-requires-clause-runnable g c κs = two-lines-runs _ _ c.in_ok-two_lines.ensures c.item-main.ensures
