use Rattle.qtt_programs.proofs.Worked.{echo-runs}
use Rattle.qtt_run_tests.proofs.tests.failing_pulls.Goals as goal

pub left-requires-clause-runnable : goal.left-requires-clause-runnable
left-requires-clause-runnable g c κs = echo-runs _ _ c.in_ok-echo.ensures c.item.ensures
