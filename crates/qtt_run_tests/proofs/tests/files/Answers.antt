use Rattle.qtt_programs.proofs.Worked.{echo-runs, handles-runs}
use Rattle.qtt_run_tests.proofs.tests.files.Goals as goal

pub run_over-requires-clause-runnable : goal.run_over-requires-clause-runnable
run_over-requires-clause-runnable g c κs = echo-runs _ _ c.in_ok-echo.ensures c.item.ensures

pub run_over-requires-2-clause-runnable : goal.run_over-requires-2-clause-runnable
run_over-requires-2-clause-runnable g c κs = handles-runs _ _ c.in_ok-handles.ensures c.item-2.ensures
