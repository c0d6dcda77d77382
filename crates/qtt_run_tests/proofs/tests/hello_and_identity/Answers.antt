use Rattle.qtt_programs.proofs.Worked.{hello-runs, identity-runs}
use Rattle.qtt_run_tests.proofs.tests.hello_and_identity.Goals as goal

pub rows-requires-clause-runnable : goal.rows-requires-clause-runnable
rows-requires-clause-runnable g c κs = hello-runs _ _ c.in_ok-hello.ensures c.item.ensures

pub rows-requires-2-clause-runnable : goal.rows-requires-2-clause-runnable
rows-requires-2-clause-runnable g c κs = identity-runs _ _ c.in_ok-identity.ensures c.item-2.ensures
