use Rattle.qtt_term.specs.Globals.{env}
use Rattle.qtt_run_tests.proofs.tests.running.run_over.Goals as goal

pub run_program-requires-clause-code : goal.run_program-requires-clause-code
run_program-requires-clause-code g c =
    let r = c.requires.runnable in (
      env c.args.globals.now,
      c.compiled_is_code.ensures.main c.args.globals.now c.in_ok-compiled.compiled c.args.main
          c.in_ok-compiled.ensures r.formed r.complete r.is_main,
    )
