use Rattle.std.proofs.lemmas.Result.{err_from_is_err_and}
use Rattle.qtt_build.specs.Answer.{built_of}
use Rattle.qtt_cli.specs.Views.{code_program}
use Rattle.qtt_cli.proofs.Programs.{holes-refused, main-refused, code-refused, program-given}
use Rattle.qtt_cli.proofs.program.program_over.Goals as goal

pub returns-in_err-refuse_holes-clause-gives : goal.returns-in_err-refuse_holes-clause-gives
returns-in_err-refuse_holes-clause-gives g c =
    let p = err_from_is_err_and c.from_residual.result c.from_residual.ensures.1 in
    rw (p.1, p.2)
    (holes-refused c.args.root.now c.args.request.now.budget (built_of c.args.built) c.in_err-refuse_holes.field-0.0
    c.in_err-refuse_holes.ensures)

pub returns-in_err-main-clause-gives : goal.returns-in_err-main-clause-gives
returns-in_err-main-clause-gives g c =
    let p = err_from_is_err_and c.from_residual-in_err-main.result c.from_residual-in_err-main.ensures.1 in
    rw (p.1, p.2)
    (main-refused c.args.root.now c.args.request.now.budget (built_of c.args.built) c.in_ok-refuse_holes.field-0
    c.in_err-main.field-0.0 c.in_ok-refuse_holes.ensures c.in_err-main.ensures)

pub returns-in_err-compiled-clause-gives : goal.returns-in_err-compiled-clause-gives
returns-in_err-compiled-clause-gives g c =
    let p = err_from_is_err_and c.from_residual-in_err-compiled.result c.from_residual-in_err-compiled.ensures.1 in
    rw (p.1, p.2)
    (code-refused c.args.root.now c.args.request.now.budget (built_of c.args.built) c.in_ok-refuse_holes.field-0
    c.in_ok-main.main c.in_err-compiled.field-0.0 c.in_ok-refuse_holes.ensures c.in_ok-main.ensures
    c.in_err-compiled.ensures.gives)

pub returns-clause-gives : goal.returns-clause-gives
returns-clause-gives g c =
    program-given c.args.root.now c.args.request.now.budget (built_of c.args.built) c.in_ok-refuse_holes.field-0
    c.in_ok-main.main (code_program c.in_ok-compiled.compiled) c.in_ok-refuse_holes.ensures c.in_ok-main.ensures
    c.in_ok-compiled.ensures.gives
