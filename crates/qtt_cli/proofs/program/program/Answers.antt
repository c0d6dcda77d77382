use Rattle.std.proofs.Common.{map}
use Rattle.std.proofs.lemmas.Result.{err_from_is_err_and}
use Rattle.qtt_module.specs.TextCalls.{accepted_of}
use Rattle.qtt_build.specs.Answer.{built_of}
use Rattle.qtt_cli.specs.Commands.{built_over, over_build}
use Rattle.qtt_cli.specs.Stops as stops
use Rattle.qtt_cli.specs.Views.{program_of}
use Rattle.qtt_cli.proofs.Answered.{answers-built, answers-unbuilt, answers-given, answers-stop}
use Rattle.qtt_cli.proofs.Programs.{stands-there, code-given}
use Rattle.qtt_cli.proofs.program.program.Goals as goal

pub returns-in_err-built-clause-answers : goal.returns-in_err-built-clause-answers
returns-in_err-built-clause-answers g c =
    let told = g.V.Vault.texts c.args.vault.now in
    let root = c.args.root.now in
    let n = c.args.request.now.budget in
    let e = c.in_err-built.field-0.0 in
    let p = err_from_is_err_and c.from_residual.result c.from_residual.ensures.1 in
    rw (p.1, p.2)
    (answers-stop told (built_over root n) built_of (over_build root n) program_of (stops.of_build e)
    (answers-unbuilt told root n e c.in_err-built.ensures.builds))

pub program_over-requires-after_bounds : goal.program_over-requires-after_bounds
program_over-requires-after_bounds g c κs within =
    let b = c.in_ok-built.built in
    stands-there (map accepted_of b.order.items) c.args.root.now b.root c.in_ok-built.ensures.builds.1

pub returns-clause-answers : goal.returns-clause-answers
returns-clause-answers g c =
    let told = g.V.Vault.texts c.args.vault.now in
    let root = c.args.root.now in
    let n = c.args.request.now.budget in
    let b = c.in_ok-built.built in
    answers-given told (built_over root n) (built_of b) (over_build root n) program_of c.program_over.result
    (answers-built told root n b c.in_ok-built.ensures.builds) c.program_over.ensures.gives

pub returns-clause-code : goal.returns-clause-code
returns-clause-code g c =
    let b = c.in_ok-built.built in
    let i = c.in_ok-built.ensures.builds.0 in
    code-given c.mains_may_run.ensures c.compiled_is_code.ensures.main i.0 c.args.root.now c.args.request.now.budget b
    i.2 c.program_over.result c.program_over.ensures.gives c.program_over.ensures.built c.program_over.ensures.code
