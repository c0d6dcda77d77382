use Rattle.std.proofs.Common.{Ok, ap, sym}
use Rattle.std.proofs.lemmas.Result.{err_from_is_err_and}
use Rattle.qtt_build.specs.Answer.{built_of}
use Rattle.qtt_outcome.specs.Outcome.{core_text}
use Rattle.qtt_cli.specs.Commands.{built_over}
use Rattle.qtt_cli.specs.Stops as stops
use Rattle.qtt_cli.specs.Views.{bytes_of}
use Rattle.qtt_cli.proofs.Answered.{answers-built, answers-unbuilt, answers-then, answers-stop}
use Rattle.qtt_cli.proofs.printing.core.Goals as goal

pub returns-in_err-built-clause-answers : goal.returns-in_err-built-clause-answers
returns-in_err-built-clause-answers g c =
    let told = g.V.Vault.texts c.args.vault.now in
    let root = c.args.root.now in
    let n = c.args.request.now.budget in
    let e = c.in_err-built.field-0.0 in
    let p = err_from_is_err_and c.from_residual.result c.from_residual.ensures.1 in
    rw (p.1, p.2)
    (answers-stop told (built_over root n) built_of (λ B. Ok (core_text B root)) bytes_of (stops.of_build e)
    (answers-unbuilt told root n e c.in_err-built.ensures.builds))

pub returns-clause-answers : goal.returns-clause-answers
returns-clause-answers g c =
    let told = g.V.Vault.texts c.args.vault.now in
    let root = c.args.root.now in
    let n = c.args.request.now.budget in
    let b = c.in_ok-built.built in
    answers-then told (built_over root n) built_of b (λ B. Ok (core_text B root)) bytes_of c.in_ok-core_text.field-0
    (answers-built told root n b c.in_ok-built.ensures.builds) (ap Ok (sym c.in_ok-core_text.ensures))
