use Rattle.std.proofs.Common.{Ok, sym, ap, ◌∙◌}
use Rattle.std.proofs.lemmas.Result.{err_from_is_err_and}
use Rattle.qtt_term.specs.Globals.{definitions}
use Rattle.qtt_code.specs.Listing.{listing}
use Rattle.qtt_cli.specs.Commands.{program_for, listed}
use Rattle.qtt_cli.specs.Views.{bytes_of, program_of}
use Rattle.qtt_cli.proofs.Answered.{answers-then, answers-stop}
use Rattle.qtt_cli.proofs.printing.code.Goals as goal

pub returns-in_err-program-clause-answers : goal.returns-in_err-program-clause-answers
returns-in_err-program-clause-answers g c =
    let told = g.V.Vault.texts c.args.vault.now in
    let e = c.in_err-program.field-0.0 in
    let p = err_from_is_err_and c.from_residual.result c.from_residual.ensures.1 in
    rw (p.1, p.2)
    (answers-stop told (program_for c.args.root.now c.args.request.now.budget) program_of (λ q. Ok (listed q)) bytes_of
    e c.in_err-program.ensures.answers)

pub returns-clause-answers : goal.returns-clause-answers
returns-clause-answers g c =
    let told = g.V.Vault.texts c.args.vault.now in
    let x = c.in_ok-program.program in
    answers-then told (program_for c.args.root.now c.args.request.now.budget) program_of x (λ q. Ok (listed q)) bytes_of
    c.in_ok-listing.field-0 c.in_ok-program.ensures.answers
    (ap Ok (sym (c.in_ok-listing.ensures ∙ ap (listing (definitions x.built.env)) c.program-2.ensures)))
