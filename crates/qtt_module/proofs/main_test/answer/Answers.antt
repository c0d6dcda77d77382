use mathlib.Core.Path.{ap₂}
use Rattle.qtt_term.specs.Ask.{within}
use Rattle.qtt_term.specs.Entries.{entries, env}
use Rattle.qtt_module.specs.Module.{check_main}
use Rattle.qtt_module.specs.TextCalls.{accepted_of}
use Rattle.qtt_module.proofs.Passing.{refused-here}
use Rattle.qtt_module.proofs.Telling.{told-gives}
use Rattle.qtt_module.proofs.main_test.answer.Goals as goal

pub returns-in_ok-names-in-Err : goal.returns-in_ok-names-in-Err
returns-in_ok-names-in-Err g c =
    let G = entries c.args.globals.now in
    let H = entries c.in_ok-names-in-Err.names in
    let A = accepted_of c.args.checked.now in
    let n = c.args.budget in
    let e = c.in-Err.error in
    let same = ap₂ (λ Fs ds. record { families = Fs; definitions = ds })
    c.in_ok-names-in-Err.ensures.families c.in_ok-names-in-Err.ensures.definitions in
    told-gives A.exports.name n G (within (env G) n (check_main G A.header A.checked)) (λ d. d) H c.told.result e
    (refused-here (env G) n (check_main G A.header A.checked) H G e c.in-Err.ensures.gives (λ d h. same))
    c.told.ensures
