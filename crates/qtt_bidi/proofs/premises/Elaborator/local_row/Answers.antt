use Rattle.std.proofs.Common.{◌∙◌, sym, ap, subst}
use Rattle.std.specs.Prelude.{option_map}
use Rattle.qtt_term.specs.Contexts.{part}
use Rattle.qtt_term.specs.Entries.{entries, env}
use Rattle.qtt_term.specs.View.{term}
use Rattle.qtt_bidi.specs.Answers.{Gives}
use Rattle.qtt_bidi.specs.Elaboration.{local_row as asks_local, stands_for}
use Rattle.qtt_bidi.specs.Seen.{locals, stands, judged_as}
use Rattle.qtt_bidi.proofs.Scopes.{name-here}
use Rattle.qtt_bidi.proofs.premises.Elaborator.local_row.Goals as goal

pub returns-in-Some-as_variable-clause-gives : goal.returns-in-Some-as_variable-clause-gives
returns-in-Some-as_variable-clause-gives g c =
    let G = entries c.args.self.now.globals.now in
    let p = part c.args.sigma in
    let S = locals c.args.scope.now in
    let found = name-here c.in_ok-stands.field-0 S.names c.args.index (c.in_ok-stands.ensures) ∙
    ap (option_map stands) c.in-Some.is in
    subst (λ o. Gives (env G) c.args.self.now.budget (asks_local G p S c.args.span o) judged_as c.variable.result)
    (sym found)
    (subst (λ t. Gives (env G) c.args.self.now.budget (stands_for G p S c.args.span t (term c.in-Some.ty)) judged_as
    c.variable.result) (sym (c.in-Some-as_variable.ensures)) c.variable.ensures.gives)

pub returns-in-None-clause-gives : goal.returns-in-None-clause-gives
returns-in-None-clause-gives g c =
    let G = entries c.args.self.now.globals.now in
    let p = part c.args.sigma in
    let S = locals c.args.scope.now in
    let found = name-here c.in_ok-stands.field-0 S.names c.args.index (c.in_ok-stands.ensures) ∙
    ap (option_map stands) c.in-Some.is in
    subst (λ o. Gives (env G) c.args.self.now.budget (asks_local G p S c.args.span o) judged_as c.standing.result)
    (sym found) c.standing.ensures.gives
