use Rattle.std.proofs.Common.{Ok, subst, refl}
use Rattle.qtt_syntax.specs.View.{tree_of}
use Rattle.qtt_term.specs.Contexts.{part}
use Rattle.qtt_term.specs.Entries.{entries, env}
use Rattle.qtt_term.specs.Scope.{scope_of}
use Rattle.qtt_term.specs.View.{term}
use Rattle.qtt_term.proofs.Kept.{globals-closed}
use Rattle.qtt_rules.specs.declared.errors.ElabError.TheVariants as error
use Rattle.qtt_rules.specs.Judged.{Mode}
use Rattle.qtt_bidi.specs.Answers.{Reaches, Refuses}
use Rattle.qtt_bidi.specs.Elaborated.{checked_as}
use Rattle.qtt_bidi.specs.Elaboration.{judge}
use Rattle.qtt_bidi.specs.Seen.{judged_as}
use Rattle.qtt_bidi.proofs.Meant.{elaborated, checked-type}
use Rattle.qtt_bidi.proofs.Within.{passed, memory-passed, reached, same-judged}
use Rattle.qtt_bidi.proofs.calls.check.Goals as goal

pub returns-in_err-copy : goal.returns-in_err-copy
returns-in_err-copy g c =
    let A = term c.args.ty.now in
    elaborated (entries c.args.globals.now) c.args.budget (part c.args.sigma) (scope_of c.args.context.now)
    (Mode.check A) (tree_of c.args.e.now) (globals-closed c.args.globals.now) (checked_as A) c.from_residual.result
    (memory-passed (env (entries c.args.globals.now)) c.args.budget _ (checked_as A) c.from_residual.result error.Memory
    c.from_residual.ensures.1 refl)

pub returns-in_err-found : goal.returns-in_err-found
returns-in_err-found g c =
    let G = entries c.args.globals.now in
    let A = term c.args.ty.now in
    let e = c.in_err-found.field-0.0 in
    let J = λ (m : Mode). judge G (part c.args.sigma) (scope_of c.args.context.now) m (tree_of c.args.e.now) in
    elaborated G c.args.budget (part c.args.sigma) (scope_of c.args.context.now)
    (Mode.check A) (tree_of c.args.e.now) (globals-closed c.args.globals.now) (checked_as A)
    c.from_residual-in_err-found.result
    (passed (env G) c.args.budget (J (Mode.check A)) (checked_as A) c.from_residual-in_err-found.result e
    c.from_residual-in_err-found.ensures.1
    (subst (λ A. Refuses (env G) c.args.budget (J (Mode.check A)) e) c.in_ok-copy.ensures c.in_err-found.ensures.gives))

pub returns : goal.returns
returns g c =
    let G = entries c.args.globals.now in
    let A = term c.args.ty.now in
    let j = c.in_ok-found.found in
    let J = λ (m : Mode). judge G (part c.args.sigma) (scope_of c.args.context.now) m (tree_of c.args.e.now) in
    let h = subst (λ A. Reaches (env G) c.args.budget (J (Mode.check A)) (judged_as j)) c.in_ok-copy.ensures
    c.in_ok-found.ensures.gives in
    elaborated G c.args.budget (part c.args.sigma) (scope_of c.args.context.now)
    (Mode.check A) (tree_of c.args.e.now) (globals-closed c.args.globals.now) (checked_as A)
    (Ok (record { core = j.core; usage = j.uses }))
    (reached h (same-judged (checked-type G c.args.budget (part c.args.sigma) (scope_of c.args.context.now) A
    (tree_of c.args.e.now) (judged_as j) h) refl refl))
