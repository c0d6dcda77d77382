use Rattle.std.proofs.Common.{Ok, subst, sym, refl, map, reverse}
use Rattle.qtt_syntax.specs.View.{tree_of}
use Rattle.qtt_term.specs.Contexts.{part}
use Rattle.qtt_term.specs.Entries.{entries, env}
use Rattle.qtt_term.specs.Scope.{scope_of}
use Rattle.qtt_term.specs.View.{term}
use Rattle.qtt_term.proofs.Kept.{globals-closed}
use Rattle.qtt_rules.specs.declared.errors.ElabError.TheVariants as error
use Rattle.qtt_rules.specs.Report.{uses_pass}
use Rattle.qtt_bidi.specs.Answers.{Reaches, Refuses}
use Rattle.qtt_bidi.proofs.Within.{on, on_done, here, later, passed, memory-passed, reached}
use Rattle.qtt_holes.specs.Calls.{Ended}
use Rattle.qtt_holes.specs.Hole.{fits_before}
use Rattle.qtt_holes.specs.View.{hole, report_of}
use Rattle.qtt_holes.specs.Walk.{way}
use Rattle.qtt_holes.proofs.Answering.{answered}
use Rattle.qtt_holes.proofs.calls.walk.Goals as goal

pub returns-in_err-goal : goal.returns-in_err-goal
returns-in_err-goal g c =
    let r = c.from_residual.result in
    answered (entries c.args.globals.now) c.args.budget (part c.args.sigma) (scope_of c.args.context.now)
    (reverse c.args.names.now) (map report_of c.args.reports.now) (tree_of c.args.e.now) (term c.args.ty.now)
    (globals-closed c.args.globals.now) r
    (memory-passed (env (entries c.args.globals.now)) c.args.budget _ hole r error.Memory
    c.from_residual.ensures.1 refl)

pub returns-in_err-found : goal.returns-in_err-found
returns-in_err-found g c =
    let G = entries c.args.globals.now in
    let N = c.args.budget in
    let p = part c.args.sigma in
    let S = scope_of c.args.context.now in
    let ns = reverse c.args.names.now in
    let r = c.from_residual-in_err-found.result in
    let e = c.in_err-found.field-0.0 in
    answered G N p S ns (map report_of c.args.reports.now) (tree_of c.args.e.now) (term c.args.ty.now)
    (globals-closed c.args.globals.now) r
    (passed (env G) N _ hole r e c.from_residual-in_err-found.ensures.1
    (here _ _ _ _ _ (subst (λ A. Refuses (env G) N (way G p S ns (tree_of c.args.e.now) A) e) c.in_ok-goal.ensures
    c.in_err-found.ensures.gives)))

pub returns-in_err-uses_pass : goal.returns-in_err-uses_pass
returns-in_err-uses_pass g c =
    let G = entries c.args.globals.now in
    let N = c.args.budget in
    let p = part c.args.sigma in
    let S = scope_of c.args.context.now in
    let ns = reverse c.args.names.now in
    let rs = map report_of c.args.reports.now in
    let r = c.from_residual-in_err-uses_pass.result in
    let e = c.in_err-uses_pass.field-0.0 in
    let d = subst (λ A. Ended (env G) N (way G p S ns (tree_of c.args.e.now) A) c.in_ok-found.found)
    c.in_ok-goal.ensures c.in_ok-found.ensures.gives in
    answered G N p S ns rs (tree_of c.args.e.now) (term c.args.ty.now) (globals-closed c.args.globals.now) r
    (passed (env G) N _ hole r e c.from_residual-in_err-uses_pass.ensures.1
    (later _ _ _ _ _ d.reaches (here _ _ _ _ _
    (subst (λ us. Refuses (env G) N (uses_pass fits_before p S.vars us rs) e) d.stands.uses
    c.in_err-uses_pass.ensures))))

pub returns : goal.returns
returns g c =
    let G = entries c.args.globals.now in
    let N = c.args.budget in
    let p = part c.args.sigma in
    let S = scope_of c.args.context.now in
    let ns = reverse c.args.names.now in
    let rs = map report_of c.args.reports.now in
    let d = subst (λ A. Ended (env G) N (way G p S ns (tree_of c.args.e.now) A) c.in_ok-found.found)
    c.in_ok-goal.ensures c.in_ok-found.ensures.gives in
    answered G N p S ns rs (tree_of c.args.e.now) (term c.args.ty.now) (globals-closed c.args.globals.now)
    (Ok c.hole.result)
    (reached (on _ d.reaches (on _
    (subst (λ us. Reaches (env G) N (uses_pass fits_before p S.vars us rs) tt) d.stands.uses c.in_ok-uses_pass.ensures)
    on_done)) (sym (c.hole.ensures d.walked d.stands)))
