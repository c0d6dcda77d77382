use Rattle.std.proofs.Common.{sym, ◌∙◌, ap, subst, option_map}
use Rattle.std.specs.Prelude.{◌++◌, ◌∷◌, []}
use Rattle.qtt_term.specs.Contexts.{part}
use Rattle.qtt_term.specs.Entries.{entries, env}
use Rattle.qtt_rules.specs.Refusal.{at}
use Rattle.qtt_bidi.specs.Answers.{Reaches, Refuses}
use Rattle.qtt_bidi.specs.Elaboration.{bound_name}
use Rattle.qtt_bidi.proofs.Within as within
use Rattle.qtt_holes.specs.Walk.{fit_before}
use Rattle.qtt_holes.proofs.Fits.{stands-passed}
use Rattle.qtt_holes.proofs.walker.Walker.passed.Goals as goal

pub returns-in_err-fit_before-clause-gives : goal.returns-in_err-fit_before-clause-gives
returns-in_err-fit_before-clause-gives g c =
    let E = env (entries c.args.self.now.elaborator.globals.now) in
    let N = c.args.self.now.elaborator.budget in
    let p = part c.args.self.now.sigma in
    let x = bound_name (option_map (λ x. x.now) c.args.name) in
    let w = at c.args.span c.args.rule c.args.number in
    let e = c.in_err-fit_before.field-0.0 in
    within.passed E N _ _ c.from_residual.result e c.from_residual.ensures.1
    (subst (λ us. Refuses E N (fit_before p x c.args.declared us w) e) (sym c.pop-used.ensures)
    (c.in_err-fit_before.ensures _))

pub returns-clause-gives : goal.returns-clause-gives
returns-clause-gives g c =
    let E = env (entries c.args.self.now.elaborator.globals.now) in
    let N = c.args.self.now.elaborator.budget in
    let p = part c.args.self.now.sigma in
    let x = bound_name (option_map (λ x. x.now) c.args.name) in
    let w = at c.args.span c.args.rule c.args.number in
    subst (λ us. Reaches E N (fit_before p x c.args.declared us w) tt) (sym c.pop-used.ensures)
    (c.in_ok-fit_before.ensures _)

pub returns-clause-stands : goal.returns-clause-stands
returns-clause-stands g c =
    λ w s.
    let p = part c.args.self.now.sigma in
    let f = c.args.found in
    stands-passed p c.args.declared c.pop-used.result c.pop-used.new.self _ f w c.pop-used.ensures
    (c.in_ok-push.ensures.items ∙ ap (λ l. f.left.items ++ l ∷ []) c.left_of.ensures) s
