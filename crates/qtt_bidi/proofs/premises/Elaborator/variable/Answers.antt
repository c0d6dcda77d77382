use Rattle.std.proofs.Common.{◌∙◌, sym, refl, ap, subst}
use Rattle.qtt_term.specs.Contexts.{part}
use Rattle.qtt_term.specs.Entries.{entries, env}
use Rattle.qtt_term.specs.Infer.{usable, use_at}
use Rattle.qtt_term.specs.Term.{var}
use Rattle.qtt_term.specs.View.{term}
use Rattle.qtt_term.specs.declared.rule.Rule.TheVariants as rule
use Rattle.qtt_core_check.proofs.Views.{var-seen}
use Rattle.qtt_rules.specs.Refusal.{Cause, at}
use Rattle.qtt_bidi.specs.Answers.{Fails}
use Rattle.qtt_bidi.specs.Elaboration.{stands_for}
use Rattle.qtt_bidi.specs.Seen.{locals}
use Rattle.qtt_bidi.proofs.Within.{on, on_done, fails_here, holds, unmet, reached, same-judged}
use Rattle.qtt_bidi.proofs.premises.Elaborator.variable.Goals as goal

pub returns-then-not-usable-clause-gives : goal.returns-then-not-usable-clause-gives
returns-then-not-usable-clause-gives g c =
    let G = entries c.args.self.now.globals.now in
    let S = locals c.args.scope.now in
    let i = c.args.index in
    let u = c.usable.ensures ∙ ap (usable (part c.args.sigma)) c.mult.ensures in
    let M = stands_for G (part c.args.sigma) S c.args.span (var i) (term c.args.ty) in
    let w = at c.args.span rule.Var 1 in
    subst (λ t. Fails (env G) c.args.self.now.budget M (Cause.erased_use c.in_ok-depth.depth t) w) (sym (var-seen i))
    (subst (λ n. Fails (env G) c.args.self.now.budget M (Cause.erased_use n (var i)) w) (sym c.in_ok-depth.ensures)
    (fails_here _ (unmet _ _ _ (sym u ∙ c.if-not-usable.true))))

pub returns-clause-gives : goal.returns-clause-gives
returns-clause-gives g c =
    let u = c.usable.ensures ∙ ap (usable (part c.args.sigma)) c.mult.ensures in
    reached (on _ (holds _ _ _ (sym u ∙ c.if-not-usable.false)) on_done)
    (same-judged refl (sym (var-seen c.args.index))
    (ap (λ n. use_at (part c.args.sigma) n c.args.index) (sym c.in_ok-depth.ensures)
    ∙ sym c.in_ok-uses.ensures.uses))
