use Rattle.std.proofs.Common.{◌∙◌, sym, ap, subst}
use Rattle.qtt_term.specs.Contexts.{part}
use Rattle.qtt_term.specs.Entries.{entries, env}
use Rattle.qtt_term.specs.Infer.{usable}
use Rattle.qtt_term.specs.Term.{Def}
use Rattle.qtt_term.specs.declared.rule.Rule.TheVariants as rule
use Rattle.qtt_rules.specs.Refusal.{Cause, at}
use Rattle.qtt_bidi.specs.Answers.{Fails}
use Rattle.qtt_bidi.specs.Elaboration.{definition_row}
use Rattle.qtt_bidi.specs.Seen.{locals, judged_as}
use Rattle.qtt_bidi.proofs.Seeing.{def-seen}
use Rattle.qtt_bidi.proofs.Within.{on, on_done, fails_here, holds, unmet, reached, finished, same-judged, memory-passed}
use Rattle.std.proofs.Common.{refl}
use Rattle.qtt_bidi.proofs.premises.Elaborator.definition_row.Goals as goal

pub returns-in_err-declared-clause-gives : goal.returns-in_err-declared-clause-gives
returns-in_err-declared-clause-gives g c =
    memory-passed _ _ _ _ c.from_residual.result c.in_err-declared.field-0.0 c.from_residual.ensures.1
    c.in_err-declared.ensures.memory

pub returns-then-not-usable-clause-gives : goal.returns-then-not-usable-clause-gives
returns-then-not-usable-clause-gives g c =
    let G = entries c.args.self.now.globals.now in
    let S = locals c.args.scope.now in
    let d = c.args.id in
    let u = c.usable.ensures ∙ ap (usable (part c.args.sigma)) c.in_ok-declared.ensures.mult in
    let M = definition_row G (part c.args.sigma) S c.args.span d in
    let w = at c.args.span rule.Global 1 in
    subst (λ t. Fails (env G) c.args.self.now.budget M (Cause.erased_use c.in_ok-depth.depth t) w) (sym (def-seen d))
    (subst (λ n. Fails (env G) c.args.self.now.budget M (Cause.erased_use n (Def d)) w) (sym c.in_ok-depth.ensures)
    (fails_here _ (unmet _ _ _ (sym u ∙ c.if-not-usable.true))))

pub returns-clause-gives : goal.returns-clause-gives
returns-clause-gives g c =
    let u = c.usable.ensures ∙ ap (usable (part c.args.sigma)) c.in_ok-declared.ensures.mult in
    finished _ judged_as c.plain.result
    (reached (on _ (holds _ _ _ (sym u ∙ c.if-not-usable.false)) on_done)
    (same-judged (sym c.in_ok-declared.ensures.ty) (sym (def-seen c.args.id)) refl))
    c.plain.ensures.gives
