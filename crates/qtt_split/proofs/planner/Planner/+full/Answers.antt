use Rattle.std.proofs.Common.{◌≡◌, ◌∙◌, length, map, inl, inr, ap, sym, subst, arith}
use Rattle.std.proofs.lemmas.Grind.{common_steps}
use Rattle.std.proofs.lemmas.List.{length-map}
use Rattle.qtt_match.specs.Constructors.{named_constructor}
use Rattle.qtt_syntax.specs.Tree.{shapes}
use Rattle.qtt_syntax.specs.Tree.Shape.{constructor}
use Rattle.qtt_syntax.specs.View.{shape_of}
use Rattle.qtt_syntax.proofs.Rows.{constructor_view}
use Rattle.qtt_term.specs.Entries.{entries, env}
use Rattle.qtt_split.specs.Answers.{Reaches, Refuses, Gives}
use Rattle.qtt_split.specs.Plan.{has_count, full, all_full, shape_count}
use Rattle.qtt_split.proofs.Within.{on_done, passed, here, tail}
use Rattle.qtt_split.proofs.Walked.{filled_patterns, patterns-walk, one-walked, walk-stopped, all-walked, fields-full, fields-counted}
use Rattle.qtt_split.proofs.planner.Planner.+full.Goals as goal

pub full-returns-in_err-has_count-in-Constructor : goal.full-returns-in_err-has_count-in-Constructor
full-returns-in_err-has_count-in-Constructor g t c =
    let K = entries c.args.self.now.unifier.globals.now in
    let E = env K in
    let n = c.args.self.now.unifier.budget in
    let x = c.in-Constructor in
    let ps = map shape_of x.arguments.items in
    let e = c.in_err-has_count-in-Constructor.field-0.0 in
    let form : shape_of c.args.pattern.now ≡ constructor x.mark x.head (shapes ps) x.span =
    ap shape_of x.is ∙ constructor_view x.mark x.head x.arguments x.span in
    let count : c.len.result ≡ length ps =
    grind (arith, common_steps, length-map x.arguments.items shape_of, c.len.ensures) in
    let named = named_constructor K.families x.head.target in
    passed E n _ _ c.from_residual.result e c.from_residual.ensures.1
    (subst (λ s. Refuses E n (full K s) e) (sym form)
    (here E n (has_count K named (shape_count (shapes ps)) x.span) (λ u. all_full K (shapes ps)) e
    (subst (λ k. Refuses E n (has_count K named k x.span) e) (count ∙ sym (fields-counted ps))
    c.in_err-has_count-in-Constructor.ensures)))

pub full-returns-in_ok-has_count-in-Constructor : goal.full-returns-in_ok-has_count-in-Constructor
full-returns-in_ok-has_count-in-Constructor g t c =
    let K = entries c.args.self.now.unifier.globals.now in
    let E = env K in
    let n = c.args.self.now.unifier.budget in
    let x = c.in-Constructor in
    let ps = map shape_of x.arguments.items in
    let form : shape_of c.args.pattern.now ≡ constructor x.mark x.head (shapes ps) x.span =
    ap shape_of x.is ∙ constructor_view x.mark x.head x.arguments x.span in
    let count : c.len.result ≡ length ps =
    grind (arith, common_steps, length-map x.arguments.items shape_of, c.len.ensures) in
    let named = named_constructor K.families x.head.target in
    let view : Unit {0} → Unit {0} = λ u. u in
    subst (λ s. Gives E n (full K s) view c.patterns_full.result) (sym form)
    (tail E n (has_count K named (shape_count (shapes ps)) x.span) (λ u. all_full K (shapes ps)) view
    c.patterns_full.result
    (subst (λ k. Reaches E n (has_count K named k x.span) tt) (count ∙ sym (fields-counted ps))
    c.in_ok-has_count-in-Constructor.ensures)
    (subst (λ m. Gives E n m view c.patterns_full.result)
    (ap (filled_patterns K) c.deref.ensures.value ∙ sym (fields-full K ps)) c.patterns_full.ensures))

pub full-returns-in-Variable : goal.full-returns-in-Variable
full-returns-in-Variable g t c =
    let K = entries c.args.self.now.unifier.globals.now in
    let n = c.args.self.now.unifier.budget in
    elim c.in-Variable.is [
      | inl w ↦ subst (λ p. Reaches (env K) n (full K (shape_of p)) tt) (sym w.3) on_done
      | inr v ↦ elim v [
        | inl w ↦ subst (λ p. Reaches (env K) n (full K (shape_of p)) tt) (sym w.2) on_done
        | inr w ↦ subst (λ p. Reaches (env K) n (full K (shape_of p)) tt) (sym w.3) on_done
      ]
    ]

pub patterns_full-returns-in_err-full : goal.patterns_full-returns-in_err-full
patterns_full-returns-in_err-full g t c =
    let K = entries c.args.self.now.unifier.globals.now in
    let E = env K in
    let n = c.args.self.now.unifier.budget in
    let e = c.in_err-full.field-0.0 in
    passed E n _ _ c.from_residual.result e c.from_residual.ensures.1
    (walk-stopped E n (filled_patterns K) (λ p. full K (shape_of p)) c.args.patterns.now c.loop-pattern.pattern-index
    c.pattern-item.result e (patterns-walk K) c.loop-pattern-test.true c.pattern-item.is c.in_err-full.ensures
    c.loop-pattern.invariant)

pub patterns_full-loop-pattern-preserved : goal.patterns_full-loop-pattern-preserved
patterns_full-loop-pattern-preserved g t c =
    let K = entries c.args.self.now.unifier.globals.now in
    one-walked (env K) c.args.self.now.unifier.budget (filled_patterns K) (λ p. full K (shape_of p))
    c.args.patterns.now c.loop-pattern.pattern-index c.pattern-item.result (patterns-walk K) c.loop-pattern-test.true
    c.pattern-item.is c.in_ok-full.ensures c.loop-pattern.invariant

pub patterns_full-returns : goal.patterns_full-returns
patterns_full-returns g t c =
    let K = entries c.args.self.now.unifier.globals.now in
    all-walked (env K) c.args.self.now.unifier.budget (filled_patterns K) (λ p. full K (shape_of p))
    c.args.patterns.now c.loop-pattern.pattern-index (patterns-walk K) c.loop-pattern-test.false
    c.loop-pattern.invariant
