use Rattle.std.proofs.Common.{◌≡◌, ◌∙◌, ◌+◌, ◌++◌, [], ◌∷◌, length, map, true, false, rules, sym, subst}
use Rattle.qtt_term.specs.Entries.{entries, env}
use Rattle.qtt_term.specs.Items.{constructor}
use Rattle.qtt_term.specs.Signature.{con_sigs, family_at}
use Rattle.qtt_unify.specs.View.{binders, verdict}
use Rattle.qtt_split.specs.Answers.{Reaches, Refuses}
use Rattle.qtt_split.specs.Divisions.{division_of, stuck_at_once}
use Rattle.qtt_split.specs.Split.{verdicts}
use Rattle.qtt_split.proofs.Tried.{VerdictsSoFar, asked, none-tried, one-tried, tried-stuck, try-refused, all-tried}
use Rattle.qtt_split.proofs.Within.{passed}
use Rattle.qtt_split.proofs.planner.Planner.verdicts.Goals as goal

pub loop-place-init : goal.loop-place-init
loop-place-init g c =
    let E = env (entries c.args.self.now.unifier.globals.now) in
    let n = c.args.self.now.unifier.budget in
    let D = division_of (binders c.args.node.now.context.items) c.args.division.now in
    let k = length (family_at E D.family).params in
    let ds = c.constructors_of-constructors.result.now in
    let none : c.in_ok-verdicts.verdicts.items ≡ [] = search rules in
    subst (λ vs. VerdictsSoFar E n D k ds 0 vs) (sym none) (none-tried E n D k ds)

pub returns-in_err-verdict : goal.returns-in_err-verdict
returns-in_err-verdict g c =
    let E = env (entries c.args.self.now.unifier.globals.now) in
    let n = c.args.self.now.unifier.budget in
    let D = division_of (binders c.args.node.now.context.items) c.args.division.now in
    let k = length (family_at E D.family).params in
    let ds = c.constructors_of-constructors.result.now in
    let d = c.index-constructors-place.result in
    let e = c.in_err-verdict.field-0.0 in
    passed E n _ _ c.from_residual-in_err-verdict.result e c.from_residual-in_err-verdict.ensures.1
    (subst (λ xs. Refuses E n (verdicts E D (con_sigs D.family k 0 xs)) e) c.constructors_of-constructors.ensures
    (try-refused E n D k ds c.loop-place.place c.loop-place.verdicts.items d e c.loop-place-test.true
    c.index-constructors-place.is
    (subst (λ j. Refuses E n (asked E n D k j (constructor d)) e) c.in_ok-number.ensures c.in_err-verdict.ensures)
    c.loop-place.invariant))

pub returns-then-ends : goal.returns-then-ends
returns-then-ends g c =
    let E = env (entries c.args.self.now.unifier.globals.now) in
    let n = c.args.self.now.unifier.budget in
    let D = division_of (binders c.args.node.now.context.items) c.args.division.now in
    let k = length (family_at E D.family).params in
    let ds = c.constructors_of-constructors.result.now in
    let d = c.index-constructors-place.result in
    let v = c.in_ok-verdict.verdict in
    let vs = c.loop-place.verdicts.items in
    let now : c.push.new.self.items ≡ vs ++ v ∷ [] = search rules in
    let stuck : stuck_at_once (verdict v) ≡ true = sym c.is_stuck-ends.ensures ∙ c.if-ends.true in
    subst (λ ws. Reaches E n (verdicts E D (con_sigs D.family k 0 (family_at E D.family).constructors))
    (map verdict ws)) (sym now)
    (subst (λ xs. Reaches E n (verdicts E D (con_sigs D.family k 0 xs)) (map verdict (vs ++ v ∷ [])))
    c.constructors_of-constructors.ensures
    (tried-stuck E n D k ds c.loop-place.place vs d v c.loop-place-test.true c.index-constructors-place.is
    (subst (λ j. Reaches E n (asked E n D k j (constructor d)) (verdict v)) c.in_ok-number.ensures
    c.in_ok-verdict.ensures) stuck c.loop-place.invariant))

pub loop-place-preserved : goal.loop-place-preserved
loop-place-preserved g c =
    let E = env (entries c.args.self.now.unifier.globals.now) in
    let n = c.args.self.now.unifier.budget in
    let D = division_of (binders c.args.node.now.context.items) c.args.division.now in
    let k = length (family_at E D.family).params in
    let ds = c.constructors_of-constructors.result.now in
    let d = c.index-constructors-place.result in
    let v = c.in_ok-verdict.verdict in
    let vs = c.loop-place.verdicts.items in
    let now : c.push.new.self.items ≡ vs ++ v ∷ [] = search rules in
    let goes : stuck_at_once (verdict v) ≡ false = sym c.is_stuck-ends.ensures ∙ c.if-ends.false in
    subst (λ ws. VerdictsSoFar E n D k ds (c.loop-place.place + 1) ws) (sym now)
    (one-tried E n D k ds c.loop-place.place vs d v c.loop-place-test.true c.index-constructors-place.is
    (subst (λ j. Reaches E n (asked E n D k j (constructor d)) (verdict v)) c.in_ok-number.ensures
    c.in_ok-verdict.ensures) goes c.loop-place.invariant)

pub returns : goal.returns
returns g c =
    let E = env (entries c.args.self.now.unifier.globals.now) in
    let n = c.args.self.now.unifier.budget in
    let D = division_of (binders c.args.node.now.context.items) c.args.division.now in
    let k = length (family_at E D.family).params in
    let ds = c.constructors_of-constructors.result.now in
    let vs = c.loop-place.verdicts.items in
    subst (λ xs. Reaches E n (verdicts E D (con_sigs D.family k 0 xs)) (map verdict vs))
    c.constructors_of-constructors.ensures
    (all-tried E n D k ds c.loop-place.place vs c.loop-place-test.false c.loop-place.invariant)
