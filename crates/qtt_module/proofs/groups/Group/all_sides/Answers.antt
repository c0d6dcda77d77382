use Rattle.std.proofs.Common.{map, sym, subst}
use mathlib.Core.Path.{ap₂}
use Rattle.qtt_term.specs.Contexts.{part}
use Rattle.qtt_term.specs.Entries.{env}
use Rattle.qtt_bidi.specs.Answers.{Refuses}
use Rattle.qtt_split.specs.Calls.{clause_of}
use Rattle.qtt_split.specs.Group.{sides_of}
use Rattle.qtt_holes.specs.View.{hole}
use Rattle.qtt_module.specs.Sides.{side_or_hole}
use Rattle.qtt_module.specs.GroupCalls.{globals_of, leaf_at, right_side, collected, none_collected, Gathered}
use Rattle.qtt_module.proofs.Gathering.{ClausesSoFar, collecting, no-clause, one-clause, refused-in, all-clauses, passed}
use Rattle.qtt_module.proofs.groups.Group.all_sides.Goals as goal

pub loop-place-init : goal.loop-place-init
loop-place-init g c =
    let G = globals_of c.args.self.now in
    let E = env G in
    let n = c.args.self.now.elaborator.budget in
    let side = side_or_hole G (part c.args.self.now.sigma) in
    let ls = map leaf_at c.args.leaves.now in
    let cs = c.args.self.now.clauses.now in
    let none = ap₂ (λ xs ys. collecting (map right_side xs) (map hole ys)) c.new.ensures.items c.new-2.ensures.items in
    subst (λ T. ClausesSoFar E n side ls cs 0 none_collected T) (sym none) (no-clause E n side ls cs none_collected)

pub returns-in_err-sides : goal.returns-in_err-sides
returns-in_err-sides g c =
    let G = globals_of c.args.self.now in
    let E = env G in
    let n = c.args.self.now.elaborator.budget in
    let side = side_or_hole G (part c.args.self.now.sigma) in
    let ls = map leaf_at c.args.leaves.now in
    let cs = c.args.self.now.clauses.now in
    let x = c.clause-item.result in
    let e = c.in_err-sides.field-0.0 in
    passed E n _ none_collected c.from_residual-in_err-sides.result e c.from_residual-in_err-sides.ensures.1
    (refused-in E n side ls cs c.loop-place.place x c.loop-place-test.true c.clause-item.is c.loop-place.invariant e
    (subst (λ k. Refuses E n (sides_of side k (clause_of x) 0 ls) e) c.in_ok-number.ensures c.in_err-sides.ensures))

pub loop-place-preserved : goal.loop-place-preserved
loop-place-preserved g c =
    let G = globals_of c.args.self.now in
    let E = env G in
    let n = c.args.self.now.elaborator.budget in
    let side = side_or_hole G (part c.args.self.now.sigma) in
    let ls = map leaf_at c.args.leaves.now in
    let cs = c.args.self.now.clauses.now in
    let x = c.clause-item.result in
    let before = collected c.loop-place.sides in
    one-clause E n side ls cs c.loop-place.place x c.loop-place-test.true c.clause-item.is c.loop-place.invariant
    (subst (λ k. Gathered E n (sides_of side k (clause_of x) 0 ls) before (collected c.in_ok-sides.sides))
    c.in_ok-number.ensures c.in_ok-sides.ensures)

pub returns : goal.returns
returns g c =
    let G = globals_of c.args.self.now in
    let E = env G in
    let n = c.args.self.now.elaborator.budget in
    let side = side_or_hole G (part c.args.self.now.sigma) in
    let ls = map leaf_at c.args.leaves.now in
    let cs = c.args.self.now.clauses.now in
    all-clauses E n side ls cs c.loop-place.place c.loop-place-test.false c.loop-place.invariant
