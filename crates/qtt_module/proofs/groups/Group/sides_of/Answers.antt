use Rattle.std.proofs.Common.{◌≡◌, ◌∙◌, ◌∷◌, [], eqb, true, ap, rules}
use Rattle.qtt_term.specs.Contexts.{part}
use Rattle.qtt_term.specs.Entries.{env}
use Rattle.qtt_split.specs.Calls.{clause_of}
use Rattle.qtt_module.specs.Sides.{side_or_hole}
use Rattle.qtt_module.specs.GroupCalls.{globals_of, leaf_at, side_of, collected, with_sides}
use Rattle.qtt_module.proofs.Gathering.{no-side, one-more, refused-at, all-gathered, passed}
use Rattle.qtt_module.proofs.groups.Group.sides_of.Goals as goal

pub loop-place-init : goal.loop-place-init
loop-place-init g c =
    let G = globals_of c.args.self.now in
    no-side (env G) c.args.self.now.elaborator.budget (side_or_hole G (part c.args.self.now.sigma)) c.args.clause_number
    (clause_of c.args.clause.now) c.args.leaves.now (collected c.args.before)

pub returns-in_err-side : goal.returns-in_err-side
returns-in_err-side g c =
    let G = globals_of c.args.self.now in
    let E = env G in
    let n = c.args.self.now.elaborator.budget in
    let side = side_or_hole G (part c.args.self.now.sigma) in
    let x = clause_of c.args.clause.now in
    let l = c.index-leaves-place.result in
    let e = c.in_err-side.field-0.0 in
    let own : eqb (leaf_at l).clause c.args.clause_number ≡ true = search rules in
    passed E n _ (collected c.args.before) c.from_residual.result e c.from_residual.ensures.1
    (refused-at E n side c.args.clause_number x c.args.leaves.now c.loop-place.place l c.loop-place-test.true
    c.index-leaves-place.is c.loop-place.invariant e own c.in_err-side.ensures)

pub loop-place-preserved : goal.loop-place-preserved
loop-place-preserved g c =
    let G = globals_of c.args.self.now in
    let E = env G in
    let n = c.args.self.now.elaborator.budget in
    let side = side_or_hole G (part c.args.self.now.sigma) in
    let x = clause_of c.args.clause.now in
    let l = c.index-leaves-place.result in
    let own : eqb (leaf_at l).clause c.args.clause_number ≡ true = search rules in
    let more = c.in_ok-sides.ensures
    ∙ ap (λ k. with_sides (collected c.loop-place.sides) ((k, side_of c.in_ok-side.side) ∷ []))
    c.in_ok-number.ensures in
    one-more E n side c.args.clause_number x c.args.leaves.now c.loop-place.place l c.loop-place-test.true
    c.index-leaves-place.is c.loop-place.invariant (side_of c.in_ok-side.side) own c.in_ok-side.ensures more

pub returns : goal.returns
returns g c =
    let G = globals_of c.args.self.now in
    all-gathered (env G) c.args.self.now.elaborator.budget (side_or_hole G (part c.args.self.now.sigma))
    c.args.clause_number (clause_of c.args.clause.now) c.args.leaves.now c.loop-place.place c.loop-place-test.false
    c.loop-place.invariant
