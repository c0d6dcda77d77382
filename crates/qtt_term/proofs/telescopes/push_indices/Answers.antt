use Rattle.std.proofs.Common.{◌≡◌, ◌++◌, [], ◌∷◌, rules}
use Rattle.qtt_term.specs.Substitution.{ren}
use Rattle.qtt_term.specs.Shift.{raised}
use Rattle.qtt_term.specs.View.{term}
use Rattle.qtt_term.proofs.Binders.{indices-step}
use Rattle.qtt_term.proofs.telescopes.push_indices.Goals as goal

pub loop-place-preserved : goal.loop-place-preserved
loop-place-preserved c =
    let bs = c.loop-place.binders.items in
    let cs = c.push.new.self.items in
    let e : cs ≡ bs ++ (c.mul.result, c.in_ok-ty.ty) ∷ [] = search rules in
    let s : term c.in_ok-ty.ty ≡ ren (raised 0 c.loop-place.place) (term c.index-indices-place.result) = search rules in
    indices-step bs cs c.args.binders.items c.args.mult c.mul.result c.args.indices.now
    c.index-indices-place.result c.in_ok-ty.ty c.loop-place.place
    c.loop-place-test.true c.index-indices-place.is e c.mul.ensures s c.loop-place.invariant
