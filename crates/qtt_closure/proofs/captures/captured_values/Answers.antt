use Rattle.std.proofs.Common.{◌≡◌, ◌-◌, length, refl, arith}
use Rattle.std.proofs.lemmas.Grind.{common_steps}
use Rattle.qtt_erase.specs.Erasure.{place_at}
use Rattle.qtt_closure.specs.Scopes.{slots}
use Rattle.qtt_closure.specs.View.{flat_terms}
use Rattle.qtt_closure.specs.declared.flat.FlatTerm as flat_lemmas
use Rattle.qtt_closure.proofs.Scoping.{none_captured, push_captured, skip_captured}
use Rattle.qtt_closure.proofs.captures.captured_values.Goals as goal

pub loop-index-init : goal.loop-index-init
loop-index-init c =
    let h = none_captured c.args.captures.now (place_at (slots c.args.scope.now)) (length c.args.captures.now) refl in
    grind (arith, common_steps, h, c.new-values.ensures.items)

pub loop-index-preserved-in-Continue-branch-2 : goal.loop-index-preserved-in-Continue-branch-2
loop-index-preserved-in-Continue-branch-2 c =
    let p : c.in_ok-place.place ≡ place_at (slots c.args.scope.now) (c.loop-index.index - 1) =
    grind (
      arith,
      common_steps,
      c.place.ensures.place,
      c.try_from.ensures,
      c.map_err.ensures.cases,
      c.in_ok-place.ensures.cases,
    ) in
    let h = push_captured c.args.captures.now c.loop-index.index _ (place_at (slots c.args.scope.now))
    (flat_terms c.loop-index.values.items) c.in_ok-place.place
    (omega arith) (omega arith) c.if-captures-index.true p c.loop-index.invariant in
    grind (arith, common_steps, flat_lemmas.the_lemmas, h, c.in_ok-push.ensures.items)

pub loop-index-preserved : goal.loop-index-preserved
loop-index-preserved c =
    skip_captured c.args.captures.now c.loop-index.index _ (place_at (slots c.args.scope.now))
    (flat_terms c.loop-index.values.items)
    (omega arith) (omega arith) c.if-captures-index.false c.loop-index.invariant
