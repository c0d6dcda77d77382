use Rattle.std.proofs.Common.{◌-◌, [], length, ap, refl, rules, arith}
use mathlib.Core.Path.{ap₂}
use Rattle.std.proofs.lemmas.List.{length-drop, take_all}
use Rattle.qtt_term.specs.Infer.{binders_fit, mults_onto}
use Rattle.qtt_term.specs.Telescopes.{tele}
use Rattle.qtt_core_check.proofs.Matches.{fit-next, fit-all}
use Rattle.qtt_core_check.proofs.matching.fit_binders.Goals as goal

pub loop-place-init : goal.loop-place-init
loop-place-init c = (
  ap (λ bs. binders_fit (mults_onto [] (tele bs)) c.args.uses)
      (take_all (length c.args.binders.now - 0) c.args.binders.now (omega arith)),
  refl,
)

pub pop-used-requires : goal.pop-used-requires
pop-used-requires c =
    omega (
      arith,
      ap length c.loop-place.invariant.1,
      length-drop c.loop-place.place c.args.uses,
      c.requires,
      c.loop-place-test.true,
    )

pub loop-place-preserved : goal.loop-place-preserved
loop-place-preserved c =
    fit-next c.args.binders.now c.index-binders-binders.result c.loop-place.place c.loop-place.uses
    c.pop-used.new.self c.args.uses c.pop-used.result c.loop-place.fit c.both-fit.result
    (binders_fit (mults_onto [] (tele c.args.binders.now)) c.args.uses)
    c.loop-place-test.true c.index-binders-binders.is c.pop-used.ensures c.loop-place.invariant.1
    (search rules) c.loop-place.invariant.0

pub returns : goal.returns
returns c =
    let r = fit-all c.args.binders.now c.loop-place.place c.loop-place.uses c.args.uses c.loop-place.fit
    (binders_fit (mults_onto [] (tele c.args.binders.now)) c.args.uses)
    (omega (arith, c.loop-place-test.false, c.loop-place.auto.place-end)) c.loop-place.invariant.1
    c.loop-place.invariant.0 in
    ap₂ (λ a b. (a, b)) r.0 r.1
