use Rattle.std.proofs.Common.{◌≡◌, ◌-◌, ◌&&◌, [], take, drop, length}
use Rattle.qtt_term.specs.Infer.{binders_fit, mults_onto}
use Rattle.qtt_term.specs.Telescopes.{tele}
use Rattle.qtt_core_check.proofs.matching.fit_binders.Given as goal

abbrev pub invariant-loop-place : goal.invariant-loop-place
invariant-loop-place l =
    ((l.fit && binders_fit (mults_onto [] (tele (take (length l.binders - l.place) l.binders))) l.uses) ≡
    binders_fit (mults_onto [] (tele l.binders)) l.initial.uses)
    × (l.uses ≡ drop l.place l.initial.uses)
