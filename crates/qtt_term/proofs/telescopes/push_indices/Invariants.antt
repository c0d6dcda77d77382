use Rattle.std.proofs.Common.{◌≡◌, ◌++◌, take}
use Rattle.qtt_term.specs.Signature.{index_binders}
use Rattle.qtt_term.specs.Judgement.{scale}
use Rattle.qtt_term.specs.View.{terms}
use Rattle.qtt_term.specs.Telescopes.{tele}
use Rattle.qtt_term.proofs.telescopes.push_indices.Given as goal

abbrev pub invariant-loop-place : goal.invariant-loop-place
invariant-loop-place l = tele l.binders.items ≡ tele l.initial.binders.items ++ scale l.mult
    (index_binders 0 (terms (take l.place l.indices)))
