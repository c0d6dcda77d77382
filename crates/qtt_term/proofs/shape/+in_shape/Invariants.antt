use Rattle.std.proofs.Common.{◌≡◌, map, take, true}
use Rattle.qtt_term.specs.Globals.{env}
use Rattle.qtt_term.specs.Shape.{all_in_shape}
use Rattle.qtt_term.specs.View.{terms, branches, side_by_side}
use Rattle.qtt_term.proofs.shape.+in_shape.Given as goal

abbrev pub invariant-all_in_shape-loop-source : goal.invariant-all_in_shape-loop-source
invariant-all_in_shape-loop-source l =
    all_in_shape (env l.env) (side_by_side (terms (take l.source-index l.sources))) ≡ true

abbrev pub invariant-branches_in_shape-loop-source : goal.invariant-branches_in_shape-loop-source
invariant-branches_in_shape-loop-source l =
    all_in_shape (env l.env) (side_by_side (map (λ b. b.1) (branches (take l.source-index l.sources)))) ≡ true
