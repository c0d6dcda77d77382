use Rattle.std.proofs.Common.{◌≡◌, [], take}
use Rattle.qtt_term.specs.Substitution.{subs}
use Rattle.qtt_unify.specs.View.{all_terms}
use Rattle.qtt_split.specs.Substitution.{stands_for}
use Rattle.qtt_split.proofs.ways.Way.indices_with.Given as goal

abbrev pub invariant-loop-index : goal.invariant-loop-index
invariant-loop-index l =
    all_terms l.indices.items ≡ subs [] (stands_for l.values) (all_terms (take l.index-index l.index-items))
