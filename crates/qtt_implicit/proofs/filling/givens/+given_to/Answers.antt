-- Where nothing more is given, the rest of the chain is the type.
use Rattle.std.proofs.Common.{◌∙◌, ap, sym}
use Rattle.qtt_syntax.specs.Tree.{Tree}
use Rattle.qtt_implicit.specs.Matching.{Slots}
use Rattle.qtt_implicit.specs.Nodes.{node_tree}
use Rattle.qtt_implicit.specs.TextTypes.{given_list, open_list}
use Rattle.qtt_implicit.specs.Walk.{given_to, not_in_braces}
use Rattle.qtt_implicit.proofs.Matched.{none_given}
use Rattle.qtt_implicit.proofs.filling.givens.+given_to.Goals as goal

pub returns-in-End : goal.returns-in-End
returns-in-End t c =
    let σ = open_list c.args.slots in
    let T = node_tree c.args.chain.now in
    let e = ap (λ g. given_to σ T (not_in_braces (given_list g))) c.in-End.is ∙ none_given σ T in (
      sym (ap (λ (r : Slots × Tree). r.0) e),
      c.instance.ensures ∙ sym (ap (λ (r : Slots × Tree). r.1) e),
    )
