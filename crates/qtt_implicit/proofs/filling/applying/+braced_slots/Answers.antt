-- One expression in braces more.
use Rattle.std.proofs.Common.{◌∙◌, ◌++◌, ap, sym, map, reverse, List}
use Rattle.qtt_syntax.specs.Tree.{Tree}
use Rattle.qtt_implicit.specs.Matching.{Slots}
use Rattle.qtt_implicit.specs.Nodes.{node_tree}
use Rattle.qtt_implicit.specs.TextTypes.{given_list, given_of, open_list}
use Rattle.qtt_implicit.specs.Walk.{in_braces, is_braced}
use Rattle.qtt_implicit.proofs.Braces.{some, turned_first}
use Rattle.qtt_implicit.proofs.Matched.{braced_given}
use Rattle.qtt_implicit.proofs.Standing.{if_ok}
use Rattle.qtt_implicit.proofs.filling.applying.+braced_slots.Goals as goal

pub returns-in_ok-with-in-Braced : goal.returns-in_ok-with-in-Braced
returns-in_ok-with-in-Braced t c =
    let σ = open_list c.args.slots in
    let g = given_of c.in-More.given in
    let gs = given_list c.in-More.others.now in
    let T = node_tree c.in-More.given.tree.now in
    if_ok c.braced_slots.result _ _ (λ s e. e
    ∙ ap (λ (τ : Slots). reverse (map some (in_braces gs)) ++ τ) c.in_ok-with-in-Braced.ensures
    ∙ sym (turned_first T (in_braces gs) σ)
    ∙ sym (ap (λ (ts : List Tree). reverse (map some ts) ++ σ)
    (ap (λ l. in_braces (given_list l)) c.in-More.is ∙ braced_given g gs (ap is_braced c.in-Braced.is))))
    c.braced_slots.ensures
