-- The argument fills one more slot.
use Rattle.std.proofs.Common.{◌∙◌, ◌∷◌, ap, sym, Some}
use mathlib.Core.Path.{ap₂}
use Rattle.qtt_syntax.specs.Tree.{Tree}
use Rattle.qtt_implicit.specs.Matching.{Slots, codomain}
use Rattle.qtt_implicit.specs.Nodes.{node_tree}
use Rattle.qtt_implicit.specs.Slots.{seen, slot_list}
use Rattle.qtt_implicit.specs.TextTypes.{tree_in}
use Rattle.qtt_implicit.proofs.Moves.{codomain_seen}
use Rattle.qtt_implicit.proofs.filling.text_type.TextType.codomain.Goals as goal

pub returns-in_ok-moved-in-Pi-2 : goal.returns-in_ok-moved-in-Pi-2
returns-in_ok-moved-in-Pi-2 c =
    let s = c.in_ok-text.text.shared in
    let x = node_tree c.args.argument.now in
    let b = node_tree c.in-Pi.codomain.now in
    ap₂ (λ r σ. seen r 0 σ b) c.in_ok-moved-in-Pi-2.ensures
    (c.in_ok-slots-in-Pi.ensures ∙ ap (λ (σ : Slots). Some x ∷ σ) c.in_ok-moved-in-Pi.ensures.same)
    ∙ sym (codomain_seen s.rest s.moved (slot_list s.slots.now) x b)
    ∙ sym (ap (λ n. codomain (tree_in s (node_tree n)) x) c.in-Pi.is)
    ∙ ap (λ (t : Tree). codomain t x) c.in_ok-text.ensures.0
