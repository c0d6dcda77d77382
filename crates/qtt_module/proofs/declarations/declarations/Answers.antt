use Rattle.std.proofs.Common.{◌∙◌, ◌++◌, ◌∷◌, [], map, ap, sym, append_assoc}
use Rattle.std.specs.Vec.Iter.{into_iter_items}
use Rattle.std.proofs.lemmas.List.{map-append}
use Rattle.qtt_syntax.specs.View.{item_of}
use Rattle.qtt_module.specs.Declarations.{declarations}
use Rattle.qtt_module.proofs.declarations.declarations.Goals as goal

pub loop-item-preserved : goal.loop-item-preserved
loop-item-preserved c =
    let (front, split, are) = c.loop-item.invariant in
    let item = c.in-Some.item in
    let step = (c.in-Some.ensures.steps).0 in (
      front ++ item ∷ [],
      split ∙ ap (λ xs. front ++ xs) step
          ∙ sym (append_assoc front (item ∷ []) (into_iter_items c.next.new.self)),
      c.in_ok-declared-2.ensures (map item_of front) are
          ∙ ap declarations (sym (map-append item_of front (item ∷ []))),
    )
