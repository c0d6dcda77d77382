use Rattle.std.proofs.Common.{◌≡◌, map, take, codes}
use Rattle.qtt_term.proofs.prim_items.no_labels.Given as goal

abbrev pub invariant-loop-field : goal.invariant-loop-field
invariant-loop-field l = l.labels.items ≡ map (λ f. codes "_") (take l._field-index l.fields)
