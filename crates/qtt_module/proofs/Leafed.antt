-- The context of a leaf.
use Rattle.std.proofs.Common.{◌≡◌, ◌∙◌, length, sym}
use Rattle.std.proofs.lemmas.List.{length-map, length-reverse}
use Rattle.qtt_term.specs.View.{term}
use Rattle.qtt_split.specs.declared.tree.Leaf as code
use Rattle.qtt_split.specs.View.{leaf_of}

pub depth-of : (l : code.Leaf) → length l.ctx.vars.items ≡ length (leaf_of l).context
depth-of l = sym (length-reverse _ ∙ length-map l.ctx.vars.items (λ v. (v.0, term v.1)))
