-- Nodes of the parts of a tree.
use Rattle.std.specs.Prelude.{ℕ}
use Rattle.qtt_syntax.specs.Tree.{Annotation, Arguments, Binders, Statements}
use Rattle.qtt_implicit.specs.Moving.{weighed_annotation, weighed_arguments, weighed_binders, weighed_statements}

abbrev pub annotation_nodes : Annotation → ℕ
annotation_nodes = weighed_annotation (λ t. 1)

abbrev pub arguments_nodes : Arguments → ℕ
arguments_nodes = weighed_arguments (λ t. 1)

abbrev pub binders_nodes : Binders → ℕ
binders_nodes = weighed_binders (λ t. 1)

abbrev pub statements_nodes : Statements → ℕ
statements_nodes = weighed_statements (λ t. 1)
