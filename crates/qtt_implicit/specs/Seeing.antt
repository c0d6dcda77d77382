-- What the walk over patterns gives in code.
use Rattle.std.specs.Prelude.{List, [], ◌∷◌, map}
use Rattle.qtt_base.specs.declared.place.Span.{Span}
use Rattle.qtt_syntax.specs.declared.expr.Named.{Named}
use Rattle.qtt_syntax.specs.Tree.{Tree}
use Rattle.qtt_syntax.specs.Tree.Tree.{name}
use Rattle.qtt_implicit.specs.Nodes.{node_tree}
use Rattle.qtt_implicit.specs.Patterns.{AllSeen, Seen, written_argument}
use Rattle.qtt_implicit.specs.Shaping.{shape_row, shape_tree}
use Rattle.qtt_implicit.specs.Variables.{met_of}
use Rattle.qtt_implicit.specs.Walk.{application}
use Rattle.qtt_implicit.specs.declared.filling.patterns.AllSeen as all_seen_code
use Rattle.qtt_implicit.specs.declared.filling.patterns.Seen as seen_code
use Rattle.qtt_implicit.specs.declared.filling.patterns.Trees as trees_code
use Rattle.qtt_implicit.specs.declared.filling.patterns.Trees.TheVariants as code

abbrev pub tree_list : trees_code.Trees → List Tree
tree_list code.End = []
tree_list (code.More' t p more) = node_tree t.now ∷ tree_list more

abbrev pub seen_of : seen_code.Seen → Seen
seen_of p = record { shape = shape_tree p.shape; tree = node_tree p.tree.now; met = met_of p.met }

abbrev pub all_seen_of : all_seen_code.AllSeen → AllSeen
all_seen_of p = record { shapes = shape_row p.shapes.now; trees = tree_list p.trees.now; met = met_of p.met }

-- what a constructor pattern stands for
abbrev pub applied_to : Named → List Tree → Span → Tree
applied_to h ts s = application (name h) (map written_argument ts) s
