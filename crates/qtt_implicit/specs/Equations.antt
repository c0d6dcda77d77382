-- Clauses among all their variables, in code.
use Rattle.std.specs.Prelude.{◌≡◌, List, length}
use Rattle.qtt_syntax.specs.declared.expr.Mark.{Mark}
use Rattle.qtt_syntax.specs.Tree.{Tree, Shapes}
use Rattle.qtt_implicit.specs.Nodes.{node_tree}
use Rattle.qtt_implicit.specs.Patterns.{renumbered, renumbered_shapes}
use Rattle.qtt_implicit.specs.Shaping.{shape_row}
use Rattle.qtt_implicit.specs.declared.filling.clauses.Equation.{Equation}

-- patterns and an expression, which are written among variables with these marks
pub record IsEquation (ms : List Mark) (ps : Shapes) (side : Tree) (e : Equation) : Type 0 where
  pub patterns : shape_row e.patterns.now ≡ renumbered_shapes ms ps
  pub side_is : node_tree e.side.now ≡ renumbered ms side
  pub variables : e.variables ≡ length ms
