-- The patterns of the code's clauses.
use Rattle.std.specs.Prelude.{List, map}
use Rattle.qtt_syntax.specs.declared.module.Clause.{Clause}
use Rattle.qtt_syntax.specs.Tree.{Shape}
use Rattle.qtt_syntax.specs.View.{shape_of}

abbrev pub patterns_of : Clause → List Shape
patterns_of c = map shape_of c.patterns.items
