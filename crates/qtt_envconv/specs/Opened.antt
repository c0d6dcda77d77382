-- What an opened term is.
use Rattle.std.specs.Prelude.{length}
use Rattle.qtt_term.specs.Term.{Term, var}
use Rattle.qtt_term.specs.Term as t
use Rattle.qtt_term.specs.View.{side_by_side}
use Rattle.qtt_term.specs.Signature.{Env}
use Rattle.qtt_envconv.specs.declared.opening.Opened.{Opened}
use Rattle.qtt_envconv.specs.declared.opening.Opened.TheVariants as code
use Rattle.qtt_envconv.specs.Shapes.{form, fits}
use Rattle.qtt_envconv.specs.Nodes.{nodes, AreReady}

abbrev pub opened : Opened → Term
opened (code.Variable i) = var i
opened (code.Form s ns) = t.node (form s) (side_by_side (nodes ns.items))

-- as many components as the shape has
abbrev pub IsWhole : Opened → Type 0
IsWhole (code.Variable i) = Unit {0}
IsWhole (code.Form s ns) = fits s (length ns.items)

abbrev pub PartsReady : Env → Opened → Type 0
PartsReady E (code.Variable i) = Unit {0}
PartsReady E (code.Form s ns) = AreReady E ns.items
