-- Nodes of which a call is given parts.
use Rattle.std.specs.Prelude.{Bool, []}
use Rattle.qtt_syntax.specs.Tree.{Shape}
use Rattle.qtt_term.specs.Term.{Term}
use Rattle.qtt_term.specs.Judgement.{Ctx}
use Rattle.qtt_split.specs.declared.leaf.Wanted as code_wanted
use Rattle.qtt_split.specs.declared.leaf.Wanted.TheVariants as code
use Rattle.qtt_split.specs.Seen.{Sights}
use Rattle.qtt_split.specs.Node.{Node, is_variable, is_dot}

-- a node, but for its labels and rows
abbrev pub node_at : Ctx → Sights → Term → Node
node_at Γ ss A = record { context = Γ; labels = []; seen = ss; goal = A; rows = [] }

-- which patterns are wanted
abbrev pub wanted : code_wanted.Wanted → Shape → Bool
wanted code.Variables = is_variable
wanted code.Dots = is_dot
