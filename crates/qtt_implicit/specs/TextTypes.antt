-- What text types in code stand for.
use Rattle.std.specs.Prelude.{◌≡◌, ◌+◌, Bool, true, false, if◌then◌else◌, List, [], ◌∷◌, ◌++◌, map, replicate, Option, Some, None}
use Rattle.qtt_base.specs.declared.place.GlobalId.{GlobalId}
use Rattle.qtt_syntax.specs.declared.expr.Target.TheVariants as target
use Rattle.qtt_syntax.specs.Tree.{Tree, Arguments}
use Rattle.qtt_syntax.specs.Tree.Tree.{name, number, text, universe, hole, the, apply, pi, lambda, letting, doing}
use Rattle.qtt_implicit.specs.Moving.{changed_arguments, shifted, unknown}
use Rattle.qtt_implicit.specs.Matching.{Slots}
use Rattle.qtt_implicit.specs.Walk.{Given, Types, Walked, is_io}
use Rattle.qtt_implicit.specs.Nodes.{node_tree, argument_row}
use Rattle.qtt_implicit.specs.Slots.{moving, replacing, seen, shared_tree, slot_list, stands, global_of}
use Rattle.qtt_implicit.specs.declared.filling.slots.Shared.{Shared}
use Rattle.qtt_implicit.specs.declared.filling.text_type.TextType.{TextType}
use Rattle.qtt_implicit.specs.declared.filling.text_type.OpenSlots.{OpenSlots}
use Rattle.qtt_implicit.specs.declared.filling.parts.Application.{Application}
use Rattle.qtt_implicit.specs.declared.filling.parts.Given as given_code
use Rattle.qtt_implicit.specs.declared.filling.parts.Givens as givens_code
use Rattle.qtt_implicit.specs.declared.filling.parts.Givens.TheVariants as given
use Rattle.qtt_implicit.specs.declared.filling.parts.Locals.{Locals}
use Rattle.qtt_implicit.specs.declared.filling.parts.Locals.TheVariants as local
use Rattle.qtt_implicit.specs.declared.filling.parts.Walked as walked_code

abbrev pub type_tree : TextType → Tree
type_tree t = shared_tree t.shared

abbrev pub open_list : OpenSlots → Slots
open_list s = slot_list s.slots.now

-- another tree with the same slots
abbrev pub tree_in : Shared → Tree → Tree
tree_in s t = seen s.rest s.moved (slot_list s.slots.now) t

abbrev pub arguments_in : Shared → Arguments → Arguments
arguments_in s xs =
    changed_arguments (moving s.moved) 0 (changed_arguments (replacing (stands s.rest (slot_list s.slots.now))) 0 xs)

-- ---- forms
abbrev pub is_applied : Tree → Bool
is_applied (apply f xs s) = true
is_applied (name n) = false
is_applied (number z s) = false
is_applied (text v s) = false
is_applied (universe l ls s) = false
is_applied (hole n s) = false
is_applied (the t e s) = false
is_applied (pi k m n a b s) = false
is_applied (lambda bs b s) = false
is_applied (letting m n t e b s) = false
is_applied (doing ss s) = false

-- what a name stands for, if it is no local one
abbrev pub global_name : Tree → Option GlobalId
global_name (name n) = global_of n.target
global_name (apply f xs s) = None
global_name (number z s) = None
global_name (text v s) = None
global_name (universe l ls s) = None
global_name (hole n s) = None
global_name (the t e s) = None
global_name (pi k m n a b s) = None
global_name (lambda bs b s) = None
global_name (letting m n t e b s) = None
global_name (doing ss s) = None

abbrev pub application_tree : Application → Tree
application_tree a =
    apply (type_tree a.function) (arguments_in a.function.shared (argument_row a.arguments.now)) a.span

-- an application with its parts, or no application
abbrev pub Applies : Tree → Option Application → Type 0
Applies T None = is_applied T ≡ false
Applies T (Some a) = T ≡ application_tree a

-- what an action gives whose type has this name and one argument
abbrev pub given_by : Option GlobalId → Tree → Tree
given_by None t = unknown
given_by (Some id) t = if is_io (target.Global id) then t else unknown

-- ---- arguments as they were walked
abbrev pub given_of : given_code.Given → Given
given_of g = record { mark = g.mark; tree = node_tree g.tree.now; type = type_tree g.ty }

abbrev pub given_list : givens_code.Givens → List Given
given_list given.End = []
given_list (given.More' g p more) = given_of g ∷ given_list more

abbrev pub walked_of : walked_code.Walked → Walked
walked_of w = record { tree = node_tree w.tree.now; type = type_tree w.ty }

-- ---- local names
abbrev pub local_types : Locals → Types
local_types local.End = []
local_types (local.Behind' t p older) = map (shifted 1) (type_tree t ∷ local_types older)
local_types (local.Beside' t p older) = type_tree t ∷ local_types older
local_types (local.Unmet' n p older) = replicate n unknown ++ local_types older
