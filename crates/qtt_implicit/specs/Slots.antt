-- Text types in code: trees whose free local names stand for what fills slots.
use Rattle.std.specs.Prelude.{◌≡◌, ℕ, zero, suc, ◌+◌, nat_eq, min, ◌&&◌, [], ◌∷◌, Option, Some, None}
use Rattle.qtt_base.specs.declared.place.GlobalId.{GlobalId}
use Rattle.qtt_syntax.specs.declared.expr.Named.{Named}
use Rattle.qtt_syntax.specs.declared.expr.Target.{Target}
use Rattle.qtt_syntax.specs.declared.expr.Target.TheVariants as target
use Rattle.qtt_syntax.specs.Tree.{Tree}
use Rattle.qtt_syntax.specs.Tree.Tree.{name, number, text, universe, hole, the, apply, pi, lambda, letting, doing}
use Rattle.qtt_implicit.specs.Moving.{Change, kept, at_binder, shifted_name, shifted, replaced_name, replaced, unknown, unknown_weight, weighed, nodes}
use Rattle.qtt_implicit.specs.Matching.{Slots}
use Rattle.qtt_implicit.specs.Nodes.{node_tree}
use Rattle.qtt_implicit.specs.declared.filling.trees.Node.{size-Node}
use Rattle.qtt_implicit.specs.declared.filling.weights.Weight.{Weight}
use Rattle.qtt_implicit.specs.declared.filling.slots.Rest.{Rest}
use Rattle.qtt_implicit.specs.declared.filling.slots.Rest.TheVariants as rest
use Rattle.qtt_implicit.specs.declared.filling.slots.Shared.{Shared}
use Rattle.qtt_implicit.specs.declared.filling.slots.Slots as slots_code
use Rattle.qtt_implicit.specs.declared.filling.slots.Slots.TheVariants as slot

-- ---- changes
-- behind k more binders
abbrev pub moving : ℕ → Change
moving k = record { name = λ d n. shifted_name k d n n.target; mark = kept; span = kept }

-- each free local name replaced
abbrev pub replacing : (ℕ → Named → Tree) → Change
replacing σ = record { name = λ d n. replaced_name σ d n n.target; mark = kept; span = kept }

-- what a free local name stands for beyond the slots
abbrev pub beyond : Rest → ℕ → Named → Tree
beyond rest.Unknown i n = unknown
beyond (rest.Outer k) i n = at_binder (i + k) n

abbrev pub slot_value : Option Tree → Tree
slot_value None = unknown
slot_value (Some t) = t

-- what a free local name stands for
abbrev pub stands : Rest → Slots → ℕ → Named → Tree
stands r [] i n = beyond r i n
stands r (o ∷ σ) zero n = slot_value o
stands r (o ∷ σ) (suc i) n = stands r σ i n

-- a tree whose free local names stand for what fills slots, behind m more binders
abbrev pub seen : Rest → ℕ → Slots → Tree → Tree
seen r m σ t = shifted m (replaced (stands r σ) t)

-- the slots, the newest first
abbrev pub slot_list : slots_code.Slots → Slots
slot_list slot.End = []
slot_list (slot.Empty' p older) = None ∷ slot_list older
slot_list (slot.Filled' t p slots r m w q older) =
    Some (seen r m (slot_list slots) (node_tree t.now)) ∷ slot_list older

abbrev pub shared_tree : Shared → Tree
shared_tree s = seen s.rest s.moved (slot_list s.slots.now) (node_tree s.tree.now)

-- ---- weights
-- so many nodes, of which no more than one above the limit are counted, and so many unknown parts
unfoldable pub weight : ℕ → ℕ → Weight
weight n u = record { nodes = min n 1000001; known = nat_eq u 0 }

unfoldable pub both : Weight → Weight → Weight
both v w = record { nodes = min (v.nodes + w.nodes) 1000001; known = v.known && w.known }

abbrev pub one_node : Tree → ℕ
one_node t = 1

abbrev pub weight_of : Tree → Weight
weight_of t = weight (weighed one_node t) (weighed unknown_weight t)

-- the weight of a part, by what it weighs
abbrev pub weight_by : ((Tree → ℕ) → ℕ) → Weight
weight_by f = weight (f one_node) (f unknown_weight)

-- each slot has the weight of what fills it
abbrev pub IsSound : slots_code.Slots → Type 0
IsSound slot.End = Unit {0}
IsSound (slot.Empty' p older) = IsSound older
IsSound (slot.Filled' t p slots r m w q older) =
    (w ≡ weight_of (seen r m (slot_list slots) (node_tree t.now))) × (IsSound slots × IsSound older)

-- how much there is to be copied of slots
abbrev pub slots_size : slots_code.Slots → ℕ
slots_size slot.End = 0
slots_size (slot.Empty' p older) = suc (slots_size older)
slots_size (slot.Filled' t p slots r m w q older) = suc ((size-Node t.now + slots_size slots) + slots_size older)

-- ---- forms of trees, as far as text types are looked at
abbrev pub global_of : Target → Option GlobalId
global_of (target.Global id) = Some id
global_of (target.Local i) = None
global_of target.Unknown = None

pub data Form : Type 0 where
  named : Option GlobalId → Form
  applied : Form
  function : Form
  other : Form

abbrev pub form : Tree → Form
form (name n) = Form.named (global_of n.target)
form (number z s) = Form.other
form (text v s) = Form.other
form (universe l ls s) = Form.other
form (hole n s) = Form.other
form (the t e s) = Form.other
form (apply f xs s) = Form.applied
form (pi k m n a b s) = Form.function
form (lambda bs b s) = Form.other
form (letting m n t e b s) = Form.other
form (doing ss s) = Form.other

-- ---- what is moved
abbrev pub moved_rest : ℕ → Rest → Rest
moved_rest m rest.Unknown = rest.Unknown
moved_rest m (rest.Outer k) = rest.Outer (k + m)

abbrev pub moved_slot : ℕ → Option Tree → Option Tree
moved_slot m None = None
moved_slot m (Some t) = Some (shifted m t)

abbrev pub moved_slots : ℕ → Slots → Slots
moved_slots m [] = []
moved_slots m (o ∷ σ) = moved_slot m o ∷ moved_slots m σ

-- the number of a local name
abbrev pub local_target : Target → Option ℕ
local_target (target.Local i) = Some i
local_target (target.Global id) = None
local_target target.Unknown = None

abbrev pub local_of : Tree → Option ℕ
local_of (name n) = local_target n.target
local_of _ = None

-- what a text type is, with slots of sound weights; or nothing, where it is a name that no slot fills
abbrev pub Resolves : Tree → Option Shared → Type 0
Resolves T None = form T ≡ Form.named None
Resolves T (Some s) =
    (shared_tree s ≡ T) × (IsSound s.slots.now × (form (node_tree s.tree.now) ≡ form T))

-- slots that are these, with sound weights
pub record AreSlots (σ : Slots) (s : slots_code.Slots) : Type 0 where
  pub same : slot_list s ≡ σ
  pub sound : IsSound s
