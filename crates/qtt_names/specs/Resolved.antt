-- A module's text with the targets of its names, or the first fault in text order.
use Rattle.std.specs.Prelude.{ℕ, ◌+◌, Bool, false, cond, List, [], ◌∷◌, ◌++◌, codes, length, map, Option, Some, None, Ok}
use Rattle.std.specs.List.{flat_map}
use Rattle.qtt_base.specs.declared.place.Span.{Span}
use Rattle.qtt_usage.specs.declared.mult.Mult.{Mult}
use Rattle.qtt_syntax.specs.declared.expr.Local.{Local}
use Rattle.qtt_syntax.specs.Tree.{Tree, Statement, Statements, Shape, Param, Con, Item, Module}
use Rattle.qtt_syntax.specs.Tree.Tree.{name, number, text, universe, hole, the, apply, pi, lambda, letting, doing}
use Rattle.qtt_syntax.specs.Tree.Statement.{bind, local, run}
use Rattle.qtt_syntax.specs.Tree.Statements.{no_statement, statement_and}
use Rattle.qtt_syntax.specs.Tree.Param.{param}
use Rattle.qtt_syntax.specs.Tree.Con.{con}
use Rattle.qtt_syntax.specs.Tree.Item.{family, signature, clause}
use Rattle.qtt_syntax.specs.Tree.Module.{module_text}
use Rattle.qtt_names.specs.Answer.{Answer, unbound, duplicate, ◌>>=◌}
use Rattle.qtt_names.specs.declared.scope.OwnItem.{OwnItem}
use Rattle.qtt_names.specs.Scope.{Scope, same_name}
use Rattle.qtt_names.specs.Target.{own_item, look_up}
use Rattle.qtt_names.specs.InTurn.{in_turn}
use Rattle.qtt_names.specs.Filled.{Names, filled}
use Rattle.qtt_names.specs.Patterns.{first_of, variables, behind_shape, filled_shape}

-- what stands before an item: how many own items, the names of the groups of clauses, that of the clause directly
-- before, and holes
pub record Before : Type 0 where
  pub items : ℕ
  pub groups : List (List ℕ)
  pub last : Option (List ℕ)
  pub holes : List (List ℕ)

abbrev pub at_start : Before
at_start = record { items = 0; groups = []; last = None; holes = [] }

-- ---- holes

abbrev mutual
  -- the hole in an expression in tail position, the only place where one stands
  pub tail_hole : Tree → Option Local
  tail_hole (name n) = None
  tail_hole (number n s) = None
  tail_hole (text v s) = None
  tail_hole (universe l ls s) = None
  tail_hole (hole n s) = Some (record { name = n; span = s })
  tail_hole (the t e s) = None
  tail_hole (apply f xs s) = None
  tail_hole (pi k m n a b s) = None
  tail_hole (lambda bs b s) = tail_hole b
  tail_hole (letting m n t e b s) = tail_hole b
  tail_hole (doing ss s) = last_hole ss

  -- the hole in the last statement
  pub last_hole : Statements → Option Local
  last_hole no_statement = None
  last_hole (statement_and s no_statement) = statement_hole s
  last_hole (statement_and s (statement_and t more)) = last_hole (statement_and t more)

  pub statement_hole : Statement → Option Local
  statement_hole (bind n e) = None
  statement_hole (local m n t e s) = None
  statement_hole (run e s) = tail_hole e

-- a second hole of one name is a duplicate
abbrev pub new_hole : List (List ℕ) → Option Local → Answer (Unit {0})
new_hole holes None = Ok tt
new_hole holes (Some h) = first_of holes h.name h.span

abbrev pub hole_name : Option Local → List (List ℕ)
hole_name None = []
hole_name (Some h) = h.name ∷ []

-- ---- items

-- a name that is no own item yet
abbrev pub if_new : Option OwnItem → List ℕ → Span → Answer (Unit {0})
if_new None n s = Ok tt
if_new (Some item) n s = duplicate n s

abbrev pub new_item : Scope → ℕ → List ℕ → Span → Answer (Unit {0})
new_item s k n span = if_new (own_item s k n) n span

abbrev pub param_name : Param → List ℕ
param_name (param m n t s) = n

abbrev pub param_names : List Param → List (List ℕ)
param_names = map param_name

abbrev pub filled_param : Names → List (List ℕ) → Param → Answer Param
filled_param names Γ (param m n t s) = do
  t' ← filled names Γ t
  Ok (param m n t' s)

abbrev pub behind_param : List (List ℕ) → Param → List (List ℕ)
behind_param Γ p = Γ ++ param_name p ∷ []

-- each parameter stands behind those before it
abbrev pub filled_params : Names → List (List ℕ) → List Param → Answer (List Param)
filled_params names = in_turn (filled_param names) behind_param

-- The type of a family: a chain of binders, for the indices, and an end. An index is counted, but its name is in
-- scope nowhere.
abbrev pub filled_chain : Names → List (List ℕ) → Tree → Answer Tree
filled_chain names Γ (pi k m n a b s) = do
  a' ← filled names Γ a
  b' ← filled_chain names (Γ ++ codes "_" ∷ []) b
  Ok (pi k m n a' b' s)
filled_chain names Γ (name n) = filled names Γ (name n)
filled_chain names Γ (number n s) = filled names Γ (number n s)
filled_chain names Γ (text v s) = filled names Γ (text v s)
filled_chain names Γ (universe l ls s) = filled names Γ (universe l ls s)
filled_chain names Γ (hole n s) = filled names Γ (hole n s)
filled_chain names Γ (the t e s) = filled names Γ (the t e s)
filled_chain names Γ (apply f xs s) = filled names Γ (apply f xs s)
filled_chain names Γ (lambda bs b s) = filled names Γ (lambda bs b s)
filled_chain names Γ (letting m n t e b s) = filled names Γ (letting m n t e b s)
filled_chain names Γ (doing ss s) = filled names Γ (doing ss s)

-- a constructor as own item k, with its type
abbrev pub filled_con : Scope → Names → List (List ℕ) → ℕ → Con → Answer Con
filled_con s names Γ k (con n t span) = do
  u ← new_item s k n span
  t' ← filled names Γ t
  Ok (con n t' span)

abbrev pub behind_con : ℕ → Con → ℕ
behind_con k c = k + 1

-- constructors, of which the first is own item k
abbrev pub filled_cons : Scope → Names → List (List ℕ) → ℕ → List Con → Answer (List Con)
filled_cons s names Γ = in_turn (filled_con s names Γ) behind_con

-- the clause directly before is one of this name
abbrev pub goes_on : Option (List ℕ) → List ℕ → Bool
goes_on None n = false
goes_on (Some m) n = same_name n m

-- the names of the groups of clauses, with that of a clause of this name
abbrev pub with_group : Option (List ℕ) → List (List ℕ) → List ℕ → List (List ℕ)
with_group last groups n = cond (goes_on last n) groups (groups ++ n ∷ [])

-- a clause that goes on, or begins the first group of its name
abbrev pub new_group : Option (List ℕ) → List (List ℕ) → List ℕ → Span → Answer (Unit {0})
new_group last groups n span = cond (goes_on last n) (Ok tt) (first_of groups n span)

abbrev pub is_definition : Option OwnItem → Bool
is_definition None = false
is_definition (Some item) = item.is_definition

-- the name of a clause is that of a definition that stands earlier
abbrev pub new_clause : Scope → ℕ → Option (List ℕ) → List (List ℕ) → List ℕ → Span → Answer (Unit {0})
new_clause s k last groups n span =
    cond (is_definition (own_item s k n)) (new_group last groups n span) (unbound n span)

abbrev pub variables_in : List Shape → List (List ℕ)
variables_in = flat_map variables

-- each pattern stands behind the variables of those before it
abbrev pub filled_patterns : Names → List (List ℕ) → List (List ℕ) → List Shape → Answer (List Shape)
filled_patterns names Γ = in_turn (filled_shape names Γ) behind_shape

-- A family as own item k. A name in its parameters and in its type sees the items before it, and one in a
-- constructor's type the family too.
abbrev pub filled_family : Scope → ℕ → List ℕ → Span → List Param → Tree → List Con → Span → Answer Item
filled_family s k n ns ps t cs span = do
  u ← new_item s k n ns
  ps' ← filled_params (look_up s k) [] ps
  t' ← filled_chain (look_up s k) (param_names ps) t
  cs' ← filled_cons s (look_up s (k + 1)) (param_names ps) (k + 1) cs
  Ok (family n ns ps' t' cs' span)

-- A signature as own item k, whose type doesn't see it.
abbrev pub filled_signature : Scope → ℕ → Bool → Mult → List ℕ → Span → Tree → Span → Answer Item
filled_signature s k p m n ns t span = do
  u ← new_item s k n ns
  t' ← filled (look_up s k) [] t
  Ok (signature p m n ns t' span)

-- A clause. A hole is its last token, and so it is looked at last.
abbrev pub filled_clause : Scope → Before → List ℕ → List Shape → Tree → Span → Answer Item
filled_clause s before n ps side span = do
  u ← new_clause s before.items before.last before.groups n span
  ps' ← filled_patterns (look_up s before.items) (variables_in ps) [] ps
  side' ← filled (look_up s before.items) (variables_in ps) side
  v ← new_hole before.holes (tail_hole side)
  Ok (clause n ps' side' span)

unfoldable pub filled_item : Scope → Before → Item → Answer Item
filled_item s before (family n ns ps t cs span) = filled_family s before.items n ns ps t cs span
filled_item s before (signature p m n ns t span) = filled_signature s before.items p m n ns t span
filled_item s before (clause n ps side span) = filled_clause s before n ps side span

-- how many own items an item declares
abbrev pub count_of : Item → ℕ
count_of (family n ns ps t cs span) = length cs + 1
count_of (signature p m n ns t span) = 1
count_of (clause n ps side span) = 0

-- the name of a clause
abbrev pub clause_name : Item → Option (List ℕ)
clause_name (family n ns ps t cs span) = None
clause_name (signature p m n ns t span) = None
clause_name (clause n ps side span) = Some n

abbrev pub groups_behind : Option (List ℕ) → List (List ℕ) → Item → List (List ℕ)
groups_behind last groups (family n ns ps t cs span) = groups
groups_behind last groups (signature p m n ns t span) = groups
groups_behind last groups (clause n ps side span) = with_group last groups n

abbrev pub holes_behind : List (List ℕ) → Item → List (List ℕ)
holes_behind holes (family n ns ps t cs span) = holes
holes_behind holes (signature p m n ns t span) = holes
holes_behind holes (clause n ps side span) = holes ++ hole_name (tail_hole side)

-- what stands before the item behind this one
abbrev pub behind : Before → Item → Before
behind before i = record {
  items = before.items + count_of i;
  groups = groups_behind before.last before.groups i;
  last = clause_name i;
  holes = holes_behind before.holes i;
}

abbrev pub filled_items : Scope → Before → List Item → Answer (List Item)
filled_items s = in_turn (filled_item s) behind

abbrev pub resolved : Scope → Module → Answer Module
resolved s (module_text h n ns is items) = do
  items' ← filled_items s at_start items
  Ok (module_text h n ns is items')
