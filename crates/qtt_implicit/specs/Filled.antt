-- Module texts with their implicit arguments filled in, item by item.
use Rattle.std.specs.Prelude.{ℕ, suc, ◌+◌, ◌-◌, nat_le, if◌then◌else◌, Bool, List, [], ◌∷◌, ◌++◌, map, length, sum_by, unwrap_or, Result, Ok, Err}
use Rattle.qtt_base.specs.Limits.{standard}
use Rattle.qtt_base.specs.declared.place.Span.{Span}
use Rattle.qtt_base.specs.declared.place.ModuleId.{ModuleId}
use Rattle.qtt_usage.specs.declared.mult.Mult.{Mult}
use Rattle.qtt_syntax.specs.declared.expr.Mark.{Mark}
use Rattle.qtt_syntax.specs.declared.expr.Mark.TheVariants.{Written}
use Rattle.qtt_syntax.specs.Tree.{Tree, Shapes, Param, Con, Item, Module}
use Rattle.qtt_syntax.specs.Tree.Tree.{pi}
use Rattle.qtt_syntax.specs.Tree.Param.{param}
use Rattle.qtt_syntax.specs.Tree.Con.{con}
use Rattle.qtt_syntax.specs.Tree.Item.{family, signature as typing, clause}
use Rattle.qtt_syntax.specs.Tree.Module.{module_text}
use Rattle.qtt_names.specs.Exports.{Exports, Sig}
use Rattle.qtt_names.specs.PrimSigs.{prim_exports}
use Rattle.qtt_implicit.specs.Moving.{unknown, nodes}
use Rattle.qtt_implicit.specs.Known.{Known, signature_named}
use Rattle.qtt_implicit.specs.Filling.{Stop, Filling, done, ◌>>=◌}
use Rattle.qtt_implicit.specs.Walk.{Types, behind, is_braced, walk}
use Rattle.qtt_implicit.specs.Patterns.{Columns, clause_shapes, all_marks, renumbered, renumbered_shapes, none_met, walk_shapes, shape_nodes, shape_list}

-- ---- signatures
-- how many binders in braces stand in front
abbrev pub brace_count : Tree → ℕ
brace_count (pi k m n a b s) = if is_braced k then suc (brace_count b) else 0
brace_count _ = 0

-- a chain behind a family's parameters
abbrev pub behind_params : List Param → Tree → Tree
behind_params [] t = t
behind_params (param m n a s ∷ more) t = pi Written m n a (behind_params more t) s

-- a family is a chain of its parameters and indices; no constructor is written with its parameters
abbrev pub family_sig : List Param → Tree → Sig
family_sig ps t = record { braces = 0; params = 0; type = behind_params ps t }

abbrev pub constructor_sig : List Param → Tree → Sig
constructor_sig ps t = record { braces = brace_count t; params = length ps; type = behind_params ps t }

abbrev pub definition_sig : Tree → Sig
definition_sig t = record { braces = brace_count t; params = 0; type = t }

-- ---- items
-- an item with what is filled in, and the own items that it adds, each with its name and signature
pub record Grown : Type 0 where
  pub item : Item
  pub own : List (List ℕ × Sig)

abbrev pub with_own : List (List ℕ × Sig) → Known → Known
with_own own K = record K { own = K.own ++ own }

-- parameters, and the text types behind them
pub record Params : Type 0 where
  pub params : List Param
  pub types : Types

abbrev pub and_param : Param → Params → Params
and_param p r = record r { params = p ∷ r.params }

abbrev pub walk_params : Known → Types → List Param → Filling Params
walk_params K Γ [] = done (record { params = []; types = Γ })
walk_params K Γ (param m n t s ∷ more) = do
  t' ← walk K Γ t
  more' ← walk_params K (behind t'.tree Γ) more
  done (and_param (param m n t'.tree s) more')

abbrev pub walk_cons : Known → Types → List Con → Filling (List Con)
walk_cons K Γ [] = done []
walk_cons K Γ (con n t s ∷ more) = do
  t' ← walk K Γ t
  more' ← walk_cons K Γ more
  done (con n t'.tree s ∷ more')

abbrev pub own_con : List Param → Con → List ℕ × Sig
own_con ps (con n t s) = (n, constructor_sig ps t)

-- a family: its parameters, its type, and its constructors, which see it
abbrev pub walk_family : Known → List ℕ → Span → List Param → Tree → List Con → Span → Filling Grown
walk_family K n ns ps t cs s = do
  ps' ← walk_params K [] ps
  t' ← walk K ps'.types t
  cs' ← walk_cons (with_own ((n, family_sig ps'.params t'.tree) ∷ []) K) ps'.types cs
  done (record {
    item = family n ns ps'.params t'.tree cs' s;
    own = (n, family_sig ps'.params t'.tree) ∷ map (own_con ps'.params) cs';
  })

abbrev pub walk_signature : Known → Bool → Mult → List ℕ → Span → Tree → Span → Filling Grown
walk_signature K p m n ns t s = do
  t' ← walk K [] t
  done (record { item = typing p m n ns t'.tree s; own = (n, definition_sig t'.tree) ∷ [] })

-- a clause is a definition's whose signature stands in front
abbrev pub no_sig : Sig
no_sig = record { braces = 0; params = 0; type = unknown }

-- the patterns, which are written among variables with these marks, and then the right side
abbrev pub walk_equation : Known → Sig → List Mark → List ℕ → Shapes → Tree → Span → Filling Grown
walk_equation K S ms n ps side s = do
  ps' ← walk_shapes K (none_met (length ms)) (Columns.told [] S.type) (renumbered_shapes ms ps)
  side' ← walk K ps'.met.types (renumbered ms side)
  done (record { item = clause n (shape_list ps'.shapes) side'.tree s; own = [] })

-- a clause of a definition with signature S, its patterns with those that are put in
abbrev pub walk_clause : Known → Sig → List ℕ → Shapes → Tree → Span → Filling Grown
walk_clause K S n ps side s = walk_equation K S (all_marks ps) n ps side s

unfoldable pub walk_item : Known → Item → Filling Grown
walk_item K (family n ns ps t cs s) = walk_family K n ns ps t cs s
walk_item K (typing p m n ns t s) = walk_signature K p m n ns t s
walk_item K (clause n ps side s) =
    let S = unwrap_or (signature_named K n) no_sig in
    walk_clause K S n (clause_shapes K S.braces s ps) side s

-- ---- nodes of an item: each expression and each pattern is one
abbrev pub param_nodes : Param → ℕ
param_nodes (param m n t s) = nodes t

abbrev pub con_nodes : Con → ℕ
con_nodes (con n t s) = nodes t

abbrev pub item_nodes : Item → ℕ
item_nodes (family n ns ps t cs s) = sum_by param_nodes ps + (nodes t + sum_by con_nodes cs)
item_nodes (typing p m n ns t s) = nodes t
item_nodes (clause n ps side s) = sum_by shape_nodes ps + nodes side

abbrev pub place_of : Item → Span
place_of (family n ns ps t cs s) = s
place_of (typing p m n ns t s) = s
place_of (clause n ps side s) = s

-- ---- refusals
pub data Refusal : Type 0 where
  unsolved : List ℕ → Span → Refusal
  -- how many binders there are, and how many braces were found
  braces : ℕ → ℕ → Span → Refusal
  -- the count, at the item
  too_large : ℕ → Span → Refusal

abbrev pub refusal : ℕ → Span → Stop → Refusal
refusal limit s (Stop.unsolved n at) = Refusal.unsolved n at
refusal limit s (Stop.braces k m at) = Refusal.braces k m at
refusal limit s Stop.too_large = Refusal.too_large (limit + 1) s

abbrev pub grown : ℕ → Span → Result (Grown × ℕ) Stop → Result Grown Refusal
grown limit s (Ok r) = Ok r.0
grown limit s (Err e) = Err (refusal limit s e)

-- an item, where at most so many nodes may stand in it: its own come first
abbrev pub filled_item : ℕ → Known → Item → Result Grown Refusal
filled_item limit K i =
    if nat_le (item_nodes i) limit then grown limit (place_of i) (walk_item K i (limit - item_nodes i))
    else Err (Refusal.too_large (limit + 1) (place_of i))

-- ---- texts
-- items, and all own items with their signatures
pub record Filled : Type 0 where
  pub items : List Item
  pub own : List (List ℕ × Sig)

abbrev pub and_item : Item → Result Filled Refusal → Result Filled Refusal
and_item i (Ok r) = Ok (record r { items = i ∷ r.items })
and_item i (Err e) = Err e

abbrev pub item_then : Result Grown Refusal → (Grown → Result Filled Refusal) → Result Filled Refusal
item_then (Ok g) behind = and_item g.item (behind g)
item_then (Err e) behind = Err e

-- each item sees those before it, as they are filled
abbrev pub filled_items : ℕ → Known → List Item → Result Filled Refusal
filled_items limit K [] = Ok (record { items = []; own = K.own })
filled_items limit K (i ∷ more) = item_then (filled_item limit K i) (λ g. filled_items limit (with_own g.own K) more)

-- a text, and the signatures that it exports in the order of its items' numbers
pub record FilledText : Type 0 where
  pub text : Module
  pub sigs : List Sig

abbrev pub with_items : (List Item → Module) → Result Filled Refusal → Result FilledText Refusal
with_items text (Ok r) = Ok (record { text = text r.items; sigs = map (λ (o : List ℕ × Sig). o.1) r.own })
with_items text (Err e) = Err e

-- what a text of this number sees at its start
abbrev pub at_start : ModuleId → List Exports → Known
at_start home imports = record { home = home; own = []; imports = prim_exports ∷ imports }

-- a text whose names were looked up, filled, or the first refusal
abbrev pub filled : ModuleId → List Exports → Module → Result FilledText Refusal
filled home imports (module_text h n ns is items) =
    with_items (module_text h n ns is) (filled_items standard.filled_nodes (at_start home imports) items)
