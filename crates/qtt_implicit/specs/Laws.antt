-- The laws of filling.
use Rattle.std.specs.Prelude.{◌≡◌, ℕ, suc, ◌+◌, ◌≤◌, if◌then◌else◌, Bool, true, false, List, ◌∷◌, sum_by, All, Ok}
use Rattle.qtt_base.specs.Limits.{standard}
use Rattle.qtt_base.specs.declared.place.ModuleId.{ModuleId}
use Rattle.qtt_syntax.specs.declared.expr.Mark.{Mark}
use Rattle.qtt_syntax.specs.declared.expr.Mark.TheVariants.{Written, Braced, Inserted}
use Rattle.qtt_syntax.specs.Tree.{Tree, Arguments, Shape, Shapes, Param, Con, Item, Module}
use Rattle.qtt_syntax.specs.declared.expr.Target.{Target}
use Rattle.qtt_syntax.specs.declared.expr.Target.TheVariants as target
use Rattle.qtt_syntax.specs.Tree.Tree.{name, apply, pi}
use Rattle.qtt_syntax.specs.Tree.Argument.{argument}
use Rattle.qtt_syntax.specs.Tree.Arguments.{no_argument, argument_and}
use Rattle.qtt_syntax.specs.Tree.Shape.{variable, wildcard, constructor, dot}
use Rattle.qtt_syntax.specs.Tree.Shapes.{no_shape, shape_and}
use Rattle.qtt_syntax.specs.Tree.Param.{param}
use Rattle.qtt_syntax.specs.Tree.Con.{con}
use Rattle.qtt_syntax.specs.Tree.Item.{family, signature, clause}
use Rattle.qtt_syntax.specs.Tree.Module.{module_text}
use Rattle.qtt_names.specs.Exports.{Exports, Sig}
use Rattle.qtt_names.specs.PrimSigs.{prim_exports}
use Rattle.qtt_implicit.specs.Moving.{weighed}
use Rattle.qtt_implicit.specs.Known.{exported}
use Rattle.qtt_implicit.specs.Walk.{is_inserted, is_written}
use Rattle.qtt_implicit.specs.Patterns.{braces_of}
use Rattle.qtt_implicit.specs.Filled.{FilledText, item_nodes, filled}
use Rattle.qtt_implicit.specs.Forget.{text_forgotten}

-- ---- what a text weighs, where each expression and each variable pattern is given a weight
abbrev mutual
  pub weighed_shape : (Tree → ℕ) → (Mark → ℕ) → Shape → ℕ
  weighed_shape w v (variable k n s) = v k
  weighed_shape w v (wildcard k s) = 0
  weighed_shape w v (constructor k h ps s) = weighed_shapes w v ps
  weighed_shape w v (dot k e s) = weighed w e

  pub weighed_shapes : (Tree → ℕ) → (Mark → ℕ) → Shapes → ℕ
  weighed_shapes w v no_shape = 0
  weighed_shapes w v (shape_and p more) = weighed_shape w v p + weighed_shapes w v more

abbrev pub weighed_param : (Tree → ℕ) → Param → ℕ
weighed_param w (param m n t s) = weighed w t

abbrev pub weighed_con : (Tree → ℕ) → Con → ℕ
weighed_con w (con n t s) = weighed w t

abbrev pub weighed_item : (Tree → ℕ) → (Mark → ℕ) → Item → ℕ
weighed_item w v (family n ns ps t cs s) = sum_by (weighed_param w) ps + (weighed w t + sum_by (weighed_con w) cs)
weighed_item w v (signature p m n ns t s) = weighed w t
weighed_item w v (clause n ps side s) = sum_by (weighed_shape w v) ps + weighed w side

abbrev pub items_of : Module → List Item
items_of (module_text h n ns is items) = items

abbrev pub weighed_text : (Tree → ℕ) → (Mark → ℕ) → Module → ℕ
weighed_text w v m = sum_by (weighed_item w v) (items_of m)

abbrev pub unless : Bool → ℕ
unless b = if b then 0 else 1

abbrev pub inserted : Mark → ℕ
inserted k = if is_inserted k then 1 else 0

-- ---- texts as they are written
-- arguments of which none is in braces, and none was inserted
abbrev pub all_written : Arguments → Bool
all_written no_argument = true
all_written (argument_and (argument k t) more) = if is_written k then all_written more else false

-- arguments of which those in braces stand in front, and none was inserted
abbrev pub braces_first : Arguments → Bool
braces_first no_argument = true
braces_first (argument_and (argument Written t) more) = all_written more
braces_first (argument_and (argument Braced t) more) = braces_first more
braces_first (argument_and (argument Inserted t) more) = false

abbrev pub has_argument : Arguments → Bool
has_argument no_argument = false
has_argument (argument_and a more) = true

-- an application that no text writes
abbrev pub misplaced : Tree → ℕ
misplaced (apply f xs s) = unless (has_argument xs) + unless (braces_first xs)
misplaced _ = 0

-- an application that no text writes, or something in braces
abbrev pub not_plain : Tree → ℕ
not_plain (apply f xs s) = unless (has_argument xs) + unless (all_written xs)
not_plain (pi k m n a b s) = unless (is_written k)
not_plain _ = 0

-- each application has arguments, those in braces stand in front, and nothing was inserted
abbrev pub IsWritten : Module → Type 0
IsWritten m = weighed_text misplaced inserted m ≡ 0

-- the same, and nothing is in braces
abbrev pub IsPlain : Module → Type 0
IsPlain m = weighed_text not_plain inserted m ≡ 0

-- ---- signatures
abbrev pub chain_length : Tree → ℕ
chain_length (pi k m n a b s) = suc (chain_length b)
chain_length _ = 0

-- its chain has the binders that no text writes, and those in braces
abbrev pub HasItsBinders : Sig → Type 0
HasItsBinders S = S.params + S.braces ≤ chain_length S.type

abbrev pub HasNoBraces : Sig → Type 0
HasNoBraces S = S.braces ≡ 0

abbrev pub EachSig : (Sig → Type 0) → List Exports → Type 0
EachSig P imports = All (λ (e : Exports). All P e.sigs) imports

-- ---- names, and the binders in braces that they see in what is imported
abbrev pub braces_seen : List Exports → Target → ℕ
braces_seen es (target.Global id) = braces_of (exported es id)
braces_seen es (target.Local i) = 0
braces_seen es target.Unknown = 0

-- of an expression that is a name
abbrev pub name_braces : List Exports → Tree → ℕ
name_braces es (name n) = braces_seen es n.target
name_braces es _ = 0

-- of the constructors of a pattern
abbrev mutual
  pub head_braces : List Exports → Shape → ℕ
  head_braces es (variable k n s) = 0
  head_braces es (wildcard k s) = 0
  head_braces es (constructor k h ps s) = braces_seen es h.target + all_head_braces es ps
  head_braces es (dot k e s) = 0

  pub all_head_braces : List Exports → Shapes → ℕ
  all_head_braces es no_shape = 0
  all_head_braces es (shape_and p more) = head_braces es p + all_head_braces es more

abbrev pub item_head_braces : List Exports → Item → ℕ
item_head_braces es (clause n ps side s) = sum_by (head_braces es) ps
item_head_braces es (family n ns ps t cs s) = 0
item_head_braces es (signature p m n ns t s) = 0

abbrev pub no_mark : Mark → ℕ
no_mark k = 0

-- no name of a text sees a binder in braces, in an expression or as a constructor of a pattern
abbrev pub NamesNoBraces : List Exports → Module → Type 0
NamesNoBraces es m =
    (weighed_text (name_braces es) no_mark m ≡ 0) × (sum_by (item_head_braces es) (items_of m) ≡ 0)

-- ---- laws
-- forgetting what was filled in gives the text back
abbrev pub FilledIsForgotten : Type 0
FilledIsForgotten =
    (home : ModuleId) (imports : List Exports) (text : Module) (r : FilledText) →
    EachSig HasItsBinders imports → IsWritten text → filled home imports text ≡ Ok r → text_forgotten r.text ≡ text

-- where nothing is in braces and no name sees a binder in braces, nothing is put in
abbrev pub FilledWithItself : Type 0
FilledWithItself =
    (home : ModuleId) (imports : List Exports) (text : Module) →
    NamesNoBraces (prim_exports ∷ imports) text → IsPlain text →
    All (λ i. item_nodes i ≤ standard.filled_nodes) (items_of text) →
    (sigs : List Sig) × (filled home imports text ≡ Ok (record { text = text; sigs = sigs }))

abbrev pub FilledIsWithinLimit : Type 0
FilledIsWithinLimit =
    (home : ModuleId) (imports : List Exports) (text : Module) (r : FilledText) →
    filled home imports text ≡ Ok r → All (λ i. item_nodes i ≤ standard.filled_nodes) (items_of r.text)
