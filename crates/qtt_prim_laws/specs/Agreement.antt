-- The module Prim as texts see it and as the core judges it: the same items, of the same numbers, names and
-- types.
use Rattle.std.specs.Prelude.{◌≡◌, ℕ, List, [], ◌∷◌, ◌++◌, map, zip, find, length, Option, Some, None, codes}
use Rattle.std.specs.List.{flat_map}
use Rattle.qtt_base.specs.declared.place.GlobalId.{GlobalId}
use Rattle.qtt_prims.specs.declared.prim.Primitive.{Primitive}
use Rattle.qtt_prims.specs.declared.prim.Primitive.TheVariants as prim
use Rattle.qtt_prims.specs.declared.prim.ActKind.{ActKind}
use Rattle.qtt_prims.specs.declared.prim.ActKind.TheVariants as act
use Rattle.qtt_prims.specs.PrimNames.{prim_name, action_name}
use Rattle.qtt_syntax.specs.declared.expr.Target.{Target}
use Rattle.qtt_syntax.specs.declared.expr.Target.TheVariants.{Unknown, Local, Global}
use Rattle.qtt_syntax.specs.Tree.{Tree, Arguments}
use Rattle.qtt_syntax.specs.Tree.Tree.{name, universe, apply, pi}
use Rattle.qtt_syntax.specs.Tree.Argument.{argument}
use Rattle.qtt_syntax.specs.Tree.Arguments.{no_argument, argument_and}
use Rattle.qtt_term.specs.Term.{Io, PrimTy, Named, Term, Terms, var, ε, ◌▸◌, Sort, Pi, Fam, TypeOf, same_id}
use Rattle.qtt_term.specs.Signature.{Tele, ConSig, prim_id, type_arguments, signature, fam_sig, index_binders}
use Rattle.qtt_term.specs.Items.{ConstructorEntry, FamilyEntry}
use Rattle.qtt_term.specs.PrimItems.{unit_entry, bool_entry, line_entry, eq_entry, prim_families}
use Rattle.qtt_term.specs.PrimEnvironment.{prim_env}
use Rattle.qtt_term.specs.View.{action}
use Rattle.qtt_names.specs.Exports.{Sig}
use Rattle.qtt_names.specs.PrimSigs.{prim_exports}

-- an item of Prim: how many of its arguments no text writes, and its type as a chain of binders with these in
-- front
pub record PrimItem : Type 0 where
  pub id : GlobalId
  pub name : List ℕ
  pub unwritten : ℕ
  pub type : Term

abbrev pub qualified : List ℕ → List ℕ
qualified n = codes "Prim." ++ n

-- ---- what texts see

-- Int, String, Handle, IO and IO1 are forms of terms
abbrev pub type_forms : List (ℕ × PrimTy)
type_forms = (0, PrimTy.int) ∷ (1, PrimTy.string) ∷ (2, PrimTy.handle) ∷ (6, PrimTy.io_of Io.io) ∷
    (7, PrimTy.io_of Io.io1) ∷ []

-- the other types are families
abbrev pub form_or_family : GlobalId → Option (ℕ × PrimTy) → Terms → Term
form_or_family id None ts = Fam id ts
form_or_family id (Some form) ts = TypeOf form.1 ts

-- an item of Prim at its arguments
abbrev pub item_term : GlobalId → Terms → Term
item_term id ts = form_or_family id (find (λ (form : ℕ × PrimTy). same_id (prim_id form.0) id) type_forms) ts

abbrev pub used_term : Target → Terms → Term
used_term (Local i) ts = var i
used_term (Global id) ts = item_term id ts
used_term Unknown ts = Sort 0

-- a type of a text as a term; no other form stands in a signature of Prim
abbrev mutual
  pub term : Tree → Term
  term (name u) = used_term u.target ε
  term (apply (name u) ts s) = used_term u.target (terms ts)
  term (universe l ls s) = Sort l
  term (pi k q x A B s) = Pi q (term A) (term B)
  term _ = Sort 0

  pub terms : Arguments → Terms
  terms no_argument = ε
  terms (argument_and (argument k t) more) = term t ▸ terms more

abbrev pub seen : (List ℕ × GlobalId) × Sig → PrimItem
seen i = record { id = i.0.1; name = qualified i.0.0; unwritten = i.1.params; type = term i.1.type }

abbrev pub items_seen : List PrimItem
items_seen = map seen (zip prim_exports.items prim_exports.sigs)

abbrev pub seen_by : GlobalId → Option PrimItem
seen_by id = find (λ (i : PrimItem). same_id i.id id) items_seen

-- ---- what the core has

abbrev pub pis : Tele → Term → Term
pis [] B = B
pis (x ∷ Θ) B = Pi x.0 x.1 (pis Θ B)

abbrev pub family_item : FamilyEntry → PrimItem
family_item F = record {
  id = F.id;
  name = F.name;
  unwritten = 0;
  type = pis (F.family.params ++ index_binders 0 F.family.indices) (Sort F.family.level);
}

-- a constructor is written without its family's parameters
abbrev pub constructor_item : FamilyEntry → ConstructorEntry × ConSig → PrimItem
constructor_item F c = record {
  id = c.0.id;
  name = c.0.name;
  unwritten = length F.family.params;
  type = pis (F.family.params ++ c.1.fields) c.1.result;
}

abbrev pub constructor_items : FamilyEntry → List PrimItem
constructor_items F = map (constructor_item F) (zip F.constructors (fam_sig F.id F.family).constructors)

-- the families of the environment, each with its constructors
abbrev pub family_items : List PrimItem
family_items = flat_map (λ F. family_item F ∷ constructor_items F) prim_families

-- what is a form of terms has a signature of its own
abbrev pub form_item : ℕ → List ℕ → ℕ → Named → PrimItem
form_item n x unwritten f = record {
  id = prim_id n;
  name = qualified x;
  unwritten = unwritten;
  type = pis (signature prim_env f).arguments (signature prim_env f).type;
}

abbrev pub type_item : ℕ → List ℕ → PrimTy → PrimItem
type_item n x p = form_item n x 0 (Named.prim_ty p)

abbrev pub primitive_item : ℕ → Primitive → PrimItem
primitive_item n p = form_item n (prim_name p) 0 (Named.prim p)

-- the type that `pure` and `pure1` are at is not written
abbrev pub unwritten_of : ActKind → ℕ
unwritten_of act.Pure = 1
unwritten_of act.Pure1 = 1
unwritten_of _ = 0

abbrev pub action_item : ℕ → ActKind → PrimItem
action_item n k = form_item n (action_name k) (unwritten_of k) (Named.act (action k) (type_arguments (action k)))

-- in the order of their numbers; binds have no number
abbrev pub core_items : List PrimItem
core_items =
    type_item 0 (codes "Int") PrimTy.int ∷ type_item 1 (codes "String") PrimTy.string ∷
    type_item 2 (codes "Handle") PrimTy.handle
    ∷ family_item unit_entry ∷ family_item bool_entry ∷ family_item line_entry
    ∷ type_item 6 (codes "IO") (PrimTy.io_of Io.io) ∷ type_item 7 (codes "IO1") (PrimTy.io_of Io.io1)
    ∷ constructor_items unit_entry ++ constructor_items bool_entry ++ constructor_items line_entry
    ++ family_item eq_entry ∷ constructor_items eq_entry
    ++ primitive_item 15 prim.AddInt ∷ primitive_item 16 prim.SubInt ∷ primitive_item 17 prim.MulInt
    ∷ primitive_item 18 prim.DivInt ∷ primitive_item 19 prim.ModInt ∷ primitive_item 20 prim.EqInt ∷
    primitive_item 21 prim.LtInt
    ∷ primitive_item 22 prim.AppendString ∷ primitive_item 23 prim.EqString ∷ primitive_item 24 prim.ShowInt
    ∷ action_item 25 act.Pure ∷ action_item 26 act.Pure1 ∷ action_item 27 act.PutLine ∷ action_item 28 act.GetLine
    ∷ action_item 29 act.Open ∷ action_item 30 act.Write ∷ action_item 31 act.Close ∷ []

-- Each item has a signature; number by number the items are those of the core; and each family and constructor of
-- the core's environment is one of them.
pub record PrimAgrees : Type 0 where
  pub counts : length prim_exports.items ≡ length prim_exports.sigs
  pub items : items_seen ≡ core_items
  pub families : map (λ (i : PrimItem). seen_by i.id) family_items ≡ map (λ (i : PrimItem). Some i) family_items
