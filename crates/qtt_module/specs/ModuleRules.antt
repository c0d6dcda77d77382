-- The judgement of a module as a relation: one rule for each kind of item, the items in turn, and the test of a main.
use Rattle.std.specs.Prelude.{◌≡◌, ℕ, Bool, true, false, List, [], ◌∷◌, map, length, All, Option, Some}
use Rattle.qtt_base.specs.declared.place.GlobalId.{GlobalId}
use Rattle.qtt_base.specs.declared.place.Span.{Span}
use Rattle.qtt_usage.specs.declared.mult.Mult.{Mult}
use Rattle.qtt_syntax.specs.Tree.{Tree, Param, Con, Item}
use Rattle.qtt_term.specs.Term.{Io}
use Rattle.qtt_term.specs.Signature.{definition_at, UnitTy, IoTy}
use Rattle.qtt_term.specs.Contraction.{Conv}
use Rattle.qtt_term.specs.Judgement.{Part}
use Rattle.qtt_term.specs.Infer.{usable}
use Rattle.qtt_term.specs.Items.{FamilyEntry, DefinitionEntry}
use Rattle.qtt_term.specs.Entries.{Entries, env}
use Rattle.qtt_term.specs.Scope.{name_of}
use Rattle.qtt_split.specs.Node.{Clause}
use Rattle.qtt_module.specs.Families.{labels}
use Rattle.qtt_module.specs.FamilyRules.{DeclaresFamily, DeclaresSignature}
use Rattle.qtt_module.specs.Declarations.{Declaration, declarations}
use Rattle.qtt_module.specs.Sides.{Given}
use Rattle.qtt_module.specs.GroupRules.{GivesGroup}
use Rattle.qtt_module.specs.Module.{Home, item_of, Signed, Stage, start, after_family, after_signature, after_group, signed_as, defined, Checked, checked}

-- a signature that has no clauses yet, as the next item
abbrev pub signed_next : Home → Stage → Bool → List ℕ → Span → Tree → Signed
signed_next M S b n s t =
    record {
      id = item_of M S.next;
      name = n;
      place = s;
      labels = map name_of (labels t);
      may_miss = b;
      has_clauses = false;
    }

-- from one stage to the next
pub data Declares (M : Home) (S : Stage) : Declaration → Stage → Type 0 where
  family : {n : List ℕ} {ps : List Param} {t : Tree} {cs : List Con} {F : FamilyEntry} →
      DeclaresFamily S.globals (item_of M S.next) M.name n ps t cs F →
      Declares M S (Declaration.family n ps t cs) (after_family F (length cs) S)
  signature : {b : Bool} {q : Mult} {n : List ℕ} {s : Span} {t : Tree} {d : DefinitionEntry} →
      DeclaresSignature S.globals (item_of M S.next) M.name n q t d →
      Declares M S (Declaration.signature b q n s t) (after_signature d (signed_next M S b n s t) S)
  -- the name has a signature earlier
  group : {n : List ℕ} {c : Clause} {cs : List Clause} {x : Signed} {g : Given} →
      signed_as n S.signed ≡ Some x → GivesGroup (defined S x c cs) g →
      Declares M S (Declaration.group n c cs) (after_group n x.id g S)

abbrev pub HasClauses : Signed → Type 0
HasClauses x = x.has_clauses ≡ true

-- items in turn; behind the last one each signature has clauses
pub data DeclaresAll (M : Home) : Stage → List Declaration → Stage → Type 0 where
  last : {S : Stage} → All HasClauses S.signed → DeclaresAll M S [] S
  more : {S T U : Stage} {d : Declaration} {ds : List Declaration} →
      Declares M S d T → DeclaresAll M T ds U → DeclaresAll M S (d ∷ ds) U

-- a module declares this, over what its imports and Prim declare
pub data DeclaresModule (M : Home) (G : Entries) (is : List Item) : Checked → Type 0 where
  declares : {S : Stage} → DeclaresAll M (start G) (declarations is) S → DeclaresModule M G is (checked M S)

-- the main of a program: it is there, it is not 0, and its type is convertible to IO Unit
pub data IsMain (G : Entries) : Option GlobalId → GlobalId → Type 0 where
  is_main : {d : GlobalId} → usable Part.run (definition_at (env G) d).mult ≡ true →
      Conv (env G) (definition_at (env G) d).type (IoTy Io.io UnitTy) → IsMain G (Some d) d
