-- What a module declares is under its own number: its families, their constructors and its definitions.
use Rattle.std.proofs.Common.{◌≡◌, ℕ, suc, ◌<◌, Bool, true, List, length, All, Some, refl, ap, arith}
use Rattle.std.specs.List.{filter}
use Rattle.std.proofs.lemmas.Bool.{eqb-true}
use Rattle.std.proofs.lemmas.List.Elements.{All-nil, All-cons, All-same, All-weaker, All-filter, filter_passes}
use Rattle.qtt_base.specs.declared.place.GlobalId.{GlobalId}
use Rattle.qtt_syntax.specs.Tree.{Tree, Param, Con, Item, Module}
use Rattle.qtt_term.specs.Keyed.{is_of}
use Rattle.qtt_term.specs.Items.{ConstructorEntry, FamilyEntry, DefinitionEntry, family_id}
use Rattle.qtt_term.specs.Entries.{Entries}
use Rattle.qtt_module.specs.Families.{Head}
use Rattle.qtt_module.specs.FamilyRules.{Constructs, ConstructsAll, DeclaresFamily}
use Rattle.qtt_module.specs.Declarations.{Declaration}
use Rattle.qtt_module.specs.Sides.{Given}
use Rattle.qtt_module.specs.Module.{Home, Stage, now_given, Checked}
use Rattle.qtt_module.specs.ModuleRules.{Declares, DeclaresAll, DeclaresModule}
use Rattle.qtt_module.specs.Text.{Accepted, home_of}
use Rattle.qtt_build.specs.Built.{Built, numbered}
use Rattle.qtt_build.specs.Judged.{DeclaresAt, DeclaresRank}
use Rattle.qtt_build.specs.Parts.{OnlyBelow, OnlyOf, NumberedFrom}
use Rattle.qtt_build.proofs.Numbers.{all-inserted, below-later}

-- ---- constructors are of their family's module
constructor-of : {G : Entries} {F : Head} {k : ℕ} {c : Con} {d : ConstructorEntry} → Constructs G F k c d →
    d.id.module.0 ≡ F.id.module.0
constructor-of (Constructs.constructs fs e a) = refl

-- such constructors are of the module of this number
abbrev AreOf : ℕ → List ConstructorEntry → Type 0
AreOf n cs = All (λ (c : ConstructorEntry). c.id.module.0 ≡ n) cs

constructors-of : {G : Entries} {F : Head} {k : ℕ} {cs : List Con} {ds : List ConstructorEntry} →
    ConstructsAll G F k cs ds → AreOf F.id.module.0 ds
constructors-of {F = F} ConstructsAll.none = All-nil (λ (c : ConstructorEntry). c.id.module.0 ≡ F.id.module.0)
constructors-of {F = F} (ConstructsAll.more {d = d} {ds = ds} x xs) =
    All-cons (λ (c : ConstructorEntry). c.id.module.0 ≡ F.id.module.0) d ds (constructor-of x) (constructors-of xs)

family-of : {G : Entries} {f : GlobalId} {M n : List ℕ} {ps : List Param} {t : Tree} {cs : List Con}
    {F : FamilyEntry} → DeclaresFamily G f M n ps t cs F → AreOf f.module.0 F.constructors
family-of (DeclaresFamily.declares p x h i c g) = constructors-of c

-- ---- items in turn
-- where a family is of the module of number n its constructors are
abbrev Owns : ℕ → FamilyEntry → Type 0
Owns n F = F.id.module.0 ≡ n → AreOf n F.constructors

same-families : (d : GlobalId) (g : Given) (G : Entries) → (now_given d g G).families ≡ G.families
same-families d (Given.body b) G = refl
same-families d (Given.holes hs) G = refl

module _ (M : Home) where
  owns-one : {S T : Stage} {d : Declaration} → Declares M S d T → All (Owns M.id.0) S.globals.families →
      All (Owns M.id.0) T.globals.families
  owns-one {S} (Declares.family {F = F} f) h =
      all-inserted family_id (Owns M.id.0) F S.globals.families (λ e. family-of f) h
  owns-one (Declares.signature s) h = h
  owns-one {S} (Declares.group {x = x} {g = g} e r) h =
      All-same (Owns M.id.0) (now_given x.id g S.globals).families S.globals.families
      (same-families x.id g S.globals) h

  owns-all : {S T : Stage} {ds : List Declaration} → DeclaresAll M S ds T → All (Owns M.id.0) S.globals.families →
      All (Owns M.id.0) T.globals.families
  owns-all (DeclaresAll.last b) h = h
  owns-all (DeclaresAll.more d ds) h = owns-all ds (owns-one d h)

  -- the part of a module has its items alone
  module-numbered : {G : Entries} {is : List Item} {C : Checked} → All (Owns M.id.0) G.families →
      DeclaresModule M G is C → OnlyOf M.id.0 C.part
  module-numbered h (DeclaresModule.declares {S = S} d) =
      let families : List FamilyEntry = S.globals.families in
      let definitions : List DefinitionEntry = S.globals.definitions in
      let own : All (λ (F : FamilyEntry). F.id.module.0 ≡ M.id.0) (filter its-family families) =
      All-weaker (λ (F : FamilyEntry). its-family F ≡ true) (λ (F : FamilyEntry). F.id.module.0 ≡ M.id.0)
      (λ F e. eqb-true F.id.module.0 M.id.0 e) (filter its-family families) (filter_passes its-family families) in
      let owned = All-filter its-family (Owns M.id.0) families (owns-all d h) in
      record {
        families = own;
        constructors = λ k F l. owned k F l (own k F l);
        definitions =
            All-weaker (λ (d : DefinitionEntry). its-definition d ≡ true)
            (λ (d : DefinitionEntry). d.id.module.0 ≡ M.id.0) (λ d e. eqb-true d.id.module.0 M.id.0 e)
            (filter its-definition definitions) (filter_passes its-definition definitions);
      }
    where
      its-family : FamilyEntry → Bool
      its-family F = is_of (Some M.id) F.id

      its-definition : DefinitionEntry → Bool
      its-definition d = is_of (Some M.id) d.id

-- ---- what a module declares
-- over modules of lower numbers
none-yet : (n : ℕ) (G : Entries) → OnlyBelow n G → All (Owns n) G.families
none-yet n G below =
    All-weaker (λ (F : FamilyEntry). F.id.module.0 < n) (Owns n) (λ F l e. absurd (omega (arith, l, e))) G.families
    below.families

pub declared-numbered : (k : ℕ) (B : Built) (m : Module) (A : Accepted) → OnlyBelow (suc k) B.globals →
    DeclaresAt B k m A → OnlyOf (suc k) A.checked.part
declared-numbered k B m A below d =
    module-numbered (home_of (numbered k) m) (none-yet (suc k) B.globals below) d.declares

-- ---- a rank
-- its modules have the next numbers in turn
pub rank-numbered : (B : Built) (k : ℕ) (ms : List Module) (As : List Accepted) → OnlyBelow (suc k) B.globals →
    DeclaresRank B k ms As → NumberedFrom (suc k) As
rank-numbered B k _ _ below DeclaresRank.none = tt
rank-numbered B k _ _ below (DeclaresRank.more {m = m} {ms = ms} {A = A} {As = As} d r) = (
  declared-numbered k B m A below d,
  rank-numbered B (suc k) ms As (below-later (suc k) (suc (suc k)) B.globals (omega arith) below) r,
)

-- each of its modules declares one
pub length-declared : {B : Built} {k : ℕ} {ms : List Module} {As : List Accepted} → DeclaresRank B k ms As →
    length As ≡ length ms
length-declared DeclaresRank.none = refl
length-declared (DeclaresRank.more d r) = ap suc (length-declared r)
