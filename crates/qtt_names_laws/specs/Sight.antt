-- What a name sees at a place of a text: the binders around the place, the newest first; then the items of the
-- module that stand earlier; then what the imports and Prim export.
use Rattle.std.specs.Prelude.{◌≡◌, ◌≢◌, ℕ, suc, List, [], ◌∷◌, ◌++◌, map, Option, Some, None}
use Rattle.qtt_base.specs.declared.place.GlobalId.{GlobalId}
use Rattle.qtt_base.specs.declared.place.ModuleId.{ModuleId}
use Rattle.qtt_syntax.specs.declared.expr.Target.{Target}
use Rattle.qtt_syntax.specs.declared.expr.Target.TheVariants.{Local, Global}
use Rattle.qtt_names.specs.Scope.{Imported}

-- what an item of a module is
pub data Sort : Type 0 where
  family constructor definition : Sort

-- A place of a text: the number and the name of its module; the items that stand earlier in it, in text order; the
-- names of the binders around the place, the newest first; and the imports, Prim among them.
pub record Place : Type 0 where
  pub home : ModuleId
  pub name : List ℕ
  pub earlier : List (List ℕ × Sort)
  pub binders : List (List ℕ)
  pub imports : List Imported

-- ---- names in lists

-- the first of the names that is n is the one with this number, counted from 0
pub data First (n : List ℕ) : List (List ℕ) → ℕ → Type 0 where
  here : {more : List (List ℕ)} → First n (n ∷ more) 0
  behind : {m : List ℕ} {more : List (List ℕ)} {i : ℕ} → n ≢ m → First n more i → First n (m ∷ more) (suc i)

-- none of the names is n
pub data Absent (n : List ℕ) : List (List ℕ) → Type 0 where
  none : Absent n []
  other : {m : List ℕ} {more : List (List ℕ)} → n ≢ m → Absent n more → Absent n (m ∷ more)

-- the first entry whose name is n holds a
pub data Entry {A : Type 0} (n : List ℕ) (a : A) : List (List ℕ × A) → Type 0 where
  here : {more : List (List ℕ × A)} → Entry n a ((n, a) ∷ more)
  behind : {m : List ℕ} {b : A} {more : List (List ℕ × A)} → n ≢ m → Entry n a more → Entry n a ((m, b) ∷ more)

abbrev pub names : {A : Type 0} → List (List ℕ × A) → List (List ℕ)
names = map (λ e. e.0)

-- ---- qualified names

abbrev pub dot : ℕ
dot = 46

-- a name of one part has no dot
abbrev pub IsPlain : List ℕ → Type 0
IsPlain n = (m k : List ℕ) → n ≢ m ++ dot ∷ k

-- the name of an item behind that of a module: the last dot stands between them
pub record IsQualified (path m n : List ℕ) : Type 0 where
  pub spelled : path ≡ m ++ dot ∷ n
  pub last : IsPlain n

-- ---- imports

-- a name is looked up in every import, or in those of the module that it names
abbrev pub Within : Option (List ℕ) → Imported → Type 0
Within None e = Unit {0}
Within (Some m) e = e.name ≡ m

-- one of these imports exports the item under the name
pub data Exported (within : Option (List ℕ)) (n : List ℕ) (id : GlobalId) : List Imported → Type 0 where
  here : {e : Imported} {more : List Imported} → Within within e → Entry n id e.items →
      Exported within n id (e ∷ more)
  behind : {e : Imported} {more : List Imported} → Exported within n id more → Exported within n id (e ∷ more)

-- the imports export this thing under the name, and no other one
pub record OnlyExported (within : Option (List ℕ)) (n : List ℕ) (id : GlobalId) (imports : List Imported) : Type 0
  where
    pub exported : Exported within n id imports
    pub only : (other : GlobalId) → Exported within n other imports → other ≡ id

-- they export two different things under the name
pub record TwoExported (within : Option (List ℕ)) (n : List ℕ) (imports : List Imported) : Type 0 where
  pub one : GlobalId
  pub two : GlobalId
  pub first : Exported within n one imports
  pub second : Exported within n two imports
  pub differ : one ≢ two

-- they export nothing under the name
abbrev pub NoneExported : Option (List ℕ) → List ℕ → List Imported → Type 0
NoneExported within n imports = (id : GlobalId) → Exported within n id imports → ⊥

-- ---- sight

-- the item of the module itself with this number
abbrev pub own_item : Place → ℕ → GlobalId
own_item p i = record { «module» = p.home; item = i }

-- The name sees one thing. A binder is counted from the newest one, an own item from the first one of the text.
pub data Sees (p : Place) (path : List ℕ) : Target → Type 0 where
  binder : {i : ℕ} → First path p.binders i → Sees p path (Local i)
  own : {i : ℕ} → Absent path p.binders → IsPlain path → First path (names p.earlier) i →
      Sees p path (Global (own_item p i))
  imported : {id : GlobalId} → Absent path p.binders → IsPlain path → Absent path (names p.earlier) →
      OnlyExported None path id p.imports → Sees p path (Global id)
  own_qualified : {n : List ℕ} {i : ℕ} → Absent path p.binders → IsQualified path p.name n →
      First n (names p.earlier) i → Sees p path (Global (own_item p i))
  imported_qualified : {m n : List ℕ} {id : GlobalId} → Absent path p.binders → IsQualified path m n → p.name ≢ m →
      OnlyExported (Some m) n id p.imports → Sees p path (Global id)

-- it sees nothing: kind 10
pub data SeesNothing (p : Place) (path : List ℕ) : Type 0 where
  plain : Absent path p.binders → IsPlain path → Absent path (names p.earlier) →
      NoneExported None path p.imports → SeesNothing p path
  own_qualified : {n : List ℕ} → Absent path p.binders → IsQualified path p.name n → Absent n (names p.earlier) →
      SeesNothing p path
  imported_qualified : {m n : List ℕ} → Absent path p.binders → IsQualified path m n → p.name ≢ m →
      NoneExported (Some m) n p.imports → SeesNothing p path

-- it sees more than one thing: kind 11
pub data SeesMore (p : Place) (path : List ℕ) : Type 0 where
  plain : Absent path p.binders → IsPlain path → Absent path (names p.earlier) →
      TwoExported None path p.imports → SeesMore p path
  qualified : {m n : List ℕ} → Absent path p.binders → IsQualified path m n → p.name ≢ m →
      TwoExported (Some m) n p.imports → SeesMore p path
