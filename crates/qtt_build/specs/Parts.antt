-- Numbers of modules: what a module declares is under its own number, and what stands before it under lower ones.
use Rattle.std.specs.Prelude.{◌≡◌, ℕ, suc, ◌<◌, List, [], ◌∷◌, All}
use Rattle.qtt_base.specs.declared.place.GlobalId.{GlobalId}
use Rattle.qtt_term.specs.Items.{ConstructorEntry, FamilyEntry, DefinitionEntry}
use Rattle.qtt_term.specs.Entries.{Entries}
use Rattle.qtt_module.specs.Text.{Accepted}

-- all ids that stand there are such: those of families, constructors and definitions
pub record AllIds (P : GlobalId → Type 0) (G : Entries) : Type 0 where
  pub families : All (λ (F : FamilyEntry). P F.id) G.families
  pub constructors : All (λ (F : FamilyEntry). All (λ (c : ConstructorEntry). P c.id) F.constructors) G.families
  pub definitions : All (λ (d : DefinitionEntry). P d.id) G.definitions

-- only modules with a number below this stand there
abbrev pub OnlyBelow : ℕ → Entries → Type 0
OnlyBelow k G = AllIds (λ i. i.module.0 < k) G

-- only the module of this number stands there
abbrev pub OnlyOf : ℕ → Entries → Type 0
OnlyOf k G = AllIds (λ i. i.module.0 ≡ k) G

-- the parts of accepted modules, the first of this number, the next of the next
abbrev pub NumberedFrom : ℕ → List Accepted → Type 0
NumberedFrom k [] = Unit {0}
NumberedFrom k (A ∷ As) = OnlyOf k A.checked.part × NumberedFrom (suc k) As

-- they are numbered from a number on below which all stands that is there
pub record Follow (G : Entries) (As : List Accepted) : Type 0 where
  pub first : ℕ
  pub below : OnlyBelow first G
  pub numbered : NumberedFrom first As
