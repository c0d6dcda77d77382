-- Environments, scopes and modes in which no Tape stands.
use Rattle.std.specs.Prelude.{◌≡◌, List, [], ◌∷◌, Some}
use Rattle.qtt_base.specs.declared.place.GlobalId.{GlobalId}
use Rattle.qtt_term.specs.Term.{Term}
use Rattle.qtt_term.specs.Signature.{Tele, Constructor, Family, Env, family_at, definition_at}
use Rattle.qtt_term.specs.Environment.{NoTape, NoTapes}
use Rattle.qtt_rules.specs.Judged.{Judged, Mode}

abbrev pub TeleTapeless : Tele → Type 0
TeleTapeless [] = Unit {0}
TeleTapeless (b ∷ Θ) = NoTape b.1 × TeleTapeless Θ

abbrev pub TypesTapeless : List Term → Type 0
TypesTapeless [] = Unit {0}
TypesTapeless (T ∷ Ts) = NoTape T × TypesTapeless Ts

pub record ConstructorTapeless (c : Constructor) : Type 0 where
  pub fields : TeleTapeless c.fields
  pub results : NoTapes c.results

abbrev pub ConstructorsTapeless : List Constructor → Type 0
ConstructorsTapeless [] = Unit {0}
ConstructorsTapeless (c ∷ cs) = ConstructorTapeless c × ConstructorsTapeless cs

pub record FamilyTapeless (F : Family) : Type 0 where
  pub params : TeleTapeless F.params
  pub indices : TypesTapeless F.indices
  pub constructors : ConstructorsTapeless F.constructors

pub record Tapeless (E : Env) : Type 0 where
  pub families : (f : GlobalId) → FamilyTapeless (family_at E f)
  pub types : (d : GlobalId) → NoTape (definition_at E d).type
  pub bodies : (d : GlobalId) (b : Term) → (definition_at E d).body ≡ Some b → NoTape b

-- what a name stands for, and its type
pub record NameTapeless (x : Term × Term) : Type 0 where
  pub term : NoTape x.0
  pub type : NoTape x.1

abbrev pub NamesTapeless : List (Term × Term) → Type 0
NamesTapeless [] = Unit {0}
NamesTapeless (x ∷ xs) = NameTapeless x × NamesTapeless xs

abbrev pub ModeTapeless : Mode → Type 0
ModeTapeless Mode.synth = Unit {0}
ModeTapeless (Mode.check A) = NoTape A

pub record JudgedTapeless (j : Judged) : Type 0 where
  pub type : NoTape j.type
  pub core : NoTape j.core
