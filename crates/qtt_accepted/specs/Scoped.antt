-- Scopes, modes and judgements whose terms mention no variable past a context.
use Rattle.std.specs.Prelude.{◌≡◌, ℕ, List, [], ◌∷◌}
use Rattle.qtt_base.specs.declared.place.GlobalId.{GlobalId}
use Rattle.qtt_term.specs.Term.{Term, var}
use Rattle.qtt_term.specs.Substitution.{Below, Closed}
use Rattle.qtt_term.specs.Signature.{Env, definition_at}
use Rattle.qtt_rules.specs.Judged.{Judged, Mode}

-- no variable is free in the type of a definition
abbrev pub TypesClosed : Env → Type 0
TypesClosed E = (d : GlobalId) → Closed (definition_at E d).type

-- what a name stands for, and its type, under n variables
pub record NameBelow (n : ℕ) (x : Term × Term) : Type 0 where
  pub term : Below n x.0
  pub type : Below n x.1

abbrev pub NamesBelow : ℕ → List (Term × Term) → Type 0
NamesBelow n [] = Unit {0}
NamesBelow n (x ∷ xs) = NameBelow n x × NamesBelow n xs

abbrev pub ModeBelow : ℕ → Mode → Type 0
ModeBelow n Mode.synth = Unit {0}
ModeBelow n (Mode.check A) = Below n A

pub record JudgedBelow (n : ℕ) (j : Judged) : Type 0 where
  pub type : Below n j.type
  pub core : Below n j.core

-- each name stands for a variable, as those of parameters and fields do
abbrev pub NamesAreVariables : List (Term × Term) → Type 0
NamesAreVariables [] = Unit {0}
NamesAreVariables (x ∷ xs) = ((i : ℕ) × (x.0 ≡ var i)) × NamesAreVariables xs
