-- The laws that the functions of this crate ensure.
use Rattle.std.specs.Prelude.{◌≡◌, ◌↔◌, ℕ, List}
use Rattle.qtt_term.specs.Term.{Terms}
use Rattle.qtt_term.specs.Signature.{Env}
use Rattle.qtt_term.specs.Ask.{Ending, Ends}
use Rattle.qtt_unify.specs.Targets.{Scrutinee}
use Rattle.qtt_unify.specs.Equations.{Found, Verdict, verdict, constructor_verdict}
use Rattle.qtt_unify.specs.Problems.{Problem, Solved, solve}
use Rattle.qtt_unify.specs.Unification.{Concludes, HasVerdict, Unifies}

-- without a bound a list of questions ends with an answer exactly where the relation holds of it, and it never fails
pub record EquationsAreTheRelation (F P : Type 0) : Type 0 where
  pub problems : (E : Env) (p : P) (Q : Problem) (a : Solved) →
      Ends E (solve {F = F} E p Q) (Ending.ok a) ↔ Unifies E Q a
  pub constructors : (E : Env) (p : P) (S : Scrutinee) (m : ℕ) (results : Terms) (v : Verdict) →
      Ends E (constructor_verdict {F = F} E p S m results) (Ending.ok v) ↔ HasVerdict E S m results v
  pub never_fails : (E : Env) (p : P) (Q : Problem) (f : F) → Ends E (solve {F = F} E p Q) (Ending.fails f) → ⊥

-- what is found solves, clashes or is stuck, and one of these alone
pub record OneVerdict : Type 0 where
  pub computed : (n : ℕ) (xs : List Found) → Concludes n xs (verdict n xs)
  pub alone : (n : ℕ) (xs : List Found) (v : Verdict) → Concludes n xs v → verdict n xs ≡ v

-- a problem is solved, clashes, is a deletion or is stuck, and one of these alone
abbrev pub OneOfFour : Env → Type 0
OneOfFour E = (Q : Problem) (a b : Solved) → Unifies E Q a → Unifies E Q b → a ≡ b
