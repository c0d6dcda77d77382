-- One problem alone: the indices of a variable's type against found result indices, all in one context.
use Rattle.std.specs.Prelude.{ℕ, List, length, Option, Some, None}
use Rattle.qtt_base.specs.declared.place.GlobalId.{GlobalId}
use Rattle.qtt_term.specs.Term.{Term, Terms}
use Rattle.qtt_term.specs.Signature.{Env}
use Rattle.qtt_term.specs.Judgement.{Ctx}
use Rattle.qtt_term.specs.Ask.{Ask, ◌>>=◌}
use Rattle.qtt_unify.specs.Targets.{Scrutinee, readings}
use Rattle.qtt_unify.specs.Equations.{Verdict, constructor_verdict}
use Rattle.qtt_unify.specs.Deletion.{Deletion, deletion}

-- a variable of a context; its type's family, parameters and indices; and the result indices
pub record Problem : Type 0 where
  pub context : Ctx
  pub variable : ℕ
  pub family : GlobalId
  pub params : Terms
  pub indices : Terms
  pub results : Terms

pub data Solved : Type 0 where
  solution_is : List (ℕ × Term) → Solved
  clash_is deletion_is : Solved
  stuck_is : (result target : Term) → Solved

abbrev pub scrutinee : Problem → Terms → Scrutinee
scrutinee Q ts = record {
  context = Q.context;
  variable = Q.variable;
  params = Q.params;
  indices = Q.indices;
  targets = ts;
}

abbrev pub or_deletion : Term → Term → Option Deletion → Solved
or_deletion u t (Some d) = Solved.deletion_is
or_deletion u t None = Solved.stuck_is u t

-- what is stuck may be a deletion
abbrev pub solved_by : {F P : Type 0} → P → GlobalId → Scrutinee → Verdict → Ask F P Solved
solved_by p f S (Verdict.solved s) = Ask.done (Solved.solution_is s)
solved_by p f S Verdict.clash = Ask.done Solved.clash_is
solved_by p f S (Verdict.stuck n u t) = do
  d ← deletion p f S
  Ask.done (or_deletion u t d)

unfoldable pub solve : {F P : Type 0} → Env → P → Problem → Ask F P Solved
solve E p Q = do
  ts ← readings p (length Q.context) Q.indices
  v ← constructor_verdict E p (scrutinee Q ts) 0 Q.results
  solved_by p Q.family (scrutinee Q ts) v
