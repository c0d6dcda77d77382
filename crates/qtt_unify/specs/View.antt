-- What the code's values stand for, and what its calls answer.
use Rattle.std.specs.Prelude.{◌≡◌, ℕ, List, map, reverse, Result, MatchResult, IfOk, IfErr}
use Rattle.qtt_usage.specs.declared.mult.Mult.{Mult}
use Rattle.qtt_term.specs.declared.term.Term as code
use Rattle.qtt_term.specs.declared.convert.Question as code_question
use Rattle.qtt_term.specs.declared.convert.Question.TheVariants as asked
use Rattle.qtt_term.specs.Term.{Term, Terms}
use Rattle.qtt_term.specs.Signature.{Env}
use Rattle.qtt_term.specs.Globals.{env}
use Rattle.qtt_term.specs.Judgement.{Ctx}
use Rattle.qtt_term.specs.Contexts.{variables}
use Rattle.qtt_term.specs.Ask.{Ask, Question, Ending, within}
use Rattle.qtt_term.specs.FirstSpent.{FirstSpent}
use Rattle.qtt_term.specs.View.{term, terms, side_by_side}
use Rattle.qtt_unify.specs.declared.error.UnifyError.{UnifyError}
use Rattle.qtt_unify.specs.declared.error.UnifyError.TheVariants as error
use Rattle.qtt_unify.specs.declared.targets.Scrutinee as code_scrutinee
use Rattle.qtt_unify.specs.declared.equations.Found as code_found
use Rattle.qtt_unify.specs.declared.equations.Found.TheVariants as found_variant
use Rattle.qtt_unify.specs.declared.equations.Verdict as code_verdict
use Rattle.qtt_unify.specs.declared.equations.Verdict.TheVariants as verdict_variant
use Rattle.qtt_unify.specs.declared.unifier.Unifier.{Unifier}
use Rattle.qtt_unify.specs.declared.unifier.Deletion as code_deletion
use Rattle.qtt_unify.specs.declared.solving.Problem as code_problem
use Rattle.qtt_unify.specs.declared.solving.Solved as code_solved
use Rattle.qtt_unify.specs.declared.solving.Solved.TheVariants as solved_variant
use Rattle.qtt_unify.specs.Targets.{Scrutinee}
use Rattle.qtt_unify.specs.Equations.{Found, Verdict}
use Rattle.qtt_unify.specs.Deletion.{Deletion}
use Rattle.qtt_unify.specs.Problems.{Problem, Solved, solve}
use Rattle.qtt_unify.specs.Unification.{Unifies}

-- ---- values
abbrev pub all_terms : List code.Term → Terms
all_terms ts = side_by_side (terms ts)

-- a context whose variables stand the outermost first
abbrev pub binders : List (Mult × code.Term) → Ctx
binders bs = reverse (map (λ b. (b.0, term b.1)) bs)

abbrev pub scrutinee : code_scrutinee.Scrutinee → Scrutinee
scrutinee S = record {
  context = binders S.context.now;
  variable = S.variable;
  params = all_terms S.params.now;
  indices = all_terms S.indices.now;
  targets = all_terms S.targets.now;
}

abbrev pub solution : ℕ × code.Term → ℕ × Term
solution s = (s.0, term s.1)

abbrev pub found : code_found.Found → Found
found (found_variant.Solves i t) = Found.solves i (term t)
found found_variant.Clashes = Found.clashes
found (found_variant.Sticks u t) = Found.sticks (term u) (term t)

abbrev pub verdict : code_verdict.Verdict → Verdict
verdict (verdict_variant.Solved ss) = Verdict.solved (map solution ss.items)
verdict verdict_variant.Clash = Verdict.clash
verdict (verdict_variant.Stuck n u t) = Verdict.stuck n (term u) (term t)

abbrev pub deletion : code_deletion.Deletion → Deletion
deletion d = record { type = term d.ty.now; point = term d.point.now }

abbrev pub problem : code_problem.Problem → Problem
problem Q = record {
  context = variables Q.ctx;
  variable = Q.scrutinee;
  family = Q.family;
  params = all_terms Q.params.items;
  indices = all_terms Q.targets.items;
  results = all_terms Q.found.items;
}

abbrev pub solved : code_solved.Solved → Solved
solved (solved_variant.Solution ss) = Solved.solution_is (map solution ss.items)
solved solved_variant.Clash = Solved.clash_is
solved solved_variant.Deletion = Solved.deletion_is
solved (solved_variant.Stuck u t) = Solved.stuck_is (term u) (term t)

-- ---- answers
-- no premise of these can be false, and all questions are asked at one place
abbrev pub Asks : Type 0 → Type 0
Asks A = Ask ⊥ (Unit {0}) A

abbrev pub question : code_question.Question → Question
question (asked.Head d t) = Question.head_of d (term t)
question (asked.Compare d t s) = Question.compared d (term t) (term s)

-- within n contractions it ends with this answer, or a question is spent
pub record Reaches (E : Env) (n : ℕ) {A : Type 0} (m : Asks A) (a : A) : Type 0 where
  pub is : within E n m ≡ Ending.ok a

pub record Spends (E : Env) (n : ℕ) {A : Type 0} (m : Asks A) (q : Question) : Type 0 where
  pub is : within E n m ≡ Ending.spent tt q

-- want of memory says nothing
abbrev pub Refuses : Env → ℕ → {A : Type 0} → Asks A → UnifyError → Type 0
Refuses E n m (error.Spent q) = Spends E n m (question q)
Refuses E n m error.Memory = Unit {0}

-- a call answers as the list of questions ends
abbrev pub Gives : Env → ℕ → {A X : Type 0} → Asks A → (X → A) → Result X UnifyError → Type 0
Gives E n m view result = MatchResult result (λ x. Reaches E n m (view x)) (λ e. Refuses E n m e)

-- within a unifier's budget
abbrev pub Answers : {C X A : Type 0} → Unifier C → Asks A → (X → A) → Result X UnifyError → Type 0
Answers K m view result = Gives (env K.globals.now) K.budget m view result

-- ---- the public call
-- this holds of the question, where one is spent
abbrev pub WhereSpent : UnifyError → (Question → Type 0) → Type 0
WhereSpent (error.Spent q) P = P (question q)
WhereSpent error.Memory P = Unit {0}

abbrev pub asks : Env → Problem → Asks Solved
asks E Q = solve E tt Q

-- the call answers as the problem's questions end within n contractions for each: the answer is so by the relation,
-- and what is spent is the first question that is
pub record Unified (E : Env) (n : ℕ) (Q : Problem) (result : Result code_solved.Solved UnifyError) : Type 0 where
  pub gives : Gives E n (asks E Q) solved result
  pub means : IfOk result (λ s. Unifies E Q (solved s))
  pub spent : IfErr result (λ e. WhereSpent e (λ q. FirstSpent E n (asks E Q) tt q))
