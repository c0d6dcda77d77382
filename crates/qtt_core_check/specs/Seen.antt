-- What the values of the code stand for.
use Rattle.std.specs.Prelude.{◌≡◌, ℕ, [], ◌∷◌, Bool, true, ◌||◌, Result, MatchResult}
use Rattle.qtt_usage.specs.declared.mult.Mult.{Mult}
use Rattle.qtt_term.specs.declared.convert.Question as code_question
use Rattle.qtt_term.specs.declared.convert.Question.TheVariants as asked
use Rattle.qtt_term.specs.View.{term}
use Rattle.qtt_term.specs.Signature.{Env}
use Rattle.qtt_usage.specs.Mult.{fits}
use Rattle.qtt_term.specs.Term.{Term, Pi}
use Rattle.qtt_term.specs.declared.rule.Rule.TheVariants as rule
use Rattle.qtt_term.specs.Judgement.{Ctx, ext, Part}
use Rattle.qtt_term.specs.Ask.{Ask, ◌>>=◌, Question, Ending, within}
use Rattle.qtt_term.specs.Accepted.{is_dead}
use Rattle.qtt_term.specs.Infer.{Asks, Premise, at, Inferred, inferred, unbound}
use Rattle.qtt_term.specs.Forms.{Function}
use Rattle.qtt_term.specs.Telescopes.{tele}
use Rattle.qtt_core_check.specs.declared.judged.Judged.{Judged}
use Rattle.qtt_core_check.specs.declared.premises.FunctionType.{FunctionType}
use Rattle.qtt_core_check.specs.declared.scope.Scope.{Scope}
use Rattle.qtt_core_check.specs.declared.scope.Scope.TheVariants as scope
use Rattle.qtt_core_check.specs.declared.refusal.CoreRefusal.{CoreRefusal}
use Rattle.qtt_core_check.specs.declared.refusal.CoreRefusal.TheVariants as refusal

abbrev pub ctx : Scope → Ctx
ctx scope.Empty = []
ctx (scope.Bound' p Γ q T) = (q, term T.now) ∷ ctx Γ
ctx (scope.Several' p Γ bs) = ext (ctx Γ) (tele bs.now)

abbrev pub question : code_question.Question → Question
question (asked.Head d t) = Question.head_of d (term t)
question (asked.Compare d t s) = Question.compared d (term t) (term s)

-- within n contractions it ends with this answer
pub record Reaches (E : Env) (n : ℕ) {A : Type 0} (m : Asks A) (a : A) : Type 0 where
  pub is : within E n m ≡ Ending.ok a

-- within n contractions it ends with a premise that fails, or a question that is spent
pub record Fails (E : Env) (n : ℕ) {A : Type 0} (m : Asks A) (p : Premise) : Type 0 where
  pub is : within E n m ≡ Ending.fails p

pub record Spends (E : Env) (n : ℕ) {A : Type 0} (m : Asks A) (q : Question) : Type 0 where
  pub is : within E n m ≡ Ending.spent tt q

-- it ends as a refusal says; want of memory says nothing
abbrev pub Refuses : Env → ℕ → {A : Type 0} → Asks A → CoreRefusal → Type 0
Refuses E n m (refusal.Fails r k) = Fails E n m (at r k)
Refuses E n m (refusal.Spent q) = Spends E n m (question q)
Refuses E n m refusal.Memory = Unit {0}

-- a call answers as the list of questions ends
abbrev pub Gives : Env → ℕ → {A X : Type 0} → Asks A → (X → A) → Result X CoreRefusal → Type 0
Gives E n m view result = MatchResult result (λ x. Reaches E n m (view x)) (λ e. Refuses E n m e)

abbrev pub function : FunctionType → Function
function f = record { mult = f.mult; domain = term f.domain; codomain = term f.codomain }

abbrev pub judged : Judged → Inferred
judged j = inferred (term j.ty) j.uses

-- what a binder is used for fits, in the run part and where the body is not dead
abbrev pub fitting : Part → Term → Mult → Mult → Bool
fitting Part.erased b u q = true
fitting Part.run b u q = is_dead b || fits u q

-- the last premise and the result of the rule of functions
abbrev pub lam_ends : Part → Mult → Term → Term → Inferred → Asks Inferred
lam_ends p q A b j = do
  u ← unbound p ((q, A) ∷ []) b j.uses (at rule.Lam 3)
  Ask.done (inferred (Pi q A j.type) u)
