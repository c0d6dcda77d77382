-- What the calls of a checker ensure.
use Rattle.std.specs.Prelude.{◌≡◌, List, length, Result}
use Rattle.qtt_usage.specs.declared.mult.Mult.{Mult}
use Rattle.qtt_term.specs.Term.{Term}
use Rattle.qtt_term.specs.Signature.{Env}
use Rattle.qtt_term.specs.Globals.{env}
use Rattle.qtt_term.specs.Judgement.{Part}
use Rattle.qtt_term.specs.Infer.{Asks, infer}
use Rattle.qtt_core_check.specs.declared.premises.Checker.{Checker}
use Rattle.qtt_core_check.specs.declared.scope.Scope.{Scope}
use Rattle.qtt_core_check.specs.declared.judged.Judged.{Judged}
use Rattle.qtt_core_check.specs.declared.refusal.CoreRefusal.{CoreRefusal}
use Rattle.qtt_core_check.specs.Seen.{ctx, Gives, judged}

abbrev pub env_of : {C : Type 0} → Checker C → Env
env_of K = env K.globals.now

-- a call answers as this list of questions ends within the checker's budget
abbrev pub Answers : {C X A : Type 0} → Checker C → Asks A → (X → A) → Result X CoreRefusal → Type 0
Answers K m view result = Gives (env_of K) K.budget m view result

-- a call judges this term in this part and scope
abbrev pub Judges : {C : Type 0} → Checker C → Part → Scope → Term → Result Judged CoreRefusal → Type 0
Judges K p Γ t result = Answers K (infer (env_of K) p (ctx Γ) t) judged result

-- one use for each binder of the scope
abbrev pub Counted : Scope → List Mult → Type 0
Counted Γ us = length us ≡ length (ctx Γ)
