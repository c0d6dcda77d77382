-- Configurations of code that stand beside those of a full run.
use Rattle.std.specs.Prelude.{◌≡◌, List, [], ◌∷◌}
use Rattle.qtt_base.specs.declared.place.GlobalId.{GlobalId}
use Rattle.qtt_term.specs.Term.{Term}
use Rattle.qtt_term.specs.Signature.{Env}
use Rattle.qtt_term.specs.FullStep.{Outcome, full_step}
use Rattle.qtt_term.specs.FullRun as full
use Rattle.qtt_preserve.specs.Configuration.{Configured}
use Rattle.qtt_code.specs.Value.{Value}
use Rattle.qtt_run.specs.Code.{Represents, IsValueOf}
use Rattle.qtt_run.specs.CodeRun.{Now, Config}

-- values that stand for these terms
pub data AllValuesOf (E : Env) (ds : List GlobalId) : List Term → List Value → Type 0 where
  none : AllValuesOf E ds [] []
  more : {t : Term} {ts : List Term} {v : Value} {vs : List Value} → IsValueOf E ds t v → AllValuesOf E ds ts vs →
      AllValuesOf E ds (t ∷ ts) (v ∷ vs)

-- where the full run has a term, the machine is in a state that represents it, or it gave the value of the term
abbrev pub IsNow : Env → List GlobalId → Term → Now → Type 0
IsNow E ds t (Now.computing s) = Represents E ds t s
IsNow E ds t (Now.gave v) = (full_step E t ≡ Outcome.value) × IsValueOf E ds t v

pub record Beside (E : Env) (ds : List GlobalId) (f : full.Config) (c : Config) : Type 0 where
  pub now : IsNow E ds f.term c.now
  pub waiting : AllValuesOf E ds f.waiting c.waiting
  pub input : f.input ≡ c.input
  pub events : f.events ≡ c.events
  pub tapes : f.tapes ≡ c.tapes

-- a configuration of code that stands beside a typed one, in which each open tape is used exactly once; it ends
-- in an IO R
pub record IsTyped (E : Env) (ds : List GlobalId) (R : Term) (c : Config) : Type 0 where
  pub full : full.Config
  pub configured : Configured E R full
  pub beside : Beside E ds full c
