-- Full evaluation: call by value, left to right, by substitution of whole terms. What is at 0 is kept and never
-- evaluated.
use Rattle.std.specs.Prelude.{List, ◌∷◌, Option, Some, None}
use Rattle.qtt_usage.specs.declared.mult.Mult.{Mult}
use Rattle.qtt_usage.specs.Mult.{𝟘, 𝟙, ω}
use Rattle.qtt_prims.specs.declared.prim.Primitive.{Primitive}
use Rattle.qtt_prims.specs.declared.lit.Lit.{Lit}
use Rattle.qtt_prims.specs.declared.answer.PrimAnswer.{PrimAnswer}
use Rattle.qtt_prims.specs.declared.answer.PrimAnswer.TheVariants as answer
use Rattle.qtt_prims.specs.Apply.{apply}
use Rattle.qtt_term.specs.Term.{Named, Form, Term, Terms, var, node, ◌▸◌}
use Rattle.qtt_term.specs.Signature.{Env}
use Rattle.qtt_term.specs.Contraction.{literals, answer_term, contract}
use Rattle.qtt_term.specs.Value.{demanded}

-- why a run traps
pub data Cause : Type 0 where
  missing_clause division_by_zero bad_input_line : Cause

pub data Outcome : Type 0 where
  value : Outcome
  step : Term → Outcome
  trap : Cause → Outcome
  stuck : Outcome

-- the same of components
pub data Outcomes : Type 0 where
  values : Outcomes
  steps : Terms → Outcomes
  traps : Cause → Outcomes
  sticks : Outcomes

-- a component that is done with, before others
abbrev pub behind : Term → Outcomes → Outcomes
behind t Outcomes.values = Outcomes.values
behind t (Outcomes.steps ss) = Outcomes.steps (t ▸ ss)
behind t (Outcomes.traps k) = Outcomes.traps k
behind t Outcomes.sticks = Outcomes.sticks

-- a component before others, which wait until it is a value
abbrev pub before : Outcome → Term → Terms → Outcomes → Outcomes
before Outcome.value t ts r = behind t r
before (Outcome.step s) t ts r = Outcomes.steps (s ▸ ts)
before (Outcome.trap k) t ts r = Outcomes.traps k
before Outcome.stuck t ts r = Outcomes.sticks

abbrev pub component : Mult → Outcome → Term → Terms → Outcomes → Outcomes
component 𝟘 o t ts r = behind t r
component 𝟙 o t ts r = before o t ts r
component ω o t ts r = before o t ts r

abbrev pub contracts_to : Option Term → Outcome
contracts_to (Some t) = Outcome.step t
contracts_to None = Outcome.stuck

-- a primitive's answer; a division by 0 traps
abbrev pub answers : PrimAnswer → Outcome
answers (answer.Value l) = contracts_to (answer_term (answer.Value l))
answers (answer.Truth b) = contracts_to (answer_term (answer.Truth b))
answers answer.DivisionByZero = Outcome.trap Cause.division_by_zero
answers answer.IllTyped = Outcome.stuck

abbrev pub primitive : Primitive → Option (List Lit) → Outcome
primitive p None = Outcome.stuck
primitive p (Some ls) = answers (apply p ls)

-- a form whose demanded components are values
abbrev pub itself : Env → Form → Terms → Outcome
itself E (Form.app q) ts = contracts_to (contract E (Form.app q) ts)
itself E (Form.case q f k m ns) ts = contracts_to (contract E (Form.case q f k m ns) ts)
itself E (Form.delete q) ts = contracts_to (contract E (Form.delete q) ts)
itself E (Form.named (Named.def d)) ts = contracts_to (contract E (Form.named (Named.def d)) ts)
itself E (Form.named (Named.prim p)) ts = primitive p (literals ts)
itself E Form.trap ts = Outcome.trap Cause.missing_clause
itself E _ ts = Outcome.value

abbrev pub finish : Env → Form → Terms → Outcomes → Outcome
finish E F ts Outcomes.values = itself E F ts
finish E F ts (Outcomes.steps ss) = Outcome.step (node F ss)
finish E F ts (Outcomes.traps k) = Outcome.trap k
finish E F ts Outcomes.sticks = Outcome.stuck

abbrev mutual
  pub full_step : Env → Term → Outcome
  full_step E (var i) = Outcome.stuck
  full_step E (node F ts) = finish E F ts (full_steps E (demanded E F) ts)

  pub full_steps : Env → List Mult → Terms → Outcomes
  full_steps E (m ∷ ms) (t ▸ ts) = component m (full_step E t) t ts (full_steps E ms ts)
  full_steps E _ _ = Outcomes.values
