-- The laws of lowering: code takes the steps of the term that it represents, tick for step; and a program is
-- lowered as a whole.
use Rattle.std.specs.Prelude.{◌≡◌, ℕ, List, [], ◌∷◌, Some, Contains}
use Rattle.qtt_base.specs.declared.place.GlobalId.{GlobalId}
use Rattle.qtt_term.specs.Signature.{Env}
use Rattle.qtt_erase.specs.Operator.{App, Def}
use Rattle.qtt_erase.specs.Step.{Bodies, Outcome}
use Rattle.qtt_erase.specs.Lean.{Lean, lean_step}
use Rattle.qtt_erase.specs.Erasure.{erased_bodies}
use Rattle.qtt_closure.specs.Flat as flat
use Rattle.qtt_closure.specs.Flat.{Closure, FlatTerm, flat_step}
use Rattle.qtt_closure.specs.StandsFor.{StandsFor, AreConversions}
use Rattle.qtt_code.specs.Value.{Value}
use Rattle.qtt_code.specs.Instruction.{Program}
use Rattle.qtt_code.specs.Machine.{State, Did, instruction, Reaches, start, called}
use Rattle.qtt_code.specs.Forward.{AllJumpForward}
use Rattle.qtt_lower.specs.Lowerable.{IsLowered}
use Rattle.qtt_lower.specs.Source.{IsSource, HasWholeBodies}
use Rattle.qtt_lower.specs.Evaluation.{Evaluation, evaluation, Runs, FollowsErased, Answers}
use Rattle.qtt_lower.specs.Programs.{Body, bodies, lean_bodies, flat_bodies, flat_program, bases, entry, program}
use Rattle.qtt_lower.specs.Represents.{flat_value, Represents}

-- what a state does where its term has this outcome: a value is given back without a tick, a step is one tick, to
-- a state that represents the next term, and a trap traps without one. Of a term that is stuck nothing is said
abbrev pub Follows : (GlobalId → ℕ) → Program → FlatTerm → State → Outcome FlatTerm → Type 0
Follows e C t s Outcome.value =
    (v : Value) × (r : State) × (t ≡ flat_value v) × Reaches C 0 s r × (instruction C r ≡ Did.ends v)
Follows e C t s (Outcome.step u) = (r : State) × Reaches C 1 s r × Represents e u r
Follows e C t s (Outcome.trap k) = (r : State) × Reaches C 0 s r × (instruction C r ≡ Did.traps k)
Follows e C t s Outcome.stuck = Unit {0}

abbrev pub CodeRunsInStep : Type 0
CodeRunsInStep =
    (e : GlobalId → ℕ) (P : flat.Program) (D : Bodies Closure) (C : Program) → IsLowered e P D C →
    (t : FlatTerm) (s : State) → Represents e t s → Follows e C t s (flat_step P D t)

-- the machine begins at a definition, and at a function with an argument
pub record RunsBegin : Type 0 where
  pub definition : (e : GlobalId → ℕ) (d : GlobalId) → Represents e (Def d) (start (e d))
  pub call : (e : GlobalId → ℕ) (f a : Value) → Represents e (App (flat_value f) (flat_value a)) (called f a)

abbrev pub AreSources : List Body → Type 0
AreSources [] = Unit {0}
AreSources (b ∷ bs) = IsSource b.term × AreSources bs

-- the program of definitions with these erased bodies has the blocks of their conversions
pub record ProgramsAreLowered : Type 0 where
  pub conversions : (bs : List Body) → AreSources bs →
      AreConversions (flat_program bs) (lean_bodies bs) (flat_bodies bs)
  pub blocks : (bs : List Body) → AreSources bs →
      IsLowered (entry (bases bs)) (flat_program bs) (flat_bodies bs) (program bs)
  -- the erased bodies of the definitions of an environment
  pub sources : (E : Env) → HasWholeBodies E → (ds : List GlobalId) → AreSources (bodies E ds)
  pub erased : (E : Env) (ds : List GlobalId) →
      ((d : GlobalId) (t : Lean) → erased_bodies E d ≡ Some t → Contains ds d) →
      lean_bodies (bodies E ds) ≡ erased_bodies E

-- the machine over the program of erased bodies, beside the evaluation of erased terms
pub record ProgramRuns (bs : List Body) : Type 0 where
  -- it begins at a definition, and at a function with an argument
  pub definition : (d : GlobalId) → Runs (entry (bases bs)) (flat_program bs) (Def d) (start (entry (bases bs) d))
  pub call : (t u : Lean) (f a : Value) → StandsFor (flat_program bs) t (flat_value f) →
      StandsFor (flat_program bs) u (flat_value a) →
      Runs (entry (bases bs)) (flat_program bs) (App t u) (called f a)
  -- a step is a tick
  pub step : (t : Lean) (s : State) → Runs (entry (bases bs)) (flat_program bs) t s →
      FollowsErased (entry (bases bs)) (flat_program bs) (program bs) t s (lean_step (lean_bodies bs) t)
  -- so within each bound it answers what evaluation gives, after as many ticks as steps
  pub bounded : (t : Lean) (s : State) → Runs (entry (bases bs)) (flat_program bs) t s → (bound : ℕ) →
      let x : Evaluation = evaluation (lean_step (lean_bodies bs)) bound 0 t in Answers (flat_program bs)
      (program bs) bound s x.made x.ending

abbrev pub ProgramsRun : Type 0
ProgramsRun = (bs : List Body) → AreSources bs → ProgramRuns bs

-- each jump goes to a later place of its block
abbrev pub JumpsGoForward : Type 0
JumpsGoForward = (bs : List Body) → AllJumpForward (program bs)
