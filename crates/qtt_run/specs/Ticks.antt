-- How many contractions of a run of code are ticks of the machine, and how many of a full run are steps of full
-- evaluation. The others are actions.
use Rattle.std.specs.Prelude.{◌≡◌, ℕ, zero, suc, ◌+◌, List}
use Rattle.qtt_base.specs.declared.place.GlobalId.{GlobalId}
use Rattle.qtt_term.specs.Signature.{Env}
use Rattle.qtt_term.specs.FullStep.{Outcome, full_step}
use Rattle.qtt_term.specs.FullRun as full
use Rattle.qtt_code.specs.Instruction.{Program}
use Rattle.qtt_run.specs.Code.{code, first_block}
use Rattle.qtt_run.specs.CodeRun.{Config, Seen, Runs, start}

-- the ticks of all advances of the machine in a run, which it counts as used
abbrev pub ticks : {C : Program} {more n : ℕ} {c : Config} {r : Seen} → Runs C more n c r → ℕ
ticks (Runs.spends e a) = a.made
ticks (Runs.traps e a) = a.made
ticks (Runs.gives e a p x) = a.made + ticks x
ticks (Runs.halts e t) = 0
ticks (Runs.stays e t) = 0
ticks (Runs.acts e t x) = ticks x

-- ---- the steps of a full run within so many contractions
abbrev pub with_step : Outcome → ℕ → ℕ
with_step Outcome.value n = n
with_step (Outcome.step s) n = suc n
with_step (Outcome.trap k) n = n
with_step Outcome.stuck n = n

abbrev pub behind_turn : full.Turn → (full.Config → ℕ) → ℕ
behind_turn (full.Turn.goes d) steps = steps d
behind_turn (full.Turn.halts v) steps = 0

abbrev pub full_steps : Env → ℕ → full.Config → ℕ
full_steps E zero c = 0
full_steps E (suc more) c = with_step (full_step E c.term) (behind_turn (full.turn E c) (full_steps E more))

-- within each bound and over each input the machine makes as many ticks in the run of a main as its full run
-- makes steps
abbrev pub TicksAreSteps : Env → List GlobalId → GlobalId → Type 0
TicksAreSteps E ds main =
    (bound : ℕ) (input : List ℕ) (r : Seen) (x : Runs (code E ds) bound 0 (start (first_block E ds main) input) r) →
    ticks x ≡ full_steps E bound (full.start main input)
