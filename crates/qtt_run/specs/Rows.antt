-- Worked examples of runs of code.
use Rattle.std.specs.Prelude.{ℕ, List, [], ◌∷◌, ◌++◌, codes, true, false}
use Rattle.qtt_prims.specs.Tapes.{Taped}
use Rattle.qtt_term.specs.Signature.{Env}
use Rattle.qtt_term.specs.FullStep.{Cause}
use Rattle.qtt_term.specs.FullRun.{Event, Verdict}
use Rattle.qtt_term.specs.Programs.{item, handles, trapping}
use Rattle.qtt_term.specs.Rows.{default_steps, tape_a, handle_events}
use Rattle.qtt_run.specs.Code.{code, first_block}
use Rattle.qtt_run.specs.CodeRun.{Runs, start}

-- the run of the code of a program of one definition, over an empty input, within this bound
abbrev pub RunsSo : ℕ → Env → Verdict → ℕ → List Event → List Taped → Type 0
RunsSo bound E v n es ts =
    Runs (code E (item 0 ∷ [])) bound 0 (start (first_block E (item 0 ∷ []) (item 0)) [])
    (record { verdict = v; count = n; input = []; events = es; tapes = ts })

pub record CodeRows : Type 0 where
  pub handles_end : RunsSo default_steps handles Verdict.ended 14 (handle_events ++ Event.closed_tape 0 ∷ [])
      (tape_a false (codes "x" ∷ codes "y" ∷ []))
  pub handles_in_thirteen : RunsSo 13 handles Verdict.running 13 handle_events
      (tape_a true (codes "x" ∷ codes "y" ∷ []))
  -- a run that traps closes its open tapes
  pub trapping_in_five : RunsSo 5 trapping (Verdict.trapped Cause.division_by_zero) 5
      (Event.opened (codes "a") ∷ Event.closed_tape 0 ∷ []) (tape_a false [])
  pub trapping_in_four : RunsSo 4 trapping Verdict.running 4 (Event.opened (codes "a") ∷ []) (tape_a true [])
