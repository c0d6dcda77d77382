-- The worked programs, each with its main, and the runs of the further ones.
use Rattle.std.specs.Prelude.{◌≡◌, ℤ, [], ◌∷◌, codes, false}
use Rattle.qtt_term.specs.FullRun.{Event, Verdict, full}
use Rattle.qtt_term.specs.Programs.{item, one_by_zero, no_of_false, hello, identity, loops, forever, partial_no, handles, trapping, echo, shows, boxed, deletes}
use Rattle.qtt_term.specs.Rows.{shown, shows_so, tape_a, default_steps}
use Rattle.qtt_programs.specs.Programs.{IsRunnable, least_by_minus_one, greatest_and_one, two_lines, doubling, counting, false_proof, closing_later, overlapping}

pub record WorkedPrograms : Type 0 where
  pub hello : IsRunnable hello (item 0)
  pub identity : IsRunnable identity (item 1)
  pub loops : IsRunnable loops (item 2)
  pub forever : IsRunnable forever (item 1)
  pub zero_first : IsRunnable (partial_no one_by_zero no_of_false) (item 1)
  pub no_clause_first : IsRunnable (partial_no no_of_false one_by_zero) (item 1)
  pub handles : IsRunnable handles (item 0)
  pub trapping : IsRunnable trapping (item 0)
  pub echo : IsRunnable echo (item 1)
  pub least_by_minus_one : IsRunnable (shows least_by_minus_one) (item 0)
  pub greatest_and_one : IsRunnable (shows greatest_and_one) (item 0)
  pub divides_by_zero : IsRunnable (shows one_by_zero) (item 0)
  pub boxed : IsRunnable boxed (item 4)
  pub deletes : IsRunnable deletes (item 1)
  pub two_lines : IsRunnable two_lines (item 0)
  pub doubling : IsRunnable doubling (item 6)
  pub counting : (turns : ℤ) → IsRunnable (counting turns) (item 1)
  pub false_proof : IsRunnable false_proof (item 4)
  pub closing_later : IsRunnable closing_later (item 0)
  pub overlapping : IsRunnable overlapping (item 1)

pub record FurtherRuns : Type 0 where
  -- the false proof is evaluated, and never ends
  pub false_proof_in_fifty : shown (full 50 false_proof (item 4) []) ≡ shows_so Verdict.running 50 [] []
  -- the tape is closed once
  pub closing_later_ends : shown (full default_steps closing_later (item 0) []) ≡
      shows_so Verdict.ended 8 (Event.opened (codes "a") ∷ Event.closed_tape 0 ∷ []) (tape_a false [])
  pub overlapping_ends : shown (full default_steps overlapping (item 1) []) ≡ shows_so Verdict.ended 7
      (Event.line (codes "1") ∷ []) []
  pub two_lines_end : shown (full default_steps two_lines (item 0) []) ≡
      shows_so Verdict.ended 6 (Event.line (codes "a") ∷ Event.line (codes "b") ∷ []) []
