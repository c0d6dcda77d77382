-- Worked examples: where a module's file stands, what a source, a sink and tapes do, and which calls fail.
use Rattle.std.specs.Prelude.{◌≡◌, true, false, [], ◌∷◌, Some, codes}
use Rattle.qtt_prims.specs.Tapes.{new_tape, with_line, shut, changed}
use Rattle.qtt_edge.specs.Path.{path_of}
use Rattle.qtt_edge.specs.Plan.{is_listed}
use Rattle.qtt_edge.specs.Sink.{Adds}
use Rattle.qtt_edge.specs.Source.{Gives}

-- the examples, computed
pub record OutsideRows : Type 0 where
  pub path_of_qualified : path_of (codes "lib") (codes "A.B") ≡ codes "lib/A/B.qtt"
  pub adds_behind : Adds (Some (codes "a")) (Some (codes "abc")) (codes "bc")
  pub gives_front : Gives (Some (codes "abc")) (Some (codes "c")) (codes "ab..") 2
  pub tape_of_two_lines : changed 0 shut
      (changed 0 (with_line (codes "y")) (changed 0 (with_line (codes "x")) (new_tape (codes "a") ∷ []))) ≡ record
      { name = codes "a"; lines = codes "x" ∷ codes "y" ∷ []; is_open = false } ∷ []
  -- of the calls over this list the second fails, and the first and the third do not
  pub second_call_fails : (is_listed (1 ∷ []) 0 ≡ false) × (is_listed (1 ∷ []) 1 ≡ true) ×
      (is_listed (1 ∷ []) 2 ≡ false)
