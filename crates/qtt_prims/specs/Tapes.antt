-- Tapes (open file handles): what a run opened, wrote and closed, each tape by its number, counted from 0.
use Rattle.std.specs.Prelude.{ℕ, zero, suc, Bool, true, false, List, [], ◌∷◌, ◌++◌}

pub record Taped : Type 0 where
  pub name : List ℕ
  pub lines : List (List ℕ)
  pub is_open : Bool

abbrev pub new_tape : List ℕ → Taped
new_tape name = record { name = name; lines = []; is_open = true }

abbrev pub with_line : List ℕ → Taped → Taped
with_line line tape = record tape { lines = tape.lines ++ line ∷ [] }

abbrev pub shut : Taped → Taped
shut tape = record tape { is_open = false }

-- the tape of this number, changed
abbrev pub changed : ℕ → (Taped → Taped) → List Taped → List Taped
changed number change [] = []
changed zero change (tape ∷ tapes) = change tape ∷ tapes
changed (suc number) change (tape ∷ tapes) = tape ∷ changed number change tapes
