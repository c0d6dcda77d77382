-- Marks of the variables that terms mention.
use Rattle.std.specs.Prelude.{ℕ, suc, ◌+◌, List, [], ◌∷◌, Bool, ◌||◌}
use Rattle.qtt_erase.specs.Lean.{Lean}
use Rattle.qtt_closure.specs.Conversion.{mentions}

-- the marks of the variables from number i on, and besides of those that a term mentions
abbrev pub marked : ℕ → Lean → List Bool → List Bool
marked i t [] = []
marked i t (m ∷ ms) = (m || mentions i t) ∷ marked (suc i) t ms

abbrev pub all_marked : ℕ → List Lean → List Bool → List Bool
all_marked i [] ms = ms
all_marked i (t ∷ ts) ms = all_marked i ts (marked i t ms)

-- of branches, each under its fields
abbrev pub branches_marked : ℕ → List (ℕ × Lean) → List Bool → List Bool
branches_marked i [] ms = ms
branches_marked i (b ∷ bs) ms = branches_marked i bs (marked (i + b.0) b.1 ms)
