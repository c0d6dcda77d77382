-- The ends of a case tree by their numbers.
use Rattle.std.specs.Prelude.{◌≡◌, ℕ, ◌+◌, ◌≤◌, ◌<◌, List, length, map, Option, Some, None, slice_get}
use Rattle.qtt_syntax.specs.Tree.{Shape}
use Rattle.qtt_syntax.specs.View.{shape_of}
use Rattle.qtt_split.specs.Tree.{Tree}
use Rattle.qtt_split.specs.Missing.{ends, first_there, patterns}
use Rattle.qtt_cover.specs.declared.ends.First.{First}
use Rattle.qtt_cover.specs.declared.ends.First.TheVariants as first
use Rattle.qtt_cover.specs.declared.ends.End.{End}
use Rattle.qtt_cover.specs.declared.ends.End.TheVariants as end

-- the greatest number of 32 bits
abbrev pub greatest : ℕ
greatest = 4294967295

-- there are at most so many ends
abbrev pub IsNumbered : Tree → Type 0
IsNumbered T = length (ends T) ≤ greatest

-- no clause is left at the end with this number
abbrev pub IsMissing : Tree → ℕ → Type 0
IsMissing T n = (ps : List Shape) × (patterns T n ≡ Some ps)

-- a clause is left at each end
abbrev pub IsCovered : Tree → Type 0
IsCovered T = (n : ℕ) → IsMissing T n → ⊥

-- ---- ends with the numbers from n on
-- the number behind them, where it is not above the greatest
abbrev pub Counts : ℕ → List (Option (List Shape)) → Option ℕ → Type 0
Counts n os (Some k) = k ≡ n + length os
Counts n os None = greatest < n + length os

-- the first that is missing, or the number behind them, or that this is above the greatest
abbrev pub Meets : ℕ → List (Option (List Shape)) → First → Type 0
Meets n os (first.Missing k) = first_there n os ≡ Some k
Meets n os (first.Behind k) = (first_there n os ≡ None) × (k ≡ n + length os)
Meets n os first.Beyond = greatest < n + length os

-- the one at place n
abbrev pub Finds : ℕ → List (Option (List Shape)) → End → Type 0
Finds n os (end.Missing ps) = slice_get os n ≡ Some (Some (map shape_of ps.now))
Finds n os end.Other = slice_get os n ≡ Some None
Finds n os (end.Behind k) = n ≡ length os + k
