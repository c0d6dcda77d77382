-- Counts of what happened to an object of the outside.
use Rattle.std.specs.Prelude.{ℕ, ◌+◌, ◌-◌, ◌^◌, ◌≤◌, min, Bool, if◌then◌else◌}

-- one more, or the same at 2^64 - 1, where a count can rise no more
abbrev pub raised : ℕ → ℕ
raised count = min (count + 1) (2 ^ 64 - 1)

-- one more where this happened
abbrev pub raised_if : Bool → ℕ → ℕ
raised_if happened count = if happened then raised count else count

-- the count rose, or stands at 2^64 - 1, where it can rise no more
abbrev pub Rose : ℕ → ℕ → Type 0
Rose before now = raised before ≤ now

-- the count did not fall, and it rose if this happened
pub record Counts (before now : ℕ) (happened : Type 0) : Type 0 where
  pub later : before ≤ now
  pub rose : happened → Rose before now
