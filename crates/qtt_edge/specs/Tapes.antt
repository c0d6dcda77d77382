-- What is asked of tapes, and what an error leaves.
use Rattle.std.specs.Prelude.{◌≡◌, ◌≢◌, ℕ, ◌-◌, ◌^◌, ◌<◌, List, [], ◌∷◌, ◌++◌, length, true, slice_get}
use Rattle.std.specs.Prelude.{Option, Some, None, option_map, IfSome, IsSomeAnd}
use Rattle.std.specs.Option.{ForSome}
use Rattle.qtt_prims.specs.Tapes.{Taped, new_tape, with_line, shut, changed}

-- there is room for one more tape, where the tapes are told
abbrev pub HasRoom : Option (List Taped) → Type 0
HasRoom tapes = ForSome tapes (λ all. length all < 2 ^ 32 - 1)

-- the number is that of the next tape
abbrev pub IsNextNumber : Option (List Taped) → ℕ → Type 0
IsNextNumber tapes number = IfSome tapes (λ all. number ≡ length all)

-- the number is that of an open tape
abbrev pub IsOpenAt : ℕ → List Taped → Type 0
IsOpenAt number tapes = IsSomeAnd (slice_get tapes number) (λ tape. tape.is_open ≡ true)

-- no tape came or went, and none but that of this number changed
pub record SameButAt (number : ℕ) (old new : List Taped) : Type 0 where
  pub count : length new ≡ length old
  pub others : (other : ℕ) → other ≢ number → slice_get new other ≡ slice_get old other

-- the same, where the tapes are told
abbrev pub KeepsOthers : ℕ → Option (List Taped) → Option (List Taped) → Type 0
KeepsOthers number None None = Unit {0}
KeepsOthers number (Some old) (Some new) = SameButAt number old new
KeepsOthers number None (Some new) = ⊥
KeepsOthers number (Some old) None = ⊥

-- a tape of this name was opened, a line was added to a tape, or a tape was closed, and nothing else changed
abbrev pub Opens : Option (List Taped) → Option (List Taped) → List ℕ → Type 0
Opens old new name = new ≡ option_map (λ all. all ++ new_tape name ∷ []) old

abbrev pub AddsLine : Option (List Taped) → Option (List Taped) → ℕ → List ℕ → Type 0
AddsLine old new number line = new ≡ option_map (changed number (with_line line)) old

abbrev pub Closes : Option (List Taped) → Option (List Taped) → ℕ → Type 0
Closes old new number = new ≡ option_map (changed number shut) old
