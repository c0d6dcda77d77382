-- What a sink does to the bytes that it holds, where they are told.
use Rattle.std.specs.Prelude.{◌≡◌, ℕ, List, ◌++◌, take, Option, option_map}

-- these bytes were added
abbrev pub Adds : Option (List ℕ) → Option (List ℕ) → List ℕ → Type 0
Adds old new bytes = new ≡ option_map (λ held. held ++ bytes) old

-- some first bytes of these were added
abbrev pub AddsFront : Option (List ℕ) → Option (List ℕ) → List ℕ → Type 0
AddsFront old new bytes = (count : ℕ) × Adds old new (take count bytes)
