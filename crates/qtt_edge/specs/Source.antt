-- What a source does to the bytes that it has left, where they are told.
use Rattle.std.specs.Prelude.{◌≡◌, ℕ, List, [], ◌++◌, take, Option, option_map, IfSome}

-- the first count bytes of the buffer were left in front, and are no longer left
abbrev pub Gives : Option (List ℕ) → Option (List ℕ) → List ℕ → ℕ → Type 0
Gives old new buffer count = old ≡ option_map (λ left. take count buffer ++ left) new

-- no bytes are left
abbrev pub IsAtEnd : Option (List ℕ) → Type 0
IsAtEnd content = IfSome content (λ left. left ≡ [])
