-- The parts of a name, which dots set apart.
use Rattle.std.specs.Prelude.{ℕ, Bool, ◌==◌, nat_lt, List, length}
use Rattle.std.specs.List.{slice_split, list_any}

-- the parts of a name: the pieces between its dots
abbrev pub parts : List ℕ → List (List ℕ)
parts name = slice_split (λ b. b == 46) name

-- some part has more than 255 bytes
abbrev pub has_long_part : List ℕ → Bool
has_long_part name = list_any (λ part. nat_lt 255 (length part)) (parts name)
