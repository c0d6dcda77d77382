-- What the code's labels stand for.
use Rattle.std.specs.Prelude.{ℕ, List, Option, map, reverse}
use Rattle.std.specs.Borrow.{Bor}
use Rattle.std.specs.Option.{option_copied}

abbrev pub labels_of : List (Option (Bor (List ℕ))) → List (Option (List ℕ))
labels_of ls = map option_copied ls

-- those of a context, whose variables stand the outermost first
abbrev pub newest_labels : List (Option (Bor (List ℕ))) → List (Option (List ℕ))
newest_labels ls = reverse (labels_of ls)
