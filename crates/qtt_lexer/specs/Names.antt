-- What a name is for the grammar, by its parts.
use Rattle.std.specs.Prelude.{◌≡◌, ℕ, Bool, true, false, List, [], ◌∷◌, length, ◌==◌, codes, refl}
use Rattle.std.specs.Char.{is_ascii_uppercase}
use Rattle.qtt_base.specs.Parts.{parts}

-- a name of one part
abbrev pub is_simple : List ℕ → Bool
is_simple name = length (parts name) == 1

-- the last of the parts
abbrev pub last_part : List (List ℕ) → List ℕ
last_part [] = []
last_part (part ∷ []) = part
last_part (part ∷ next ∷ others) = last_part (next ∷ others)

-- the part begins with one of A to Z
abbrev pub begins_big : List ℕ → Bool
begins_big [] = false
begins_big (b ∷ bs) = is_ascii_uppercase b

-- a name whose last part begins with one of A to Z
abbrev pub is_big : List ℕ → Bool
is_big name = begins_big (last_part (parts name))

pub big_and_simple : (is_big (codes "Nat") ≡ true) × (is_simple (codes "Nat") ≡ true)
big_and_simple = (refl, refl)

pub big_and_qualified : (is_big (codes "main.Nat") ≡ true) × (is_simple (codes "main.Nat") ≡ false)
big_and_qualified = (refl, refl)

pub small_and_qualified : (is_big (codes "Main.nat") ≡ false) × (is_simple (codes "Main.nat") ≡ false)
small_and_qualified = (refl, refl)
