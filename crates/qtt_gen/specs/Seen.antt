-- What the code's lists of modules stand for, and what its writers add.
use Rattle.std.specs.Prelude.{◌≡◌, ℕ, List, ◌++◌, Vec}
use Rattle.std.specs.Global.{Global}

-- a name and a text
abbrev pub seen : List ℕ × Vec ℕ Global → List ℕ × List ℕ
seen m = (m.0, m.1.items)

-- behind the old bytes stand these
abbrev pub Adds : Vec ℕ Global → Vec ℕ Global → List ℕ → Type 0
Adds old new bytes = new.items ≡ old.items ++ bytes
