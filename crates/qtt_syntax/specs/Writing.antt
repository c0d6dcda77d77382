-- What the writers of words add to a text.
use Rattle.std.specs.Prelude.{◌≡◌, ℕ, List, ◌++◌, Vec}
use Rattle.std.specs.Global.{Global}
use Rattle.qtt_syntax.specs.Words.{Printed, written}

-- behind the old bytes the new ones have those of these words
abbrev pub Adds : Vec ℕ Global → Vec ℕ Global → List Printed → Type 0
Adds old new words = new.items ≡ old.items ++ written words
