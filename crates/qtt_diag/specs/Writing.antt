-- What the writers add to a message.
use Rattle.std.specs.Prelude.{◌≡◌, ℕ, List, ◌++◌, Vec}
use Rattle.std.specs.Global.{Global}
use Rattle.qtt_rules.specs.declared.detail.Detail as code
use Rattle.qtt_term.specs.Entries.{Entries}
use Rattle.qtt_diag.specs.Kept.{detail}
use Rattle.qtt_diag.specs.Messages.{told}

-- behind the old bytes stand these
abbrev pub Adds : Vec ℕ Global → Vec ℕ Global → List ℕ → Type 0
Adds old new bytes = new.items ≡ old.items ++ bytes

-- what is told of a refusal of the code
abbrev pub parts_of : Entries → code.Detail → List (List ℕ)
parts_of N d = (told N (detail d)).parts

abbrev pub name_of : Entries → code.Detail → List ℕ
name_of N d = (told N (detail d)).name
