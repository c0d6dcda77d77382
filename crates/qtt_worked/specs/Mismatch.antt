-- A program that is refused: it writes a number, where only texts are written.
use Rattle.std.specs.Prelude.{◌≡◌, ℕ, List, [], codes}
use Rattle.qtt_graph.specs.Rows.{M}
use Rattle.qtt_words.specs.Asked.{Work, Asked}
use Rattle.qtt_load.specs.Reading.{Texts}
use Rattle.qtt_build.specs.Built.{Built}
use Rattle.qtt_outcome.specs.Headline.{came, Declares, IsRefused}
use Rattle.qtt_outcome.specs.Outcome.{tells}
use Rattle.qtt_outcome.specs.Rows.{asks}
use Rattle.qtt_worked.specs.Texts.{only}

abbrev pub text : List ℕ
text = codes "module Main\nmain : IO Unit\nmain = putLine 1\n"

abbrev pub texts : Texts
texts = only text

abbrev pub runs : Asked
runs = asks 10 100 (Work.run M)

pub record MismatchAsWorked : Type 0 where
  -- the line that is told, at the number
  pub told : came texts [] runs ≡ tells 1 (codes "Main:3:16: 16 TypeMismatch expected String found Int")
  -- it has a reason, and by the rules the text declares nothing
  pub refused : IsRefused texts runs (came texts [] runs)
  pub underived : (B : Built) → Declares texts runs B → ⊥
