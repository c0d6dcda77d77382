-- A program whose types are names: it has derivations, and a budget of one contraction does not show them.
use Rattle.std.specs.Prelude.{◌≡◌, ℕ, List, [], codes}
use Rattle.qtt_graph.specs.Rows.{M}
use Rattle.qtt_words.specs.Asked.{Work, Asked}
use Rattle.qtt_load.specs.Reading.{Texts}
use Rattle.qtt_build.specs.Built.{Built}
use Rattle.qtt_outcome.specs.Headline.{came, HasDerivations}
use Rattle.qtt_outcome.specs.Outcome.{line, puts, tells}
use Rattle.qtt_outcome.specs.Rows.{asks}
use Rattle.qtt_worked.specs.Texts.{only}

abbrev pub text : List ℕ
text = codes "module Main\na : Type\na = Int\nb : Type\nb = a\nx : b\nx = 3\n"

abbrev pub texts : Texts
texts = only text

-- its check, where each question has so many contractions
abbrev pub checks : ℕ → Asked
checks budget = asks 0 budget (Work.check M)

pub record BudgetAsWorked : Type 0 where
  -- b is Int by two contractions
  pub accepted : came texts [] (checks 2) ≡ puts (line (codes "checked Main 3"))
  -- one does not show it; the modules declare something all the same
  pub spent : came texts [] (checks 1) ≡ tells 1 (codes "Main:7:5: 24 BudgetSpent 1 compare Int Main.b")
  pub built : Built
  pub derived : HasDerivations texts (checks 1) built
