-- One step in a text behind its opening quote.
use Rattle.std.specs.Prelude.{◌≡◌, ℕ, ◌-◌, ◌<◌, ◌≤◌, List, [], length}
use Rattle.qtt_lexer.specs.Piece.{quoted, preceded}
use Rattle.qtt_lexer.specs.declared.quoted.Step.{Step}
use Rattle.qtt_lexer.specs.declared.quoted.Step.TheVariants as step
use Rattle.qtt_lexer.specs.declared.quoted.Quotation.{Quotation}
use Rattle.qtt_lexer.specs.declared.quoted.Quotation.TheVariants.{Closed, LineEnds, TextEnds, BadEscape}

-- what the step says of the text that begins with it
abbrev pub IsStep : List ℕ → Step → Type 0
IsStep cs (step.Character c behind) =
    (length behind.now < length cs) × (quoted cs ≡ preceded c (length cs - length behind.now) (quoted behind.now))
IsStep cs step.Closed = (0 < length cs) × (quoted cs ≡ Closed [] 1)
IsStep cs step.LineEnds = quoted cs ≡ LineEnds
IsStep cs step.TextEnds = quoted cs ≡ TextEnds (length cs)
IsStep cs step.BadEscape = (0 < length cs) × (quoted cs ≡ BadEscape 0)

-- what stands there has at most so many characters, and a bad escape is one of them
abbrev pub IsWithin : ℕ → Quotation → Type 0
IsWithin most (Closed value n) = n ≤ most
IsWithin most LineEnds = Unit {0}
IsWithin most (TextEnds n) = n ≤ most
IsWithin most (BadEscape n) = n < most
