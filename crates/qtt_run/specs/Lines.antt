-- The input that a run may have left, and what it finds there.
use Rattle.std.specs.Prelude.{◌≡◌, ◌≢◌, ℕ, true, false, List, [], Option, IfSome}
use Rattle.qtt_prims.specs.Lines.{line_of, after_line, is_line}
use Rattle.qtt_edge.specs.LineCutter.{all_told}
use Rattle.qtt_run.specs.declared.lines.Lines.{Lines}
use Rattle.qtt_run.specs.declared.lines.Found.{Found}
use Rattle.qtt_run.specs.declared.lines.Found.TheVariants.{Line, End, Bad}

-- this may be the input that is left: where the source tells its bytes it is those that are held and then those
-- that the source has left, and behind the end there is none
pub record LeftOver (lines : Lines) (content : Option (List ℕ)) (input : List ℕ) : Type 0 where
  pub told : IfSome (all_told lines.cutter content) (λ all. input ≡ all)
  pub over : lines.at_end ≡ true → input ≡ []

-- some input may be left
abbrev pub HasInput : Lines → Option (List ℕ) → Type 0
HasInput lines content = (input : List ℕ) × LeftOver lines content input

-- what is found in an input, and which input it leaves; behind what is no line nothing is read
abbrev pub Finds : List ℕ → List ℕ → Found → Type 0
Finds input rest (Line text) =
    (input ≢ []) × (is_line (line_of input) ≡ true) × (text ≡ line_of input) × (rest ≡ after_line input)
Finds input rest End = (input ≡ []) × (rest ≡ [])
Finds input rest Bad = (input ≢ []) × (is_line (line_of input) ≡ false)
