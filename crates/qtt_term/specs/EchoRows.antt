-- Worked examples of lines of an input: each is echoed, and one that is too long traps.
use Rattle.std.specs.Prelude.{◌≡◌, ℕ, zero, suc, ◌<◌, ◌≤◌, List, [], ◌∷◌, length}
use Rattle.std.specs.Str.{IsUtf8}
use Rattle.qtt_prims.specs.Lines.{line_of}
use Rattle.qtt_term.specs.FullStep.{Cause}
use Rattle.qtt_term.specs.FullRun.{Event, Verdict, full, text_of}
use Rattle.qtt_term.specs.Programs.{item, echo}
use Rattle.qtt_term.specs.Rows.{Shown, shown, shows_so, default_steps}

abbrev pub echoed : List ℕ → Shown
echoed input = shown (full default_steps echo (item 1) input)

-- no byte 10 stands in it
abbrev pub IsOneLine : List ℕ → Type 0
IsOneLine s = line_of s ≡ s

-- the bytes a, 13, 10, 10 and b: a line that ends by 13, an empty one, and one that nothing ends
abbrev pub three_lines : List ℕ
three_lines = 97 ∷ 13 ∷ 10 ∷ 10 ∷ 98 ∷ []

-- so many times `a`
abbrev pub letters : ℕ → List ℕ
letters zero = []
letters (suc n) = 97 ∷ letters n

-- what one line shows: itself
abbrev pub echo_of : List ℕ → Shown
echo_of s = shows_so Verdict.ended 20 (Event.line s ∷ []) []

abbrev pub bad_line : Shown
bad_line = shows_so (Verdict.trapped Cause.bad_input_line) 2 [] []

pub record EchoRows : Type 0 where
  -- twelve contractions for each line, and eight for the end
  pub three : echoed three_lines ≡
      shows_so Verdict.ended 44 (Event.line (97 ∷ 13 ∷ []) ∷ Event.line [] ∷ Event.line (98 ∷ []) ∷ []) []
  pub three_put : text_of (echoed three_lines).events ≡ 97 ∷ 13 ∷ 10 ∷ 10 ∷ 98 ∷ 10 ∷ []
  pub short : (b : ℕ) (bs : List ℕ) → IsOneLine (b ∷ bs) → IsUtf8 (b ∷ bs) → length (b ∷ bs) ≤ 65536 →
      echoed (b ∷ bs) ≡ echo_of (b ∷ bs)
  pub long : (s : List ℕ) → IsOneLine s → 65536 < length s → echoed s ≡ bad_line
  pub longest : (s : List ℕ) → s ≡ letters 65536 → echoed s ≡ echo_of s
  pub too_long : (s : List ℕ) → s ≡ letters 65537 → echoed s ≡ bad_line
