-- What a cutter of lines answers of the bytes that it holds and then of those that its source has left.
use Rattle.std.specs.Prelude.{◌≡◌, ◌≢◌, ℕ, suc, ◌<◌, true, false, List, [], ◌∷◌, ◌++◌, length, take, drop, Option, Some, None, option_map, Result, Ok, Err}
use Rattle.std.specs.Str.{is_utf8}
use Rattle.qtt_prims.specs.Lines.{line_of, after_line, is_too_long, is_line}
use Rattle.qtt_edge.specs.declared.line_cutter.Next.{Next}
use Rattle.qtt_edge.specs.declared.line_cutter.Next.TheVariants.{Line, End, TooLong, NotUtf8}
use Rattle.qtt_edge.specs.declared.line_cutter.LineError.{LineError}
use Rattle.qtt_edge.specs.declared.line_cutter.LineError.TheVariants.{Fault, Memory}

-- the bytes that are held and then those that are left, where the latter are told
abbrev pub all_told : List ℕ → Option (List ℕ) → Option (List ℕ)
all_told held content = option_map (λ left. held ++ left) content

-- what is answered of all the bytes, and which bytes it leaves; nothing is said of an error
abbrev pub CutsAll : List ℕ → List ℕ → Result Next LineError → Type 0
CutsAll all rest (Ok (Line text)) =
    (all ≢ []) × (is_line (line_of all) ≡ true) × (text ≡ line_of all) × (rest ≡ after_line all)
CutsAll all rest (Ok End) = (all ≡ []) × (rest ≡ [])
CutsAll all rest (Ok TooLong) = (is_too_long (line_of all) ≡ true) × (rest ≡ all)
CutsAll all rest (Ok NotUtf8) = (is_too_long (line_of all) ≡ false) × (is_utf8 (line_of all) ≡ false) × (rest ≡ all)
CutsAll all rest (Err error) = Unit {0}

-- what is answered as a line is one, also of bytes that are not told: no byte 10 stands in it
abbrev pub GivesLine : Result Next LineError → Type 0
GivesLine (Ok (Line text)) = (is_line text ≡ true) × (line_of text ≡ text)
GivesLine (Ok End) = Unit {0}
GivesLine (Ok TooLong) = Unit {0}
GivesLine (Ok NotUtf8) = Unit {0}
GivesLine (Err error) = Unit {0}

-- the same, where the bytes are told before and after
abbrev pub Cuts : Option (List ℕ) → Option (List ℕ) → Result Next LineError → Type 0
Cuts None None result = Unit {0}
Cuts (Some all) (Some rest) result = CutsAll all rest result
Cuts None (Some rest) result = ⊥
Cuts (Some all) None result = ⊥

-- the first byte 10 stands at this place
pub record EndsAt (place : ℕ) (bytes : List ℕ) : Type 0 where
  pub within : place < length bytes
  pub before : line_of (take place bytes) ≡ take place bytes
  pub end : bytes ≡ take place bytes ++ 10 ∷ drop (suc place) bytes

-- a line of the held bytes was taken and the rest is held, or the held bytes stay
abbrev pub CutsFront : List ℕ → List ℕ → List ℕ → List ℕ → Result Next LineError → Type 0
CutsFront line rest old new (Ok (Line text)) = (is_line line ≡ true) × (text ≡ line) × (new ≡ rest)
CutsFront line rest old new (Ok End) = ⊥
CutsFront line rest old new (Ok TooLong) = (is_too_long line ≡ true) × (new ≡ old)
CutsFront line rest old new (Ok NotUtf8) = (is_too_long line ≡ false) × (is_utf8 line ≡ false) × (new ≡ old)
CutsFront line rest old new (Err Memory) = new ≡ old
CutsFront line rest old new (Err Fault) = ⊥

-- all held bytes are the last line, or there are none
abbrev pub CutsLast : List ℕ → List ℕ → Result Next LineError → Type 0
CutsLast [] new result = (result ≡ Ok End) × (new ≡ [])
CutsLast (b ∷ bs) new result = CutsFront (b ∷ bs) [] (b ∷ bs) new result
