-- Lines of an input: each ends by byte 10, and the last one needs none. A carriage return is kept.
use Rattle.std.specs.Prelude.{ℕ, nat_lt, Bool, false, cond, List, [], ◌∷◌, length, ◌==◌}
use Rattle.std.specs.Str.{is_utf8}

-- the bytes before the first byte 10, or all where there is none
abbrev pub line_of : List ℕ → List ℕ
line_of [] = []
line_of (b ∷ bs) = cond (b == 10) [] (b ∷ line_of bs)

-- the bytes behind the first byte 10
abbrev pub after_line : List ℕ → List ℕ
after_line [] = []
after_line (b ∷ bs) = cond (b == 10) bs (after_line bs)

-- more bytes than a line may have
abbrev pub is_too_long : List ℕ → Bool
is_too_long line = nat_lt 65536 (length line)

-- at most 65,536 bytes of UTF-8
abbrev pub is_line : List ℕ → Bool
is_line line = cond (is_too_long line) false (is_utf8 line)
