-- Lines and columns of characters.
use Rattle.std.specs.Prelude.{◌≡◌, ℕ, ◌+◌, ◌*◌, ◌/◌, ◌==◌, if◌then◌else◌, List, fold, codes, refl}
use Rattle.qtt_base.specs.declared.place.Span.{Span}
use Rattle.qtt_lexer.specs.declared.place.Place.{Place}

-- where a text begins
abbrev pub start : Place
start = record { line = 1; col = 1 }

-- a tab goes to the next column of the form 8 n + 1
abbrev pub tab_stop : ℕ → ℕ
tab_stop col = (col + 7) / 8 * 8 + 1

-- the place behind a character: a line feed ends its line, and every other character but a tab is one column
abbrev pub place_behind : Place → ℕ → Place
place_behind p c =
    if c == 10 then record { line = p.line + 1; col = 1 }
    else (if c == 9 then record { line = p.line; col = tab_stop p.col }
    else record { line = p.line; col = p.col + 1 })

-- the place behind all of these characters
abbrev pub place_after : Place → List ℕ → Place
place_after p cs = fold place_behind p cs

-- so many characters from a place on
abbrev pub span_at : Place → ℕ → Span
span_at p n = record { line = p.line; col = p.col; len = n }

pub a_tab_in_front : place_after start (codes "\tx") ≡ record { line = 1; col = 10 }
a_tab_in_front = refl

pub a_tab_behind_two : place_after start (codes "ab\t") ≡ record { line = 1; col = 9 }
a_tab_behind_two = refl

pub a_tab_behind_eight : place_after start (codes "abcdefgh\t") ≡ record { line = 1; col = 17 }
a_tab_behind_eight = refl

pub two_lines : place_after start (codes "a\n b") ≡ record { line = 2; col = 3 }
two_lines = refl
