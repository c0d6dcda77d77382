-- The lines that tell of a hole: its goal, and the names in sight with what is left of each.
use Rattle.std.specs.Prelude.{ℕ, List, [], ◌∷◌, ◌++◌, flat_map, codes, decimal, Option, Some, None}
use Rattle.qtt_base.specs.declared.place.Span.{Span}
use Rattle.qtt_usage.specs.declared.mult.Mult.{Mult}
use Rattle.qtt_term.specs.Entries.{Entries}
use Rattle.qtt_core_print.specs.Printing.{behind_blanks, mult_word, text}
use Rattle.qtt_holes.specs.Hole.{Seen, Hole}

-- `-` where the name stands for a term that is no variable
abbrev pub left_word : Option Mult → List ℕ
left_word None = codes "-"
left_word (Some q) = mult_word q

-- MODULE:LINE:COL
abbrev pub place : List ℕ → Span → List ℕ
place m s = m ++ codes ":" ++ decimal s.line ++ codes ":" ++ decimal s.col

-- hole NAME MODULE:LINE:COL : GOAL
abbrev pub goal_parts : Entries → List ℕ → Hole → List (List ℕ)
goal_parts N m h = h.name ∷ place m h.span ∷ codes ":" ∷ text N h.depth h.goal ∷ []

abbrev pub goal_line : Entries → List ℕ → Hole → List ℕ
goal_line N m h = codes "hole" ++ behind_blanks (goal_parts N m h) ++ 10 ∷ []

-- two blanks, then LEFT NAME TERM : TYPE
abbrev pub seen_parts : Entries → ℕ → Seen → List (List ℕ)
seen_parts N n x = left_word x.left ∷ x.name ∷ text N n x.stands ∷ codes ":" ∷ text N n x.type ∷ []

abbrev pub seen_line : Entries → ℕ → Seen → List ℕ
seen_line N n x = codes " " ++ behind_blanks (seen_parts N n x) ++ 10 ∷ []

abbrev pub seen_lines : Entries → ℕ → List Seen → List ℕ
seen_lines N n xs = flat_map (seen_line N n) xs

-- each line ends with byte 10
unfoldable pub hole_text : Entries → List ℕ → Hole → List ℕ
hole_text N m h = goal_line N m h ++ seen_lines N h.depth h.seen
