-- The tokens that begin the productions, and those that go on with them.
use Rattle.std.proofs.Common.{◌≡◌, Bool, true, false}
use Rattle.qtt_base.specs.declared.place.Span.{Span}
use Rattle.qtt_grammar.specs.declared.class.Class.{Class}
use Rattle.qtt_grammar.specs.declared.class.Class.TheVariants.{In, Arrow, LeftArrow, LeftBrace, The, Hole, Backslash, Let, Do, Wildcard, Colon, RightParen, LeftParen, DotParen, Small, Next}
use Rattle.qtt_grammar.specs.Classes.{starts_atom}
use Rattle.qtt_grammar.specs.declared.stop.Excess.{Excess}

-- what goes on with an expression where it could end, or stands behind the name of a statement
abbrev pub goes : Class → Bool
goes Arrow = true
goes LeftArrow = true
goes LeftBrace = true
goes c = starts_atom c

abbrev pub goes_or_colon : Class → Bool
goes_or_colon Colon = true
goes_or_colon c = goes c

abbrev pub goes_or_in : Class → Bool
goes_or_in In = true
goes_or_in c = goes c

-- what goes on with an application
abbrev pub app_goes : Class → Bool
app_goes LeftBrace = true
app_goes c = starts_atom c

abbrev pub starts_arrow : Class → Bool
starts_arrow The = true
starts_arrow c = starts_atom c

abbrev pub starts_other : Class → Bool
starts_other The = true
starts_other Hole = true
starts_other Backslash = true
starts_other Do = true
starts_other c = starts_atom c

abbrev pub starts_expr : Class → Bool
starts_expr Let = true
starts_expr c = starts_other c

abbrev pub starts_typing : Class → Bool
starts_typing LeftBrace = true
starts_typing c = starts_expr c

abbrev pub starts_other_pattern : Class → Bool
starts_other_pattern Small = true
starts_other_pattern Wildcard = true
starts_other_pattern DotParen = true
starts_other_pattern LeftParen = true
starts_other_pattern _ = false

abbrev pub next_or_goes : Class → Bool
next_or_goes Next = true
next_or_goes c = goes_or_in c

-- what stands behind an atom where an expression ends
abbrev pub halts : Class → Bool
halts Colon = true
halts Wildcard = true
halts RightParen = true
halts LeftArrow = true
halts _ = false

-- a completion has its faults at this place
abbrev pub At : Span → Excess → Type 0
At s f = f.place ≡ s
