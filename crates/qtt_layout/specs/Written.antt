-- Marks that were put, of which a last Next is held back until it is known to count.
use Rattle.std.specs.Prelude.{◌≡◌, List, [], ◌∷◌, ◌++◌, Option, Some, None}
use Rattle.qtt_base.specs.declared.place.Span.{Span}
use Rattle.qtt_layout.specs.Marks.{counted}
use Rattle.qtt_layout.specs.declared.laid.Laid.{Laid}
use Rattle.qtt_layout.specs.declared.laid.Laid.TheVariants.{Next}
use Rattle.qtt_layout.specs.declared.marks.Marks.{Marks}

abbrev pub held : Option Span → List Laid
held None = []
held (Some s) = Next s ∷ []

-- the marks that count, where these are put behind those so far
abbrev pub written : Marks → List Laid → List Laid
written marks rest = marks.laid.items ++ counted (held marks.next ++ rest)

-- behind the old marks the new ones have these
abbrev pub Adds : Marks → Marks → List Laid → Type 0
Adds old new added = (rest : List Laid) → written new rest ≡ written old (added ++ rest)
