-- The marks that count: two Next with nothing between them are one, and a Next directly before a Close is none.
use Rattle.std.specs.Prelude.{◌≡◌, List, [], ◌∷◌, refl}
use Rattle.qtt_base.specs.declared.place.Span.{Span}
use Rattle.qtt_lexer.specs.declared.token.Token.{Token}
use Rattle.qtt_layout.specs.declared.laid.Laid.{Laid}
use Rattle.qtt_layout.specs.declared.laid.Laid.TheVariants.{Open, Next, Close, Tok}

-- a Next before marks that count: it takes the place of another Next, and is none before a Close
abbrev pub next_before : Span → List Laid → List Laid
next_before s [] = Next s ∷ []
next_before s (Open r ∷ ms) = Next s ∷ Open r ∷ ms
next_before s (Next r ∷ ms) = Next s ∷ ms
next_before s (Close r ∷ ms) = Close r ∷ ms
next_before s (Tok t ∷ ms) = Next s ∷ Tok t ∷ ms

abbrev pub counted_before : Laid → List Laid → List Laid
counted_before (Open s) ms = Open s ∷ ms
counted_before (Next s) ms = next_before s ms
counted_before (Close s) ms = Close s ∷ ms
counted_before (Tok t) ms = Tok t ∷ ms

-- the marks that count, among all that are put
abbrev pub counted : List Laid → List Laid
counted [] = []
counted (m ∷ ms) = counted_before m (counted ms)

module _ (a b : Span) (t : Token) where
  pub two_next : counted (Next a ∷ Next b ∷ Tok t ∷ []) ≡ Next a ∷ Tok t ∷ []
  two_next = refl

  pub next_and_close : counted (Next a ∷ Next b ∷ Close a ∷ []) ≡ Close a ∷ []
  next_and_close = refl
