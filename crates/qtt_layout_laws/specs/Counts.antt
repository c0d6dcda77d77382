-- Which marks count: two Next with nothing between them are one, and a Next directly before a Close is none.
use Rattle.std.specs.Prelude.{List, [], ◌∷◌}
use Rattle.qtt_base.specs.declared.place.Span.{Span}
use Rattle.qtt_lexer.specs.declared.token.Token.{Token}
use Rattle.qtt_layout.specs.declared.laid.Laid.{Laid}
use Rattle.qtt_layout.specs.declared.laid.Laid.TheVariants.{Open, Next, Close, Tok}

-- neither a Next nor a Close comes first
pub data BeginsOtherwise : List Laid → Type 0 where
  with_none : BeginsOtherwise []
  with_open : {s : Span} {ms : List Laid} → BeginsOtherwise (Open s ∷ ms)
  with_token : {t : Token} {ms : List Laid} → BeginsOtherwise (Tok t ∷ ms)

-- of the first marks the second are those that count
pub data Counts : List Laid → List Laid → Type 0 where
  none : Counts [] []
  an_open : {s : Span} {ms ns : List Laid} → Counts ms ns → Counts (Open s ∷ ms) (Open s ∷ ns)
  a_close : {s : Span} {ms ns : List Laid} → Counts ms ns → Counts (Close s ∷ ms) (Close s ∷ ns)
  a_token : {t : Token} {ms ns : List Laid} → Counts ms ns → Counts (Tok t ∷ ms) (Tok t ∷ ns)
  -- a Next with something behind it
  next : {s : Span} {ms ns : List Laid} → BeginsOtherwise ms → Counts ms ns → Counts (Next s ∷ ms) (Next s ∷ ns)
  -- the second of two
  twice : {s r : Span} {ms ns : List Laid} → Counts (Next s ∷ ms) ns → Counts (Next s ∷ Next r ∷ ms) ns
  -- the last before a Close
  idle : {s r : Span} {ms ns : List Laid} → Counts (Close r ∷ ms) ns → Counts (Next s ∷ Close r ∷ ms) ns

module _ (a b c : Span) (t : Token) where
  -- the first place of two stays
  pub two_are_one : Counts (Next a ∷ Next b ∷ Tok t ∷ []) (Next a ∷ Tok t ∷ [])
  two_are_one = Counts.twice (Counts.next BeginsOtherwise.with_token (Counts.a_token Counts.none))

  pub none_before_a_close : Counts (Next a ∷ Next b ∷ Close c ∷ []) (Close c ∷ [])
  none_before_a_close = Counts.twice (Counts.idle (Counts.a_close Counts.none))
