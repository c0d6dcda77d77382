-- Where blocks open among the marks of a text.
use Rattle.std.specs.Prelude.{List, [], ◌∷◌}
use Rattle.qtt_base.specs.declared.place.Span.{Span}
use Rattle.qtt_lexer.specs.declared.token.Token.{Token}
use Rattle.qtt_layout.specs.declared.laid.Laid.{Laid}
use Rattle.qtt_layout.specs.declared.laid.Laid.TheVariants.{Open, Next, Close, Tok}
use Rattle.qtt_layout_laws.specs.Blocks.{IsOpener}

-- a block opens directly behind each opener, and nowhere else
pub data OpensBehindWords : List Laid → Type 0 where
  none : OpensBehindWords []
  a_next : {s : Span} {ms : List Laid} → OpensBehindWords ms → OpensBehindWords (Next s ∷ ms)
  a_close : {s : Span} {ms : List Laid} → OpensBehindWords ms → OpensBehindWords (Close s ∷ ms)
  opener : {t : Token} {s : Span} {ms : List Laid} → IsOpener t.kind → OpensBehindWords ms →
      OpensBehindWords (Tok t ∷ Open s ∷ ms)
  another : {t : Token} {ms : List Laid} → (IsOpener t.kind → ⊥) → OpensBehindWords ms →
      OpensBehindWords (Tok t ∷ ms)

-- the outermost block opens before all tokens, and each other one behind its word
abbrev pub OpensAsSaid : List Laid → Type 0
OpensAsSaid [] = ⊥
OpensAsSaid (Open s ∷ ms) = OpensBehindWords ms
OpensAsSaid (Next s ∷ ms) = ⊥
OpensAsSaid (Close s ∷ ms) = ⊥
OpensAsSaid (Tok t ∷ ms) = ⊥

module _ (t : Token) (s : Span) (is_opener : IsOpener t.kind) where
  pub opened_behind_a_word : OpensAsSaid (Open s ∷ Tok t ∷ Open s ∷ Close s ∷ Close s ∷ [])
  opened_behind_a_word =
      OpensBehindWords.opener is_opener
      (OpensBehindWords.a_close (OpensBehindWords.a_close OpensBehindWords.none))
