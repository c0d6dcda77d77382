-- Blocks open where the words say so.
use Rattle.std.proofs.Common.{List, [], ◌∷◌, ◌++◌, sym, subst, append_assoc}
use Rattle.qtt_base.specs.declared.place.Span.{Span}
use Rattle.qtt_lexer.specs.declared.token.Token.{Token}
use Rattle.qtt_layout.specs.Marks.{next_before, counted}
use Rattle.qtt_layout.specs.declared.laid.Laid.{Laid}
use Rattle.qtt_layout.specs.declared.laid.Laid.TheVariants.{Close}
use Rattle.qtt_layout_laws.specs.Words.{Word, place_of}
use Rattle.qtt_layout_laws.specs.Blocks.{Block, Within, Behind}
use Rattle.qtt_layout_laws.specs.Texts.{LaysOut}
use Rattle.qtt_layout_laws.specs.Openings.{OpensBehindWords, OpensAsSaid}
use Rattle.qtt_layout_laws.specs.Laws.{LayoutOpensBlocks}
use Rattle.qtt_layout_laws.proofs.Counted.{counted_is}
use Rattle.qtt_layout_laws.proofs.Answering.{laid_by, some_answer}

mutual
  within_opens : {b w e : Word} {ws es : List Word} {ms : List Laid} → Within b w ws e es ms → (rest : List Laid) →
      OpensBehindWords rest → OpensBehindWords (ms ++ rest)
  within_opens (Within.semicolon s d) rest h = OpensBehindWords.a_next (behind_opens d rest h)
  within_opens (Within.word s n d) rest h = OpensBehindWords.another n (behind_opens d rest h)
  within_opens (Within.block {b} {w} {v} {u} {e} {ws} {us} {es} {ns} {ms} o bb k d) rest h =
      OpensBehindWords.opener o
      (subst OpensBehindWords (sym (append_assoc ns (Close (place_of u) ∷ ms) rest))
      (block_opens k (Close (place_of u) ∷ (ms ++ rest)) (OpensBehindWords.a_close (behind_opens d rest h))))
  within_opens (Within.empty o n d) rest h =
      OpensBehindWords.opener o (OpensBehindWords.a_close (behind_opens d rest h))

  behind_opens : {b w e : Word} {ws es : List Word} {ms : List Laid} → Behind b w ws e es ms → (rest : List Laid) →
      OpensBehindWords rest → OpensBehindWords (ms ++ rest)
  behind_opens (Behind.ends e) rest h = h
  behind_opens (Behind.item n i d) rest h = OpensBehindWords.a_next (within_opens d rest h)
  behind_opens (Behind.goes_on n i d) rest h = within_opens d rest h

  block_opens : {b e : Word} {ws es : List Word} {ms : List Laid} → Block b ws e es ms → (rest : List Laid) →
      OpensBehindWords rest → OpensBehindWords (ms ++ rest)
  block_opens (Block.bare e) rest h = h
  block_opens (Block.filled n d) rest h = within_opens d rest h

-- ---- also among the marks that count

next_opens : (s : Span) {ms : List Laid} → OpensBehindWords ms → OpensBehindWords (next_before s ms)
next_opens s OpensBehindWords.none = OpensBehindWords.a_next OpensBehindWords.none
next_opens s (OpensBehindWords.a_next h) = OpensBehindWords.a_next h
next_opens s (OpensBehindWords.a_close h) = OpensBehindWords.a_close h
next_opens s (OpensBehindWords.opener o h) = OpensBehindWords.a_next (OpensBehindWords.opener o h)
next_opens s (OpensBehindWords.another n h) = OpensBehindWords.a_next (OpensBehindWords.another n h)

counted_opens : {ms : List Laid} → OpensBehindWords ms → OpensBehindWords (counted ms)
counted_opens OpensBehindWords.none = OpensBehindWords.none
counted_opens (OpensBehindWords.a_next {s} h) = next_opens s (counted_opens h)
counted_opens (OpensBehindWords.a_close h) = OpensBehindWords.a_close (counted_opens h)
counted_opens (OpensBehindWords.opener o h) = OpensBehindWords.opener o (counted_opens h)
counted_opens (OpensBehindWords.another n h) = OpensBehindWords.another n (counted_opens h)

text_opens : (ts : List Token) (ms : List Laid) → LaysOut ts ms → OpensAsSaid ms
text_opens ts ms (LaysOut.empty is k same) =
    subst OpensAsSaid (sym same) (OpensBehindWords.a_close OpensBehindWords.none)
text_opens ts ms (LaysOut.whole {b} {e} {ws} {es} {ns} is k d over counts) =
    subst OpensAsSaid (counted_is counts)
    (counted_opens (block_opens d (Close (place_of e) ∷ []) (OpensBehindWords.a_close OpensBehindWords.none)))

pub opens_blocks : LayoutOpensBlocks
opens_blocks = λ ts ms h e. text_opens ts ms (laid_by ts ms e (some_answer ts h))
