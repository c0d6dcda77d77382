-- What a block is for a reader: where it begins, where its items begin, and where it ends. A block goes by the word
-- at which it begins.
use Rattle.std.specs.Prelude.{◌≡◌, ◌≢◌, ◌<◌, ◌≤◌, true, List, [], ◌∷◌, ◌++◌}
use Rattle.qtt_lexer.specs.declared.token.TokenKind.{TokenKind}
use Rattle.qtt_lexer.specs.declared.token.TokenKind.TheVariants as kind
use Rattle.qtt_layout.specs.declared.laid.Laid.{Laid}
use Rattle.qtt_layout.specs.declared.laid.Laid.TheVariants.{Open, Next, Close, Tok}
use Rattle.qtt_layout_laws.specs.Words.{Word, kind_of, place_of, column_of}

-- the words behind which a block stands: `where` and `do`
pub data IsOpener : TokenKind → Type 0 where
  after_where : IsOpener kind.Where
  after_do : IsOpener kind.Do

-- a word behind an opener in the block b begins a block of its own: it stands further right than b
pub record BeginsBlock (b w : Word) : Type 0 where
  pub is_no_end : kind_of w ≢ kind.End
  pub is_deeper : column_of b < column_of w

-- a word begins the next item of the block b: it is the first of its line, at exactly the block's column
pub record BeginsItem (b w : Word) : Type 0 where
  pub is_first : w.is_first ≡ true
  pub is_aligned : column_of w ≡ column_of b

-- the block b ends at a word
pub data Ends (b w : Word) : Type 0 where
  -- the text ends there
  at_end : kind_of w ≡ kind.End → Ends b w
  -- a line begins there, left of the block
  at_line : w.is_first ≡ true → column_of w < column_of b → Ends b w
  -- a `)` stands there that closes a bracket which was open already where the block began. It closes the newest that
  -- is open; those at the block's beginning are open still, since the block ends at the first `)` that closes one
  at_bracket : kind_of w ≡ kind.RightParen → 0 < w.brackets → w.brackets ≤ b.brackets → Ends b w

mutual
  -- The block that begins at b, before the words ws, ends at the word e, before es, and has these marks and tokens.
  pub data Block : (b : Word) (ws : List Word) (e : Word) (es : List Word) (ms : List Laid) → Type 0 where
    -- it ends at its first word, a `)`
    bare : {b : Word} {ws : List Word} → Ends b b → Block b ws b ws []
    -- its first word begins its first item
    filled : {b e : Word} {ws es : List Word} {ms : List Laid} → (Ends b b → ⊥) → Within b b ws e es ms →
        Block b ws e es ms

  -- the same of what is left of the block b, from a word w on that stands in it
  pub data Within : (b w : Word) (ws : List Word) (e : Word) (es : List Word) (ms : List Laid) → Type 0 where
    -- a `;` is a Next
    semicolon : {b w v e : Word} {ws es : List Word} {ms : List Laid} → kind_of w ≡ kind.Semicolon →
        Behind b v ws e es ms → Within b w (v ∷ ws) e es (Next (place_of w) ∷ ms)
    -- any other word stands for itself
    word : {b w v e : Word} {ws es : List Word} {ms : List Laid} → kind_of w ≢ kind.Semicolon →
        (IsOpener (kind_of w) → ⊥) → Behind b v ws e es ms → Within b w (v ∷ ws) e es (Tok w.token ∷ ms)
    -- behind an opener stands a block, up to the word u at which it ends
    block : {b w v u e : Word} {ws us es : List Word} {ns ms : List Laid} → IsOpener (kind_of w) → BeginsBlock b v →
        Block v ws u us ns → Behind b u us e es ms →
        Within b w (v ∷ ws) e es (Tok w.token ∷ Open (place_of v) ∷ (ns ++ Close (place_of u) ∷ ms))
    -- or an empty block, where the next word begins none
    empty : {b w v e : Word} {ws es : List Word} {ms : List Laid} → IsOpener (kind_of w) → (BeginsBlock b v → ⊥) →
        Behind b v ws e es ms →
        Within b w (v ∷ ws) e es (Tok w.token ∷ Open (place_of v) ∷ Close (place_of v) ∷ ms)

  -- the same of what is left of the block b behind a word or a block in it
  pub data Behind : (b w : Word) (ws : List Word) (e : Word) (es : List Word) (ms : List Laid) → Type 0 where
    -- the block ends there
    ends : {b w : Word} {ws : List Word} → Ends b w → Behind b w ws w ws []
    -- its next item begins
    item : {b w e : Word} {ws es : List Word} {ms : List Laid} → (Ends b w → ⊥) → BeginsItem b w →
        Within b w ws e es ms → Behind b w ws e es (Next (place_of w) ∷ ms)
    -- its item goes on: the word is further right, or not the first of its line
    goes_on : {b w e : Word} {ws es : List Word} {ms : List Laid} → (Ends b w → ⊥) → (BeginsItem b w → ⊥) →
        Within b w ws e es ms → Behind b w ws e es ms
