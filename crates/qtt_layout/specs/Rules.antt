-- The marks of tokens, by the columns at which they stand.
use Rattle.std.specs.Prelude.{ℕ, zero, suc, ◌+◌, ◌-◌, ◌==◌, ◌&&◌, nat_lt, nat_le, if◌then◌else◌, Bool, true, false, List, [], ◌∷◌, ◌++◌, length, take, replicate, Option, Some, None, slice_get, Result, Ok, Err}
use Rattle.std.specs.List.{suffix_len}
use Rattle.qtt_base.specs.declared.place.Span.{Span}
use Rattle.qtt_lexer.specs.Lexed.{Mistake}
use Rattle.qtt_lexer.specs.declared.token.Token.{Token}
use Rattle.qtt_lexer.specs.declared.token.TokenKind.{TokenKind}
use Rattle.qtt_lexer.specs.declared.token.TokenKind.TheVariants as kind
use Rattle.qtt_layout.specs.Marks.{counted}
use Rattle.qtt_layout.specs.declared.block.Block.{Block}
use Rattle.qtt_layout.specs.declared.role.Role.{Role}
use Rattle.qtt_layout.specs.declared.role.Role.TheVariants as role
use Rattle.qtt_layout.specs.declared.laid.Laid.{Laid}
use Rattle.qtt_layout.specs.declared.laid.Laid.TheVariants.{Open, Next, Close, Tok}

-- what a token is for the layout
abbrev pub role_of : TokenKind → Role
role_of kind.Where = role.Opener
role_of kind.Do = role.Opener
role_of kind.LeftParen = role.LeftBracket
role_of kind.DotParen = role.LeftBracket
role_of kind.RightParen = role.RightBracket
role_of kind.Semicolon = role.Semicolon
role_of kind.End = role.End
role_of _ = role.Plain

-- Between two tokens: the open blocks, the newest last; how many brackets are open; the line of the token before;
-- and whether a block is awaited, at the start of a text and behind `where` and `do`.
pub record State : Type 0 where
  pub blocks : List Block
  pub brackets : ℕ
  pub line : ℕ
  pub awaits : Bool

abbrev pub start : State
start = record { blocks = []; brackets = 0; line = 0; awaits = true }

abbrev pub newest : List Block → Option Block
newest blocks = slice_get blocks (length blocks - 1)

-- the column is right of the enclosing block's, where there is one
abbrev pub is_deeper : ℕ → Option Block → Bool
is_deeper col None = true
is_deeper col (Some block) = nat_lt block.col col

-- the token opens the awaited block
abbrev pub opens : State → Token → Bool
opens s t = s.awaits && is_deeper t.span.col (newest s.blocks)

-- an awaited block that the token does not open is empty
abbrev pub empty_block : State → Span → List Laid
empty_block s span = if s.awaits then Open span ∷ Close span ∷ [] else []

-- so many of the newest blocks close at a place
abbrev pub closes : ℕ → Span → List Laid
closes n span = replicate n (Close span)

abbrev pub without_newest : ℕ → List Block → List Block
without_newest n blocks = take (length blocks - n) blocks

-- marks that are put before a token, and the blocks that are then open
pub record Put : Type 0 where
  pub marks : List Laid
  pub blocks : List Block

-- a place at a block's column begins its next item
abbrev pub next_at : Block → Span → List Laid
next_at block span = if block.col == span.col then Next span ∷ [] else []

-- a place that no block is left for is left of the outermost one
abbrev pub aligned : Span → List Laid → List Block → Option Block → Option Put
aligned span marks blocks None = None
aligned span marks blocks (Some block) = Some (record { marks = marks ++ next_at block span; blocks = blocks })

-- how many of the newest blocks stand right of the column
abbrev pub right_of : ℕ → List Block → ℕ
right_of col blocks = suffix_len (λ block. nat_lt col block.col) blocks

-- at the first token of a line that opens no block
abbrev pub aligned_at : State → Span → Option Put
aligned_at s span =
    let n = right_of span.col s.blocks in
    let left = without_newest n s.blocks in
    aligned span (empty_block s span ++ closes n span) left (newest left)

-- by the column of a token
abbrev pub by_column : State → Token → Option Put
by_column s t =
    if opens s t then Some (record {
      marks = Open t.span ∷ [];
      blocks = s.blocks ++ record { col = t.span.col; brackets = s.brackets } ∷
          [];
    })
    else (if t.span.line == s.line then Some (record { marks = empty_block s t.span; blocks = s.blocks })
    else aligned_at s t.span)

-- how many blocks were opened since the newest of so many brackets: those at whose opening all of them were open
abbrev pub since_bracket : ℕ → List Block → ℕ
since_bracket zero blocks = 0
since_bracket (suc n) blocks = suffix_len (λ block. nat_le (suc n) block.brackets) blocks

-- a `)` first closes the blocks that were opened since its bracket
abbrev pub closed_by : Role → ℕ → List Block → ℕ
closed_by role.RightBracket brackets blocks = since_bracket brackets blocks
closed_by _ brackets blocks = 0

abbrev pub brackets_behind : Role → ℕ → ℕ
brackets_behind role.LeftBracket n = n + 1
brackets_behind role.RightBracket n = n - 1
brackets_behind _ n = n

-- a `;` is a Next, and every other token stands for itself
abbrev pub item_of : Role → Token → Laid
item_of role.Semicolon t = Next t.span
item_of _ t = Tok t

abbrev pub is_opener : Role → Bool
is_opener role.Opener = true
is_opener _ = false

-- what a token adds behind the marks that its column puts, and the state behind it
abbrev pub added : Role → State → Token → List Block → List Laid
added r s t blocks = closes (closed_by r s.brackets blocks) t.span ++ item_of r t ∷ []

abbrev pub behind : Role → State → Token → List Block → State
behind r s t blocks = record {
  blocks = without_newest (closed_by r s.brackets blocks) blocks;
  brackets = brackets_behind r s.brackets;
  line = t.span.line;
  awaits = is_opener r;
}

-- at the end every block closes
abbrev pub at_end : State → Token → List Laid
at_end s t = empty_block s t.span ++ closes (length s.blocks) t.span

-- a token left of the outermost block
abbrev pub bad_indent : Token → Mistake
bad_indent t = record { kind = 7; span = t.span; word = []; count = 0 }

abbrev pub put_before : List Laid → Result (List Laid) Mistake → Result (List Laid) Mistake
put_before marks (Ok rest) = Ok (marks ++ rest)
put_before marks (Err m) = Err m

abbrev pub by_put : Role → State → Token → Option Put → (State → Result (List Laid) Mistake) →
    Result (List Laid) Mistake
by_put r s t None rest = Err (bad_indent t)
by_put r s t (Some put) rest = put_before (put.marks ++ added r s t put.blocks) (rest (behind r s t put.blocks))

abbrev pub by_role : Role → State → Token → (State → Result (List Laid) Mistake) → Result (List Laid) Mistake
by_role role.End s t rest = Ok (at_end s t)
by_role r s t rest = by_put r s t (by_column s t) rest

-- all marks that are put, with the tokens
unfoldable pub put_from : State → List Token → Result (List Laid) Mistake
put_from s [] = Ok []
put_from s (t ∷ ts) = by_role (role_of t.kind) s t (λ next. put_from next ts)

abbrev pub counted_of : Result (List Laid) Mistake → Result (List Laid) Mistake
counted_of (Ok marks) = Ok (counted marks)
counted_of (Err m) = Err m

-- the tokens with the marks that count, or the first token left of the outermost block
unfoldable pub laid : List Token → Result (List Laid) Mistake
laid tokens = counted_of (put_from start tokens)
