-- The tokens of a module's text, or its first fault.
use Rattle.std.specs.Prelude.{◌≡◌, ℕ, zero, suc, ◌-◌, ◌<◌, ◌≤◌, ◌==◌, nat_lt, if◌then◌else◌, Bool, List, [], ◌∷◌, ◌++◌, length, take, drop, Result, Ok, Err, Vec, encode_utf8}
use Rattle.std.specs.Global.{Global}
use Rattle.std.specs.Str.{chars, encode_utf8_all}
use Rattle.std.specs.Str.Lossy.{utf8_valid_len}
use Rattle.qtt_base.specs.declared.place.Span.{Span}
use Rattle.qtt_base.specs.declared.errors.Fault.{Fault}
use Rattle.qtt_lexer.specs.Place.{start, place_behind, place_after, span_at}
use Rattle.qtt_lexer.specs.Piece.{piece_at}
use Rattle.qtt_lexer.specs.declared.place.Place.{Place}
use Rattle.qtt_lexer.specs.declared.errors.LexError.{LexError}
use Rattle.qtt_lexer.specs.declared.errors.LexError.TheVariants as errors
use Rattle.qtt_lexer.specs.declared.piece.Cause.{Cause}
use Rattle.qtt_lexer.specs.declared.piece.Cause.TheVariants.{NotUtf8, BadCharacter, OpenText, OpenComment, NumberTooWide, NameTooLong}
use Rattle.qtt_lexer.specs.declared.piece.Piece.{Piece}
use Rattle.qtt_lexer.specs.declared.piece.Piece.TheVariants as piece
use Rattle.qtt_lexer.specs.declared.token.Token.{Token}
use Rattle.qtt_lexer.specs.declared.token.TokenKind.{TokenKind}
use Rattle.qtt_lexer.specs.declared.token.TokenKind.TheVariants.{End}

-- a fault without where its word lies in memory
pub record Mistake : Type 0 where
  pub kind : ℕ
  pub span : Span
  pub word : List ℕ
  pub count : ℕ

abbrev pub seen : Fault → Mistake
seen fault = record { kind = fault.kind; span = fault.span; word = fault.word.items; count = fault.count }

-- the number of a kind of fault
abbrev pub kind_of : Cause → ℕ
kind_of NotUtf8 = 1
kind_of (BadCharacter c) = 2
kind_of OpenText = 3
kind_of OpenComment = 4
kind_of NumberTooWide = 5
kind_of NameTooLong = 6

-- a bad character is kept
abbrev pub kept_word : Cause → List ℕ
kept_word NotUtf8 = []
kept_word (BadCharacter c) = encode_utf8 c
kept_word OpenText = []
kept_word OpenComment = []
kept_word NumberTooWide = []
kept_word NameTooLong = []

abbrev pub mistake : Cause → Place → ℕ → Mistake
mistake cause p n = record { kind = kind_of cause; span = span_at p n; word = kept_word cause; count = 0 }

-- the token of these characters
abbrev pub token : TokenKind → Place → List ℕ → Token
token kind p cs = record { kind = kind; span = span_at p (length cs); text = encode_utf8_all cs }

abbrev pub put_first : Token → Result (List Token) Mistake → Result (List Token) Mistake
put_first t (Ok ts) = Ok (t ∷ ts)
put_first t (Err m) = Err m

-- what a piece adds to what follows it, where the last argument gives what follows so many characters more than
-- one
abbrev pub by_piece : Place → List ℕ → Piece → (ℕ → Result (List Token) Mistake) → Result (List Token) Mistake
by_piece p cs (piece.Gap n) behind = behind (n - 1)
by_piece p cs (piece.Token kind n) behind = put_first (token kind p (take n cs)) (behind (n - 1))
by_piece p cs (piece.Wrong cause before n) behind = Err (mistake cause (place_after p (take before cs)) n)

-- the tokens of characters from a place on, of which so many belong to a piece that began before them
unfoldable pub tokens_from : Bool → Place → ℕ → List ℕ → Result (List Token) Mistake
tokens_from broken p n [] = if broken then Err (mistake NotUtf8 p 0) else Ok (token End p [] ∷ [])
tokens_from broken p (suc n) (c ∷ cs) = tokens_from broken (place_behind p c) n cs
tokens_from broken p zero (c ∷ cs) =
    by_piece p (c ∷ cs) (piece_at broken (c ∷ cs)) (λ n. tokens_from broken (place_behind p c) n cs)

-- a byte order mark at the start is passed over
abbrev pub without_mark : List ℕ → List ℕ
without_mark [] = []
without_mark (c ∷ cs) = if c == 0xFEFF then cs else c ∷ cs

-- the tokens of a text, or its first fault; the bytes that are read are those before the first that is no part of
-- a character
unfoldable pub lexed : List ℕ → Result (List Token) Mistake
lexed bytes =
    let n = utf8_valid_len bytes in
    tokens_from (nat_lt n (length bytes)) start 0 (without_mark (chars (take n bytes)))

-- tokens that have been read, and then those that follow
abbrev pub with_front : List Token → Result (List Token) Mistake → Result (List Token) Mistake
with_front front (Ok ts) = Ok (front ++ ts)
with_front front (Err m) = Err m

-- a piece was read at the front of cs, of so many characters; old and new are the tokens before and after it
abbrev pub ReadsPiece : Bool → Place → List ℕ → List Token → List Token → ℕ → Type 0
ReadsPiece broken p cs old new n =
    (0 < n) × (n ≤ length cs)
    × (with_front new (tokens_from broken (place_after p (take n cs)) 0 (drop n cs)) ≡ with_front old
    (tokens_from broken p 0 cs))

-- the error is want of memory, or keeps this fault
abbrev pub Refuses : LexError → Result (List Token) Mistake → Type 0
Refuses errors.Memory outcome = Unit {0}
Refuses (errors.Fault fault) outcome = outcome ≡ Err (seen fault)

-- the answer is exactly these tokens or this fault, unless memory ran out
abbrev pub Gives : Result (Vec Token Global) LexError → Result (List Token) Mistake → Type 0
Gives (Ok tokens) outcome = outcome ≡ Ok tokens.items
Gives (Err e) outcome = Refuses e outcome
