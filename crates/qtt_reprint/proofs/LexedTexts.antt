-- The bytes of a printed module are lexed as the tokens of its words.
use Rattle.std.proofs.Common.{◌≡◌, ℕ, nat_lt, Bool, false, List, [], ◌∷◌, ◌++◌, length, take, Ok, refl, sym, ap, ◌∙◌, arith, codes}
use Rattle.std.proofs.lemmas.Bool.Decides.{nat_tests}
use Rattle.std.proofs.lemmas.List.{append-nil}
use Rattle.std.proofs.lemmas.Str.{IsUtf8-from_ascii, chars-append, chars-IsAscii, utf8_valid_len-IsUtf8}
use Rattle.std.proofs.Math.Seq.{take-length}
use Rattle.std.specs.Str.{IsUtf8, chars}
use Rattle.qtt_lexer.specs.Place.{start, place_after}
use Rattle.qtt_lexer.specs.Lexed.{tokens_from, token, with_front, without_mark, lexed}
use Rattle.qtt_lexer.specs.declared.place.Place.{Place}
use Rattle.qtt_lexer.specs.declared.token.Token.{Token}
use Rattle.qtt_lexer.specs.declared.token.TokenKind.TheVariants as kind
use Rattle.qtt_syntax.specs.Tree.{Module}
use Rattle.qtt_syntax.specs.Tree.Module.{module_text}
use Rattle.qtt_syntax.specs.Words.{Printed, written}
use Rattle.qtt_syntax.specs.Printing.{key, printed}
use Rattle.qtt_reprint.proofs.Steps.{Left, spaced, State, block_at, Goes}
use Rattle.qtt_reprint.proofs.Steps.Left.{free, wordy, typed, typed_blank, brace}
use Rattle.qtt_reprint.proofs.Steps.Mode.{fresh}
use Rattle.qtt_reprint.proofs.Steps.State.{at}
use Rattle.qtt_reprint.proofs.WrittenItems.{Finished, behind_open}
use Rattle.qtt_reprint.proofs.WrittenItems.Finished.{finished}
use Rattle.qtt_reprint.proofs.LexedWords.{Allows, left_of, printed_tokens, ascii_list, runs_lexed}

not_below : (n : ℕ) → nat_lt n n ≡ false
not_below n = grind (arith, nat_tests)

-- bytes that are all of them text
lexed_whole : (bytes : List ℕ) → IsUtf8 bytes → lexed bytes ≡ tokens_from false start 0 (without_mark (chars bytes))
unfolding lexed
lexed_whole bytes u =
    ap (λ (n : ℕ). tokens_from (nat_lt n (length bytes)) start 0 (without_mark (chars (take n bytes))))
    (utf8_valid_len-IsUtf8 bytes u)
    ∙ ap (λ (b : Bool). tokens_from b start 0 (without_mark (chars (take (length bytes) bytes))))
    (not_below (length bytes))
    ∙ ap (λ (v : List ℕ). tokens_from false start 0 (without_mark (chars v))) (take-length bytes)

-- the text begins with a letter
unmarked : (ps : List Printed) →
    without_mark (chars (written (key (codes "module") ∷ ps))) ≡ chars (written (key (codes "module") ∷ ps))
unmarked ps =
    let ascii = ascii_list (codes "module") refl in
    let are : chars (codes "module" ++ written ps) ≡ codes "module" ++ chars (written ps) =
    chars-append (codes "module") (written ps) (IsUtf8-from_ascii (codes "module") ascii)
    ∙ ap (λ (v : List ℕ). v ++ chars (written ps)) (chars-IsAscii (codes "module") ascii) in
    ap without_mark are ∙ sym are

ends_allow : (l : Left) → Allows (spaced l) []
ends_allow free = tt
ends_allow wordy = tt
ends_allow typed = tt
ends_allow typed_blank = tt
ends_allow brace = tt

finished_allows : (u : State) → Finished u → Allows (left_of u) []
finished_allows u (finished l e shut) = ends_allow l

ends_tokens : (p : Place) → tokens_from false p 0 [] ≡ Ok (token kind.End p [] ∷ [])
unfolding tokens_from
ends_tokens p = refl

-- the tokens of words, and End behind them
abbrev pub whole_tokens : List Printed → List Token
whole_tokens ps = printed_tokens start ps ++ token kind.End (place_after start (chars (written ps))) [] ∷ []

words_lexed : (ps : List Printed) → Goes (at free fresh (block_at 1 0 ∷ []) 0) (key (codes "module") ∷ ps) Finished
    → lexed (written (key (codes "module") ∷ ps)) ≡ Ok (whole_tokens (key (codes "module") ∷ ps))
words_lexed ps g =
    let all : List Printed = key (codes "module") ∷ ps in
    let x = runs_lexed (at free fresh (block_at 1 0 ∷ []) 0) g.last all g.runs in
    let behind = place_after start (chars (written all)) in
    lexed_whole (written all) x.utf8
    ∙ ap (tokens_from false start 0) (unmarked ps ∙ sym (append-nil (chars (written all))))
    ∙ x.lex start [] (finished_allows g.last g.is)
    ∙ ap (with_front (printed_tokens start all)) (ends_tokens behind)

pub printed_lexed : (t : Module) → Goes (at free fresh (block_at 1 0 ∷ []) 0) (behind_open t) Finished
    → lexed (printed t) ≡ Ok (whole_tokens (behind_open t))
printed_lexed (module_text s n ns is ts) g = words_lexed _ g
