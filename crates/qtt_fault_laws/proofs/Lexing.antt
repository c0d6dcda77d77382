-- The faults of lexing are kept: a bad character is one.
use Rattle.std.proofs.Common.{◌≡◌, ℕ, zero, suc, ◌+◌, ◌-◌, ◌^◌, ◌==◌, pos, neg_ℤ, unwrap_or, ◌&&◌, nat_lt, nat_le, Bool, true, false, cond, List, [], ◌∷◌, length, take, Option, Some, None, Result, Ok, Err, encode_utf8, refl, sym, subst, append-nil}
use Rattle.std.proofs.lemmas.Str.{IsUtf8-nil, IsUtf8-from_is_utf8, IsUtf8-encode, is_utf8-from_IsUtf8, scalars-chars, chars_past_char}
use Rattle.std.proofs.Math.Utf8.{scalar, scalars}
use Rattle.std.specs.Char.{is_ascii_digit}
use Rattle.std.specs.List.{prefix_len, take_while}
use Rattle.std.specs.Str.{IsUtf8, is_utf8, chars, encode_utf8_all}
use Rattle.std.specs.Str.Lossy.{utf8_valid_len, valid_len_up_to}
use Rattle.qtt_base.specs.Parts.{has_long_part}
use Rattle.qtt_lexer.specs.Characters.{begins, begins_part}
use Rattle.qtt_lexer.specs.Lexed.{Mistake, mistake, put_first, by_piece, tokens_from, without_mark, lexed}
use Rattle.qtt_lexer.specs.Piece.{bad, reserved, decimal, name_length, name_at, hole_at, hole_of, names_hole, number_at, number_of, quoted, text_of, comment_of, symbol_at, symbol_of, front_of, by_front, piece_at}
use Rattle.qtt_lexer.specs.Place.{start, place_behind, place_after}
use Rattle.qtt_lexer.specs.declared.front.Front.{Front}
use Rattle.qtt_lexer.specs.declared.front.Front.TheVariants as front
use Rattle.qtt_lexer.specs.declared.piece.Cause.{Cause}
use Rattle.qtt_lexer.specs.declared.piece.Cause.TheVariants.{NotUtf8, BadCharacter, OpenText, OpenComment, NumberTooWide, NameTooLong}
use Rattle.qtt_lexer.specs.declared.piece.Piece.{Piece}
use Rattle.qtt_lexer.specs.declared.piece.Piece.TheVariants.{Gap, Token, Wrong}
use Rattle.qtt_lexer.specs.declared.place.Place.{Place}
use Rattle.qtt_lexer.specs.declared.quoted.Quotation.{Quotation}
use Rattle.qtt_lexer.specs.declared.quoted.Quotation.TheVariants.{Closed, LineEnds, TextEnds, BadEscape}
use Rattle.qtt_lexer.specs.declared.token.Token as code
use Rattle.qtt_lexer.specs.declared.token.TokenKind.{TokenKind}
use Rattle.qtt_lexer.specs.declared.token.TokenKind.TheVariants as kind
use Rattle.qtt_diag.specs.Fault.{character_spelled}
use Rattle.qtt_fault_laws.specs.Kept.{IsKept}

both : (a b : Bool) → (a && b) ≡ true → (a ≡ true) × (b ≡ true)
both true true h = (refl, refl)
both true false h = absurd cc
both false b h = absurd cc

-- ---- causes

-- a bad character is a character
abbrev Fair : Cause → Type 0
Fair (BadCharacter c) = scalar c ≡ true
Fair _ = Unit {0}

abbrev Fair_piece : Piece → Type 0
Fair_piece (Gap n) = Unit {0}
Fair_piece (Token k n) = Unit {0}
Fair_piece (Wrong cause before n) = Fair cause

fair_cond : (b : Bool) (p q : Piece) → Fair_piece p → Fair_piece q → Fair_piece (cond b p q)
fair_cond true p q f g = f
fair_cond false p q f g = g

fair_word : (b : Bool) (cause : Cause) (before n m : ℕ) (k : TokenKind) → Fair cause →
    Fair_piece (cond b (Wrong cause before n) (Token k m))
fair_word true cause before n m k f = f
fair_word false cause before n m k f = tt

fair_token : (b : Bool) (cause : Cause) (before n m : ℕ) (k : TokenKind) → Fair cause →
    Fair_piece (cond b (Token k m) (Wrong cause before n))
fair_token true cause before n m k f = tt
fair_token false cause before n m k f = f

fair_text : (broken : Bool) (q : Quotation) → Fair_piece (text_of broken q)
fair_text broken (Closed value n) = tt
fair_text broken LineEnds = tt
fair_text true (TextEnds n) = tt
fair_text false (TextEnds n) = tt
fair_text broken (BadEscape n) = refl

fair_comment : (broken : Bool) (n : ℕ) (o : Option ℕ) → Fair_piece (comment_of broken n o)
fair_comment broken n (Some k) = tt
fair_comment true n None = tt
fair_comment false n None = tt

fair_hole_of : (n : ℕ) (w : List ℕ) → Fair_piece (hole_of n w)
fair_hole_of n w =
    fair_cond (names_hole w) (cond (has_long_part w) (Wrong NameTooLong 1 n) (Token (kind.Hole w) (n + 1))) (bad 63)
    (fair_word (has_long_part w) NameTooLong 1 n (n + 1) (kind.Hole w) tt) refl

fair_hole : (cs : List ℕ) → Fair_piece (hole_at cs)
unfolding hole_at
fair_hole cs =
    let n = name_length cs in
    let w = encode_utf8_all (take n cs) in
    fair_cond (begins begins_part cs) (hole_of n w) (bad 63) (fair_hole_of n w) refl

fair_name : (cs : List ℕ) → Fair_piece (name_at cs)
unfolding name_at
fair_name cs =
    let n = name_length cs in
    let w = encode_utf8_all (take n cs) in
    fair_word (has_long_part w) NameTooLong 0 n n (unwrap_or (reserved w) (kind.Name w)) tt

fair_number_of : (negative : Bool) (n value : ℕ) → Fair_piece (number_of negative n value)
fair_number_of false n value =
    fair_token (nat_lt value (2 ^ 63)) NumberTooWide 0 n n (kind.Number (pos value)) tt
fair_number_of true n value =
    fair_token (nat_le value (2 ^ 63)) NumberTooWide 0 (n + 1) (n + 1) (kind.Number (neg_ℤ (pos value))) tt

fair_number : (negative : Bool) (cs : List ℕ) → Fair_piece (number_at negative cs)
unfolding number_at
fair_number negative cs =
    fair_number_of negative (prefix_len is_ascii_digit cs) (decimal (take_while is_ascii_digit cs))

fair_symbol : (c : ℕ) (o : _) → scalar c ≡ true → Fair_piece (symbol_of c o)
fair_symbol c None s = s
fair_symbol c (Some k) s = tt

fair_front : (broken : Bool) (c : ℕ) (cs : List ℕ) (f : Front) → scalar c ≡ true → Fair_piece (by_front broken c cs f)
fair_front broken c cs front.Blank s = tt
fair_front broken c cs front.Line s = tt
fair_front broken c cs front.Comment s = fair_comment broken _ _
fair_front broken c cs front.Text s = fair_text broken (quoted cs)
fair_front broken c cs front.Hole s = fair_hole cs
fair_front broken c cs front.Name s = fair_name (c ∷ cs)
fair_front broken c cs front.Number s = fair_number false (c ∷ cs)
fair_front broken c cs front.Negative s = fair_number true cs
fair_front broken c cs front.Symbol s = fair_symbol c (symbol_at (c ∷ cs)) s

fair_piece : (broken : Bool) (c : ℕ) (cs : List ℕ) → scalar c ≡ true → Fair_piece (piece_at broken (c ∷ cs))
unfolding piece_at
fair_piece broken c cs s = fair_front broken c cs (front_of c cs) s

-- ---- what is kept of a cause

character_kept : (c : ℕ) → scalar c ≡ true → character_spelled (encode_utf8 c) ≡ Some c
unfolding character_spelled
character_kept c s =
    let valid = IsUtf8-encode c s in
    rw (
      is_utf8-from_IsUtf8 (encode_utf8 c) valid,
      chars_past_char (encode_utf8 c) [] c valid (sym (append-nil (encode_utf8 c))),
    ) refl

cause_kept : (cause : Cause) (p : Place) (n : ℕ) → Fair cause →
    let m = mistake cause p n in IsKept m.kind m.word m.count
cause_kept NotUtf8 p n f = refl
cause_kept (BadCharacter c) p n f = rw (character_kept c f) refl
cause_kept OpenText p n f = refl
cause_kept OpenComment p n f = refl
cause_kept NumberTooWide p n f = refl
cause_kept NameTooLong p n f = refl

-- ---- texts

abbrev Keeps : Result (List code.Token) Mistake → Type 0
Keeps (Ok ts) = Unit {0}
Keeps (Err m) = IsKept m.kind m.word m.count

first_keeps : (t : code.Token) (r : Result (List code.Token) Mistake) → Keeps r → Keeps (put_first t r)
first_keeps t (Ok ts) h = tt
first_keeps t (Err m) h = h

piece_keeps : (p : Place) (cs : List ℕ) (q : Piece) (behind : ℕ → Result (List code.Token) Mistake) → Fair_piece q →
    ((n : ℕ) → Keeps (behind n)) → Keeps (by_piece p cs q behind)
piece_keeps p cs (Gap n) behind f h = h (n - 1)
piece_keeps p cs (Token k n) behind f h = first_keeps _ (behind (n - 1)) (h (n - 1))
piece_keeps p cs (Wrong cause before n) behind f h = cause_kept cause (place_after p (take before cs)) n f

end_keeps : (broken : Bool) (p : Place) (r : Result (List code.Token) Mistake) → Keeps r →
    Keeps (cond broken (Err (mistake NotUtf8 p 0)) r)
end_keeps true p r h = refl
end_keeps false p r h = h

from_keeps : (broken : Bool) (p : Place) (n : ℕ) (cs : List ℕ) → scalars cs ≡ true → Keeps (tokens_from broken p n cs)
unfolding tokens_from
from_keeps broken p n [] s = end_keeps broken p _ tt
from_keeps broken p (suc n) (c ∷ cs) s =
    from_keeps broken (place_behind p c) n cs (both (scalar c) (scalars cs) s).1
from_keeps broken p zero (c ∷ cs) s =
    let h = both (scalar c) (scalars cs) s in
    piece_keeps p (c ∷ cs) (piece_at broken (c ∷ cs)) (λ n. tokens_from broken (place_behind p c) n cs)
    (fair_piece broken c cs h.0) (λ n. from_keeps broken (place_behind p c) n cs h.1)

-- the bytes that are read are characters
utf8_by : (b : Bool) (bs : List ℕ) (n : ℕ) → is_utf8 (take (suc n) bs) ≡ b →
    IsUtf8 (take (valid_len_up_to bs n) bs) → IsUtf8 (take (cond b (suc n) (valid_len_up_to bs n)) bs)
utf8_by true bs n e h = IsUtf8-from_is_utf8 (take (suc n) bs) e
utf8_by false bs n e h = h

utf8_front : (bs : List ℕ) (n : ℕ) → IsUtf8 (take (valid_len_up_to bs n) bs)
utf8_front bs zero = IsUtf8-nil
utf8_front bs (suc n) = utf8_by (is_utf8 (take (suc n) bs)) bs n refl (utf8_front bs n)

valid_front : (bs : List ℕ) → IsUtf8 (take (utf8_valid_len bs) bs)
unfolding utf8_valid_len
valid_front bs = utf8_front bs (length bs)

without_by : (b : Bool) (c : ℕ) (cs : List ℕ) → scalars (c ∷ cs) ≡ true → scalars (cond b cs (c ∷ cs)) ≡ true
without_by true c cs s = (both (scalar c) (scalars cs) s).1
without_by false c cs s = s

without_scalars : (cs : List ℕ) → scalars cs ≡ true → scalars (without_mark cs) ≡ true
without_scalars [] s = refl
without_scalars (c ∷ cs) s = without_by (c == 0xFEFF) c cs s

lexed_keeps : (text : List ℕ) → Keeps (lexed text)
unfolding lexed
lexed_keeps text =
    let n = utf8_valid_len text in
    from_keeps (nat_lt n (length text)) start 0 (without_mark (chars (take n text)))
    (without_scalars (chars (take n text)) (scalars-chars (take n text) (valid_front text)))

pub lexing_kept : (text : List ℕ) (m : Mistake) → lexed text ≡ Err m → IsKept m.kind m.word m.count
lexing_kept text m e = subst Keeps e (lexed_keeps text)
