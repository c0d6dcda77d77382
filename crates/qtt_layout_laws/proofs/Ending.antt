-- The tokens of a text have an end.
use Rattle.std.proofs.Common.{◌≡◌, ℕ, zero, suc, ◌-◌, nat_lt, Bool, true, false, cond, List, [], ◌∷◌, length, take, Result, Ok, Err, refl, subst, chars}
use Rattle.std.specs.Str.Lossy.{utf8_valid_len}
use Rattle.qtt_lexer.specs.Lexed.{Mistake, mistake, token, put_first, by_piece, tokens_from, without_mark, lexed}
use Rattle.qtt_lexer.specs.Piece.{piece_at}
use Rattle.qtt_lexer.specs.Place.{start, place_behind}
use Rattle.qtt_lexer.specs.declared.piece.Cause.TheVariants.{NotUtf8}
use Rattle.qtt_lexer.specs.declared.piece.Piece.{Piece}
use Rattle.qtt_lexer.specs.declared.piece.Piece.TheVariants as piece
use Rattle.qtt_lexer.specs.declared.place.Place.{Place}
use Rattle.qtt_lexer.specs.declared.token.Token.{Token}
use Rattle.qtt_lexer.specs.declared.token.TokenKind.TheVariants as kind
use Rattle.qtt_layout.specs.Laws.{ends_by, has_end}
use Rattle.qtt_layout.specs.Rules.{role_of}
use Rattle.qtt_layout.specs.declared.role.Role.{Role}
use Rattle.qtt_layout.specs.declared.role.Role.TheVariants as role
use Rattle.qtt_layout_laws.specs.Words.{HasEnd}
use Rattle.qtt_layout_laws.proofs.RoleFacts.{Is, is}

abbrev Ended : Result (List Token) Mistake → Type 0
Ended (Ok ts) = HasEnd ts
Ended (Err m) = Unit {0}

ended_first : (t : Token) (r : Result (List Token) Mistake) → Ended r → Ended (put_first t r)
ended_first t (Ok ts) h = HasEnd.later h
ended_first t (Err m) h = tt

ended_piece : (p : Place) (cs : List ℕ) (q : Piece) (behind : ℕ → Result (List Token) Mistake) →
    ((n : ℕ) → Ended (behind n)) → Ended (by_piece p cs q behind)
ended_piece p cs (piece.Gap n) behind h = h (n - 1)
ended_piece p cs (piece.Token k n) behind h = ended_first (token k p (take n cs)) (behind (n - 1)) (h (n - 1))
ended_piece p cs (piece.Wrong cause before n) behind h = tt

ended_last : (broken : Bool) (p : Place) →
    Ended (cond broken (Err (mistake NotUtf8 p 0)) (Ok (token kind.End p [] ∷ [])))
ended_last true p = tt
ended_last false p = HasEnd.here refl

ended_from : (broken : Bool) (p : Place) (n : ℕ) (cs : List ℕ) → Ended (tokens_from broken p n cs)
unfolding tokens_from
ended_from broken p n [] = ended_last broken p
ended_from broken p (suc n) (c ∷ cs) = ended_from broken (place_behind p c) n cs
ended_from broken p zero (c ∷ cs) =
    ended_piece p (c ∷ cs) (piece_at broken (c ∷ cs)) (λ n. tokens_from broken (place_behind p c) n cs)
    (λ n. ended_from broken (place_behind p c) n cs)

ended_lexed : (text : List ℕ) → Ended (lexed text)
unfolding lexed
ended_lexed text =
    let n = utf8_valid_len text in
    ended_from (nat_lt n (length text)) start 0 (without_mark (chars (take n text)))

pub texts_end : (text : List ℕ) (ts : List Token) → lexed text ≡ Ok ts → HasEnd ts
texts_end text ts e = subst Ended e (ended_lexed text)

-- ---- by the test

end_by : (t : Token) (ts : List Token) (r : Role) → Is r t.kind → ends_by r (has_end ts) ≡ true →
    (has_end ts ≡ true → HasEnd ts) → HasEnd (t ∷ ts)
end_by t ts role.Opener i e f = HasEnd.later (f e)
end_by t ts role.LeftBracket i e f = HasEnd.later (f e)
end_by t ts role.RightBracket i e f = HasEnd.later (f e)
end_by t ts role.Semicolon i e f = HasEnd.later (f e)
end_by t ts role.End i e f = HasEnd.here i
end_by t ts role.Plain i e f = HasEnd.later (f e)

pub end_found : (ts : List Token) → has_end ts ≡ true → HasEnd ts
end_found [] e = absurd (let g = e in cc)
end_found (t ∷ ts) e = end_by t ts (role_of t.kind) (is t.kind) e (λ h. end_found ts h)
