-- The tokens of a text, read piece by piece.
use Rattle.std.proofs.Common.{◌≡◌, ℕ, zero, suc, ◌-◌, ◌<◌, ◌≤◌, Bool, List, [], ◌∷◌, ◌++◌, length, take, drop, Result, Ok, Err, refl, sym, ap, subst, ◌∙◌, append_assoc, arith}
use Rattle.qtt_lexer.specs.Place.{place_behind, place_after}
use Rattle.qtt_lexer.specs.Piece.{piece_at}
use Rattle.qtt_lexer.specs.Lexed.{tokens_from, by_piece, token, mistake, put_first, with_front, ReadsPiece, Refuses, Mistake}
use Rattle.qtt_lexer.specs.Fitting.{Fits}
use Rattle.qtt_lexer.specs.declared.errors.LexError.{LexError}
use Rattle.qtt_lexer.specs.declared.place.Place.{Place}
use Rattle.qtt_lexer.specs.declared.token.Token.{Token}
use Rattle.qtt_lexer.specs.declared.token.TokenKind.{TokenKind}
use Rattle.qtt_lexer.specs.declared.piece.Cause.{Cause}
use Rattle.qtt_lexer.specs.declared.piece.Piece.{Piece}
use Rattle.qtt_lexer.specs.declared.piece.Piece.TheVariants as piece

-- what belongs to a piece is passed over
pub tokens_from-behind : (broken : Bool) (p : Place) (n : ℕ) (cs : List ℕ) → n ≤ length cs →
    tokens_from broken p n cs ≡ tokens_from broken (place_after p (take n cs)) 0 (drop n cs)
unfolding tokens_from
tokens_from-behind broken p zero cs h = refl
tokens_from-behind broken p (suc n) [] h = absurd (omega (arith, h))
tokens_from-behind broken p (suc n) (c ∷ cs) h = tokens_from-behind broken (place_behind p c) n cs (omega (arith, h))

module _ (broken : Bool) (p : Place) where
  behind_piece : (c n : ℕ) (cs : List ℕ) → 0 < n → n ≤ suc (length cs) →
      tokens_from broken (place_behind p c) (n - 1) cs ≡ tokens_from broken (place_after p (take n (c ∷ cs))) 0
      (drop n (c ∷ cs))
  behind_piece c zero cs lt le = absurd (omega (arith, lt))
  behind_piece c (suc n) cs lt le =
      let same : suc n - 1 ≡ n = omega arith in
      ap (λ (m : ℕ). tokens_from broken (place_behind p c) m cs) same ∙ tokens_from-behind broken
      (place_behind p c) n cs (omega (arith, le))

  pub tokens_from-gap : (n : ℕ) (cs : List ℕ) → 0 < length cs → piece.Gap n ≡ piece_at broken cs → 0 < n →
      n ≤ length cs → tokens_from broken p 0 cs ≡ tokens_from broken (place_after p (take n cs)) 0 (drop n cs)
  unfolding tokens_from
  tokens_from-gap n [] some is lt le = absurd (omega (arith, some))
  tokens_from-gap n (c ∷ cs) some is lt le =
      ap (λ (q : Piece). by_piece p (c ∷ cs) q (λ m. tokens_from broken (place_behind p c) m cs)) (sym is) ∙
      behind_piece c n cs lt le

  pub tokens_from-token : (kind : TokenKind) (n : ℕ) (cs : List ℕ) → 0 < length cs →
      piece.Token kind n ≡ piece_at broken cs → 0 < n → n ≤ length cs →
      tokens_from broken p 0 cs ≡ put_first (token kind p (take n cs))
      (tokens_from broken (place_after p (take n cs)) 0 (drop n cs))
  unfolding tokens_from
  tokens_from-token kind n [] some is lt le = absurd (omega (arith, some))
  tokens_from-token kind n (c ∷ cs) some is lt le =
      ap (λ (q : Piece). by_piece p (c ∷ cs) q (λ m. tokens_from broken (place_behind p c) m cs)) (sym is)
      ∙ ap (put_first (token kind p (take n (c ∷ cs)))) (behind_piece c n cs lt le)

  pub tokens_from-wrong : (cause : Cause) (before n : ℕ) (cs : List ℕ) → 0 < length cs →
      piece.Wrong cause before n ≡ piece_at broken cs →
      tokens_from broken p 0 cs ≡ Err (mistake cause (place_after p (take before cs)) n)
  unfolding tokens_from
  tokens_from-wrong cause before n [] some is = absurd (omega (arith, some))
  tokens_from-wrong cause before n (c ∷ cs) some is =
      ap (λ (q : Piece). by_piece p (c ∷ cs) q (λ m. tokens_from broken (place_behind p c) m cs)) (sym is)

pub with_front-put_first : (front : List Token) (t : Token) (r : Result (List Token) Mistake) →
    with_front front (put_first t r) ≡ with_front (front ++ t ∷ []) r
with_front-put_first front t (Ok ts) = ap Ok (sym (append_assoc front (t ∷ []) ts))
with_front-put_first front t (Err m) = refl

module _ (broken : Bool) (p : Place) (cs : List ℕ) (q : Piece) (q_is : q ≡ piece_at broken cs)
    (some : 0 < length cs) (fits : Fits (length cs) q) where
  pub reads_gap : (n : ℕ) (tokens : List Token) → q ≡ piece.Gap n → ReadsPiece broken p cs tokens tokens n
  reads_gap n tokens is =
      let within : (0 < n) × (n ≤ length cs) = subst (Fits (length cs)) is fits in (
        within.0,
        within.1,
        ap (with_front tokens)
            (sym (tokens_from-gap broken p n cs some (sym is ∙ q_is) within.0 within.1)),
      )

  pub reads_token : (kind : TokenKind) (n : ℕ) (t : Token) (old new : List Token) → q ≡ piece.Token kind n →
      t ≡ token kind p (take n cs) → new ≡ old ++ t ∷ [] → ReadsPiece broken p cs old new n
  reads_token kind n t old new is t_is new_is =
      let within : (0 < n) × (n ≤ length cs) = subst (Fits (length cs)) is fits in
      let rest = tokens_from broken (place_after p (take n cs)) 0 (drop n cs) in (
        within.0,
        within.1,
        ap (λ (ts : List Token). with_front ts rest) new_is
            ∙ sym (with_front-put_first old t rest)
            ∙ ap (λ (u : Token). with_front old (put_first u rest)) t_is
            ∙ ap (with_front old) (sym (tokens_from-token broken p kind n cs some (sym is ∙ q_is) within.0 within.1)),
      )

  pub reads_wrong : (cause : Cause) (before n : ℕ) (e : LexError) (at : Place) → q ≡ piece.Wrong cause before n →
      at ≡ place_after p (take before cs) → Refuses e (Err (mistake cause at n)) →
      Refuses e (tokens_from broken p 0 cs)
  reads_wrong cause before n e at is at_is h =
      let same : Err (mistake cause at n) ≡ tokens_from broken p 0 cs =
      ap (λ (x : Place). Err (mistake cause x n)) at_is ∙
      sym (tokens_from-wrong broken p cause before n cs some (sym is ∙ q_is)) in
      subst (Refuses e) same h
