-- Symbols at the front of a slice.
use Rattle.std.proofs.Common.{◌≡◌, ℕ, ◌≤◌, List, [], ◌∷◌, length, None, ap, sym, refl, ◌∙◌, arith}
use Rattle.qtt_lexer.specs.Piece.{symbol_at, of_one, of_two}

pub symbol_at-empty : (cs : List ℕ) → length cs ≤ 0 → None ≡ symbol_at cs
unfolding symbol_at
symbol_at-empty [] h = refl
symbol_at-empty (c ∷ cs) h = absurd (omega (arith, h))

pub symbol_at-one : (cs behind : List ℕ) (c : ℕ) → cs ≡ c ∷ behind → length behind ≤ 0 → of_one c ≡ symbol_at cs
unfolding symbol_at
symbol_at-one cs [] c is h = sym (ap symbol_at is)
symbol_at-one cs (e ∷ rest) c is h = absurd (omega (arith, h))

pub symbol_at-two : (cs behind rest : List ℕ) (c e : ℕ) → cs ≡ c ∷ behind → behind ≡ e ∷ rest →
    of_two c e ≡ symbol_at cs
unfolding symbol_at
symbol_at-two cs behind rest c e is behind_is =
    sym (ap symbol_at (is ∙ ap (λ (ds : List ℕ). c ∷ ds) behind_is))
