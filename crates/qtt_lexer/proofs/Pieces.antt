-- Pieces at the front of characters, and their lengths.
use Rattle.std.proofs.Common.{◌≡◌, ℕ, ◌<◌, ◌≤◌, Bool, List, [], ◌∷◌, length, Result, Ok, Err, IfOk, refl, sym, ap, subst, ◌∙◌, arith}
use Rattle.qtt_base.specs.declared.errors.MemoryError.{MemoryError}
use Rattle.qtt_lexer.specs.Piece.{piece_at, by_front, front_of}
use Rattle.qtt_lexer.specs.Fitting.{Fits}
use Rattle.qtt_lexer.proofs.Fittings.{piece_at-fits}
use Rattle.qtt_lexer.specs.declared.front.Front.{Front}
use Rattle.qtt_lexer.specs.declared.piece.Piece.{Piece}
use Rattle.qtt_lexer.specs.declared.piece.Piece.TheVariants.{Gap}

pub piece_at-empty : (broken : Bool) (cs : List ℕ) → length cs ≤ 0 → Gap 0 ≡ piece_at broken cs
unfolding piece_at
piece_at-empty broken [] h = refl
piece_at-empty broken (c ∷ cs) h = absurd (omega (arith, h))

pub piece_at-front : (broken : Bool) (cs behind : List ℕ) (c : ℕ) (f : Front) (r : Result Piece MemoryError) →
    cs ≡ c ∷ behind → f ≡ front_of c behind → IfOk r (λ piece. piece ≡ by_front broken c behind f) →
    IfOk r (λ piece. piece ≡ piece_at broken cs)
unfolding piece_at
piece_at-front broken cs behind c f r is front_is h =
    let same : by_front broken c behind f ≡ piece_at broken cs =
    ap (by_front broken c behind) front_is ∙ sym (ap (piece_at broken) is) in
    subst (λ (q : Piece). IfOk r (λ piece. piece ≡ q)) same h

pub fits_from : (broken : Bool) (cs : List ℕ) (r : Result Piece MemoryError) →
    IfOk r (λ piece. piece ≡ piece_at broken cs) → 0 < length cs → IfOk r (Fits (length cs))
fits_from broken cs (Ok piece) h some = subst (Fits (length cs)) (sym h) (piece_at-fits broken cs some)
fits_from broken cs (Err e) h some = tt
