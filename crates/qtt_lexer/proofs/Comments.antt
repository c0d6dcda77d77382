-- Comments, read step by step.
use Rattle.std.proofs.Common.{◌≡◌, ℕ, suc, ◌+◌, ◌-◌, ◌≤◌, true, false, List, [], ◌∷◌, length, None, option_map, refl, sym, ap, ◌∙◌, arith}
use Rattle.qtt_lexer.specs.Piece.{comment_tail, closing, opens, closes}

module _ (cs behind rest : List ℕ) (c e : ℕ) (is : cs ≡ c ∷ behind) (behind_is : behind ≡ e ∷ rest) where
  both : cs ≡ c ∷ e ∷ rest
  both = is ∙ ap (λ (ds : List ℕ). c ∷ ds) behind_is

  pub two_more : length cs ≡ length rest + 2
  two_more = omega (arith, ap length both)

  pub one_more : length cs ≡ length behind + 1
  one_more = omega (arith, ap length is)

  pub comment-opens : true ≡ opens c e →
      (d : ℕ) → comment_tail d cs ≡ option_map (λ n. n + 2) (comment_tail (suc d) rest)
  unfolding comment_tail
  comment-opens h d = ap (comment_tail d) both ∙ rw (← h) refl

  pub comment-closes : false ≡ opens c e → true ≡ closes c e →
      (d : ℕ) → comment_tail d cs ≡ closing d (comment_tail (d - 1) rest)
  unfolding comment_tail
  comment-closes h k d = ap (comment_tail d) both ∙ rw (← h, ← k) refl

  pub comment-skips : false ≡ opens c e → false ≡ closes c e →
      (d : ℕ) → comment_tail d cs ≡ option_map (λ n. n + 1) (comment_tail d behind)
  unfolding comment_tail
  comment-skips h k d =
      ap (comment_tail d) both ∙ rw (← h, ← k) refl ∙
      ap (λ (ds : List ℕ). option_map (λ n. n + 1) (comment_tail d ds)) (sym behind_is)

pub comment-empty : (cs : List ℕ) → length cs ≤ 0 → (d : ℕ) → comment_tail d cs ≡ None
unfolding comment_tail
comment-empty [] h d = refl
comment-empty (c ∷ cs) h d = absurd (omega (arith, h))

pub comment-lone : (cs behind : List ℕ) (c : ℕ) → cs ≡ c ∷ behind → length behind ≤ 0 →
    (d : ℕ) → comment_tail d cs ≡ None
unfolding comment_tail
comment-lone cs [] c is h d = ap (comment_tail d) is
comment-lone cs (e ∷ rest) c is h d = absurd (omega (arith, h))
