-- Several blocks that close at one place.
use Rattle.std.proofs.Common.{◌≡◌, ℕ, suc, ◌+◌, ◌-◌, ◌<◌, ◌≤◌, List, [], ◌∷◌, ◌++◌, replicate, sym, ap, ◌∙◌, arith}
use Rattle.qtt_layout.specs.Written.{written, Adds}
use Rattle.qtt_layout.specs.declared.laid.Laid.{Laid}
use Rattle.qtt_layout.specs.declared.marks.Marks.{Marks}

module _ (old mid new : Marks) (m : Laid) (n i : ℕ) where
  pub closes_more : ((rest : List Laid) →
      written mid (replicate (n - i) m ++ rest) ≡ written old (replicate n m ++ rest)) → Adds mid new (m ∷ []) →
      i < n → (rest : List Laid) →
      written new (replicate (n - (i + 1)) m ++ rest) ≡ written old (replicate n m ++ rest)
  closes_more so_far adds lt rest =
      let next : n - i ≡ suc (n - (i + 1)) = omega (arith, lt) in
      adds (replicate (n - (i + 1)) m ++ rest)
      ∙ ap (λ (k : ℕ). written mid (replicate k m ++ rest)) (sym next)
      ∙ so_far rest

  pub closes_all : ((rest : List Laid) →
      written mid (replicate (n - i) m ++ rest) ≡ written old (replicate n m ++ rest)) → n ≤ i →
      Adds old mid (replicate n m)
  closes_all so_far le rest =
      let none : n - i ≡ 0 = omega (arith, le) in
      sym (ap (λ (k : ℕ). written mid (replicate k m ++ rest)) none) ∙ so_far rest
