-- Variables of a clause that are met one by one.
use Rattle.std.proofs.Common.{◌≡◌, ◌∙◌, ap, sym, refl, ℕ, zero, suc, ◌+◌, ◌-◌, arith, ◌∷◌, ◌++◌, length}
use Rattle.std.specs.Prelude.{replicate, slice_set}
use Rattle.std.proofs.lemmas.List.{length-append, length-replicate}
use Rattle.qtt_syntax.specs.Tree.{Tree}
use Rattle.qtt_implicit.specs.Moving.{unknown}
use Rattle.qtt_implicit.specs.Walk.{Types}
use Rattle.qtt_implicit.specs.Patterns.{Met, meet, number_in}

abbrev pub among : ℕ → Types → Met
among u Γ = record { count = length Γ; types = replicate u unknown ++ Γ }

abbrev met : ℕ → Types → Met
met n l = record { count = n; types = l }

pub next_number : (u : ℕ) (Γ : Types) → u - 1 ≡ number_in (among u Γ)
next_number u Γ =
    let size = length-append (replicate u unknown) Γ in
    let front = length-replicate u unknown in
    omega (arith, size, front)

set_next : (u : ℕ) (Γ : Types) (T : Tree) →
    slice_set (replicate (suc u) unknown ++ Γ) u T ≡ replicate u unknown ++ T ∷ Γ
set_next zero Γ T = refl
set_next (suc u) Γ T = ap (λ (l : Types). unknown ∷ l) (set_next u Γ T)

pub one_met : (u v : ℕ) (Γ : Types) (T : Tree) → v ≡ suc u → among u (T ∷ Γ) ≡ meet T (among v Γ)
one_met u v Γ T e =
    ap (λ (l : Types). met (suc (length Γ)) l)
    (sym (set_next u Γ T) ∙ ap (λ (i : ℕ). slice_set (replicate (suc u) unknown ++ Γ) i T) (sym index))
    ∙ ap (λ (w : ℕ). meet T (among w Γ)) (sym e)
  where
    index : length (replicate (suc u) unknown ++ Γ) - suc (length Γ) ≡ u
    index =
        let size = length-append (replicate (suc u) unknown) Γ in
        let front = length-replicate (suc u) unknown in
        omega (arith, size, front)
