-- The readers of the level below.
use Rattle.std.proofs.Common.{◌≡◌, ◌∙◌, ◌<◌, ◌-◌, ℕ, zero, suc, true, refl, ap, arith}
use Rattle.std.proofs.lemmas.Bool.Decides.{nat_tests}
use Rattle.std.specs.Prelude.{nat_lt}
use Rattle.qtt_grammar.specs.declared.class.Pass.{Pass}
use Rattle.qtt_grammar.specs.Readers.{LevelReader, binder_at, level_at, levels_at}
use Rattle.qtt_grammar.specs.View.{below, inside}

pub below_is : (pass : Pass) (n : ℕ) → 0 < n → below pass n ≡ levels_at pass (n - 1)
unfolding below
below_is pass zero h = absurd (omega arith)
below_is pass (suc n) h = let e : suc n - 1 ≡ n = omega arith in rw e refl

pub level_is : (pass : Pass) (n : ℕ) → levels_at pass n ≡ level_at pass (nat_lt 0 n) (below pass n)
unfolding below levels_at
level_is pass zero = refl
level_is pass (suc n) = let e : nat_lt 0 (suc n) ≡ true = grind (arith, nat_tests) in rw e refl

pub binder_is : (pass : Pass) (n : ℕ) → 0 < n → (below pass n).binder ≡ inside binder_at pass (n - 1)
binder_is pass n h = ap (λ (l : LevelReader). l.binder) (below_is pass n h) ∙ ap (λ (l : LevelReader). l.binder)
    (level_is pass (n - 1))

-- a level may open where one is left
pub opens : (n : ℕ) → 0 < n → nat_lt 0 n ≡ true
opens zero h = absurd (omega arith)
opens (suc n) h = grind (arith, nat_tests)
