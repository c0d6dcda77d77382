-- Weights of trees, by their parts.
use Rattle.std.proofs.Common.{◌≡◌, ◌∙◌, refl, ap, ℕ, zero, suc, ◌+◌, ◌-◌, ◌<◌, ◌≤◌, arith, Bool, true, false, ◌∷◌, Option, nat_eq, ◌&&◌}
use mathlib.Core.Path.{ap₂}
use Rattle.std.specs.Prelude.{min}
use Rattle.qtt_syntax.specs.declared.expr.Named.{Named}
use Rattle.qtt_syntax.specs.declared.expr.Target.{Target}
use Rattle.qtt_syntax.specs.declared.expr.Target.TheVariants as target
use Rattle.qtt_syntax.specs.Tree.{Tree}
use Rattle.qtt_implicit.specs.Moving.{replaced_name, stands_for_nothing}
use Rattle.qtt_implicit.specs.Matching.{Slots}
use Rattle.qtt_implicit.specs.Slots.{weight, both, weight_of, stands, beyond, slot_value}
use Rattle.qtt_implicit.specs.declared.filling.slots.Rest.{Rest}
use Rattle.qtt_implicit.specs.declared.filling.slots.Rest.TheVariants as rest
use Rattle.qtt_implicit.specs.declared.filling.weights.Weight.{Weight}
use Rattle.qtt_implicit.proofs.Moves.{bound_stays, free_stands, weight_shifted}

none_of_both : (u v : ℕ) → (nat_eq u 0 && nat_eq v 0) ≡ nat_eq (u + v) 0
none_of_both u v = by (nat_eq u 0) (nat_eq v 0) (nat_eq (u + v) 0) refl refl refl
  where
    by : (a b c : Bool) → nat_eq u 0 ≡ a → nat_eq v 0 ≡ b → nat_eq (u + v) 0 ≡ c → (a && b) ≡ c
    by true true true e f g = refl
    by true true false e f g = absurd (grind (arith, e, f, g))
    by true false true e f g = absurd (grind (arith, e, f, g))
    by true false false e f g = refl
    by false b true e f g = absurd (grind (arith, e, f, g))
    by false b false e f g = refl

counted : (n m : ℕ) → min (min n 1000001 + min m 1000001) 1000001 ≡ min (n + m) 1000001
counted n m = omega arith

pub both_weights : (n u m v : ℕ) → both (weight n u) (weight m v) ≡ weight (n + m) (u + v)
unfolding both weight
both_weights n u m v =
    ap₂ (λ (x : ℕ) (y : Bool). let w : Weight = record { nodes = x; known = y } in w) (counted n m) (none_of_both u v)

-- ---- names
pub bound_weight : (σ : ℕ → Named → Tree) (d i : ℕ) (n : Named) → n.target ≡ target.Local i → i < d →
    weight_of (replaced_name σ d n (target.Local i)) ≡ weight 1 0
bound_weight σ d i n e h =
    ap weight_of (bound_stays σ d i n h) ∙ ap (λ (t : Target). weight 1 (stands_for_nothing t)) e

pub free_weight : (σ : ℕ → Named → Tree) (d i : ℕ) (n : Named) → d ≤ i →
    weight_of (replaced_name σ d n (target.Local i)) ≡ weight_of (σ (i - d) n)
free_weight σ d i n h = ap weight_of (free_stands σ d i n h) ∙ weight_shifted d (σ (i - d) n)

pub first_stands : (r : Rest) (o : Option Tree) (σ : Slots) (i : ℕ) (n : Named) → i ≡ 0 →
    stands r (o ∷ σ) i n ≡ slot_value o
first_stands r o σ zero n h = refl
first_stands r o σ (suc i) n h = absurd (omega arith)

pub later_stands : (r : Rest) (o : Option Tree) (σ : Slots) (i j : ℕ) (n : Named) → i ≡ suc j →
    stands r (o ∷ σ) i n ≡ stands r σ j n
later_stands r o σ i j n h = ap (λ (k : ℕ). stands r (o ∷ σ) k n) h

pub beyond_unknown : (i : ℕ) (n : Named) → weight_of (beyond rest.Unknown i n) ≡ weight 1 1
beyond_unknown i n = refl

pub beyond_outer : (k i : ℕ) (n : Named) → weight_of (beyond (rest.Outer k) i n) ≡ weight 1 0
beyond_outer k i n = refl

-- ---- sums
pub sum_two : (n u m v : ℕ) {x y r : Weight} → x ≡ weight n u → y ≡ weight m v → r ≡ both x y →
    r ≡ weight (n + m) (u + v)
sum_two n u m v e f g = g ∙ ap₂ both e f ∙ both_weights n u m v
