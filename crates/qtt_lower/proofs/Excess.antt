-- When a limit is passed.
use Rattle.std.proofs.Common.{◌≡◌, ℕ, ◌+◌, ◌<◌, ◌≤◌, Bool, true, false, cond, nat_lt, Some, None, refl, ◌∙◌, ap, arith}
use Rattle.std.proofs.lemmas.Grind.{common_steps}
use Rattle.std.proofs.lemmas.Bool.Decides.{nat_tests}
use Rattle.qtt_base.specs.declared.limits.Quantity.TheVariants.{Blocks, Instructions}
use Rattle.qtt_base.specs.Limits.{standard}
use Rattle.qtt_lower.specs.declared.program.LowerError.TheVariants.{Limit}
use Rattle.qtt_lower.specs.Compiled.{excess}

excess_by : (b i : ℕ) (x y : Bool) → nat_lt standard.blocks b ≡ x → nat_lt standard.instructions i ≡ y →
    excess b i ≡ cond x (Some (Limit Blocks (standard.blocks + 1)))
    (cond y (Some (Limit Instructions (standard.instructions + 1))) None)
excess_by b i x y p q =
    ap (λ z. cond z (Some (Limit Blocks (standard.blocks + 1)))
    (cond (nat_lt standard.instructions i) (Some (Limit Instructions (standard.instructions + 1))) None)) p
    ∙ ap (λ z. cond x (Some (Limit Blocks (standard.blocks + 1)))
    (cond z (Some (Limit Instructions (standard.instructions + 1))) None)) q

pub excess_blocks : (b i : ℕ) → standard.blocks < b → excess b i ≡ Some (Limit Blocks (standard.blocks + 1))
excess_blocks b i h = let p : nat_lt standard.blocks b ≡ true = grind (arith, nat_tests) in excess_by b i true _ p refl

pub excess_instructions : (b i : ℕ) → b ≤ standard.blocks → standard.instructions < i →
    excess b i ≡ Some (Limit Instructions (standard.instructions + 1))
excess_instructions b i h k =
    let p : nat_lt standard.blocks b ≡ false = grind (arith, nat_tests) in
    let q : nat_lt standard.instructions i ≡ true = grind (arith, nat_tests) in
    excess_by b i false true p q

pub no_excess : (b i : ℕ) → b ≤ standard.blocks → i ≤ standard.instructions → excess b i ≡ None
no_excess b i h k =
    let p : nat_lt standard.blocks b ≡ false = grind (arith, nat_tests) in
    let q : nat_lt standard.instructions i ≡ false = grind (arith, nat_tests) in
    excess_by b i false false p q

-- what the functions over sizes want
pub ruleset excesses = (common_steps, excess_blocks, excess_instructions, no_excess)
