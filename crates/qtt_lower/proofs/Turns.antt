-- The definitions of an environment in turn: their sizes, first blocks and blocks are those of its program.
use Rattle.std.proofs.Common.{◌≡◌, ℕ, ◌+◌, ◌<◌, ◌≤◌, List, [], ◌∷◌, ◌++◌, true, not, cond, eqb, nat_lt, ◌⊎◌, inl, inr, length, map, Option, Some, None, refl, sym, ◌∙◌, ap, arith}
use mathlib.Core.Path.{ap₂}
use Rattle.std.specs.List.{list_all, sum_by}
use Rattle.std.proofs.lemmas.Bool.Decides.{nat_tests}
use Rattle.std.proofs.lemmas.List.Sums.{sum_by-cons}
use Rattle.qtt_base.specs.declared.place.GlobalId.{GlobalId}
use Rattle.qtt_base.specs.Limits.{standard}
use Rattle.qtt_term.specs.Term.{same_id}
use Rattle.qtt_term.specs.Keyed.{ids_differ}
use Rattle.qtt_term.specs.Signature.{Env}
use Rattle.qtt_term.proofs.Order.{found_first, found_behind, not_true}
use Rattle.std.proofs.lemmas.Bool.{ne_eqb, and_parts}
use Rattle.qtt_erase.specs.Lean.{Lean}
use Rattle.qtt_erase.specs.Erasure.{erased_bodies}
use Rattle.qtt_base.specs.declared.limits.Quantity.TheVariants.{Blocks, Instructions}
use Rattle.qtt_lower.specs.declared.program.LowerError.TheVariants.{Limit}
use Rattle.qtt_closure.specs.Conversion.{conversion}
use Rattle.qtt_lower.specs.Programs.{Base, base_id, with_body, bodies, bases_from, bases, program, entry, block_of, numbers_end, lowered, program_from}
use Rattle.qtt_lower.specs.Sizes.{block_count, instruction_count, capped, blocks_of}
use Rattle.qtt_lower.specs.Compiled.{excess, excess_of, sized, total_blocks, total_instructions, firsts_from, blocks_in_turn}
use Rattle.qtt_lower.specs.View.{base_list}
use Rattle.qtt_lower.proofs.Counts.{body_blocks, body_instructions, numbers-taken, program-blocks, program-instructions}

-- ---- sums with and without caps
abbrev counts : (GlobalId → ℕ) → List GlobalId → ℕ
counts f [] = 0
counts f (d ∷ ds) = f d + counts f ds

abbrev capped_counts : ℕ → (GlobalId → ℕ) → List GlobalId → ℕ
capped_counts limit f [] = 0
capped_counts limit f (d ∷ ds) = capped limit (f d) + capped_counts limit f ds

-- both within the limit, and then the same, or both above it
abbrev IsCapped : ℕ → ℕ → ℕ → Type 0
IsCapped limit exact caps = ((exact ≤ limit) × (caps ≡ exact)) ⊎ ((limit < exact) × (limit < caps))

cases : (limit n : ℕ) → (n ≤ limit) ⊎ (limit < n)
cases limit n = grind arith

one-more : (limit a b c : ℕ) → IsCapped limit b c → IsCapped limit (a + b) (capped limit a + c)
one-more limit a b c (inr h) = inr (omega arith, omega arith)
one-more limit a b c (inl h) =
    elim (cases limit (a + b)) [ inl p ↦ inl (p, omega arith) | inr p ↦ inr (p, omega arith) ]

capped-sum : (limit : ℕ) (f : GlobalId → ℕ) (ds : List GlobalId) →
    IsCapped limit (counts f ds) (capped_counts limit f ds)
capped-sum limit f [] = inl (omega arith, refl)
capped-sum limit f (d ∷ ds) = one-more limit (f d) (counts f ds) (capped_counts limit f ds) (capped-sum limit f ds)

above : (limit n : ℕ) → limit < n → nat_lt limit n ≡ true
above limit n p = grind (arith, nat_tests)

same-test : (limit exact caps : ℕ) → IsCapped limit exact caps → nat_lt limit caps ≡ nat_lt limit exact
same-test limit exact caps (inl h) = ap (nat_lt limit) h.1
same-test limit exact caps (inr h) = above limit caps h.1 ∙ sym (above limit exact h.0)

small : (limit a rest : ℕ) → capped limit a + rest ≤ limit → capped limit a ≡ a
small limit a rest h = omega arith

module _ (E : Env) where
  sized-blocks : (ds : List GlobalId) →
      total_blocks (map (sized E) ds) ≡ capped_counts standard.blocks (λ d. block_count (erased_bodies E d)) ds
  sized-blocks [] = refl
  sized-blocks (d ∷ ds) = ap (λ n. capped standard.blocks (block_count (erased_bodies E d)) + n) (sized-blocks ds)

  sized-instructions : (ds : List GlobalId) →
      total_instructions (map (sized E) ds) ≡ capped_counts standard.instructions
      (λ d. instruction_count (erased_bodies E d)) ds
  sized-instructions [] = refl
  sized-instructions (d ∷ ds) =
      ap (λ n. capped standard.instructions (instruction_count (erased_bodies E d)) + n) (sized-instructions ds)

  body-blocks : (ds : List GlobalId) →
      sum_by body_blocks (bodies E ds) ≡ counts (λ d. block_count (erased_bodies E d)) ds
  body-blocks [] = refl
  body-blocks (d ∷ ds) = by_body (erased_bodies E d) ∙ ap (λ n. block_count (erased_bodies E d) + n) (body-blocks ds)
    where
      by_body : (o : Option Lean) →
          sum_by body_blocks (with_body d o (bodies E ds)) ≡ block_count o + sum_by body_blocks (bodies E ds)
      by_body None = omega arith
      by_body (Some t) = sum_by-cons body_blocks (record { id = d; term = t }) (bodies E ds)

  body-instructions : (ds : List GlobalId) →
      sum_by body_instructions (bodies E ds) ≡ counts (λ d. instruction_count (erased_bodies E d)) ds
  body-instructions [] = refl
  body-instructions (d ∷ ds) =
      by_body (erased_bodies E d) ∙ ap (λ n. instruction_count (erased_bodies E d) + n) (body-instructions ds)
    where
      by_body : (o : Option Lean) →
          sum_by body_instructions (with_body d o (bodies E ds)) ≡ instruction_count o + sum_by body_instructions
          (bodies E ds)
      by_body None = omega arith
      by_body (Some t) = sum_by-cons body_instructions (record { id = d; term = t }) (bodies E ds)

  -- the capped sizes pass the limits that the program passes
  same_excess : (ds : List GlobalId) →
      excess (total_blocks (map (sized E) ds)) (total_instructions (map (sized E) ds)) ≡ excess
      (sum_by body_blocks (bodies E ds)) (sum_by body_instructions (bodies E ds))
  same_excess ds =
      let p = ap (nat_lt standard.blocks) (sized-blocks ds) ∙ same-test standard.blocks _ _
      (capped-sum standard.blocks (λ d. block_count (erased_bodies E d)) ds)
      ∙ ap (nat_lt standard.blocks) (sym (body-blocks ds)) in
      let q = ap (nat_lt standard.instructions) (sized-instructions ds) ∙ same-test standard.instructions _ _
      (capped-sum standard.instructions (λ d. instruction_count (erased_bodies E d)) ds)
      ∙ ap (nat_lt standard.instructions) (sym (body-instructions ds)) in
      ap₂ (λ x y. cond x (Some (Limit Blocks (standard.blocks + 1)))
      (cond y (Some (Limit Instructions (standard.instructions + 1))) None)) p q

  -- ---- first blocks
  pub same_firsts : (ds : List GlobalId) (n : ℕ) → total_blocks (map (sized E) ds) ≤ standard.blocks →
      base_list (firsts_from n (map (sized E) ds)) ≡ bases_from n (bodies E ds)
  same_firsts [] n h = refl
  same_firsts (d ∷ ds) n h = by_body (λ m. same_firsts ds m (omega arith)) (erased_bodies E d) refl
    where
      put : ℕ → List (GlobalId × ℕ)
      put s = cond (eqb s 0) (firsts_from n (map (sized E) ds)) ((d, n) ∷ firsts_from (n + s) (map (sized E) ds))

      by_body : ((m : ℕ) → base_list (firsts_from m (map (sized E) ds)) ≡ bases_from m (bodies E ds)) →
          (o : Option Lean) → erased_bodies E d ≡ o →
          base_list (put (capped standard.blocks (block_count (erased_bodies E d)))) ≡ bases_from n
          (with_body d o (bodies E ds))
      by_body later None e = ap (λ o. base_list (put (capped standard.blocks (block_count o)))) e ∙ later n
      by_body later (Some t) e =
          let few : capped standard.blocks (block_count (erased_bodies E d)) ≡ length (conversion 0 t) =
          small standard.blocks (block_count (erased_bodies E d)) (total_blocks (map (sized E) ds)) h ∙
          ap block_count e in
          ap (λ s. base_list (put s)) few
          ∙ ap (λ b. base_list (cond b (firsts_from n (map (sized E) ds))
          ((d, n) ∷ firsts_from (n + length (conversion 0 t)) (map (sized E) ds))))
          (ne_eqb (length (conversion 0 t)) 0 (λ z. omega arith))
          ∙ ap (λ bs. record { id = d; block = n } ∷ bs)
          (later (n + length (conversion 0 t)) ∙ ap (λ m. bases_from m (bodies E ds)) (sym (numbers-taken n t)))

-- ---- blocks
-- numbers that agree at these definitions
abbrev Agree : (GlobalId → ℕ) → (GlobalId → ℕ) → List GlobalId → Type 0
Agree f g [] = Unit {0}
Agree f g (d ∷ ds) = (f d ≡ g d) × Agree f g ds

agree-itself : (f : GlobalId → ℕ) (ds : List GlobalId) → Agree f f ds
agree-itself f [] = tt
agree-itself f (d ∷ ds) = (refl, agree-itself f ds)

-- at definitions that the first base is not of
agree-behind : (f : GlobalId → ℕ) (b : Base) (bs : List Base) (ds : List GlobalId) →
    list_all (λ d. not (same_id b.id d)) ds ≡ true →
    Agree f (entry (b ∷ bs)) ds → Agree f (entry bs) ds
agree-behind f b bs [] u a = tt
agree-behind f b bs (d ∷ ds) u a =
    let p = and_parts (not (same_id b.id d)) (list_all (λ d. not (same_id b.id d)) ds) u in
    (a.0 ∙ ap block_of (found_behind base_id d b bs (not_true (same_id b.id d) p.0)), agree-behind f b bs ds p.1 a.1)

in-turn : (E : Env) (bs : List Base) (ds : List GlobalId) (n : ℕ) → ids_differ ds ≡ true →
    Agree (entry bs) (entry (bases_from n (bodies E ds))) ds →
    blocks_in_turn E bs ds ≡ program_from (entry bs) n (bodies E ds)
in-turn E bs [] n u a = refl
in-turn E bs (d ∷ ds) n u a =
    let p = and_parts (list_all (λ c. not (same_id d c)) ds) (ids_differ ds) u in
    by_body p.0 (λ m b. in-turn E bs ds m p.1 b) (erased_bodies E d) a
  where
    by_body : list_all (λ c. not (same_id d c)) ds ≡ true →
        ((m : ℕ) → Agree (entry bs) (entry (bases_from m (bodies E ds))) ds →
        blocks_in_turn E bs ds ≡ program_from (entry bs) m (bodies E ds)) →
        (o : Option Lean) → Agree (entry bs) (entry (bases_from n (with_body d o (bodies E ds)))) (d ∷ ds) →
        blocks_of bs d o ++ blocks_in_turn E bs ds ≡ program_from (entry bs) n (with_body d o (bodies E ds))
    by_body v later None a = later n a.1
    by_body v later (Some t) a =
        let first : Base = record { id = d; block = n } in
        let behind : List Base = bases_from (numbers_end n t) (bodies E ds) in
        ap₂ (λ k is. lowered (entry bs) k (record { id = d; term = t }) ++ is)
        (a.0 ∙ ap block_of (found_first base_id d first behind refl))
        (later (numbers_end n t) (agree-behind (entry bs) first behind ds v a.1))

-- the blocks of the definitions in turn are the program
pub blocks_are_program : (E : Env) (ds : List GlobalId) → ids_differ ds ≡ true →
    blocks_in_turn E (bases (bodies E ds)) ds ≡ program (bodies E ds)
blocks_are_program E ds u = in-turn E (bases (bodies E ds)) ds 0 u (agree-itself (entry (bases (bodies E ds))) ds)

-- ---- the program's own counts
pub program_excess : (E : Env) (ds : List GlobalId) →
    excess (total_blocks (map (sized E) ds)) (total_instructions (map (sized E) ds)) ≡ excess_of
    (program (bodies E ds))
program_excess E ds =
    same_excess E ds
    ∙ ap₂ excess (sym (program-blocks (entry (bases (bodies E ds))) 0 (bodies E ds)))
    (sym (program-instructions (entry (bases (bodies E ds))) 0 (bodies E ds)))
