-- Worked examples of first matches.
use Rattle.std.specs.Prelude.{◌≡◌, ℕ, Bool, true, false, [], ◌∷◌, codes, Option, Some, None}
use Rattle.qtt_syntax.specs.declared.expr.Target.TheVariants.{Unknown, Local, Global}
use Rattle.qtt_term.specs.Term.{ε, ◌▸◌, Term}
use Rattle.qtt_term.specs.Signature.{truth, Refl}
use Rattle.qtt_term.specs.Programs.{item, nat, z, s}
use Rattle.qtt_match.specs.Match.{first_match, fits, parts}
use Rattle.qtt_match.specs.Programs.{known, small, any, dotted, big, true_pattern, zero_pattern, suc_pattern, overlapping, same_numbers, nested}

abbrev pub overlaps : Bool → Bool → Option ℕ
overlaps a b = first_match known overlapping (truth a ▸ truth b ▸ ε)

abbrev pub halved : Term → Option ℕ
halved n = first_match known nested (n ▸ ε)

pub record MatchRows : Type 0 where
  -- the first clause wins where all fit, and each later one where those before it do not
  pub first_of_three : overlaps true true ≡ Some 0
  pub first_alone : overlaps true false ≡ Some 0
  pub second_of_three : overlaps false true ≡ Some 1
  pub third_of_three : overlaps false false ≡ Some 2
  -- f x = ..; f True = .., and in the other order
  pub small_first : first_match known ((small (codes "x") ∷ []) ∷ (true_pattern ∷ []) ∷ []) (truth true ▸ ε) ≡ Some 0
  pub big_first : first_match known ((true_pattern ∷ []) ∷ (small (codes "x") ∷ []) ∷ []) (truth true ▸ ε) ≡ Some 0
  pub small_last : first_match known ((true_pattern ∷ []) ∷ (small (codes "x") ∷ []) ∷ []) (truth false ▸ ε) ≡ Some 1
  -- below constructors
  pub two : halved (s (s z)) ≡ Some 0
  pub one : halved (s z) ≡ Some 1
  pub none_fits : halved z ≡ None
  pub no_clause : first_match known [] (z ▸ ε) ≡ None
  -- a dot pattern is passed over
  pub dot_passed : first_match known same_numbers (s z ▸ s z ▸ Refl nat (s z) ▸ ε) ≡ Some 0
  pub dot_not_compared : fits known dotted (s z) ≡ true
  pub wildcard : fits known any (s z) ≡ true
  -- the second constructor of Bool is not the second of Nat
  pub other_family : fits known true_pattern (s z) ≡ false
  pub other_place : fits known true_pattern (truth false) ≡ false
  -- S without a pattern, and with two
  pub too_few_patterns : fits known (big (Global (item 2)) []) (s z) ≡ false
  pub too_many_patterns : fits known (big (Global (item 2)) (any ∷ any ∷ [])) (s z) ≡ false
  -- names that stand for no constructor
  pub unknown_name : fits known (big Unknown []) z ≡ false
  pub local_name : fits known (big (Local 0) []) z ≡ false
  pub family_name : fits known (big (Global (item 0)) []) z ≡ false
  -- a term that is no constructor
  pub no_constructor : fits known zero_pattern nat ≡ false
  pub part_of_suc : parts (suc_pattern (small (codes "n"))) (s (s z)) ≡ s z ▸ ε
