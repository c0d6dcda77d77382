-- A hole's report: its goal, the names in sight, and what is left of each.
use Rattle.std.specs.Prelude.{ℕ, Bool, true, false, ◌&&◌, not, cond, eqb, List, [], ◌∷◌, codes, bytes_eq, reverse, Option, Some, None}
use Rattle.qtt_base.specs.declared.place.Span.{Span}
use Rattle.qtt_usage.specs.declared.mult.Mult.{Mult}
use Rattle.qtt_usage.specs.Mult.{𝟘, 𝟙, ω}
use Rattle.qtt_usage.specs.Usage.{usage_at}
use Rattle.qtt_term.specs.Term.{Term, var}
use Rattle.qtt_term.specs.Judgement.{Ctx, Part}

-- a name in sight: what it stands for, and what the hole's text may use of it, where it stands for a variable
pub record Seen : Type 0 where
  pub name : List ℕ
  pub type : Term
  pub stands : Term
  pub left : Option Mult

-- the goal, and the terms of the names, stand under this number of variables
pub record Hole : Type 0 where
  pub name : List ℕ
  pub span : Span
  pub goal : Term
  pub depth : ℕ
  pub seen : List Seen

-- ---- what is left of a variable that is declared so and was used so before the hole; in the erased part nothing is
abbrev pub left_of : Part → (declared used : Mult) → Mult
left_of Part.erased q u = 𝟘
left_of Part.run 𝟘 u = 𝟘
left_of Part.run ω u = ω
left_of Part.run 𝟙 𝟘 = 𝟙
left_of Part.run 𝟙 u = 𝟘

-- a variable declared 1 fits where it was used at most once before the hole
abbrev pub fits_before : (used declared : Mult) → Bool
fits_before ω 𝟙 = false
fits_before u q = true

-- of the variables of a context, the newest first
abbrev pub all_left : Part → Ctx → List Mult → List Mult
all_left p [] us = []
all_left p (x ∷ Γ) [] = left_of p x.0 𝟘 ∷ all_left p Γ []
all_left p (x ∷ Γ) (u ∷ us) = left_of p x.0 u ∷ all_left p Γ us

-- ---- names in sight, outermost first; those without a name and those that no text can write, which begin with `'`,
-- are not told
abbrev pub is_written : List ℕ → Bool
is_written [] = false
is_written (c ∷ cs) = not (bytes_eq (c ∷ cs) (codes "_")) && not (eqb c 39)

abbrev pub left_at : List Mult → Term → Option Mult
left_at us (var i) = Some (usage_at us i)
left_at us _ = None

-- the names, the innermost first, and what they stand for
abbrev pub sight : List Mult → List (List ℕ) → List (Term × Term) → List Seen
sight us (n ∷ ns) (x ∷ xs) = cond (is_written n) (record { name = n; type = x.1; stands = x.0; left = left_at us x.0 } ∷
    sight us ns xs) (sight us ns xs)
sight us _ _ = []

abbrev pub in_sight : List Mult → List (List ℕ) → List (Term × Term) → List Seen
in_sight us ns xs = reverse (sight us ns xs)
