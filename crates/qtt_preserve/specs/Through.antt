-- The use of a term once its variables are replaced by terms: M gives the use of the term for each variable.
use Rattle.std.specs.Prelude.{ℕ, suc, [], ◌∷◌}
use Rattle.qtt_usage.specs.declared.mult.Mult.{Mult}
use Rattle.qtt_usage.specs.Mult.{𝟘, ◌⊕◌, ◌⊙◌}
use Rattle.qtt_usage.specs.Uses.{Key, Use}
use Rattle.qtt_term.specs.Judgement.{Ctx}

-- the sum of products, over the variables of a context
abbrev pub dot : Ctx → (ℕ → Mult) → (ℕ → Mult) → Mult
dot [] a b = 𝟘
dot (c ∷ Γ) a b = a 0 ⊙ b 0 ⊕ dot Γ (λ i. a (suc i)) (λ i. b (suc i))

abbrev pub tapes_of : Use → Use
tapes_of u (Key.v i) = 𝟘
tapes_of u (Key.h i) = u (Key.h i)

-- a use u of context Γ, carried by M: its tapes, and for each variable i the use M i as often as i is used
abbrev pub through : Ctx → (ℕ → Use) → Use → Use
through Γ M u x = tapes_of u x ⊕ dot Γ (λ i. u (Key.v i)) (λ i. M i x)
