-- What the parts of the code's terms become, in the words of the code's lists.
use Rattle.std.specs.Prelude.{ℕ, List, [], ◌∷◌}
use Rattle.qtt_usage.specs.declared.mult.Mult.{Mult}
use Rattle.qtt_usage.specs.Mult.{𝟘, 𝟙, ω}
use Rattle.qtt_term.specs.Term.{Term}
use Rattle.qtt_term.specs.Signature.{Constructor, Env}
use Rattle.qtt_term.specs.Value.{mults}
use Rattle.qtt_erase.specs.Lean.{Lean}
use Rattle.qtt_erase.specs.Erasure.{Slots, extend, field_slots, places, erase}

-- those of the terms that are not at 0, or past the end of the multiplicities, erased
abbrev pub erased_at : Env → Slots → List Mult → List Term → List Lean
erased_at E Γ [] ts = []
erased_at E Γ (m ∷ ms) [] = []
erased_at E Γ (𝟘 ∷ ms) (t ∷ ts) = erased_at E Γ ms ts
erased_at E Γ (𝟙 ∷ ms) (t ∷ ts) = erase E Γ t ∷ erased_at E Γ ms ts
erased_at E Γ (ω ∷ ms) (t ∷ ts) = erase E Γ t ∷ erased_at E Γ ms ts

-- a branch under so many fields of these multiplicities, of a Case at q
abbrev pub erased_branch : Env → Slots → Mult → List Mult → ℕ × Term → ℕ × Lean
erased_branch E Γ q ms b = (places (field_slots q ms b.0), erase E (extend Γ (field_slots q ms b.0)) b.1)

-- branches of these constructors
abbrev pub erased_branches : Env → Slots → Mult → List Constructor → List (ℕ × Term) → List (ℕ × Lean)
erased_branches E Γ q cs [] = []
erased_branches E Γ q [] (b ∷ bs) = erased_branch E Γ q [] b ∷ erased_branches E Γ q [] bs
erased_branches E Γ q (c ∷ cs) (b ∷ bs) = erased_branch E Γ q (mults c.fields) b ∷ erased_branches E Γ q cs bs
