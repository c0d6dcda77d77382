-- Terms that are the same but for the parameters of constructors have one erasure.
use Rattle.std.specs.Prelude.{◌≡◌, ℕ}
use Rattle.qtt_term.specs.Term.{Term}
use Rattle.qtt_term.specs.Substitution.{sub}
use Rattle.qtt_term.specs.Signature.{Env}
use Rattle.qtt_erase.specs.Erasure.{Slots, erase}
use Rattle.qtt_split.specs.Laws.{Alike}

-- of a right side b over the variables of its clause: τ gives the columns' terms, π the values of a leaf's variables
pub record ErasesAlike (E : Env) (Γ : Slots) : Type 0 where
  pub terms : (t s : Term) → Alike t s → erase E Γ t ≡ erase E Γ s
  pub sides : (b : Term) (π τ parts : ℕ → Term) → ((i : ℕ) → Alike (sub π (τ i)) (parts i)) →
      erase E Γ (sub π (sub τ b)) ≡ erase E Γ (sub parts b)
