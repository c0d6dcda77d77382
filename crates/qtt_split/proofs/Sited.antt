-- How many fields a constructor has at a split's parameters.
use Rattle.std.proofs.Common.{◌≡◌, ℕ, suc, [], ◌∷◌, length, refl, ap}
use Rattle.qtt_usage.specs.declared.mult.Mult.{Mult}
use Rattle.qtt_term.specs.Judgement.{scale, sub_binds}
use Rattle.qtt_term.specs.Signature.{Tele}
use Rattle.qtt_term.specs.Substitution.{lift}
use Rattle.qtt_term.specs.Term.{Term}

pub length-binds : (σ : ℕ → Term) (q : Mult) (Θ : Tele) → length (sub_binds σ (scale q Θ)) ≡ length Θ
length-binds σ q [] = refl
length-binds σ q (b ∷ Θ) = ap suc (length-binds (lift σ) q Θ)
