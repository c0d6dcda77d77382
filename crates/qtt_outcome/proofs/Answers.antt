-- Answers of a call's stages, one behind the other.
use Rattle.std.proofs.Common.{◌≡◌, ◌⊎◌, inl, inr, Ok, Err, refl, ap}
use Rattle.qtt_outcome.specs.Stop.{Stop, Answer, ◌>>=◌}

-- a value, and then another
pub record Both {A B : Type 0} (m : Answer A) (k : A → Answer B) (b : B) : Type 0 where
  pub value : A
  pub first : m ≡ Ok value
  pub later : k value ≡ Ok b

pub record Later {A B : Type 0} (m : Answer A) (k : A → Answer B) (s : Stop) : Type 0 where
  pub value : A
  pub first : m ≡ Ok value
  pub later : k value ≡ Err s

pub both : {A B : Type 0} (m : Answer A) (k : A → Answer B) (b : B) → m >>= k ≡ Ok b → Both m k b
unfolding ◌>>=◌
both (Ok a) k b h = record { value = a; first = refl; later = h }
both (Err s) k b h = absurd (cc h)

pub either : {A B : Type 0} (m : Answer A) (k : A → Answer B) (s : Stop) → m >>= k ≡ Err s →
    (m ≡ Err s) ⊎ Later m k s
unfolding ◌>>=◌
either (Ok a) k s h = inr (record { value = a; first = refl; later = h })
either (Err t) k s h = let e : t ≡ s = cc h in inl (ap (λ (s : Stop). Err s) e)
