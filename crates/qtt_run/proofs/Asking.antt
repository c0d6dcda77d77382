-- Actions that are not stuck have the parts that they want.
use Rattle.std.proofs.Common.{◌≡◌, ℕ, List, [], ◌∷◌, refl}
use Rattle.qtt_prims.specs.declared.lit.Lit.TheVariants as literal
use Rattle.qtt_term.specs.Term.{Io, Action}
use Rattle.qtt_code.specs.Value.{Value, side_by_side}
use Rattle.qtt_run.specs.Deed.{IsPerformed}

abbrev acts : Action → List Value → Value
acts a vs = Value.action a (side_by_side vs)

pub pure-parts : (m : Io) (vs : List Value) → IsPerformed (acts (Action.pure m) vs) → (v : Value) × (vs ≡ v ∷ [])
pure-parts m (v ∷ []) p = (v, refl)
pure-parts m _ (c, h) = absurd (h refl)

pub bind-parts : (m n : Io) (vs : List Value) → IsPerformed (acts (Action.bind m n) vs) →
    (v : Value) × (w : Value) × (vs ≡ v ∷ w ∷ [])
bind-parts m n (v ∷ w ∷ []) p = (v, w, refl)
bind-parts m n _ (c, h) = absurd (h refl)

pub get-parts : (vs : List Value) → IsPerformed (acts Action.get_line vs) → vs ≡ []
get-parts [] p = refl
get-parts _ (c, h) = absurd (h refl)

pub put-parts : (vs : List Value) → IsPerformed (acts Action.put_line vs) →
    (s : List ℕ) × (vs ≡ Value.literal (literal.Text s) ∷ [])
put-parts (Value.literal (literal.Text s) ∷ []) p = (s, refl)
put-parts _ (c, h) = absurd (h refl)

pub open-parts : (vs : List Value) → IsPerformed (acts Action.opens vs) →
    (s : List ℕ) × (vs ≡ Value.literal (literal.Text s) ∷ [])
open-parts (Value.literal (literal.Text s) ∷ []) p = (s, refl)
open-parts _ (c, h) = absurd (h refl)

pub close-parts : (vs : List Value) → IsPerformed (acts Action.closes vs) → (n : ℕ) × (vs ≡ Value.tape n ∷ [])
close-parts (Value.tape n ∷ []) p = (n, refl)
close-parts _ (c, h) = absurd (h refl)

pub write-parts : (vs : List Value) → IsPerformed (acts Action.writes vs) →
    (n : ℕ) × (s : List ℕ) × (vs ≡ Value.tape n ∷ Value.literal (literal.Text s) ∷ [])
write-parts (Value.tape n ∷ Value.literal (literal.Text s) ∷ []) p = (n, s, refl)
write-parts _ (c, h) = absurd (h refl)
