-- Values by their form.
use Rattle.std.proofs.Common.{◌≡◌, ℕ, List, [], ◌∷◌, refl, ◌∙◌, ap}
use Rattle.std.specs.Borrow.{Bor}
use Rattle.std.proofs.lemmas.Grind.{common_steps}
use Rattle.qtt_code.specs.Value.{Value, Values, listed, side_by_side}
use Rattle.qtt_value.specs.declared.val.Val.{Val, the_lemmas}
use Rattle.qtt_value.specs.declared.val.Val.TheVariants as code
use Rattle.qtt_value.specs.View.{value, values}
use Rattle.qtt_machine.proofs.Levels.{levels, value_of_con}

pub listed_side : (vs : List Value) → listed (side_by_side vs) ≡ vs
listed_side [] = refl
listed_side (v ∷ vs) = ap (λ ws. v ∷ ws) (listed_side vs)

pub empty_con : (c : ℕ) (vs : Bor (List Val)) → vs.now ≡ [] → value (code.Con c vs) ≡ Value.con c Values.none
empty_con c vs e = value_of_con c vs ∙ ap (λ l. Value.con c (side_by_side (values l))) e

-- what the functions that look at values want
pub ruleset parting = (the_lemmas, common_steps, levels, listed_side)
