-- Patterns and values in the code's lists.
use Rattle.std.proofs.Common.{◌≡◌, suc, List, [], ◌∷◌, length, Bool, true, false, ◌&&◌, refl, ap, ◌∙◌}
use Rattle.std.proofs.lemmas.Grind.{common_steps}
use Rattle.std.proofs.lemmas.List.{length-map}
use Rattle.qtt_syntax.specs.declared.pattern.Pattern.{the_lemmas}
use Rattle.qtt_syntax.specs.Tree.{Shape, shapes}
use Rattle.qtt_syntax.proofs.Rows.{constructor_view}
use Rattle.qtt_term.specs.declared.term.Term as code
use Rattle.qtt_term.specs.Items.{FamilyEntry}
use Rattle.qtt_term.specs.Term.{Term, Terms, skip, ◌+++◌}
use Rattle.qtt_term.specs.View.{side_by_side}
use Rattle.qtt_match.specs.Match.{fits, all_fit}

-- what is behind the parameters
pub skip_front : (ts : List Term) (ss : Terms) → skip (length ts) (side_by_side ts +++ ss) ≡ ss
skip_front [] ss = refl
skip_front (t ∷ ts) ss = skip_front ts ss

and-false : (b : Bool) → (b && false) ≡ false
and-false true = refl
and-false false = refl

pub lengths_differ : (Fs : List FamilyEntry) (ps : List Shape) (ts : List Term) → (length ps ≡ length ts → ⊥) →
    all_fit Fs (shapes ps) (side_by_side ts) ≡ false
lengths_differ Fs [] [] h = absurd (h refl)
lengths_differ Fs [] (t ∷ ts) h = refl
lengths_differ Fs (p ∷ ps) [] h = refl
lengths_differ Fs (p ∷ ps) (t ∷ ts) h =
    ap (λ b. fits Fs p t && b) (lengths_differ Fs ps ts (λ e. h (ap suc e))) ∙ and-false (fits Fs p t)

pub ruleset fitting = (
  the_lemmas,
  code.the_lemmas,
  common_steps,
  length-map,
  constructor_view,
  skip_front,
  lengths_differ,
)
