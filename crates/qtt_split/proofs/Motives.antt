-- The motive, through all targets.
use Rattle.std.proofs.Common.{◌≡◌, ◌∙◌, ℕ, List, length, refl, sym, ap}
use Rattle.qtt_term.specs.declared.term.Term as code
use Rattle.qtt_term.specs.Term.{Term, var, size}
use Rattle.qtt_term.specs.Substitution.{sub}
use Rattle.qtt_term.proofs.Shaped.{size_side_by_side}
use Rattle.qtt_term.specs.View.{term, terms}
use Rattle.qtt_unify.specs.View.{all_terms}
use Rattle.std.proofs.lemmas.List.{length-map}
use Rattle.qtt_split.specs.Branch.{put}
use Rattle.qtt_split.specs.Motive.{Way, Aim, through_all, motive}
use Rattle.qtt_split.specs.Ways.{Frame, begun, all_steps, wrapped, Leads}
use Rattle.qtt_split.proofs.Through.{all-through}

abbrev pub goal_behind : ℕ → Term → Way → Term
goal_behind x goal w = sub (put x (var w.scrutinee) w.stands) goal

motive-through : (a : Aim) (ts : List code.Term) (x : ℕ) (goal : Term) →
    motive a (all_terms ts) x goal ≡ through_all a (all_terms ts) 0 (begun (size (all_terms ts))) (goal_behind x goal)
unfolding motive
motive-through a ts x goal = refl

pub motive-wrapped : (a : Aim) (ts : List code.Term) (n x : ℕ) (goal : Term) (fs : List Frame) (v : Way) →
    n ≡ length ts → Leads a (all_steps (all_terms ts) 0) (begun n) fs v →
    wrapped a fs (goal_behind x goal v) ≡ motive a (all_terms ts) x goal
motive-wrapped a ts n x goal fs v e leads =
    let count : size (all_terms ts) ≡ n = size_side_by_side (terms ts) ∙ length-map ts term ∙ sym e in
    sym (motive-through a ts x goal ∙
    ap (λ m. through_all a (all_terms ts) 0 (begun m) (goal_behind x goal)) count ∙
    all-through a (all_terms ts) 0 (begun n) (goal_behind x goal) ∙
    leads (goal_behind x goal))
