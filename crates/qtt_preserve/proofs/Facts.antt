-- The laws that the functions of this crate ensure.
use Rattle.std.proofs.Common.{ℕ, List, subst, length}
use Rattle.qtt_base.specs.declared.place.GlobalId.{GlobalId}
use Rattle.qtt_usage.specs.Uses.{Use}
use Rattle.qtt_term.specs.Term.{Term}
use Rattle.qtt_term.specs.Signature.{Env}
use Rattle.qtt_term.specs.Contraction.{BodiesClosed}
use Rattle.qtt_term.specs.FullRun.{Turn, Verdict, full}
use Rattle.qtt_term.specs.Judgement.{Ctx, Part, Typed}
use Rattle.qtt_term.specs.Environment.{WellFormed, Complete, IsMain}
use Rattle.qtt_term.specs.Substitution.{Below}
use Rattle.qtt_term.proofs.Evaluation.{full-move}
use Rattle.qtt_preserve.specs.Inversion.{Inversion}
use Rattle.qtt_preserve.specs.Laws.{UsesAreExact, SubstitutionWithUses, StepKeepsTypeAndUse, StepsAreNeverStuck, RunKeepsTapes, NeverStuck, TapesClosedOnce, DerivationsGrow, DeadTermsUseAnything}
use Rattle.qtt_preserve.specs.Grows.{Grows}
use Rattle.qtt_preserve.proofs.Sound.{typed-below, sound_of, bodied_of}
use Rattle.qtt_preserve.proofs.Exact.{typed-has, has-typed}
use Rattle.qtt_preserve.proofs.Substitution.{substitution}
use Rattle.qtt_preserve.proofs.Inverted.{inverted}
use Rattle.qtt_preserve.proofs.Preservation.{substitution_of_one, preservation}
use Rattle.qtt_preserve.proofs.Progress.{Goes, progress}
use Rattle.qtt_preserve.proofs.Run.{turn_keeps}
use Rattle.qtt_preserve.proofs.Configured.{configured-fine, fine-configured}
use Rattle.qtt_preserve.proofs.Discipline.{opens-of, main_fine, full_fine, full_good}
use Rattle.qtt_preserve.proofs.Grow.{typed-grows, judged-grows, family-formed-grows, definition-formed-grows}
use Rattle.qtt_preserve.proofs.Dead.{dead-any}

pub uses_are_exact_holds : (E : Env) (p : Part) (Γ : Ctx) (t A : Term) (u : Use) → UsesAreExact E p Γ t A u
uses_are_exact_holds E p Γ t A u = record { exact = typed-has; bounded = has-typed }

pub inversion_holds : (E : Env) (p : Part) (Γ : Ctx) → Inversion E p Γ
inversion_holds E p Γ = inverted E p Γ

pub in_scope_holds : (E : Env) (p : Part) (Γ : Ctx) (t A : Term) (u : Use) → Typed E p Γ t A u → Below (length Γ) t
in_scope_holds E p Γ t A u h = typed-below h

pub bodies_closed_holds : (E : Env) → WellFormed E → BodiesClosed E
bodies_closed_holds E w = (sound_of w).bodies

pub substitution_with_uses_holds : (E : Env) → BodiesClosed E → SubstitutionWithUses E
substitution_with_uses_holds E bodies = record {
  simultaneous = λ p Γ Δ t A u σ M h fills. has-typed
      (substitution E bodies (typed-has h) Δ σ M (λ i s. typed-has (fills i s)));
  of_one = λ p Γ q A b B a u w h k. has-typed (substitution_of_one bodies (typed-has h) (typed-has k));
}

pub step_keeps_type_and_use_holds : (E : Env) → WellFormed E → StepKeepsTypeAndUse E
step_keeps_type_and_use_holds E w p Γ t s A u e h =
    has-typed (preservation (full-move E t s e) (sound_of w) p Γ A u (typed-has h))

pub steps_are_never_stuck_holds : (E : Env) → WellFormed E → Complete E → StepsAreNeverStuck E
steps_are_never_stuck_holds E w whole t A u h e =
    subst Goes e (progress (sound_of w).bodies w.prims (bodied_of E whole) t (typed-has h))

pub run_keeps_tapes_holds : (E : Env) → WellFormed E → RunKeepsTapes E
run_keeps_tapes_holds E w = record {
  starts = λ main m input. fine-configured (main_fine w main m);
  turns = λ R c d f e. fine-configured (turn_keeps (sound_of w) R c (configured-fine f) (Turn.goes d) e (λ q. cc q));
  ends = λ R c f e. turn_keeps (sound_of w) R c (configured-fine f) (Turn.halts Verdict.ended) e (λ q. cc q);
  throughout = λ main m n input h. fine-configured (full_fine w main m n input (λ t. h t.0 t.1));
}

pub never_stuck_holds : (E : Env) → WellFormed E → Complete E → NeverStuck E
never_stuck_holds E w whole main m n input = (full_good w whole main m n input).free

pub tapes_closed_once_holds : (E : Env) → WellFormed E → Complete E → (main : GlobalId) → IsMain E main →
    (n : ℕ) (input : List ℕ) → TapesClosedOnce E main n input
tapes_closed_once_holds E w whole main m n input =
    let r = full_good w whole main m n input in
    record {
      always = (opens-of (full n E main input).last.tapes, r.events);
      ended = λ e. (opens-of (full n E main input).last.tapes, r.events, r.ended e);
      trapped = λ k e. (opens-of (full n E main input).last.tapes, r.events, r.trapped (k, e));
    }

pub derivations_grow_holds : (D E : Env) → Grows D E → DerivationsGrow D E
derivations_grow_holds D E g = record {
  derivations = λ p Γ t A u k h. typed-grows g h k;
  all_derivations = λ same p Γ t A u h. judged-grows g same h;
  families = λ same f F h. family-formed-grows g same h;
  definitions = λ same d h. definition-formed-grows g same h;
}

pub dead_terms_use_anything_holds : (E : Env) → DeadTermsUseAnything E
dead_terms_use_anything_holds E Γ t A u w e h = dead-any e h w
