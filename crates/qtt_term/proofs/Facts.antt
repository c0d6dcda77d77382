-- The laws that the functions of this crate ensure.
use Rattle.qtt_term.specs.Laws.{SubstitutionLaws, ValuesAreKept, FullStepsContract, StepsKeepClosed, TapesAreOfEvents}
use Rattle.qtt_term.proofs.Subst.{sub-var, sub-sub, ren-is-sub, sub-ren, ren-sub, lift-ren, inst-sub, inst-ren}
use Rattle.qtt_term.proofs.Closed.{closed-kept}
use Rattle.qtt_term.proofs.Evaluation.{value-kept, kept-value, move-step, full-move}
use Rattle.qtt_term.proofs.Scope.{step-below}
use Rattle.qtt_term.proofs.Output.{full-tells}

pub substitution_laws_hold : SubstitutionLaws
substitution_laws_hold = record {
  identity = sub-var;
  composition = sub-sub;
  renaming = ren-is-sub;
  before_renaming = λ σ ρ t. sub-ren t σ ρ;
  after_renaming = λ ρ σ t. ren-sub t ρ σ;
  under_one_more = lift-ren;
  instantiation = inst-sub;
  not_mentioned = inst-ren;
  closed_terms = closed-kept;
}

pub values_are_kept_holds : ValuesAreKept
values_are_kept_holds E t = (value-kept, kept-value E t)

pub full_steps_contract_holds : FullStepsContract
full_steps_contract_holds E t s e = move-step (full-move E t s e)

pub steps_keep_closed_holds : StepsKeepClosed
steps_keep_closed_holds E bodies n t s h b = step-below bodies h n b

pub tapes_are_of_events_holds : TapesAreOfEvents
tapes_are_of_events_holds E n main input = full-tells E n main input
