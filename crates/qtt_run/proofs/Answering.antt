-- The law of the code of typed environments.
use Rattle.std.proofs.Common.{◌≡◌, List, [], Some, sym, ap, subst}
use Rattle.qtt_base.specs.declared.place.GlobalId.{GlobalId}
use Rattle.qtt_usage.specs.Uses.{zero_use}
use Rattle.qtt_term.specs.Term.{Def}
use Rattle.qtt_term.specs.Substitution.{sub, closed}
use Rattle.qtt_term.specs.Signature.{Definition, Env, definition_of, definition_at}
use Rattle.qtt_term.specs.Contraction.{Conv}
use Rattle.qtt_term.specs.Judgement.{Part, Usable, Args, Rule}
use Rattle.qtt_term.specs.Environment.{WellFormed, Complete}
use Rattle.qtt_preserve.specs.Within.{Has, HasAll}
use Rattle.qtt_preserve.proofs.Plain.{there-some}
use Rattle.qtt_preserve.proofs.Exact.{typed-has}
use Rattle.qtt_code.specs.Machine.{start, called}
use Rattle.qtt_run.specs.Code.{Lists, first_block}
use Rattle.qtt_run.specs.Laws.{TypedCodeAnswers}
use Rattle.qtt_run.proofs.Evaluating.{answers-as, call-represents, start-represents}

definition-has : {E : Env} (d : GlobalId) (D : Definition) → E.definition d ≡ Some D → Usable Part.run D.mult →
    Has E Part.run [] (Def d) (sub closed (definition_at E d).type) zero_use
definition-has d D e used =
    Has.at_node (Rule.named (there-some e) (subst (λ D. Usable Part.run D.mult) (sym (ap definition_of e)) used)
    Args.none) HasAll.none
    Conv.same (λ x s. tt)

pub typed-code-answers : (E : Env) → WellFormed E → Complete E → (ds : List GlobalId) → Lists E ds →
    TypedCodeAnswers E ds
typed-code-answers E w whole ds l = record {
  definition = λ d D e used. answers-as E w whole ds l (start (first_block E ds d)) (definition-has d D e used)
      (start-represents E w whole ds l d);
  call = λ q f a A u g b used h k j. answers-as E w whole ds l (called g b) (typed-has h)
      (call-represents E w whole ds l q f a g b used k j);
  state = λ t A u s h r. answers-as E w whole ds l s (typed-has h) r;
}
