use Rattle.std.proofs.Common.{ℕ, Result, Ok, Err}
use Rattle.std.specs.Prelude.{IfOk}
use Rattle.qtt_base.specs.declared.place.GlobalId.{GlobalId}
use Rattle.qtt_term.specs.Contraction.{BodiesClosed}
use Rattle.qtt_term.specs.Entries.{Entries, entries, env}
use Rattle.qtt_term.proofs.Kept.{globals-closed}
use Rattle.qtt_module.specs.declared.errors.ModuleError.{ModuleError}
use Rattle.qtt_module.specs.declared.errors.ModuleError.TheVariants as error
use Rattle.qtt_module.specs.Answer.{Gives, WhereRefused}
use Rattle.qtt_module.specs.ModuleRules.{IsMain}
use Rattle.qtt_module.specs.Refused.{refused_of}
use Rattle.qtt_module.specs.Text.{Accepted}
use Rattle.qtt_module.specs.TextCalls.{MainsAreJudged, RefusesMain, accepted_of, judged_main}
use Rattle.qtt_module.proofs.main_test.check_main.Goals as goal

module _ (so : MainsAreJudged) (n : ℕ) (G : Entries) (A : Accepted) (bodies : BodiesClosed (env G)) where
  sound-so : (r : Result GlobalId ModuleError) → Gives (λ (d : GlobalId). d) r (judged_main n G A) →
      IfOk r (λ d. IsMain G A.checked.main d)
  sound-so (Ok d) h = so.given n G A d bodies h
  sound-so (Err e) h = tt

  refused-so : (r : Result GlobalId ModuleError) → Gives (λ (d : GlobalId). d) r (judged_main n G A) →
      WhereRefused r (λ r. RefusesMain n G A r)
  refused-so (Ok d) h = tt
  refused-so (Err (error.Refused r)) h = so.refused n G A (refused_of r) bodies h
  refused-so (Err error.Memory) h = tt

pub returns-clause-sound : goal.returns-clause-sound
returns-clause-sound g c =
    sound-so c.mains_are_judged.ensures c.args.budget (entries c.args.globals.now) (accepted_of c.args.checked.now)
    (globals-closed c.args.globals.now) c.answer.result c.answer.ensures

pub returns-clause-refused : goal.returns-clause-refused
returns-clause-refused g c =
    refused-so c.mains_are_judged.ensures c.args.budget (entries c.args.globals.now)
    (accepted_of c.args.checked.now) (globals-closed c.args.globals.now) c.answer.result c.answer.ensures
