use Rattle.std.proofs.Common.{ℕ, List, map, Result, Ok, Err}
use Rattle.std.specs.Prelude.{IfOk}
use Rattle.qtt_base.specs.declared.place.ModuleId.{ModuleId}
use Rattle.qtt_syntax.specs.Tree.{Module}
use Rattle.qtt_syntax.specs.View.{module_of}
use Rattle.qtt_names.specs.Exports.{Exports, exports_of}
use Rattle.qtt_term.specs.Entries.{Entries, entries}
use Rattle.qtt_module.specs.declared.checked.Checked.{Checked}
use Rattle.qtt_module.specs.declared.errors.ModuleError.{ModuleError}
use Rattle.qtt_module.specs.declared.errors.ModuleError.TheVariants as error
use Rattle.qtt_module.specs.Answer.{Gives, WhereRefused}
use Rattle.qtt_module.specs.Refused.{refused_of}
use Rattle.qtt_module.specs.Text.{judged_text}
use Rattle.qtt_module.specs.TextCalls.{DeclaresText, RefusesText, TextsAreJudged, accepted_of}
use Rattle.qtt_module.proofs.text.check_module.Goals as goal

module _ (so : TextsAreJudged) (id : ModuleId) (n : ℕ) (asked : List ℕ) (imports : List Exports) (G : Entries)
    (m : Module) where
  sound-so : (r : Result Checked ModuleError) → Gives accepted_of r (judged_text id n asked imports G m) →
      IfOk r (λ c. DeclaresText id asked imports G m (accepted_of c))
  sound-so (Ok c) h = so.accepted id n asked imports G m (accepted_of c) h
  sound-so (Err e) h = tt

  refused-so : (r : Result Checked ModuleError) → Gives accepted_of r (judged_text id n asked imports G m) →
      WhereRefused r (λ r. RefusesText id n asked imports G m r)
  refused-so (Ok c) h = tt
  refused-so (Err (error.Refused r)) h = so.refused id n asked imports G m (refused_of r) h
  refused-so (Err error.Memory) h = tt

pub returns-clause-sound : goal.returns-clause-sound
returns-clause-sound g c =
    sound-so c.texts_are_judged.ensures c.args.«module» c.args.budget c.args.asked.now
    (map exports_of c.args.imports.now) (entries c.args.globals.now) (module_of c.args.text.now) c.answer.result
    c.answer.ensures

pub returns-clause-refused : goal.returns-clause-refused
returns-clause-refused g c =
    refused-so c.texts_are_judged.ensures c.args.«module» c.args.budget c.args.asked.now
    (map exports_of c.args.imports.now) (entries c.args.globals.now) (module_of c.args.text.now) c.answer.result
    c.answer.ensures
