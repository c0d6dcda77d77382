-- The judgement of a text has its promises.
use Rattle.std.proofs.Common.{ℕ, ◌⊎◌, inl, inr, List, IfOk, Result, Ok, Err}
use Rattle.qtt_base.specs.declared.place.ModuleId.{ModuleId}
use Rattle.qtt_syntax.specs.Tree.{Module}
use Rattle.qtt_names.specs.Exports.{Exports}
use Rattle.qtt_term.specs.Entries.{Entries}
use Rattle.qtt_module.specs.declared.checked.Checked.{Checked}
use Rattle.qtt_module.specs.declared.errors.ModuleError.{ModuleError}
use Rattle.qtt_module.specs.declared.errors.ModuleError.TheVariants as error
use Rattle.qtt_module.specs.Answer.{WhereRefused}
use Rattle.qtt_module.specs.Refused.{refused_of}
use Rattle.qtt_module.specs.Text.{Accepted}
use Rattle.qtt_module.specs.TextCalls.{accepted_of, DeclaresText, RefusesText}
use Rattle.qtt_accepted.specs.Texts.{IsSpent}
use Rattle.qtt_accepted.specs.Calls.{IsOver, Promises}
use Rattle.qtt_accepted.proofs.Once.{texts_declare_once_holds}
use Rattle.qtt_accepted.proofs.Refusals.{premises_are_false_so_holds}
use Rattle.qtt_accepted.proofs.Texts.{texts_keep_form_holds}

module _ (id : ModuleId) (n : ℕ) (asked : List ℕ) (imports : List Exports) (G : Entries) (m : Module)
    (over : IsOver id m G) where
  pub promised : (result : Result Checked ModuleError) →
      IfOk result (λ c. DeclaresText id asked imports G m (accepted_of c)) →
      WhereRefused result (RefusesText id n asked imports G m) → Promises id n asked imports G m result
  promised (Ok c) d r = record {
    keeps = record {
      formed =
          texts_keep_form_holds.formed id asked imports G m (accepted_of c) over.formed over.fresh over.marked d;
      complete = λ whole none.
          texts_keep_form_holds.complete id asked imports G m (accepted_of c) over.formed over.fresh over.marked d
          whole none;
    };
    complete = λ A e.
        texts_declare_once_holds.one id asked imports G m (accepted_of c) A over.formed over.fresh over.marked d e;
    false_so = tt;
  }
  promised (Err (error.Refused x)) d r = record {
    keeps = tt;
    complete = λ A e. by A e (texts_declare_once_holds.decided (refused_of x).kept.detail);
    false_so = λ y.
        premises_are_false_so_holds id n asked imports G m (refused_of x) over.formed over.fresh over.marked y;
  }
    where
      by : (A : Accepted) → DeclaresText id asked imports G m A →
          IsSpent (refused_of x).kept.detail ⊎ (IsSpent (refused_of x).kept.detail → ⊥) →
          IsSpent (refused_of x).kept.detail
      by A e (inl s) = s
      by A e (inr other) =
          absurd (texts_declare_once_holds.none id n asked imports G m (refused_of x) A over.formed over.fresh
          over.marked r other e)
  promised (Err error.Memory) d r = record { keeps = tt; complete = λ A e. tt; false_so = tt }
