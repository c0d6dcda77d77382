use Rattle.std.proofs.Common.{◌≡◌, ◌≤◌, None, length}
use Rattle.qtt_term.specs.Reading.{read_step}
use Rattle.qtt_term.specs.Signature.{Env}
use Rattle.qtt_term.specs.View.{term}
use Rattle.qtt_unify.specs.Unread.{plug_all, ArePending, behinds}
use Rattle.qtt_unify.proofs.reading.gone_on.Given as goal

abbrev pub invariant-loop-pending : goal.invariant-loop-pending
invariant-loop-pending l = record {
  whole : plug_all l.around.items (term l.read) ≡ plug_all l.initial.around.items (term l.initial.read);
  read : (E : Env) → read_step E (term l.initial.read) ≡ None → ArePending E l.initial.around.items →
      read_step E (term l.read) ≡ None;
  around : (E : Env) → read_step E (term l.initial.read) ≡ None → ArePending E l.initial.around.items →
      ArePending E l.around.items;
  behinds : behinds l.around.items ≤ behinds l.initial.around.items;
}

abbrev pub decreases-loop-pending : goal.decreases-loop-pending
decreases-loop-pending l = length l.around.items
