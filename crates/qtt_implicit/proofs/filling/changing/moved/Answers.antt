-- Slots that stay are moved by none.
use Rattle.std.proofs.Common.{◌∙◌, ap, sym, ℕ}
use Rattle.qtt_implicit.specs.Slots.{moved_slots, slot_list}
use Rattle.qtt_implicit.proofs.Standing.{moved_none}
use Rattle.qtt_implicit.proofs.filling.changing.moved.Goals as goal

pub returns-then-by-eq0 : goal.returns-then-by-eq0
returns-then-by-eq0 c = record {
  same =
      sym (moved_none (slot_list c.args.slots.now))
      ∙ sym (ap (λ (k : ℕ). moved_slots k (slot_list c.args.slots.now)) c.if-by-eq0.true);
  sound = c.requires;
}
