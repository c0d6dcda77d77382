-- What there is to be copied of the slots, and the tree.
use Rattle.std.proofs.Common.{◌+◌}
use Rattle.qtt_implicit.specs.Slots.{slots_size}
use Rattle.qtt_implicit.proofs.filling.copying.Copying.+copied.Given as goal

abbrev pub decreases-annotation : goal.decreases-annotation
decreases-annotation l = slots_size l.self.now.slots.now + goal.size-annotation l

abbrev pub decreases-arguments : goal.decreases-arguments
decreases-arguments l = slots_size l.self.now.slots.now + goal.size-arguments l

abbrev pub decreases-binders : goal.decreases-binders
decreases-binders l = slots_size l.self.now.slots.now + goal.size-binders l

abbrev pub decreases-node : goal.decreases-node
decreases-node l = slots_size l.self.now.slots.now + goal.size-node l

abbrev pub decreases-statements : goal.decreases-statements
decreases-statements l = slots_size l.self.now.slots.now + goal.size-statements l

abbrev pub decreases-used : goal.decreases-used
decreases-used l = slots_size l.self.now.slots.now
