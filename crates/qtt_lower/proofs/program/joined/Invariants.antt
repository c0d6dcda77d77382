use Rattle.std.proofs.Common.{◌≡◌}
use Rattle.qtt_code.specs.View.{blocks}
use Rattle.qtt_lower.specs.Compiled.{joined}
use Rattle.qtt_lower.specs.View.{part_list}
use Rattle.qtt_lower.proofs.program.joined.Given as goal

abbrev pub invariant-loop-part : goal.invariant-loop-part
invariant-loop-part l = blocks l.blocks.items ≡ joined (part_list l.yielded)
