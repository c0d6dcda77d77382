use Rattle.std.proofs.Common.{◌≡◌, take, map}
use Rattle.qtt_term.specs.Items.{field}
use Rattle.qtt_term.proofs.items.copy_fields.Given as goal

abbrev pub invariant-loop-mult : goal.invariant-loop-mult
invariant-loop-mult l = map field l.copies.items ≡ map field (take l.mult-index l.fields)
