use Rattle.std.proofs.Common.{◌≡◌, map, take}
use Rattle.qtt_term.specs.Scope.{shifted}
use Rattle.qtt_bidi.specs.Seen.{stands}
use Rattle.qtt_module.proofs.contexts.shifted_names.Given as goal

abbrev pub invariant-loop-term : goal.invariant-loop-term
invariant-loop-term l = map stands l.all.items ≡ shifted (map stands (take l.term-index l.names))
