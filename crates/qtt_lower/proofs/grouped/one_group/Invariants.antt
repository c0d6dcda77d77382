use Rattle.std.proofs.Common.{◌≡◌, map}
use Rattle.qtt_lower.proofs.Answering.{value}
use Rattle.qtt_lower.proofs.grouped.one_group.Given as goal

abbrev pub invariant-loop-answer : goal.invariant-loop-answer
invariant-loop-answer g l = map (value g.F.Fn l.work) l.answers.items ≡ l.yielded
