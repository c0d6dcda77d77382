use Rattle.std.proofs.Common.{◌≡◌, map, take}
use Rattle.qtt_split.specs.Calls.{clause_of}
use Rattle.qtt_split.specs.Node.{all_constructors}
use Rattle.qtt_split.proofs.patterns.all_constructors.Given as goal

abbrev pub invariant-loop-clause : goal.invariant-loop-clause
invariant-loop-clause l = l.count ≡ all_constructors (map clause_of (take l.clause-index l.clauses))
