use Rattle.std.proofs.Common.{◌≡◌, ◌≤◌, length, reverse, drop}
use Rattle.qtt_grammar.specs.Lexeme.{lexemes}
use Rattle.qtt_grammar.proofs.lexemes.lexemes.Given as goal

abbrev pub invariant-marks : goal.invariant-marks
invariant-marks l = record {
  within : l.left ≤ length l.laid;
  same : reverse l.found.items ≡ lexemes (drop l.left l.laid);
}

abbrev pub decreases-marks : goal.decreases-marks
decreases-marks l = l.left
