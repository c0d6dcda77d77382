use Rattle.std.proofs.Common.{◌≡◌, drop}
use Rattle.qtt_lexer.specs.Names.{is_big}
use Rattle.qtt_lexer.proofs.NameParts.{scan}
use Rattle.qtt_lexer.proofs.names.is_big.Given as goal

abbrev pub invariant-loop-byte : goal.invariant-loop-byte
invariant-loop-byte l = scan l.at_start l.big (drop l.byte-index l.byte-items) ≡ is_big l.name
