use Rattle.std.proofs.Common.{ap, ◌∙◌, true, false}
use Rattle.qtt_lexer.proofs.NameParts.{scan, scan_big}
use Rattle.qtt_lexer.proofs.names.is_big.Goals as goal

pub loop-byte-init : goal.loop-byte-init
loop-byte-init c =
    ap (scan true false) (c.as_bytes-byte-items.ensures.value ∙ c.as_str.ensures.value)
    ∙ scan_big c.args.name.now
