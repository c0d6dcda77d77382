use Rattle.std.proofs.Common.{◌≡◌, ◌++◌, flat_map, map, take}
use Rattle.qtt_term.specs.Globals.{definitions}
use Rattle.qtt_code.specs.Listing.{line, block_text, instr_line}
use Rattle.qtt_code.specs.View.{instr, block}
use Rattle.qtt_code.proofs.lines.block_lines.Given as goal

abbrev pub invariant-loop-instr : goal.invariant-loop-instr
invariant-loop-instr l =
    l.text.items
    ≡ line (block_text (definitions l.names) l.number (block l.block)) ++ flat_map instr_line
    (map instr (take l.instr-index l.block.code.items))
