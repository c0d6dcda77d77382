use Rattle.std.proofs.Common.{◌≡◌, ◌+◌, ◌-◌, ◌≤◌, length, take, vec_len}
use Rattle.qtt_prims.specs.Lines.{line_of}
use Rattle.qtt_edge.specs.LineCutter.{all_told}
use Rattle.qtt_edge.proofs.line_cutter.next_line.Given as goal

-- no byte 10 stands before the place seen, all bytes are there still, and each pull gave at least one of them
abbrev pub invariant-turns : goal.invariant-turns
invariant-turns g l =
    (l.seen ≤ vec_len l.held)
    × (line_of (take l.seen l.held.items) ≡ take l.seen l.held.items)
    × (all_told l.held.items (g.S.Source.content l.source) ≡ all_told l.initial.held.items
    (g.S.Source.content l.initial.source))
    × (length l.initial.held.items ≤ length l.held.items)
    × (g.S.Source.ends l.initial.source ≤ g.S.Source.ends l.source)
    × (g.S.Source.faults l.initial.source ≤ g.S.Source.faults l.source)
    × (g.S.Source.pulls l.source + length l.initial.held.items ≤ g.S.Source.pulls l.initial.source + length
    l.held.items)
    × (g.S.Source.pulls l.source ≤ g.S.Source.pulls l.initial.source + 65537)

abbrev pub decreases-turns : goal.decreases-turns
decreases-turns g l = 65537 - vec_len l.held
