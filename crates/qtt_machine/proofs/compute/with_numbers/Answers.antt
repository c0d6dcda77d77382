use Rattle.std.proofs.Common.{sym, ◌∙◌}
use Rattle.qtt_value.specs.View.{value}
use Rattle.qtt_machine.specs.View.{state}
use Rattle.qtt_machine.proofs.Computing.{first_wanted, second_is_number}
use Rattle.qtt_machine.proofs.compute.with_numbers.Goals as goal

pub unreachable-requires : goal.unreachable-requires
unreachable-requires c =
    let s = state c.args.frames.now in
    first_wanted c.args.prim c.requires.numbers s.frame.pushed s (value c.newest.result) c.newest.ensures
    c.requires.unstuck
    (sym c.in_default.is ∙ c.as_number.ensures)

pub unreachable-requires-in_default-as_number : goal.unreachable-requires-in_default-as_number
unreachable-requires-in_default-as_number c =
    let s = state c.args.frames.now in
    second_is_number c.args.prim c.requires.numbers s.frame.pushed s (value c.newest.result)
    (value c.newest-2.result) c.newest.ensures
    c.newest-2.ensures c.in-Some.first c.requires.unstuck (sym c.in-Some.is ∙ c.as_number.ensures)
    (sym c.in_default-as_number.is ∙ c.as_number-2.ensures)
