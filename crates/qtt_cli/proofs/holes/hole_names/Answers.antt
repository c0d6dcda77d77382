use Rattle.std.proofs.Common.{◌++◌, ◌+◌, drop, map, refl, ap, ◌∙◌}
use Rattle.qtt_cli.specs.Views.{name_of, names_in}
use Rattle.qtt_cli.proofs.Written.{written-on, written-all, names-first}
use Rattle.qtt_cli.proofs.holes.hole_names.Goals as goal

pub loop-checked-preserved : goal.loop-checked-preserved
loop-checked-preserved c =
    let one = c.checked-item.result in
    let order = c.args.order.now in
    let at = c.loop-checked.checked-index in
    written-on names_in order at one (map name_of one.holes.items) (names-first one (drop (at + 1) order))
    c.loop-checked-test.true c.checked-item.is c.loop-checked.names.items c.add_names.new.names.items (names_in order)
    (c.in_ok-add_names.ensures ∙ ap (λ hs. c.loop-checked.names.items ++ map name_of hs) c.deref.ensures.value)
    c.loop-checked.invariant

pub returns : goal.returns
returns c =
    let order = c.args.order.now in
    written-all names_in order c.loop-checked.checked-index refl c.loop-checked-test.false c.loop-checked.names.items
    (names_in order) c.loop-checked.invariant
