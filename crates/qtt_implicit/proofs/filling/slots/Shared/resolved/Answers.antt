-- What stands for a local name.
use Rattle.std.proofs.Common.{sym, subst}
use Rattle.qtt_implicit.specs.Moving.{shifted}
use Rattle.qtt_implicit.specs.Slots.{Resolves, slot_list, stands}
use Rattle.qtt_implicit.proofs.Standing.{resolves_filled, resolves_unfilled}
use Rattle.qtt_implicit.proofs.filling.slots.Shared.resolved.Goals as goal

pub returns-in-None-2 : goal.returns-in-None-2
returns-in-None-2 c =
    let s = c.args.self in
    resolves_unfilled s c.in-Some.index c.requires (sym c.in-Some.ensures)
    (λ q m. subst (Resolves (shifted s.moved (stands q (slot_list s.slots.now) c.in-Some.index m))) c.in-None-2.is
    (c.in_ok-standing-in-Some.ensures q m))

pub returns-in-Some-2 : goal.returns-in-Some-2
returns-in-Some-2 c =
    let s = c.args.self in
    resolves_filled s c.in-Some-2.text c.in-Some.index (sym c.in-Some.ensures)
    (λ q m. subst (Resolves (shifted s.moved (stands q (slot_list s.slots.now) c.in-Some.index m))) c.in-Some-2.is
    (c.in_ok-standing-in-Some.ensures q m))
