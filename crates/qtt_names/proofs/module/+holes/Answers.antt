-- The hole of a `do` is that of its last statement.
use Rattle.std.proofs.Common.{ap, sym, ◌∙◌, arith}
use Rattle.std.proofs.lemmas.Grind.{common_steps}
use Rattle.qtt_names.proofs.Parts.{do_form}
use Rattle.qtt_names.proofs.Holes.{hole_at, last_hole-statements}
use Rattle.qtt_names.proofs.module.+holes.Goals as goal

pub tail_hole-returns-in-Do : goal.tail_hole-returns-in-Do
tail_hole-returns-in-Do t c = rw (do_form _ _ _ c.in-Do.is) (grind (arith, common_steps))

pub last_hole-returns-in-Some : goal.last_hole-returns-in-Some
last_hole-returns-in-Some t c =
    c.statement_hole.ensures ∙ ap hole_at c.in-Some.ensures.value ∙ sym (last_hole-statements c.args.source.now)
