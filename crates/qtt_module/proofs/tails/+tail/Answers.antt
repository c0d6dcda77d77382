use Rattle.std.proofs.Common.{◌∙◌, ◌-◌, ◌<◌, length, take, ap, sym, arith}
use Rattle.qtt_syntax.specs.View.{tree_of}
use Rattle.qtt_syntax.proofs.Rows.{do_view}
use Rattle.qtt_bidi.specs.Parts.{statement_trees}
use Rattle.qtt_holes.specs.Walk.{has_hole, ends_in_hole}
use Rattle.qtt_module.proofs.Tailing.{last-alone, last-behind}
use Rattle.qtt_module.proofs.tails.+tail.Goals as goal

pub has_hole-returns-in-Do : goal.has_hole-returns-in-Do
has_hole-returns-in-Do t c =
    c.ends_in_hole.ensures ∙ ap (λ ss. ends_in_hole (statement_trees ss)) c.deref-in-Do.ensures.value
    ∙ sym (ap has_hole (ap tree_of c.in-Do.is ∙ do_view c.in-Do.statements c.in-Do.span))

pub ends_in_hole-returns-in-len1-up : goal.ends_in_hole-returns-in-len1-up
ends_in_hole-returns-in-len1-up t c =
    let ss = c.args.statements.now in
    let x = c.last-item.result in
    let some : 0 < length ss = omega (arith, c.in-len1-up.len_at_least) in
    c.is_hole.ensures
    ∙ sym (ap (λ ys. ends_in_hole (statement_trees ys)) (last-behind ss x some c.last-item.is)
    ∙ last-alone (take (length ss - 1) ss) x)
