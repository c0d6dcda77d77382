use Rattle.std.proofs.Common.{◌∙◌, ap, sym, arith}
use Rattle.qtt_syntax.specs.declared.expr.Expr.{Expr}
use Rattle.qtt_syntax.specs.View.{tree_of}
use Rattle.qtt_grammar.specs.Grammar.{ends_in_hole}
use Rattle.qtt_grammar.proofs.Statements.{do_last, do_empty}
use Rattle.qtt_grammar.proofs.lines.+hole.Goals as goal

pub ends_in_hole-returns-in-Some : goal.ends_in_hole-returns-in-Some
ends_in_hole-returns-in-Some t c =
    let i = c.in-Some.ensures.item in
    c.is_in_hole.ensures ∙ sym
    (ap (λ (x : Expr). ends_in_hole (tree_of x)) c.in-Do.is ∙
    do_last c.in-Do.statements c.in-Do.span c.deref-in-Do.result.now c.in-Some.last.now
    c.deref-in-Do.ensures.value i.3.0 i.1)

pub ends_in_hole-returns-in-None : goal.ends_in_hole-returns-in-None
ends_in_hole-returns-in-None t c =
    let i = c.in-None.ensures.item in
    sym (ap (λ (x : Expr). ends_in_hole (tree_of x)) c.in-Do.is ∙
    do_empty c.in-Do.statements c.in-Do.span c.deref-in-Do.result.now c.deref-in-Do.ensures.value
    (omega arith))
