use Rattle.std.proofs.Common.{◌≡◌, ◌∙◌, map, length, vec_len, ap, sym, eq-eqb, arith}
use Rattle.qtt_syntax.specs.declared.expr.Expr.{Expr}
use Rattle.qtt_syntax.specs.Tree.{arguments}
use Rattle.qtt_syntax.specs.Tree.Tree.{apply}
use Rattle.qtt_syntax.specs.View.{tree_of, argument_of}
use Rattle.qtt_syntax.proofs.Rows.{apply_view}
use Rattle.qtt_grammar.proofs.Trees.{app_some, map_some}
use Rattle.qtt_grammar.proofs.application.applied.Goals as goal

pub returns : goal.returns
returns c =
    let args = c.args.arguments in
    let a = c.if-is_empty.ensures in
    let some : length args.items ≡ 0 → ⊥ =
    (λ z. let l : vec_len args ≡ 0 = omega (arith, args.ok.0) in let y = eq-eqb (vec_len args) 0 l in cc) in
    apply_view c.in_ok-new.field-0 args c.args.span
    ∙ ap (λ (x : Expr). apply (tree_of x) (arguments (map argument_of args.items)) c.args.span) c.in_ok-new.ensures.ok
    ∙ sym (app_some c.args.span (tree_of c.args.function) (map argument_of args.items)
    (map_some argument_of args.items some))
