-- An application's arguments are in a row.
use Rattle.std.proofs.Common.{◌∙◌, map, ap}
use Rattle.qtt_syntax.specs.declared.expr.Expr.{Expr}
use Rattle.qtt_syntax.specs.Tree.{arguments}
use Rattle.qtt_syntax.specs.Tree.Tree.{apply}
use Rattle.qtt_syntax.specs.View.{tree_of, argument_of}
use Rattle.qtt_syntax.proofs.Rows.{apply_view}
use Rattle.qtt_names.specs.PrimSigs.{nowhere}
use Rattle.qtt_names.proofs.prim_sigs.applied.Goals as goal

pub returns : goal.returns
returns c =
    let args = c.args.arguments in
    apply_view c.in_ok-new.field-0 args nowhere
    ∙ ap (λ (x : Expr). apply (tree_of x) (arguments (map argument_of args.items)) nowhere) c.in_ok-new.ensures.ok
