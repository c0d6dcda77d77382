-- Reading: the parts of a tree in turn.
use Rattle.std.proofs.Common.{◌≡◌, ◌∙◌, ap, sym, map, Vec, Box}
use Rattle.std.specs.Global.{Global}
use mathlib.Core.Path.{ap₂}
use Rattle.std.proofs.lemmas.Grind.{common_steps}
use Rattle.qtt_base.specs.declared.place.Span.{Span}
use Rattle.qtt_syntax.specs.declared.expr.Expr.{Expr, the_lemmas}
use Rattle.qtt_syntax.specs.declared.expr.Expr.TheVariants as code
use Rattle.qtt_syntax.specs.declared.expr.Argument as argument_code
use Rattle.qtt_syntax.specs.declared.expr.Binder as binder_code
use Rattle.qtt_syntax.specs.declared.expr.Statement as statement_code
use Rattle.qtt_syntax.specs.View.{tree_of, argument_of, binder_of, statement_of}
use Rattle.qtt_syntax.specs.Tree.{Tree, Arguments, Binders, Statements, arguments, binders, statements}
use Rattle.qtt_syntax.specs.Tree.Tree.{apply, lambda, doing}
use Rattle.qtt_syntax.proofs.Rows.{apply_view, lambda_view, do_view, let_view, local_view}
use Rattle.qtt_implicit.specs.declared.filling.trees.Node.{the_lemmas as node_lemmas}

pub read_apply : (e : Expr) (f : Box Expr Global) (v : Vec argument_code.Argument Global) (s : Span) (t : Tree)
    (xs : Arguments) → e ≡ code.Apply f v s → t ≡ tree_of f.value → xs ≡ arguments (map argument_of v.items) →
    apply t xs s ≡ tree_of e
read_apply e f v s t xs is one other =
    ap₂ (λ x y. apply x y s) one other ∙ sym (apply_view f v s) ∙ sym (ap tree_of is)

pub read_lambda : (e : Expr) (v : Vec binder_code.Binder Global) (b : Box Expr Global) (s : Span) (bs : Binders)
    (t : Tree) → e ≡ code.Lambda v b s → bs ≡ binders (map binder_of v.items) → t ≡ tree_of b.value →
    lambda bs t s ≡ tree_of e
read_lambda e v b s bs t is one other =
    ap₂ (λ x y. lambda x y s) one other ∙ sym (lambda_view v b s) ∙ sym (ap tree_of is)

pub read_do : (e : Expr) (v : Vec statement_code.Statement Global) (s : Span) (ss : Statements) →
    e ≡ code.Do v s → ss ≡ statements (map statement_of v.items) → doing ss s ≡ tree_of e
read_do e v s ss is row = ap (λ x. doing x s) row ∙ sym (do_view v s) ∙ sym (ap tree_of is)

pub ruleset parts = (
  the_lemmas,
  node_lemmas,
  common_steps,
  apply_view,
  lambda_view,
  do_view,
  let_view,
  local_view,
)
