-- Writing: the parts of a tree in turn.
use Rattle.std.proofs.Common.{◌≡◌, ◌∙◌, ap, refl, map, Vec, Box}
use Rattle.std.specs.Global.{Global}
use Rattle.std.proofs.lemmas.Grind.{common_steps}
use mathlib.Core.Path.{ap₂}
use Rattle.qtt_base.specs.declared.place.Span.{Span}
use Rattle.qtt_syntax.specs.declared.expr.Expr.{Expr, the_lemmas}
use Rattle.qtt_syntax.specs.declared.expr.Expr.TheVariants as code
use Rattle.qtt_syntax.specs.declared.expr.Argument as argument_code
use Rattle.qtt_syntax.specs.declared.expr.Binder as binder_code
use Rattle.qtt_syntax.specs.declared.expr.Statement as statement_code
use Rattle.qtt_syntax.specs.View.{tree_of, argument_of, binder_of, statement_of}
use Rattle.qtt_syntax.specs.Tree.{Tree, Argument, Arguments, Binder, Binders, Statement, Statements, arguments, binders, statements}
use Rattle.qtt_syntax.specs.Tree.Tree.{apply, lambda, doing}
use Rattle.qtt_syntax.specs.Tree.Arguments.{no_argument, argument_and}
use Rattle.qtt_syntax.specs.Tree.Binders.{no_binder, binder_and}
use Rattle.qtt_syntax.specs.Tree.Statements.{no_statement, statement_and}
use Rattle.qtt_syntax.proofs.Rows.{apply_view, lambda_view, do_view, let_view, local_view}
use Rattle.qtt_implicit.specs.declared.filling.trees.Node.{the_lemmas as node_lemmas}
use Rattle.qtt_implicit.specs.Parts.{argument_list, binder_list, statement_list}

pub arguments_listed : (xs : Arguments) → arguments (argument_list xs) ≡ xs
arguments_listed no_argument = refl
arguments_listed (argument_and a more) = ap (argument_and a) (arguments_listed more)

pub binders_listed : (bs : Binders) → binders (binder_list bs) ≡ bs
binders_listed no_binder = refl
binders_listed (binder_and b more) = ap (binder_and b) (binders_listed more)

pub statements_listed : (ss : Statements) → statements (statement_list ss) ≡ ss
statements_listed no_statement = refl
statements_listed (statement_and s more) = ap (statement_and s) (statements_listed more)

-- ---- forms with rows of parts
pub written_apply : (f : Box Expr Global) (v : Vec argument_code.Argument Global) (s : Span) (t : Tree)
    (xs : Arguments) → tree_of f.value ≡ t → map argument_of v.items ≡ argument_list xs →
    tree_of (code.Apply f v s) ≡ apply t xs s
written_apply f v s t xs one other =
    apply_view f v s ∙ ap₂ (λ x y. apply x y s) one (ap arguments other ∙ arguments_listed xs)

pub written_lambda : (v : Vec binder_code.Binder Global) (b : Box Expr Global) (s : Span) (bs : Binders) (t : Tree) →
    map binder_of v.items ≡ binder_list bs → tree_of b.value ≡ t → tree_of (code.Lambda v b s) ≡ lambda bs t s
written_lambda v b s bs t one other =
    lambda_view v b s ∙ ap₂ (λ x y. lambda x y s) (ap binders one ∙ binders_listed bs) other

pub written_do : (v : Vec statement_code.Statement Global) (s : Span) (ss : Statements) →
    map statement_of v.items ≡ statement_list ss → tree_of (code.Do v s) ≡ doing ss s
written_do v s ss row = do_view v s ∙ ap (λ x. doing x s) (ap statements row ∙ statements_listed ss)

pub ruleset parts = (
  the_lemmas,
  node_lemmas,
  common_steps,
  apply_view,
  lambda_view,
  do_view,
  let_view,
  local_view,
  arguments_listed,
  binders_listed,
  statements_listed,
)
