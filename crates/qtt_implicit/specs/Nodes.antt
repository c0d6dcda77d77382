-- What the trees of an arena stand for.
use Rattle.std.specs.Prelude.{[]}
use Rattle.qtt_base.specs.declared.place.Span.{Span}
use Rattle.qtt_syntax.specs.declared.expr.Named.{Named}
use Rattle.qtt_syntax.specs.declared.expr.Local.{Local}
use Rattle.qtt_syntax.specs.declared.expr.Target.TheVariants as target
use Rattle.qtt_syntax.specs.Tree.{Tree, Annotation, Arguments, Binders, Statements}
use Rattle.qtt_syntax.specs.Tree.Tree.{name, number, text, universe, hole, the, apply, pi, lambda, letting, doing}
use Rattle.qtt_syntax.specs.Tree.Annotation.{untyped, typed}
use Rattle.qtt_syntax.specs.Tree.Argument.{argument}
use Rattle.qtt_syntax.specs.Tree.Arguments.{no_argument, argument_and}
use Rattle.qtt_syntax.specs.Tree.Binder.{plain, typed_binder}
use Rattle.qtt_syntax.specs.Tree.Binders.{no_binder, binder_and}
use Rattle.qtt_syntax.specs.Tree.Statement.{bind, local, run}
use Rattle.qtt_syntax.specs.Tree.Statements.{no_statement, statement_and}
use Rattle.qtt_implicit.specs.declared.filling.trees.Used.{Used}
use Rattle.qtt_implicit.specs.declared.filling.trees.Bound.{Bound}
use Rattle.qtt_implicit.specs.declared.filling.trees.Node.{Node}
use Rattle.qtt_implicit.specs.declared.filling.trees.Node.TheVariants as code
use Rattle.qtt_implicit.specs.declared.filling.trees.Annotation as annotation_code
use Rattle.qtt_implicit.specs.declared.filling.trees.Annotation.TheVariants as annotated
use Rattle.qtt_implicit.specs.declared.filling.trees.Arguments as arguments_code
use Rattle.qtt_implicit.specs.declared.filling.trees.Arguments.TheVariants as given
use Rattle.qtt_implicit.specs.declared.filling.trees.Binders as binders_code
use Rattle.qtt_implicit.specs.declared.filling.trees.Binders.TheVariants as binding
use Rattle.qtt_implicit.specs.declared.filling.trees.Statements as statements_code
use Rattle.qtt_implicit.specs.declared.filling.trees.Statements.TheVariants as step

abbrev pub used_name : Used → Named
used_name n = record { path = n.path.now; target = n.target; span = n.span }

abbrev pub bound_name : Bound → Local
bound_name n = record { name = n.name.now; span = n.span }

abbrev pub unknown_at : Span → Tree
unknown_at s = name (record { path = []; target = target.Unknown; span = s })

abbrev mutual
  pub node_tree : Node → Tree
  node_tree (code.Unknown s) = unknown_at s
  node_tree (code.Name n) = name (used_name n)
  node_tree (code.Number z s) = number z s
  node_tree (code.Text v s) = text v.now s
  node_tree (code.Type l ls s) = universe l ls s
  node_tree (code.Hole n s) = hole n.now s
  node_tree (code.The' p t q e s) = the (node_tree t) (node_tree e) s
  node_tree (code.Apply' p f q xs s) = apply (node_tree f) (argument_row xs) s
  node_tree (code.Pi' k m n p a q b s) = pi k m n.now (node_tree a) (node_tree b) s
  node_tree (code.Lambda' p bs q b s) = lambda (binder_row bs) (node_tree b) s
  node_tree (code.Let' m n t p e q b s) = letting m (bound_name n) (annotation_tree t) (node_tree e) (node_tree b) s
  node_tree (code.Do' p ss s) = doing (statement_row ss) s

  pub annotation_tree : annotation_code.Annotation → Annotation
  annotation_tree annotated.Untyped = untyped
  annotation_tree (annotated.Typed' p t) = typed (node_tree t)

  pub argument_row : arguments_code.Arguments → Arguments
  argument_row given.End = no_argument
  argument_row (given.More' k p t q more) = argument_and (argument k (node_tree t)) (argument_row more)

  pub binder_row : binders_code.Binders → Binders
  binder_row binding.End = no_binder
  binder_row (binding.Plain' n p more) = binder_and (plain (bound_name n)) (binder_row more)
  binder_row (binding.Typed' m n p t s q more) =
      binder_and (typed_binder m (bound_name n) (node_tree t) s) (binder_row more)

  pub statement_row : statements_code.Statements → Statements
  statement_row step.End = no_statement
  statement_row (step.Bind' n p e q more) = statement_and (bind (bound_name n) (node_tree e)) (statement_row more)
  statement_row (step.Let' m n t p e s q more) =
      statement_and (local m (bound_name n) (annotation_tree t) (node_tree e) s) (statement_row more)
  statement_row (step.Run' p e s q more) = statement_and (run (node_tree e) s) (statement_row more)
