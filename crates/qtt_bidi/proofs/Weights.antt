-- How much is left of an expression: the measure of the recursion over it.
use Rattle.std.proofs.Common.{ℕ, ◌+◌}
use Rattle.qtt_syntax.specs.Tree.{Tree, Annotation, Argument, Arguments, Binder, Binders, Statement, Statements}
use Rattle.qtt_syntax.specs.Tree.Tree.{name, number, text, universe, hole, the, apply, pi, lambda, letting, doing}
use Rattle.qtt_syntax.specs.Tree.Annotation.{untyped, typed}
use Rattle.qtt_syntax.specs.Tree.Argument.{argument}
use Rattle.qtt_syntax.specs.Tree.Arguments.{no_argument, argument_and}
use Rattle.qtt_syntax.specs.Tree.Binder.{plain, typed_binder}
use Rattle.qtt_syntax.specs.Tree.Binders.{no_binder, binder_and}
use Rattle.qtt_syntax.specs.Tree.Statement.{bind, local, run}
use Rattle.qtt_syntax.specs.Tree.Statements.{no_statement, statement_and}

-- each form weighs more than the calls that judge its parts
abbrev mutual
  pub weight : Tree → ℕ
  weight (name n) = 10
  weight (number z s) = 1
  weight (text v s) = 1
  weight (universe l ls s) = 1
  weight (hole n s) = 1
  weight (the A e s) = weight A + weight e + 5
  weight (apply f es s) = weight f + arguments_weight es + 10
  weight (pi k q x A B s) = weight A + weight B + 5
  weight (lambda bs e s) = binders_weight bs + weight e + 6
  weight (letting q x A e b s) = annotation_weight A + weight e + weight b + 6
  weight (doing ss s) = statements_weight ss + 6

  pub annotation_weight : Annotation → ℕ
  annotation_weight untyped = 0
  annotation_weight (typed A) = weight A + 2

  pub argument_weight : Argument → ℕ
  argument_weight (argument k e) = weight e

  pub arguments_weight : Arguments → ℕ
  arguments_weight no_argument = 0
  arguments_weight (argument_and a es) = argument_weight a + arguments_weight es + 1

  pub binder_weight : Binder → ℕ
  binder_weight (plain x) = 1
  binder_weight (typed_binder q x A s) = weight A + 3

  pub binders_weight : Binders → ℕ
  binders_weight no_binder = 0
  binders_weight (binder_and b bs) = binder_weight b + binders_weight bs + 3

  pub statement_weight : Statement → ℕ
  statement_weight (bind x e) = weight e + 6
  statement_weight (local q x A e s) = annotation_weight A + weight e + 6
  statement_weight (run e s) = weight e + 6

  pub statements_weight : Statements → ℕ
  statements_weight no_statement = 0
  statements_weight (statement_and t ss) = statement_weight t + statements_weight ss + 1
