-- Expressions in which no hole occurs.
use Rattle.qtt_syntax.specs.Tree.{Tree, Annotation, Arguments, Binder, Binders, Statement, Statements}
use Rattle.qtt_syntax.specs.Tree.Tree.{name, number, text, universe, hole, the, apply, pi, lambda, letting, doing}
use Rattle.qtt_syntax.specs.Tree.Annotation.{untyped, typed}
use Rattle.qtt_syntax.specs.Tree.Argument.{argument}
use Rattle.qtt_syntax.specs.Tree.Arguments.{no_argument, argument_and}
use Rattle.qtt_syntax.specs.Tree.Binder.{plain, typed_binder}
use Rattle.qtt_syntax.specs.Tree.Binders.{no_binder, binder_and}
use Rattle.qtt_syntax.specs.Tree.Statement.{bind, local, run}
use Rattle.qtt_syntax.specs.Tree.Statements.{no_statement, statement_and}

abbrev mutual
  pub NoHole : Tree → Type 0
  NoHole (name n) = Unit {0}
  NoHole (number z s) = Unit {0}
  NoHole (text v s) = Unit {0}
  NoHole (universe l r s) = Unit {0}
  NoHole (hole n s) = ⊥
  NoHole (the A e s) = NoHole A × NoHole e
  NoHole (apply f es s) = NoHole f × NoHoleInArguments es
  NoHole (pi k q x A B s) = NoHole A × NoHole B
  NoHole (lambda bs e s) = NoHoleInBinders bs × NoHole e
  NoHole (letting q x A e b s) = NoHoleInAnnotation A × NoHole e × NoHole b
  NoHole (doing ss s) = NoHoleInStatements ss

  pub NoHoleInAnnotation : Annotation → Type 0
  NoHoleInAnnotation untyped = Unit {0}
  NoHoleInAnnotation (typed A) = NoHole A

  pub NoHoleInArguments : Arguments → Type 0
  NoHoleInArguments no_argument = Unit {0}
  NoHoleInArguments (argument_and (argument k e) es) = NoHole e × NoHoleInArguments es

  pub NoHoleInBinder : Binder → Type 0
  NoHoleInBinder (plain x) = Unit {0}
  NoHoleInBinder (typed_binder q x A s) = NoHole A

  pub NoHoleInBinders : Binders → Type 0
  NoHoleInBinders no_binder = Unit {0}
  NoHoleInBinders (binder_and b bs) = NoHoleInBinder b × NoHoleInBinders bs

  pub NoHoleInStatement : Statement → Type 0
  NoHoleInStatement (bind x e) = NoHole e
  NoHoleInStatement (local q x A e s) = NoHoleInAnnotation A × NoHole e
  NoHoleInStatement (run e s) = NoHole e

  pub NoHoleInStatements : Statements → Type 0
  NoHoleInStatements no_statement = Unit {0}
  NoHoleInStatements (statement_and t ss) = NoHoleInStatement t × NoHoleInStatements ss
