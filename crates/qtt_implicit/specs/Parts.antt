-- The parts of rows, as lists.
use Rattle.std.specs.Prelude.{List, [], ◌∷◌}
use Rattle.qtt_syntax.specs.Tree.{Argument, Arguments, Binder, Binders, Statement, Statements}
use Rattle.qtt_syntax.specs.Tree.Arguments.{no_argument, argument_and}
use Rattle.qtt_syntax.specs.Tree.Binders.{no_binder, binder_and}
use Rattle.qtt_syntax.specs.Tree.Statements.{no_statement, statement_and}

abbrev pub argument_list : Arguments → List Argument
argument_list no_argument = []
argument_list (argument_and a more) = a ∷ argument_list more

abbrev pub binder_list : Binders → List Binder
binder_list no_binder = []
binder_list (binder_and b more) = b ∷ binder_list more

abbrev pub statement_list : Statements → List Statement
statement_list no_statement = []
statement_list (statement_and s more) = s ∷ statement_list more
