-- Trees but for their places.
use Rattle.std.specs.Prelude.{map}
use Rattle.qtt_syntax.specs.declared.expr.Named.{Named}
use Rattle.qtt_syntax.specs.declared.expr.Local.{Local}
use Rattle.qtt_syntax.specs.declared.module.Import.{Import}
use Rattle.qtt_syntax.specs.Tree.{Tree, Annotation, Argument, Arguments, Binder, Binders, Statement, Statements, Shape, Shapes, Param, Con, Item, Module}
use Rattle.qtt_syntax.specs.Tree.Tree.{name, number, text, universe, hole, the, apply, pi, lambda, letting, doing}
use Rattle.qtt_syntax.specs.Tree.Annotation.{untyped, typed}
use Rattle.qtt_syntax.specs.Tree.Argument.{argument}
use Rattle.qtt_syntax.specs.Tree.Arguments.{no_argument, argument_and}
use Rattle.qtt_syntax.specs.Tree.Binder.{plain, typed_binder}
use Rattle.qtt_syntax.specs.Tree.Binders.{no_binder, binder_and}
use Rattle.qtt_syntax.specs.Tree.Statement.{bind, local, run}
use Rattle.qtt_syntax.specs.Tree.Statements.{no_statement, statement_and}
use Rattle.qtt_syntax.specs.Tree.Shape.{variable, wildcard, constructor, dot}
use Rattle.qtt_syntax.specs.Tree.Shapes.{no_shape, shape_and}
use Rattle.qtt_syntax.specs.Tree.Param.{param}
use Rattle.qtt_syntax.specs.Tree.Con.{con}
use Rattle.qtt_syntax.specs.Tree.Item.{family, signature, clause}
use Rattle.qtt_syntax.specs.Tree.Module.{module_text}
use Rattle.qtt_reprint.specs.Sketch.{nowhere}

abbrev pub bare_named : Named → Named
bare_named n = record { path = n.path; target = n.target; span = nowhere }

abbrev pub bare_local : Local → Local
bare_local n = record { name = n.name; span = nowhere }

abbrev mutual
  pub bare : Tree → Tree
  bare (name n) = name (bare_named n)
  bare (number z s) = number z nowhere
  bare (text v s) = text v nowhere
  bare (universe l ls s) = universe l nowhere nowhere
  bare (hole n s) = hole n nowhere
  bare (the t e s) = the (bare t) (bare e) nowhere
  bare (apply f args s) = apply (bare f) (bare_arguments args) nowhere
  bare (pi k m n a b s) = pi k m n (bare a) (bare b) nowhere
  bare (lambda bs t s) = lambda (bare_binders bs) (bare t) nowhere
  bare (letting m n t e b s) = letting m (bare_local n) (bare_annotation t) (bare e) (bare b) nowhere
  bare (doing ss s) = doing (bare_statements ss) nowhere

  pub bare_annotation : Annotation → Annotation
  bare_annotation untyped = untyped
  bare_annotation (typed t) = typed (bare t)

  pub bare_argument : Argument → Argument
  bare_argument (argument k t) = argument k (bare t)

  pub bare_arguments : Arguments → Arguments
  bare_arguments no_argument = no_argument
  bare_arguments (argument_and a more) = argument_and (bare_argument a) (bare_arguments more)

  pub bare_binder : Binder → Binder
  bare_binder (plain n) = plain (bare_local n)
  bare_binder (typed_binder m n t s) = typed_binder m (bare_local n) (bare t) nowhere

  pub bare_binders : Binders → Binders
  bare_binders no_binder = no_binder
  bare_binders (binder_and b more) = binder_and (bare_binder b) (bare_binders more)

  pub bare_statement : Statement → Statement
  bare_statement (bind n t) = bind (bare_local n) (bare t)
  bare_statement (local m n t e s) = local m (bare_local n) (bare_annotation t) (bare e) nowhere
  bare_statement (run t s) = run (bare t) nowhere

  pub bare_statements : Statements → Statements
  bare_statements no_statement = no_statement
  bare_statements (statement_and s more) = statement_and (bare_statement s) (bare_statements more)

abbrev mutual
  pub bare_shape : Shape → Shape
  bare_shape (variable k n s) = variable k n nowhere
  bare_shape (wildcard k s) = wildcard k nowhere
  bare_shape (constructor k n ps s) = constructor k (bare_named n) (bare_shapes ps) nowhere
  bare_shape (dot k t s) = dot k (bare t) nowhere

  pub bare_shapes : Shapes → Shapes
  bare_shapes no_shape = no_shape
  bare_shapes (shape_and p more) = shape_and (bare_shape p) (bare_shapes more)

abbrev pub bare_param : Param → Param
bare_param (param m n t s) = param m n (bare t) nowhere

abbrev pub bare_con : Con → Con
bare_con (con n t s) = con n (bare t) nowhere

abbrev pub bare_item : Item → Item
bare_item (family n ns ps t cs s) = family n nowhere (map bare_param ps) (bare t) (map bare_con cs) nowhere
bare_item (signature p m n ns t s) = signature p m n nowhere (bare t) nowhere
bare_item (clause n ps side s) = clause n (map bare_shape ps) (bare side) nowhere

abbrev pub bare_import : Import → Import
bare_import i = record { name = i.name; span = nowhere }

abbrev pub bare_module : Module → Module
bare_module (module_text s n ns is ts) = module_text nowhere n nowhere (map bare_import is) (map bare_item ts)
