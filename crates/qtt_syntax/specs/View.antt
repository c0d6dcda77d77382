-- What the trees of the code stand for.
use Rattle.std.specs.Prelude.{Option, Some, None, map, Box}
use Rattle.std.specs.Global.{Global}
use Rattle.qtt_syntax.specs.declared.expr.Expr.{Expr, Held-Expr-Let-2, None', Some', Row_of-Argument, end_of-Argument, more_of-Argument, Row_of-Binder, end_of-Binder, more_of-Binder, Row_of-Statement, end_of-Statement, more_of-Statement}
use Rattle.qtt_syntax.specs.declared.expr.Expr.TheVariants as code
use Rattle.qtt_syntax.specs.declared.expr.Argument as argument_code
use Rattle.qtt_syntax.specs.declared.expr.Argument.TheVariants as marked
use Rattle.qtt_syntax.specs.declared.expr.Binder as binder_code
use Rattle.qtt_syntax.specs.declared.expr.Binder.TheVariants as bound
use Rattle.qtt_syntax.specs.declared.expr.Mark.TheVariants.{Written, Braced, Inserted}
use Rattle.qtt_syntax.specs.declared.expr.Statement as statement_code
use Rattle.qtt_syntax.specs.declared.expr.Statement.TheVariants as step
use Rattle.qtt_syntax.specs.declared.pattern.Pattern.{Pattern, Row_of-Pattern, end_of-Pattern, more_of-Pattern}
use Rattle.qtt_syntax.specs.declared.pattern.Pattern.TheVariants as pattern
use Rattle.qtt_syntax.specs.declared.module.Param as param_code
use Rattle.qtt_syntax.specs.declared.module.ConDecl.{ConDecl}
use Rattle.qtt_syntax.specs.declared.module.Item as item_code
use Rattle.qtt_syntax.specs.declared.module.Item.TheVariants as item
use Rattle.qtt_syntax.specs.declared.module.ModuleText.{ModuleText}
use Rattle.qtt_syntax.specs.Tree.{Tree, Annotation, Argument, Arguments, Binder, Binders, Statement, Statements, Shape, Shapes, Param, Con, Item, Module}
use Rattle.qtt_syntax.specs.Tree.Tree.{name, number, text, universe, hole, the, apply, pi, lambda, letting, doing}
use Rattle.qtt_syntax.specs.Tree.Annotation.{untyped, typed}
use Rattle.qtt_syntax.specs.Tree.Argument.{argument}
use Rattle.qtt_syntax.specs.Tree.Arguments.{no_argument, argument_and}
use Rattle.qtt_syntax.specs.Tree.Binder.{plain, typed_binder}
use Rattle.qtt_syntax.specs.Tree.Binders.{no_binder, binder_and}
use Rattle.qtt_syntax.specs.Tree.Statement.{bind, local, run}
use Rattle.qtt_syntax.specs.Tree.Statements.{no_statement, statement_and}
use Rattle.qtt_syntax.specs.Tree.Shape.{variable, wildcard, constructor, dot}
use Rattle.qtt_syntax.specs.Tree.Shapes.{no_shape, shape_and}
use Rattle.qtt_syntax.specs.Tree.Param.{param}
use Rattle.qtt_syntax.specs.Tree.Con.{con}
use Rattle.qtt_syntax.specs.Tree.Item.{family, signature, clause}
use Rattle.qtt_syntax.specs.Tree.Module.{module_text}

abbrev mutual
  pub tree_of : Expr → Tree
  tree_of (code.Name n) = name n
  tree_of (code.Number n s) = number n s
  tree_of (code.Text v s) = text v.items s
  tree_of (code.Type l ls s) = universe l ls s
  tree_of (code.Hole n s) = hole n s
  tree_of (code.The' p t q e s) = the (tree_of t) (tree_of e) s
  tree_of (code.Apply' p f shape row s) = apply (tree_of f) (argument_row row) s
  tree_of (code.Pi' k m n p a q b s) = pi k m n (tree_of a) (tree_of b) s
  tree_of (code.Lambda' shape row p b s) = lambda (binder_row row) (tree_of b) s
  tree_of (code.Let' m n t p e q b s) = letting m n (annotation_of t) (tree_of e) (tree_of b) s
  tree_of (code.Do' shape row s) = doing (statement_row row) s

  pub annotation_of : Held-Expr-Let-2 → Annotation
  annotation_of None' = untyped
  annotation_of (Some' p t) = typed (tree_of t)

  pub argument_of : argument_code.Argument → Argument
  argument_of (marked.Written t) = argument Written (tree_of t)
  argument_of (marked.Braced t) = argument Braced (tree_of t)
  argument_of (marked.Inserted t) = argument Inserted (tree_of t)

  pub argument_row : {m : _} → Row_of-Argument m → Arguments
  argument_row end_of-Argument = no_argument
  argument_row (more_of-Argument a rest) = argument_and (argument_of a) (argument_row rest)

  pub binder_of : binder_code.Binder → Binder
  binder_of (bound.Plain n) = plain n
  binder_of (bound.Typed m n t s) = typed_binder m n (tree_of t) s

  pub binder_row : {m : _} → Row_of-Binder m → Binders
  binder_row end_of-Binder = no_binder
  binder_row (more_of-Binder b rest) = binder_and (binder_of b) (binder_row rest)

  pub statement_of : statement_code.Statement → Statement
  statement_of (step.Bind n e) = bind n (tree_of e)
  statement_of (step.Let' m n t e s) = local m n (annotation_of t) (tree_of e) s
  statement_of (step.Run e s) = run (tree_of e) s

  pub statement_row : {m : _} → Row_of-Statement m → Statements
  statement_row end_of-Statement = no_statement
  statement_row (more_of-Statement s rest) = statement_and (statement_of s) (statement_row rest)

-- the type in a node that may have one
abbrev pub written_type : Option (Box Expr Global) → Annotation
written_type None = untyped
written_type (Some t) = typed (tree_of t.value)

abbrev mutual
  pub shape_of : Pattern → Shape
  shape_of (pattern.Variable k n s) = variable k n s
  shape_of (pattern.Wildcard k s) = wildcard k s
  shape_of (pattern.Constructor' k h shape row s) = constructor k h (shape_row row) s
  shape_of (pattern.Dot k e s) = dot k (tree_of e) s

  pub shape_row : {m : _} → Row_of-Pattern m → Shapes
  shape_row end_of-Pattern = no_shape
  shape_row (more_of-Pattern p rest) = shape_and (shape_of p) (shape_row rest)

abbrev pub param_of : param_code.Param → Param
param_of p = param p.mult p.name (tree_of p.ty) p.span

abbrev pub con_of : ConDecl → Con
con_of c = con c.name (tree_of c.ty) c.span

abbrev pub item_of : item_code.Item → Item
item_of (item.Family f) =
    family f.name f.name_span (map param_of f.params.items) (tree_of f.ty)
    (map con_of f.constructors.items) f.span
item_of (item.Signature d) = signature d.partial d.mult d.name d.name_span (tree_of d.ty) d.span
item_of (item.Clause c) = clause c.name (map shape_of c.patterns.items) (tree_of c.side) c.span

abbrev pub module_of : ModuleText → Module
module_of m = module_text m.header m.name m.name_span m.imports.items (map item_of m.items.items)
