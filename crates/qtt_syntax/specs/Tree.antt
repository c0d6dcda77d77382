-- Trees of module texts, without where they lie in memory.
use Rattle.std.specs.Prelude.{ℕ, ℤ, Bool, List, [], ◌∷◌}
use Rattle.qtt_base.specs.declared.place.Span.{Span}
use Rattle.qtt_usage.specs.declared.mult.Mult.{Mult}
use Rattle.qtt_syntax.specs.declared.expr.Mark.{Mark}
use Rattle.qtt_syntax.specs.declared.expr.Named.{Named}
use Rattle.qtt_syntax.specs.declared.expr.Local.{Local}
use Rattle.qtt_syntax.specs.declared.module.Import.{Import}

-- Expressions. The last span is that of the form.
mutual
  pub data Tree : Type 0 where
    name : Named → Tree
    number : ℤ → Span → Tree
    text : List ℕ → Span → Tree
    universe : ℕ → Span → Span → Tree
    hole : List ℕ → Span → Tree
    the : Tree → Tree → Span → Tree
    apply : Tree → Arguments → Span → Tree
    pi : Mark → Mult → List ℕ → Tree → Tree → Span → Tree
    lambda : Binders → Tree → Span → Tree
    letting : Mult → Local → Annotation → Tree → Tree → Span → Tree
    doing : Statements → Span → Tree

  pub data Annotation : Type 0 where
    untyped : Annotation
    typed : Tree → Annotation

  pub data Argument : Type 0 where
    argument : Mark → Tree → Argument

  pub data Arguments : Type 0 where
    no_argument : Arguments
    argument_and : Argument → Arguments → Arguments

  pub data Binder : Type 0 where
    plain : Local → Binder
    typed_binder : Mult → Local → Tree → Span → Binder

  pub data Binders : Type 0 where
    no_binder : Binders
    binder_and : Binder → Binders → Binders

  pub data Statement : Type 0 where
    bind : Local → Tree → Statement
    local : Mult → Local → Annotation → Tree → Span → Statement
    run : Tree → Span → Statement

  pub data Statements : Type 0 where
    no_statement : Statements
    statement_and : Statement → Statements → Statements

abbrev pub arguments : List Argument → Arguments
arguments [] = no_argument
arguments (a ∷ more) = argument_and a (arguments more)

abbrev pub binders : List Binder → Binders
binders [] = no_binder
binders (b ∷ more) = binder_and b (binders more)

abbrev pub statements : List Statement → Statements
statements [] = no_statement
statements (s ∷ more) = statement_and s (statements more)

-- patterns
mutual
  pub data Shape : Type 0 where
    variable : Mark → List ℕ → Span → Shape
    wildcard : Mark → Span → Shape
    constructor : Mark → Named → Shapes → Span → Shape
    dot : Mark → Tree → Span → Shape

  pub data Shapes : Type 0 where
    no_shape : Shapes
    shape_and : Shape → Shapes → Shapes

abbrev pub shapes : List Shape → Shapes
shapes [] = no_shape
shapes (p ∷ more) = shape_and p (shapes more)

-- ---- items

pub data Param : Type 0 where
  param : Mult → List ℕ → Tree → Span → Param

pub data Con : Type 0 where
  con : List ℕ → Tree → Span → Con

-- the first span is that of the name, where there are two
pub data Item : Type 0 where
  family : List ℕ → Span → List Param → Tree → List Con → Span → Item
  signature : Bool → Mult → List ℕ → Span → Tree → Span → Item
  clause : List ℕ → List Shape → Tree → Span → Item

pub data Module : Type 0 where
  module_text : Span → List ℕ → Span → List Import → List Item → Module
