-- Texts without what was filled in.
use Rattle.std.specs.Prelude.{ℕ, zero, suc, if◌then◌else◌, List, [], ◌∷◌, map, reverse}
use Rattle.qtt_base.specs.declared.place.Span.{Span}
use Rattle.qtt_syntax.specs.declared.expr.Mark.{Mark}
use Rattle.qtt_syntax.specs.declared.expr.Mark.TheVariants.{Written, Braced, Inserted}
use Rattle.qtt_syntax.specs.Tree.{Tree, Annotation, Argument, Arguments, Binder, Binders, Statement, Statements, Shape, Shapes, Param, Con, Item, Module, shapes}
use Rattle.qtt_syntax.specs.Tree.Tree.{name, number, text, universe, hole, the, apply, pi, lambda, letting, doing}
use Rattle.qtt_syntax.specs.Tree.Annotation.{untyped, typed}
use Rattle.qtt_syntax.specs.Tree.Argument.{argument}
use Rattle.qtt_syntax.specs.Tree.Arguments.{no_argument, argument_and}
use Rattle.qtt_syntax.specs.Tree.Binder.{plain, typed_binder}
use Rattle.qtt_syntax.specs.Tree.Binders.{no_binder, binder_and}
use Rattle.qtt_syntax.specs.Tree.Statement.{bind, local, run}
use Rattle.qtt_syntax.specs.Tree.Statements.{no_statement, statement_and}
use Rattle.qtt_syntax.specs.Tree.Shape.{variable, wildcard, constructor, dot}
use Rattle.qtt_syntax.specs.Tree.Shapes.{no_shape, shape_and}
use Rattle.qtt_syntax.specs.Tree.Param.{param}
use Rattle.qtt_syntax.specs.Tree.Con.{con}
use Rattle.qtt_syntax.specs.Tree.Item.{family, signature, clause}
use Rattle.qtt_syntax.specs.Tree.Module.{module_text}
use Rattle.qtt_implicit.specs.Moving.{replaced, at_binder}
use Rattle.qtt_implicit.specs.Walk.{is_inserted}
use Rattle.qtt_implicit.specs.Patterns.{all_marks, shape_list}

-- an argument in front of those that are left, unless it was inserted. A slot is filled by arguments that a text
-- writes, so that no application is left without one
abbrev pub unless_inserted : Mark → Tree → Arguments → Arguments
unless_inserted k t more = if is_inserted k then more else argument_and (argument k t) more

abbrev mutual
  pub forgotten : Tree → Tree
  forgotten (name n) = name n
  forgotten (number z s) = number z s
  forgotten (text v s) = text v s
  forgotten (universe l ls s) = universe l ls s
  forgotten (hole n s) = hole n s
  forgotten (the t e s) = the (forgotten t) (forgotten e) s
  forgotten (apply f xs s) = apply (forgotten f) (forgotten_arguments xs) s
  forgotten (pi k m n a b s) = pi k m n (forgotten a) (forgotten b) s
  forgotten (lambda bs b s) = lambda (forgotten_binders bs) (forgotten b) s
  forgotten (letting m n t e b s) = letting m n (forgotten_annotation t) (forgotten e) (forgotten b) s
  forgotten (doing ss s) = doing (forgotten_statements ss) s

  pub forgotten_annotation : Annotation → Annotation
  forgotten_annotation untyped = untyped
  forgotten_annotation (typed t) = typed (forgotten t)

  pub forgotten_argument : Argument → Arguments → Arguments
  forgotten_argument (argument k t) more = unless_inserted k (forgotten t) more

  pub forgotten_arguments : Arguments → Arguments
  forgotten_arguments no_argument = no_argument
  forgotten_arguments (argument_and a more) = forgotten_argument a (forgotten_arguments more)

  pub forgotten_binder : Binder → Binder
  forgotten_binder (plain n) = plain n
  forgotten_binder (typed_binder m n t s) = typed_binder m n (forgotten t) s

  pub forgotten_binders : Binders → Binders
  forgotten_binders no_binder = no_binder
  forgotten_binders (binder_and b more) = binder_and (forgotten_binder b) (forgotten_binders more)

  pub forgotten_statement : Statement → Statement
  forgotten_statement (bind n e) = bind n (forgotten e)
  forgotten_statement (local m n t e s) = local m n (forgotten_annotation t) (forgotten e) s
  forgotten_statement (run e s) = run (forgotten e) s

  pub forgotten_statements : Statements → Statements
  forgotten_statements no_statement = no_statement
  forgotten_statements (statement_and s more) = statement_and (forgotten_statement s) (forgotten_statements more)

-- ---- clauses
-- how many of the newest i variables were written: the number of variable i among the written ones
abbrev pub number_among : List Mark → ℕ → ℕ
number_among [] i = i
number_among (k ∷ ms) zero = zero
number_among (Inserted ∷ ms) (suc i) = number_among ms i
number_among (Written ∷ ms) (suc i) = suc (number_among ms i)
number_among (Braced ∷ ms) (suc i) = suc (number_among ms i)

-- an expression of a clause, where `renumber` gives each local name its number among the written ones
abbrev pub side_forgotten : (ℕ → ℕ) → Tree → Tree
side_forgotten renumber t = replaced (λ i n. at_binder (renumber i) n) (forgotten t)

abbrev pub variable_unless_inserted : Mark → List ℕ → Span → Shapes → Shapes
variable_unless_inserted k n s more = if is_inserted k then more else shape_and (variable k n s) more

abbrev mutual
  -- a pattern in front of those that are left
  pub shape_forgotten : (ℕ → ℕ) → Shape → Shapes → Shapes
  shape_forgotten renumber (variable k n s) more = variable_unless_inserted k n s more
  shape_forgotten renumber (wildcard k s) more = shape_and (wildcard k s) more
  shape_forgotten renumber (constructor k h ps s) more =
      shape_and (constructor k h (shapes_forgotten renumber ps) s) more
  shape_forgotten renumber (dot k e s) more = shape_and (dot k (side_forgotten renumber e) s) more

  pub shapes_forgotten : (ℕ → ℕ) → Shapes → Shapes
  shapes_forgotten renumber no_shape = no_shape
  shapes_forgotten renumber (shape_and p more) = shape_forgotten renumber p (shapes_forgotten renumber more)

-- a clause whose variables have these marks
abbrev pub clause_forgotten : List ℕ → List Mark → Shapes → Tree → Span → Item
clause_forgotten n ms ps side s =
    let renumber = number_among (reverse ms) in
    clause n (shape_list (shapes_forgotten renumber ps)) (side_forgotten renumber side) s

-- ---- items
abbrev pub param_forgotten : Param → Param
param_forgotten (param m n t s) = param m n (forgotten t) s

abbrev pub con_forgotten : Con → Con
con_forgotten (con n t s) = con n (forgotten t) s

abbrev pub item_forgotten : Item → Item
item_forgotten (family n ns ps t cs s) = family n ns (map param_forgotten ps) (forgotten t) (map con_forgotten cs) s
item_forgotten (signature p m n ns t s) = signature p m n ns (forgotten t) s
item_forgotten (clause n ps side s) = clause_forgotten n (all_marks (shapes ps)) (shapes ps) side s

abbrev pub text_forgotten : Module → Module
text_forgotten (module_text h n ns is items) = module_text h n ns is (map item_forgotten items)
