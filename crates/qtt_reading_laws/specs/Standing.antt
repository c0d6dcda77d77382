-- Trees whose every place is one of these.
use Rattle.std.specs.Prelude.{◌≡◌, List, [], ◌∷◌, codes}
use Rattle.qtt_base.specs.declared.place.Span.{Span}
use Rattle.qtt_usage.specs.declared.mult.Mult.TheVariants.{Many}
use Rattle.qtt_syntax.specs.declared.expr.Mark.TheVariants.{Written}
use Rattle.qtt_syntax.specs.declared.module.Import.{Import}
use Rattle.qtt_syntax.specs.Tree.{Tree, Annotation, Argument, Arguments, Binder, Binders, Statement, Statements, Shape, Shapes, Param, Con, Item, Module}
use Rattle.qtt_syntax.specs.Tree.Tree.{name, number, text, universe, hole, the, apply, pi, lambda, letting, doing}
use Rattle.qtt_syntax.specs.Tree.Annotation.{untyped, typed}
use Rattle.qtt_syntax.specs.Tree.Argument.{argument}
use Rattle.qtt_syntax.specs.Tree.Arguments.{no_argument, argument_and}
use Rattle.qtt_syntax.specs.Tree.Binder.{plain, typed_binder}
use Rattle.qtt_syntax.specs.Tree.Binders.{no_binder, binder_and}
use Rattle.qtt_syntax.specs.Tree.Statement.{bind, local, run}
use Rattle.qtt_syntax.specs.Tree.Statements.{no_statement, statement_and}
use Rattle.qtt_syntax.specs.Tree.Shape.{variable, wildcard, constructor, dot}
use Rattle.qtt_syntax.specs.Tree.Shapes.{no_shape, shape_and}
use Rattle.qtt_syntax.specs.Tree.Param.{param}
use Rattle.qtt_syntax.specs.Tree.Con.{con}
use Rattle.qtt_syntax.specs.Tree.Item.{family, signature, clause}
use Rattle.qtt_syntax.specs.Tree.Module.{module_text}

-- it holds of each
abbrev pub Each : {A : Type 0} → (A → Type 0) → List A → Type 0
Each R [] = Unit {0}
Each R (a ∷ more) = R a × Each R more

-- trees of which P holds at each place
module _ (P : Span → Type 0) where
  abbrev mutual
    pub Stands : Tree → Type 0
    Stands (name n) = P n.span
    Stands (number z s) = P s
    Stands (text v s) = P s
    Stands (universe l ls s) = P ls × P s
    Stands (hole n s) = P s
    Stands (the t e s) = Stands t × Stands e × P s
    Stands (apply f args s) = Stands f × Arguments_stand args × P s
    Stands (pi k m n a b s) = Stands a × Stands b × P s
    Stands (lambda bs t s) = Binders_stand bs × Stands t × P s
    Stands (letting m n t e b s) = P n.span × Annotation_stands t × Stands e × Stands b × P s
    Stands (doing ss s) = Statements_stand ss × P s

    pub Annotation_stands : Annotation → Type 0
    Annotation_stands untyped = Unit {0}
    Annotation_stands (typed t) = Stands t

    pub Argument_stands : Argument → Type 0
    Argument_stands (argument k t) = Stands t

    pub Arguments_stand : Arguments → Type 0
    Arguments_stand no_argument = Unit {0}
    Arguments_stand (argument_and a more) = Argument_stands a × Arguments_stand more

    pub Binder_stands : Binder → Type 0
    Binder_stands (plain n) = P n.span
    Binder_stands (typed_binder m n t s) = P n.span × Stands t × P s

    pub Binders_stand : Binders → Type 0
    Binders_stand no_binder = Unit {0}
    Binders_stand (binder_and b more) = Binder_stands b × Binders_stand more

    pub Statement_stands : Statement → Type 0
    Statement_stands (bind n t) = P n.span × Stands t
    Statement_stands (local m n t e s) = P n.span × Annotation_stands t × Stands e × P s
    Statement_stands (run t s) = Stands t × P s

    pub Statements_stand : Statements → Type 0
    Statements_stand no_statement = Unit {0}
    Statements_stand (statement_and s more) = Statement_stands s × Statements_stand more

  abbrev mutual
    pub Shape_stands : Shape → Type 0
    Shape_stands (variable k n s) = P s
    Shape_stands (wildcard k s) = P s
    Shape_stands (constructor k n ps s) = P n.span × Shapes_stand ps × P s
    Shape_stands (dot k t s) = Stands t × P s

    pub Shapes_stand : Shapes → Type 0
    Shapes_stand no_shape = Unit {0}
    Shapes_stand (shape_and p more) = Shape_stands p × Shapes_stand more

  abbrev pub Param_stands : Param → Type 0
  Param_stands (param m n t s) = Stands t × P s

  abbrev pub Con_stands : Con → Type 0
  Con_stands (con n t s) = Stands t × P s

  abbrev pub Item_stands : Item → Type 0
  Item_stands (family n ns ps t cs s) = P ns × Each Param_stands ps × Stands t × Each Con_stands cs × P s
  Item_stands (signature p m n ns t s) = P ns × Stands t × P s
  Item_stands (clause n ps side s) = Each Shape_stands ps × Stands side × P s

  abbrev pub Import_stands : Import → Type 0
  Import_stands i = P i.span

  abbrev pub Module_stands : Module → Type 0
  Module_stands (module_text s n ns imports items) = P s × P ns × Each Import_stands imports × Each Item_stands items

-- a header alone on the first line: its own place and that of its name
pub on_the_first_line : (a b : Span) → a.line ≡ 1 → b.line ≡ 1 →
    Module_stands (λ s. s.line ≡ 1) (module_text a (codes "Main") b [] [])
on_the_first_line a b h k = (h, k, tt, tt)

-- a function type, with the places of its parts
pub an_arrow : (a : Tree) (b : Tree) (s : Span) (P : Span → Type 0) → Stands P a → Stands P b → P s →
    Stands P (pi Written Many (codes "_") a b s)
an_arrow a b s P h k l = (h, k, l)
