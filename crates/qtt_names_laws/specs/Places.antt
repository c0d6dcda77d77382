-- The places of a text: what each part of it puts around the parts behind it.
use Rattle.std.specs.Prelude.{ℕ, List, [], ◌∷◌, ◌++◌, map, codes, Option, Some, None}
use Rattle.std.specs.List.{flat_map}
use Rattle.qtt_syntax.specs.declared.expr.Local.{Local}
use Rattle.qtt_syntax.specs.Tree.{Tree, Binder, Binders, Statement, Statements, Shape, Shapes, Param, Con, Item, Module}
use Rattle.qtt_syntax.specs.Tree.Binder.{plain, typed_binder}
use Rattle.qtt_syntax.specs.Tree.Binders.{no_binder, binder_and}
use Rattle.qtt_syntax.specs.Tree.Statement.{bind, local, run}
use Rattle.qtt_syntax.specs.Tree.Statements.{no_statement, statement_and}
use Rattle.qtt_syntax.specs.Tree.Tree.{hole, lambda, letting, doing}
use Rattle.qtt_syntax.specs.Tree.Shape.{variable, wildcard, constructor, dot}
use Rattle.qtt_syntax.specs.Tree.Shapes.{no_shape, shape_and}
use Rattle.qtt_syntax.specs.Tree.Param.{param}
use Rattle.qtt_syntax.specs.Tree.Con.{con}
use Rattle.qtt_syntax.specs.Tree.Item.{family, signature, clause}
use Rattle.qtt_syntax.specs.Tree.Module.{module_text}
use Rattle.qtt_names_laws.specs.Sight.{Place, Sort}

abbrev pub constructor_of : Con → List ℕ × Sort
constructor_of (con n t s) = (n, Sort.constructor)

-- the items that a part of a text declares: a family and then its constructors, or a definition by its signature
abbrev pub declares : Item → List (List ℕ × Sort)
declares (family n ns ps t cs s) = (n, Sort.family) ∷ map constructor_of cs
declares (signature p m n ns t s) = (n, Sort.definition) ∷ []
declares (clause n ps side s) = []

abbrev pub items_of : Module → List (List ℕ × Sort)
items_of (module_text h n ns is items) = flat_map declares items

abbrev pub name_of : Module → List ℕ
name_of (module_text h n ns is items) = n

-- under one more binder
abbrev pub under : Place → List ℕ → Place
under p n = record p { binders = n ∷ p.binders }

-- under more binders, the newest last
abbrev pub under_all : Place → List (List ℕ) → Place
under_all p [] = p
under_all p (n ∷ more) = under_all (under p n) more

-- where no binder counts
abbrev pub bare : Place → Place
bare p = record p { binders = [] }

-- behind more items of the module
abbrev pub after_all : Place → List (List ℕ × Sort) → Place
after_all p items = record p { earlier = p.earlier ++ items }

abbrev pub after : Place → List ℕ → Sort → Place
after p n k = after_all p ((n, k) ∷ [])

abbrev pub under_binder : Place → Binder → Place
under_binder p (plain n) = under p n.name
under_binder p (typed_binder m n t s) = under p n.name

-- in the body of a `\`
abbrev pub under_binders : Place → Binders → Place
under_binders p no_binder = p
under_binders p (binder_and b more) = under_binders (under_binder p b) more

-- behind a statement of a `do`
abbrev pub behind_statement : Place → Statement → Place
behind_statement p (bind n e) = under p n.name
behind_statement p (local m n t e s) = under p n.name
behind_statement p (run e s) = p

-- an index of a family is counted, and has no name
abbrev pub under_index : Place → Place
under_index p = under p (codes "_")

abbrev pub under_param : Place → Param → Place
under_param p (param m n t s) = under p n

-- behind the parameters of a family
abbrev pub under_params : Place → List Param → Place
under_params p [] = p
under_params p (a ∷ more) = under_params (under_param p a) more

abbrev pub con_name : Con → List ℕ
con_name (con n t s) = n

-- ---- variables of patterns

abbrev mutual
  -- the variables of a pattern, in text order
  pub binds : Shape → List (List ℕ)
  binds (variable k n s) = n ∷ []
  binds (wildcard k s) = []
  binds (constructor k h ps s) = all_bind ps
  binds (dot k e s) = []

  pub all_bind : Shapes → List (List ℕ)
  all_bind no_shape = []
  all_bind (shape_and a more) = binds a ++ all_bind more

-- the variables of a clause
abbrev pub clause_binds : List Shape → List (List ℕ)
clause_binds [] = []
clause_binds (a ∷ more) = binds a ++ clause_binds more

-- ---- holes

abbrev mutual
  -- the hole in tail position, the only place where one stands
  pub hole_of : Tree → Option Local
  hole_of (hole n s) = Some (record { name = n; span = s })
  hole_of (lambda bs b s) = hole_of b
  hole_of (letting m n t e b s) = hole_of b
  hole_of (doing ss s) = hole_of_last ss
  hole_of _ = None

  pub hole_of_last : Statements → Option Local
  hole_of_last no_statement = None
  hole_of_last (statement_and s no_statement) = hole_of_statement s
  hole_of_last (statement_and s (statement_and t more)) = hole_of_last (statement_and t more)

  pub hole_of_statement : Statement → Option Local
  hole_of_statement (run e s) = hole_of e
  hole_of_statement _ = None

abbrev pub hole_names : Option Local → List (List ℕ)
hole_names None = []
hole_names (Some h) = h.name ∷ []
