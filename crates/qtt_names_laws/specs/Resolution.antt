-- A text beside the text whose names have their targets: rule by rule, what each name sees at its place.
use Rattle.std.specs.Prelude.{◌≡◌, ℕ, ℤ, Bool, ◌⊎◌, List, [], ◌∷◌, ◌++◌, Option, Some, None}
use Rattle.qtt_base.specs.declared.place.ModuleId.{ModuleId}
use Rattle.qtt_base.specs.declared.place.Span.{Span}
use Rattle.qtt_usage.specs.declared.mult.Mult.{Mult}
use Rattle.qtt_syntax.specs.declared.expr.Local.{Local}
use Rattle.qtt_syntax.specs.declared.expr.Mark.{Mark}
use Rattle.qtt_syntax.specs.declared.expr.Named.{Named}
use Rattle.qtt_syntax.specs.declared.expr.Target.{Target}
use Rattle.qtt_syntax.specs.declared.module.Import.{Import}
use Rattle.qtt_syntax.specs.Tree.{Tree, Annotation, Argument, Arguments, Binder, Binders, Statement, Statements, Shape, Shapes, Param, Con, Item, Module}
use Rattle.qtt_syntax.specs.Tree.Tree.{name, number, text, universe, hole, the, apply, pi, lambda, letting, doing}
use Rattle.qtt_syntax.specs.Tree.Annotation.{untyped, typed}
use Rattle.qtt_syntax.specs.Tree.Argument.{argument}
use Rattle.qtt_syntax.specs.Tree.Arguments.{no_argument, argument_and}
use Rattle.qtt_syntax.specs.Tree.Binder.{plain, typed_binder}
use Rattle.qtt_syntax.specs.Tree.Binders.{no_binder, binder_and}
use Rattle.qtt_syntax.specs.Tree.Statement.{bind, local, run}
use Rattle.qtt_syntax.specs.Tree.Statements.{no_statement, statement_and}
use Rattle.qtt_syntax.specs.Tree.Shape.{variable, wildcard, constructor, dot}
use Rattle.qtt_syntax.specs.Tree.Shapes.{no_shape, shape_and}
use Rattle.qtt_syntax.specs.Tree.Param.{param}
use Rattle.qtt_syntax.specs.Tree.Con.{con}
use Rattle.qtt_syntax.specs.Tree.Item.{family, signature, clause}
use Rattle.qtt_syntax.specs.Tree.Module.{module_text}
use Rattle.qtt_names.specs.PrimNames.{prim_import}
use Rattle.qtt_names.specs.Scope.{Imported}
use Rattle.qtt_names_laws.specs.Sight.{Place, Sort, Absent, Entry, names, Sees}
use Rattle.qtt_names_laws.specs.Places.{under, under_all, bare, after, after_all, declares, under_binder, under_binders, behind_statement, under_index, under_param, under_params, con_name, binds, clause_binds, hole_of, hole_names}

abbrev pub seeing : Named → Target → Named
seeing n t = record { path = n.path; target = t; span = n.span }

-- a used name gets the target that it sees
pub data NameResolves (p : Place) (n : Named) : Named → Type 0 where
  sees : {t : Target} → Sees p n.path t → NameResolves p n (seeing n t)

-- ---- expressions

mutual
  pub data Resolves : Place → Tree → Tree → Type 0 where
    a_name : {p : Place} {n n' : Named} → NameResolves p n n' → Resolves p (name n) (name n')
    a_number : {p : Place} {v : ℤ} {s : Span} → Resolves p (number v s) (number v s)
    a_text : {p : Place} {v : List ℕ} {s : Span} → Resolves p (text v s) (text v s)
    a_universe : {p : Place} {l : ℕ} {ls s : Span} → Resolves p (universe l ls s) (universe l ls s)
    a_hole : {p : Place} {n : List ℕ} {s : Span} → Resolves p (hole n s) (hole n s)
    a_typing : {p : Place} {t t' e e' : Tree} {s : Span} → Resolves p t t' → Resolves p e e' →
        Resolves p (the t e s) (the t' e' s)
    an_application : {p : Place} {f f' : Tree} {xs xs' : Arguments} {s : Span} → Resolves p f f' →
        ArgumentsResolve p xs xs' → Resolves p (apply f xs s) (apply f' xs' s)
    a_pi : {p : Place} {k : Mark} {m : Mult} {n : List ℕ} {a a' b b' : Tree} {s : Span} → Resolves p a a' →
        Resolves (under p n) b b' → Resolves p (pi k m n a b s) (pi k m n a' b' s)
    a_lambda : {p : Place} {bs bs' : Binders} {b b' : Tree} {s : Span} → BindersResolve p bs bs' →
        Resolves (under_binders p bs) b b' → Resolves p (lambda bs b s) (lambda bs' b' s)
    a_let : {p : Place} {m : Mult} {n : Local} {t t' : Annotation} {e e' b b' : Tree} {s : Span} →
        AnnotationResolves p t t' → Resolves p e e' → Resolves (under p n.name) b b' →
        Resolves p (letting m n t e b s) (letting m n t' e' b' s)
    a_do : {p : Place} {ss ss' : Statements} {s : Span} → StatementsResolve p ss ss' →
        Resolves p (doing ss s) (doing ss' s)

  pub data AnnotationResolves : Place → Annotation → Annotation → Type 0 where
    no_type : {p : Place} → AnnotationResolves p untyped untyped
    a_type : {p : Place} {t t' : Tree} → Resolves p t t' → AnnotationResolves p (typed t) (typed t')

  pub data ArgumentResolves : Place → Argument → Argument → Type 0 where
    an_argument : {p : Place} {k : Mark} {e e' : Tree} → Resolves p e e' →
        ArgumentResolves p (argument k e) (argument k e')

  pub data ArgumentsResolve : Place → Arguments → Arguments → Type 0 where
    no_arguments : {p : Place} → ArgumentsResolve p no_argument no_argument
    argument_and_more : {p : Place} {a a' : Argument} {more more' : Arguments} → ArgumentResolves p a a' →
        ArgumentsResolve p more more' → ArgumentsResolve p (argument_and a more) (argument_and a' more')

  pub data BinderResolves : Place → Binder → Binder → Type 0 where
    by_name : {p : Place} {n : Local} → BinderResolves p (plain n) (plain n)
    by_type : {p : Place} {m : Mult} {n : Local} {t t' : Tree} {s : Span} → Resolves p t t' →
        BinderResolves p (typed_binder m n t s) (typed_binder m n t' s)

  -- each binder stands under those before it
  pub data BindersResolve : Place → Binders → Binders → Type 0 where
    no_binders : {p : Place} → BindersResolve p no_binder no_binder
    binder_and_more : {p : Place} {b b' : Binder} {more more' : Binders} → BinderResolves p b b' →
        BindersResolve (under_binder p b) more more' → BindersResolve p (binder_and b more) (binder_and b' more')

  pub data StatementResolves : Place → Statement → Statement → Type 0 where
    a_bind : {p : Place} {n : Local} {e e' : Tree} → Resolves p e e' → StatementResolves p (bind n e) (bind n e')
    a_let_statement : {p : Place} {m : Mult} {n : Local} {t t' : Annotation} {e e' : Tree} {s : Span} →
        AnnotationResolves p t t' → Resolves p e e' → StatementResolves p (local m n t e s) (local m n t' e' s)
    a_run : {p : Place} {e e' : Tree} {s : Span} → Resolves p e e' → StatementResolves p (run e s) (run e' s)

  -- each statement stands behind what those before it bind
  pub data StatementsResolve : Place → Statements → Statements → Type 0 where
    no_statements : {p : Place} → StatementsResolve p no_statement no_statement
    statement_and_more : {p : Place} {s s' : Statement} {more more' : Statements} → StatementResolves p s s' →
        StatementsResolve (behind_statement p s) more more' →
        StatementsResolve p (statement_and s more) (statement_and s' more')

-- ---- patterns

-- A pattern at a place under all variables of its clause, behind those variables of the clause that stand before it.
-- A variable is new; a dot pattern sees all variables; the name of a constructor sees none.
mutual
  pub data ShapeResolves : Place → List (List ℕ) → Shape → Shape → Type 0 where
    a_variable : {p : Place} {before : List (List ℕ)} {k : Mark} {n : List ℕ} {s : Span} → Absent n before →
        ShapeResolves p before (variable k n s) (variable k n s)
    a_wildcard : {p : Place} {before : List (List ℕ)} {k : Mark} {s : Span} →
        ShapeResolves p before (wildcard k s) (wildcard k s)
    a_constructor : {p : Place} {before : List (List ℕ)} {k : Mark} {h h' : Named} {ps ps' : Shapes} {s : Span} →
        NameResolves (bare p) h h' → ShapesResolve p before ps ps' →
        ShapeResolves p before (constructor k h ps s) (constructor k h' ps' s)
    a_dot : {p : Place} {before : List (List ℕ)} {k : Mark} {e e' : Tree} {s : Span} → Resolves p e e' →
        ShapeResolves p before (dot k e s) (dot k e' s)

  pub data ShapesResolve : Place → List (List ℕ) → Shapes → Shapes → Type 0 where
    no_shapes : {p : Place} {before : List (List ℕ)} → ShapesResolve p before no_shape no_shape
    shape_and_more : {p : Place} {before : List (List ℕ)} {a a' : Shape} {more more' : Shapes} →
        ShapeResolves p before a a' → ShapesResolve p (before ++ binds a) more more' →
        ShapesResolve p before (shape_and a more) (shape_and a' more')

pub data PatternsResolve : Place → List (List ℕ) → List Shape → List Shape → Type 0 where
  no_more : {p : Place} {before : List (List ℕ)} → PatternsResolve p before [] []
  and_more : {p : Place} {before : List (List ℕ)} {a a' : Shape} {more more' : List Shape} →
      ShapeResolves p before a a' → PatternsResolve p (before ++ binds a) more more' →
      PatternsResolve p before (a ∷ more) (a' ∷ more')

-- ---- items

pub data ParamResolves (p : Place) : Param → Param → Type 0 where
  a_param : {m : Mult} {n : List ℕ} {t t' : Tree} {s : Span} → Resolves p t t' →
      ParamResolves p (param m n t s) (param m n t' s)

-- each parameter stands under those before it
pub data ParamsResolve : Place → List Param → List Param → Type 0 where
  no_more : {p : Place} → ParamsResolve p [] []
  and_more : {p : Place} {a a' : Param} {more more' : List Param} → ParamResolves p a a' →
      ParamsResolve (under_param p a) more more' → ParamsResolve p (a ∷ more) (a' ∷ more')

abbrev pub IsEnd : Tree → Type 0
IsEnd (pi k m n a b s) = ⊥
IsEnd _ = Unit {0}

-- the type of a family: a chain of binders for the indices, and an end
pub data ChainResolves : Place → Tree → Tree → Type 0 where
  an_index : {p : Place} {k : Mark} {m : Mult} {n : List ℕ} {a a' b b' : Tree} {s : Span} → Resolves p a a' →
      ChainResolves (under_index p) b b' → ChainResolves p (pi k m n a b s) (pi k m n a' b' s)
  an_end : {p : Place} {t t' : Tree} → IsEnd t → Resolves p t t' → ChainResolves p t t'

-- a constructor, whose name is not taken
pub data ConResolves (p : Place) (taken : List (List ℕ)) : Con → Con → Type 0 where
  a_con : {n : List ℕ} {t t' : Tree} {s : Span} → Absent n taken → Resolves p t t' →
      ConResolves p taken (con n t s) (con n t' s)

-- constructors take their names in turn, and their types don't see one another
pub data ConsResolve : Place → List (List ℕ) → List Con → List Con → Type 0 where
  no_more : {p : Place} {taken : List (List ℕ)} → ConsResolve p taken [] []
  and_more : {p : Place} {taken : List (List ℕ)} {c c' : Con} {more more' : List Con} → ConResolves p taken c c' →
      ConsResolve p (taken ++ con_name c ∷ []) more more' → ConsResolve p taken (c ∷ more) (c' ∷ more')

-- what stands before an item: its place, the name of a clause directly before it, and the names of all clauses and
-- of all holes before it
pub record Before : Type 0 where
  pub place : Place
  pub last : Option (List ℕ)
  pub clauses : List (List ℕ)
  pub holes : List (List ℕ)

-- a clause stands directly behind one of its name, or no clause before it has its name
abbrev pub GoesOnOrBegins : Option (List ℕ) → List (List ℕ) → List ℕ → Type 0
GoesOnOrBegins last clauses n = (last ≡ Some n) ⊎ Absent n clauses

-- a hole is the first of its name
abbrev pub IsNewHole : List (List ℕ) → Option Local → Type 0
IsNewHole holes None = Unit {0}
IsNewHole holes (Some h) = Absent h.name holes

pub data ItemResolves (b : Before) : Item → Item → Type 0 where
  a_family : {n : List ℕ} {ns : Span} {ps ps' : List Param} {t t' : Tree} {cs cs' : List Con} {s : Span} →
      Absent n (names b.place.earlier) → ParamsResolve b.place ps ps' →
      ChainResolves (under_params b.place ps) t t' →
      ConsResolve (under_params (after b.place n Sort.family) ps) (names b.place.earlier ++ n ∷ []) cs cs' →
      ItemResolves b (family n ns ps t cs s) (family n ns ps' t' cs' s)
  a_signature : {q : Bool} {m : Mult} {n : List ℕ} {ns : Span} {t t' : Tree} {s : Span} →
      Absent n (names b.place.earlier) → Resolves b.place t t' →
      ItemResolves b (signature q m n ns t s) (signature q m n ns t' s)
  a_clause : {n : List ℕ} {ps ps' : List Shape} {e e' : Tree} {s : Span} →
      Entry n Sort.definition b.place.earlier → GoesOnOrBegins b.last b.clauses n →
      PatternsResolve (under_all b.place (clause_binds ps)) [] ps ps' →
      Resolves (under_all b.place (clause_binds ps)) e e' → IsNewHole b.holes (hole_of e) →
      ItemResolves b (clause n ps e s) (clause n ps' e' s)

-- behind an item
abbrev pub behind : Before → Item → Before
behind b (clause n ps e s) = record {
  place = b.place;
  last = Some n;
  clauses = b.clauses ++ n ∷ [];
  holes = b.holes ++ hole_names (hole_of e);
}
behind b (family n ns ps t cs s) = record {
  place = after_all b.place (declares (family n ns ps t cs s));
  last = None;
  clauses = b.clauses;
  holes = b.holes;
}
behind b (signature q m n ns t s) = record {
  place = after_all b.place (declares (signature q m n ns t s));
  last = None;
  clauses = b.clauses;
  holes = b.holes;
}

pub data ItemsResolve : Before → List Item → List Item → Type 0 where
  no_more : {b : Before} → ItemsResolve b [] []
  and_more : {b : Before} {i i' : Item} {more more' : List Item} → ItemResolves b i i' →
      ItemsResolve (behind b i) more more' → ItemsResolve b (i ∷ more) (i' ∷ more')

-- ---- texts

-- before the first item of the module of this number and name, which imports these
abbrev pub start : ModuleId → List ℕ → List Imported → Before
start home n imports = record {
  place = record { home = home; name = n; earlier = []; binders = []; imports = prim_import ∷ imports };
  last = None;
  clauses = [];
  holes = [];
}

pub data TextResolves (home : ModuleId) (imports : List Imported) : Module → Module → Type 0 where
  a_text : {h ns : Span} {n : List ℕ} {is : List Import} {items items' : List Item} →
      ItemsResolve (start home n imports) items items' →
      TextResolves home imports (module_text h n ns is items) (module_text h n ns is items')
