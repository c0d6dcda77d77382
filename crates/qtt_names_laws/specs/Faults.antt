-- The first fault of names in a text: what is looked at, in text order, and the first of it that is wrong.
use Rattle.std.specs.Prelude.{◌≡◌, ℕ, ◌⊎◌, List, [], ◌∷◌, ◌++◌, Option, Some, None}
use Rattle.qtt_base.specs.declared.place.ModuleId.{ModuleId}
use Rattle.qtt_base.specs.declared.place.Span.{Span}
use Rattle.qtt_syntax.specs.declared.expr.Local.{Local}
use Rattle.qtt_syntax.specs.declared.expr.Named.{Named}
use Rattle.qtt_syntax.specs.declared.expr.Target.{Target}
use Rattle.qtt_syntax.specs.Tree.{Tree, Annotation, Argument, Arguments, Binder, Binders, Statement, Statements, Shape, Shapes, Param, Con, Item, Module}
use Rattle.qtt_syntax.specs.Tree.Tree.{name, number, text, universe, hole, the, apply, pi, lambda, letting, doing}
use Rattle.qtt_syntax.specs.Tree.Annotation.{untyped, typed}
use Rattle.qtt_syntax.specs.Tree.Argument.{argument}
use Rattle.qtt_syntax.specs.Tree.Arguments.{no_argument, argument_and}
use Rattle.qtt_syntax.specs.Tree.Binder.{plain, typed_binder}
use Rattle.qtt_syntax.specs.Tree.Binders.{no_binder, binder_and}
use Rattle.qtt_syntax.specs.Tree.Statement.{bind, local, run}
use Rattle.qtt_syntax.specs.Tree.Statements.{no_statement, statement_and}
use Rattle.qtt_syntax.specs.Tree.Shape.{variable, wildcard, constructor, dot}
use Rattle.qtt_syntax.specs.Tree.Shapes.{no_shape, shape_and}
use Rattle.qtt_syntax.specs.Tree.Param.{param}
use Rattle.qtt_syntax.specs.Tree.Con.{con}
use Rattle.qtt_syntax.specs.Tree.Item.{family, signature, clause}
use Rattle.qtt_syntax.specs.Tree.Module.{module_text}
use Rattle.qtt_names.specs.Answer.{Mistake, mistake}
use Rattle.qtt_names.specs.Scope.{Imported}
use Rattle.qtt_names_laws.specs.Sight.{Place, Sort, Absent, Entry, names, Sees, SeesNothing, SeesMore}
use Rattle.qtt_names_laws.specs.Places.{under, under_all, bare, after, under_binder, under_binders, behind_statement, under_index, under_param, under_params, con_name, binds, clause_binds, hole_of}
use Rattle.qtt_names_laws.specs.Resolution.{Before, GoesOnOrBegins, behind, start}

-- what is looked at: a used name at its place; a name that is to be none of these; the name of a clause, which is to
-- be that of an earlier definition, and is to go on or begin
pub data Occurrence : Type 0 where
  use_of : Place → Named → Occurrence
  new : List (List ℕ) → List ℕ → Span → Occurrence
  defined : List (List ℕ × Sort) → List ℕ → Span → Occurrence
  grouped : Option (List ℕ) → List (List ℕ) → List ℕ → Span → Occurrence

abbrev pub Right : Occurrence → Type 0
Right (use_of p n) = (t : Target) × Sees p n.path t
Right (new before n s) = Absent n before
Right (defined earlier n s) = Entry n Sort.definition earlier
Right (grouped last clauses n s) = GoesOnOrBegins last clauses n

-- with the fault: its kind, name and place
abbrev pub Wrong : Occurrence → Mistake → Type 0
Wrong (use_of p n) m =
    (SeesNothing p n.path × (m ≡ mistake 10 n.path n.span)) ⊎ (SeesMore p n.path × (m ≡ mistake 11 n.path n.span))
Wrong (new before n s) m = (Absent n before → ⊥) × (m ≡ mistake 12 n s)
Wrong (defined earlier n s) m = (Entry n Sort.definition earlier → ⊥) × (m ≡ mistake 10 n s)
Wrong (grouped last clauses n s) m = (GoesOnOrBegins last clauses n → ⊥) × (m ≡ mistake 12 n s)

pub data AllRight : List Occurrence → Type 0 where
  none : AllRight []
  and_more : {o : Occurrence} {more : List Occurrence} → Right o → AllRight more → AllRight (o ∷ more)

pub data FirstFault (m : Mistake) : List Occurrence → Type 0 where
  here : {o : Occurrence} {more : List Occurrence} → Wrong o m → FirstFault m (o ∷ more)
  behind_right : {o : Occurrence} {more : List Occurrence} → Right o → FirstFault m more → FirstFault m (o ∷ more)

-- ---- what is looked at in expressions

abbrev mutual
  pub uses : Place → Tree → List Occurrence
  uses p (name n) = use_of p n ∷ []
  uses p (number v s) = []
  uses p (text v s) = []
  uses p (universe l ls s) = []
  uses p (hole n s) = []
  uses p (the t e s) = uses p t ++ uses p e
  uses p (apply f xs s) = uses p f ++ arguments_uses p xs
  uses p (pi k m n a b s) = uses p a ++ uses (under p n) b
  uses p (lambda bs b s) = binders_uses p bs ++ uses (under_binders p bs) b
  uses p (letting m n t e b s) = annotation_uses p t ++ (uses p e ++ uses (under p n.name) b)
  uses p (doing ss s) = statements_uses p ss

  pub annotation_uses : Place → Annotation → List Occurrence
  annotation_uses p untyped = []
  annotation_uses p (typed t) = uses p t

  pub argument_uses : Place → Argument → List Occurrence
  argument_uses p (argument k e) = uses p e

  pub arguments_uses : Place → Arguments → List Occurrence
  arguments_uses p no_argument = []
  arguments_uses p (argument_and a more) = argument_uses p a ++ arguments_uses p more

  pub binder_uses : Place → Binder → List Occurrence
  binder_uses p (plain n) = []
  binder_uses p (typed_binder m n t s) = uses p t

  pub binders_uses : Place → Binders → List Occurrence
  binders_uses p no_binder = []
  binders_uses p (binder_and b more) = binder_uses p b ++ binders_uses (under_binder p b) more

  pub statement_uses : Place → Statement → List Occurrence
  statement_uses p (bind n e) = uses p e
  statement_uses p (local m n t e s) = annotation_uses p t ++ uses p e
  statement_uses p (run e s) = uses p e

  pub statements_uses : Place → Statements → List Occurrence
  statements_uses p no_statement = []
  statements_uses p (statement_and s more) = statement_uses p s ++ statements_uses (behind_statement p s) more

-- ---- in patterns

abbrev mutual
  pub shape_uses : Place → List (List ℕ) → Shape → List Occurrence
  shape_uses p before (variable k n s) = new before n s ∷ []
  shape_uses p before (wildcard k s) = []
  shape_uses p before (constructor k h ps s) = use_of (bare p) h ∷ shapes_uses p before ps
  shape_uses p before (dot k e s) = uses p e

  pub shapes_uses : Place → List (List ℕ) → Shapes → List Occurrence
  shapes_uses p before no_shape = []
  shapes_uses p before (shape_and a more) = shape_uses p before a ++ shapes_uses p (before ++ binds a) more

abbrev pub pattern_uses : Place → List (List ℕ) → List Shape → List Occurrence
pattern_uses p before [] = []
pattern_uses p before (a ∷ more) = shape_uses p before a ++ pattern_uses p (before ++ binds a) more

-- ---- in items

abbrev pub param_uses : Place → Param → List Occurrence
param_uses p (param m n t s) = uses p t

abbrev pub params_uses : Place → List Param → List Occurrence
params_uses p [] = []
params_uses p (a ∷ more) = param_uses p a ++ params_uses (under_param p a) more

abbrev pub chain_uses : Place → Tree → List Occurrence
chain_uses p (pi k m n a b s) = uses p a ++ chain_uses (under_index p) b
chain_uses p t = uses p t

abbrev pub con_uses : Place → List (List ℕ) → Con → List Occurrence
con_uses p taken (con n t s) = new taken n s ∷ uses p t

abbrev pub cons_uses : Place → List (List ℕ) → List Con → List Occurrence
cons_uses p taken [] = []
cons_uses p taken (c ∷ more) = con_uses p taken c ++ cons_uses p (taken ++ con_name c ∷ []) more

abbrev pub hole_uses : List (List ℕ) → Option Local → List Occurrence
hole_uses holes None = []
hole_uses holes (Some h) = new holes h.name h.span ∷ []

-- a hole is the last token of its clause
abbrev pub item_uses : Before → Item → List Occurrence
item_uses b (family n ns ps t cs s) =
    new (names b.place.earlier) n ns ∷ params_uses b.place ps ++ (chain_uses (under_params b.place ps) t ++
    cons_uses (under_params (after b.place n Sort.family) ps) (names b.place.earlier ++ n ∷ []) cs)
item_uses b (signature q m n ns t s) = new (names b.place.earlier) n ns ∷ uses b.place t
item_uses b (clause n ps e s) =
    defined b.place.earlier n s ∷ grouped b.last b.clauses n s ∷
    pattern_uses (under_all b.place (clause_binds ps)) [] ps ++
    (uses (under_all b.place (clause_binds ps)) e ++ hole_uses b.holes (hole_of e))

abbrev pub items_uses : Before → List Item → List Occurrence
items_uses b [] = []
items_uses b (i ∷ more) = item_uses b i ++ items_uses (behind b i) more

abbrev pub text_uses : ModuleId → List Imported → Module → List Occurrence
text_uses home imports (module_text h n ns is items) = items_uses (start home n imports) items
