-- The nodes of a case tree: the clauses that are left, each with its columns, and which of them decides.
use Rattle.std.specs.Prelude.{ℕ, suc, ◌+◌, Bool, true, false, cond, List, [], ◌∷◌, ◌++◌, Option, Some, None}
use Rattle.qtt_base.specs.declared.place.Span.{Span}
use Rattle.qtt_syntax.specs.declared.expr.Named.{Named}
use Rattle.qtt_syntax.specs.Tree.{Shape, Shapes}
use Rattle.qtt_syntax.specs.Tree.Shape.{variable, wildcard, constructor, dot}
use Rattle.qtt_syntax.specs.Tree.Shapes.{no_shape, shape_and}
use Rattle.qtt_term.specs.Term.{Form, Term, Terms, var, node, ε, ◌▸◌, skip}
use Rattle.qtt_term.specs.Substitution.{sub, cons, push, closed}
use Rattle.qtt_term.specs.Signature.{Tele}
use Rattle.qtt_term.specs.Judgement.{Ctx}
use Rattle.qtt_term.specs.Entries.{Entries}
use Rattle.qtt_term.specs.Forms.{front}
use Rattle.qtt_match.specs.Constructors.{names_constructor}
use Rattle.qtt_split.specs.Constructors.{fields_at}
use Rattle.qtt_split.specs.Seen.{Sights}
use Rattle.qtt_syntax.specs.Tree as text

pub record Clause : Type 0 where
  pub patterns : List Shape
  pub side : text.Tree
  pub span : Span

-- ---- columns
-- a pattern, and the term of the node's context for which it stands, with its type
pub record Column : Type 0 where
  pub pattern : Shape
  pub term : Term
  pub type : Term

-- a clause that is left, by its number
pub record Row : Type 0 where
  pub clause : ℕ
  pub columns : List Column

pub record Node : Type 0 where
  pub context : Ctx
  -- the name for which each variable of the context was bound
  pub labels : List (Option (List ℕ))
  -- of each opened binder
  pub seen : Sights
  pub goal : Term
  pub rows : List Row

abbrev pub column : Shape → Term → Term → Column
column p t A = record { pattern = p; term = t; type = A }

-- ---- reading columns, left to right
-- what is left of them; or that the clause does not fit; or a constructor pattern on a term that is neither a
-- constructor nor a variable
pub data Settled : Type 0 where
  columns : List Column → Settled
  goes : Settled
  sticks : Span → Term → Settled

abbrev pub before : Settled → Settled → Settled
before (Settled.columns cs) (Settled.columns ds) = Settled.columns (cs ++ ds)
before (Settled.columns cs) Settled.goes = Settled.goes
before (Settled.columns cs) (Settled.sticks s t) = Settled.sticks s t
before Settled.goes b = Settled.goes
before (Settled.sticks s t) b = Settled.sticks s t

-- a constructor pattern on a constructor is matched at once: the same one gives way to its fields' columns, another one
-- does not fit
abbrev mutual
  pub settle : Entries → Shape → Term → Term → Settled
  settle K (variable m n s) t A = Settled.columns (column (variable m n s) t A ∷ [])
  settle K (wildcard m s) t A = Settled.columns (column (wildcard m s) t A ∷ [])
  settle K (dot m e s) t A = Settled.columns (column (dot m e s) t A ∷ [])
  settle K (constructor m h ps s) (var i) A = Settled.columns (column (constructor m h ps s) (var i) A ∷ [])
  settle K (constructor m h ps s) (node (Form.con f c k) ts) A =
      cond (names_constructor K.families h f c)
      (settle_fields K ps (push (front k ts) closed) (fields_at K f c) (skip k ts)) Settled.goes
  settle K (constructor m h ps s) (node F ts) A = Settled.sticks s (node F ts)

  -- fields of these types, σ being what stands for the variables before them
  pub settle_fields : Entries → Shapes → (ℕ → Term) → Tele → Terms → Settled
  settle_fields K no_shape σ [] ε = Settled.columns []
  settle_fields K (shape_and p ps) σ (b ∷ Θ) (t ▸ ts) =
      before (settle K p t (sub σ b.1)) (settle_fields K ps (cons t σ) Θ ts)
  settle_fields K _ σ _ _ = Settled.goes

abbrev pub settle_all : Entries → List Column → Settled
settle_all K [] = Settled.columns []
settle_all K (c ∷ cs) = before (settle K c.pattern c.term c.type) (settle_all K cs)

-- ---- the clause that decides: the first that fits so far, with its columns read, and the clauses behind it
pub data Decision : Type 0 where
  none_left : Decision
  stuck_on : Span → Term → Decision
  decides : Row → List Row → Decision

abbrev pub decide : Entries → List Row → Decision
decide K [] = Decision.none_left
decide K (r ∷ rows) = elim (settle_all K r.columns) [
  | Settled.columns cs ↦ Decision.decides (record { clause = r.clause; columns = cs }) rows
  | Settled.goes ↦ decide K rows
  | Settled.sticks s t ↦ Decision.stuck_on s t
]

-- the first constructor pattern on a variable, which is split
pub record Examined : Type 0 where
  pub variable : ℕ
  pub constructor : Named
  pub span : Span

abbrev pub examined_by : Shape → Term → Option Examined → Option Examined
examined_by (constructor m h ps s) (var i) others = Some (record { variable = i; constructor = h; span = s })
examined_by p t others = others

abbrev pub examined : List Column → Option Examined
examined [] = None
examined (c ∷ cs) = examined_by c.pattern c.term (examined cs)

-- ---- the columns of a leaf: what its pattern variables stand for, and what its dot patterns are to be
abbrev pub is_variable : Shape → Bool
is_variable (variable m n s) = true
is_variable _ = false

abbrev pub is_dot : Shape → Bool
is_dot (dot m e s) = true
is_dot _ = false

abbrev pub terms_at : (Shape → Bool) → List Column → List (Term × Term)
terms_at which [] = []
terms_at which (c ∷ cs) = cond (which c.pattern) ((c.term, c.type) ∷ terms_at which cs) (terms_at which cs)

-- ---- the number of constructor patterns. Each split takes one from the clause that decides, which then is matched or
-- does not fit
abbrev mutual
  pub constructors_in : Shape → ℕ
  constructors_in (variable m n s) = 0
  constructors_in (wildcard m s) = 0
  constructors_in (dot m e s) = 0
  constructors_in (constructor m h ps s) = suc (constructors_among ps)

  pub constructors_among : Shapes → ℕ
  constructors_among no_shape = 0
  constructors_among (shape_and p ps) = constructors_in p + constructors_among ps

abbrev pub constructors_of : List Shape → ℕ
constructors_of [] = 0
constructors_of (p ∷ ps) = constructors_in p + constructors_of ps

abbrev pub all_constructors : List Clause → ℕ
all_constructors [] = 0
all_constructors (c ∷ cs) = constructors_of c.patterns + all_constructors cs

-- of the clauses that are left
abbrev pub constructors_at : List Column → ℕ
constructors_at [] = 0
constructors_at (c ∷ cs) = constructors_in c.pattern + constructors_at cs

abbrev pub constructors_left : List Row → ℕ
constructors_left [] = 0
constructors_left (r ∷ rows) = constructors_at r.columns + constructors_left rows
