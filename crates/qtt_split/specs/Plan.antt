-- The case tree of a group of clauses, as the questions that its making asks, in order.
use Rattle.std.specs.Prelude.{ℕ, zero, suc, eqb, List, [], ◌∷◌, ◌++◌, length, reverse, Option, Some, None}
use Rattle.qtt_base.specs.declared.place.Span.{Span}
use Rattle.qtt_syntax.specs.Tree.{Shape, Shapes}
use Rattle.qtt_syntax.specs.Tree.Shape.{variable, wildcard, constructor, dot}
use Rattle.qtt_syntax.specs.Tree.Shapes.{no_shape, shape_and}
use Rattle.qtt_term.specs.declared.term.ConId.{ConId}
use Rattle.qtt_term.specs.Term.{Term, var}
use Rattle.qtt_term.specs.Signature.{Tele}
use Rattle.qtt_term.specs.Judgement.{Ctx, type_at, ext}
use Rattle.qtt_term.specs.Ask.{Ask, ◌>>=◌}
use Rattle.qtt_term.specs.Entries.{Entries}
use Rattle.qtt_term.specs.Forms.{as_function}
use Rattle.qtt_rules.specs.Refusal.{Cause, refused}
use Rattle.qtt_rules.specs.Asks.{Asks, need, found, head_of}
use Rattle.qtt_rules.specs.Report.{Report}
use Rattle.qtt_match.specs.Constructors.{named_constructor}
use Rattle.qtt_split.specs.Constructors.{fields_at}
use Rattle.qtt_split.specs.Tests.{Test, at}
use Rattle.qtt_split.specs.Seen.{Seen, Sights, oldest_first, pattern_list, reports}
use Rattle.qtt_split.specs.Tree.{Leaf, Tree}
use Rattle.qtt_split.specs.Node.{Clause, Column, Row, Node, column, Decision, decide, Examined, examined, is_variable, is_dot, terms_at, all_constructors}
use Rattle.qtt_split.specs.Split.{Group, Grown, grown, Grows, count_leaf, split_at}

-- ---- as many patterns as the first clause
abbrev pub width : List Clause → ℕ
width [] = 0
width (c ∷ cs) = length c.patterns

abbrev pub so_wide : ℕ → List Clause → Asks (Unit {0})
so_wide k [] = Ask.done tt
so_wide k (c ∷ cs) = do
  ok ← need (eqb (length c.patterns) k) (Cause.wrong_arity k (length c.patterns)) (at c.span Test.one_width)
  so_wide k cs

-- ---- as many patterns as a constructor has fields
abbrev pub shape_count : Shapes → ℕ
shape_count no_shape = 0
shape_count (shape_and p ps) = suc (shape_count ps)

abbrev pub has_count : Entries → Option ConId → ℕ → Span → Asks (Unit {0})
has_count K None k s = Ask.done tt
has_count K (Some c) k s =
    let n = length (fields_at K c.family c.place) in
    need (eqb k n) (Cause.wrong_arity n k) (at s Test.arities)

-- at each pattern whose name is a constructor, in text order
abbrev mutual
  pub full : Entries → Shape → Asks (Unit {0})
  full K (variable m n s) = Ask.done tt
  full K (wildcard m s) = Ask.done tt
  full K (dot m e s) = Ask.done tt
  full K (constructor m h ps s) = do
    ok ← has_count K (named_constructor K.families h.target) (shape_count ps) s
    all_full K ps

  pub all_full : Entries → Shapes → Asks (Unit {0})
  all_full K no_shape = Ask.done tt
  all_full K (shape_and p ps) = do
    ok ← full K p
    all_full K ps

abbrev pub patterns_full : Entries → List Shape → Asks (Unit {0})
patterns_full K [] = Ask.done tt
patterns_full K (p ∷ ps) = do
  ok ← full K p
  patterns_full K ps

abbrev pub clauses_full : Entries → List Clause → Asks (Unit {0})
clauses_full K [] = Ask.done tt
clauses_full K (c ∷ cs) = do
  ok ← patterns_full K c.patterns
  clauses_full K cs

-- ---- the binders that a type opens, and the goal under them
pub record Opened : Type 0 where
  pub binders : Tele
  pub goal : Term

-- so many, by the head each time
abbrev pub opened : Span → ℕ → Ctx → Term → Asks Opened
opened s zero Γ A = Ask.done (record { binders = []; goal = A })
opened s (suc k) Γ A = do
  h ← head_of (at s Test.opens) (length Γ) A
  F ← found (as_function h) (Cause.not_a_function (length Γ) A) (at s Test.opens)
  O ← opened s k ((F.mult, F.domain) ∷ Γ) F.codomain
  Ask.done (record { binders = (F.mult, F.domain) ∷ O.binders; goal = O.goal })

-- ---- the first node: each pattern stands for its opened binder
abbrev pub start_columns : Ctx → List Shape → List ℕ → List Column
start_columns Γ (p ∷ ps) (i ∷ is) = column p (var i) (type_at Γ i) ∷ start_columns Γ ps is
start_columns Γ _ _ = []

abbrev pub start_rows : Ctx → ℕ → List Clause → List Row
start_rows Γ n [] = []
start_rows Γ n (c ∷ cs) =
    record { clause = n; columns = start_columns Γ c.patterns (oldest_first (length Γ)) } ∷ start_rows Γ (suc n) cs

abbrev pub start_sights : List ℕ → Sights
start_sights [] = Sights.no_sight
start_sights (i ∷ is) = Sights.sight_and (Seen.open_at i) (start_sights is)

-- the names of so many binders; those behind the written ones have none
abbrev pub labels_for : ℕ → List (Option (List ℕ)) → List (Option (List ℕ))
labels_for zero ls = []
labels_for (suc k) [] = None ∷ labels_for k []
labels_for (suc k) (l ∷ ls) = l ∷ labels_for k ls

abbrev pub start : Group → List (Option (List ℕ)) → Opened → Node
start G labels O =
    let Γ = ext [] O.binders in
    record {
      context = Γ;
      labels = reverse (labels_for (length O.binders) labels);
      seen = start_sights (oldest_first (length Γ));
      goal = O.goal;
      rows = start_rows Γ 0 G.clauses;
    }

-- ---- leaves
abbrev pub patterns_at : List Clause → ℕ → List Shape
patterns_at [] n = []
patterns_at (c ∷ cs) zero = c.patterns
patterns_at (c ∷ cs) (suc n) = patterns_at cs n

abbrev pub clause_reports : ℕ → List Shape → Sights → List Report
clause_reports n (p ∷ ps) (Sights.sight_and s ss) = reports n p s ++ clause_reports n ps ss
clause_reports n _ _ = []

abbrev pub leaf_of : Group → Node → Row → Leaf
leaf_of G N r = record {
  clause = r.clause;
  context = N.context;
  names = terms_at is_variable r.columns;
  dots = terms_at is_dot r.columns;
  goal = N.goal;
  reported = clause_reports (length N.context) (patterns_at G.clauses r.clause) N.seen;
}

-- ---- nodes, depth first
abbrev pub with_rows : Node → List Row → Node
with_rows N rows = record { context = N.context; labels = N.labels; seen = N.seen; goal = N.goal; rows = rows }

-- the clause that decides has a leaf, or a constructor pattern on a variable
abbrev pub grow_at : Grows → Group → Node → Row → ℕ → Option Examined → Asks Grown
grow_at grow G N r left None = do
  less ← count_leaf G left
  Ask.done (grown (Tree.leaf (leaf_of G N r)) less)
grow_at grow G N r left (Some x) = split_at grow G N x left

-- no clause is left, or one decides
abbrev pub grow_by : Grows → Group → Node → ℕ → Decision → Asks Grown
grow_by grow G N left Decision.none_left = do
  less ← count_leaf G left
  Ask.done (grown (Tree.missing N.goal (pattern_list G.globals G.first N.seen)) less)
grow_by grow G N left (Decision.stuck_on s t) =
    Ask.fail (refused (Cause.pattern_stuck (length N.context) t t) (at s Test.on_variable))
grow_by grow G N left (Decision.decides r rows) = grow_at grow G (with_rows N (r ∷ rows)) r left (examined r.columns)

-- with at most so many splits one below another; as many as the clauses have constructor patterns are enough
unfoldable pub grow : ℕ → Group → Grows
grow zero G N left = grow_by (λ M l. Ask.done (grown (Tree.missing M.goal []) l)) G N left (decide G.globals N.rows)
grow (suc splits) G N left = grow_by (grow splits G) G N left (decide G.globals N.rows)

-- ---- the opened binders, and the tree under them
pub record Planned : Type 0 where
  pub opened : Tele
  pub tree : Tree

-- for a definition of this type, whose written binders have these names
unfoldable pub plan : Group → Term → List (Option (List ℕ)) → Asks Planned
plan G A labels = do
  wide ← so_wide (width G.clauses) G.clauses
  filled ← clauses_full G.globals G.clauses
  O ← opened G.first (width G.clauses) [] A
  g ← grow (all_constructors G.clauses) G (start G labels O) G.limit
  Ask.done (record { opened = O.binders; tree = g.tree })
