-- The judgement of a definition by clauses: its tree, what the tree leaves out, each clause at each of its leaves, and
-- the body, which is judged once more. The judgement of expressions is a parameter.
use Rattle.std.specs.Prelude.{ℕ, suc, Bool, true, false, cond, eqb, List, [], ◌∷◌, ◌++◌, length, reverse, Option, Some, None}
use Rattle.std.specs.List.{list_any}
use Rattle.qtt_base.specs.declared.place.Span.{Span}
use Rattle.qtt_usage.specs.Mult.{fits}
use Rattle.qtt_syntax.specs.Tree.{Shape, Shapes}
use Rattle.qtt_syntax.specs.Tree.Shape.{variable, wildcard, constructor, dot}
use Rattle.qtt_syntax.specs.Tree.Shapes.{no_shape, shape_and}
use Rattle.qtt_term.specs.Term.{Term, Terms, ε, ◌▸◌}
use Rattle.qtt_term.specs.Judgement.{Part}
use Rattle.qtt_term.specs.Infer.{Premise, Inferred, infer}
use Rattle.qtt_term.specs.Entries.{env}
use Rattle.qtt_term.specs.Ask.{Ask, ◌>>=◌, asked_at}
use Rattle.qtt_term.specs.Scope.{Scope}
use Rattle.qtt_rules.specs.Refusal.{Cause, refused}
use Rattle.qtt_rules.specs.Asks.{Asks, need, alike}
use Rattle.qtt_rules.specs.Judged.{Judges, Mode}
use Rattle.qtt_rules.specs.Report.{uses_pass}
use Rattle.qtt_split.specs.Tests.{Test, at}
use Rattle.qtt_split.specs.Tree.{Leaf, lams, glue, leaves}
use Rattle.qtt_split.specs.Missing.{uncovered}
use Rattle.qtt_split.specs.Node.{Clause}
use Rattle.qtt_split.specs.Split.{Group}
use Rattle.qtt_split.specs.Plan.{Planned, plan}
use Rattle.qtt_syntax.specs.Tree as text
use Rattle.qtt_term.specs.declared.rule.Rule.TheVariants as rule

-- ---- a definition by clauses
pub record Defined : Type 0 where
  pub group : Group
  pub name : List ℕ
  pub type : Term
  -- the names of its written binders
  pub labels : List (Option (List ℕ))
  pub may_miss : Bool

-- ---- dot patterns
abbrev mutual
  pub dots_in : Shape → List (text.Tree × Span)
  dots_in (variable m n s) = []
  dots_in (wildcard m s) = []
  dots_in (dot m e s) = (e, s) ∷ []
  dots_in (constructor m h ps s) = dots_among ps

  pub dots_among : Shapes → List (text.Tree × Span)
  dots_among no_shape = []
  dots_among (shape_and p ps) = dots_in p ++ dots_among ps

abbrev pub dots_of : List Shape → List (text.Tree × Span)
dots_of [] = []
dots_of (p ∷ ps) = dots_in p ++ dots_of ps

-- the pattern variables are the local names, the last one innermost
abbrev pub scope_at : Leaf → Scope
scope_at l = record { vars = l.context; names = reverse l.names }

-- each expression, in the erased part, is the term of its column
abbrev pub dots_agree : Judges → Leaf → List (text.Tree × Span) → List (Term × Term) → Asks (Unit {0})
dots_agree judge l (d ∷ ds) (c ∷ cs) = do
  e ← judge Part.erased (scope_at l) (Mode.check c.1) d.0
  same ← alike (at d.1 Test.dots) (length l.context) e.core c.0
  u ← need same (Cause.dot_mismatch (length l.context) c.0 e.core) (at d.1 Test.dots)
  dots_agree judge l ds cs
dots_agree judge l _ _ = Ask.done tt

-- ---- a clause at a leaf: its right side
unfoldable pub side_at : Judges → Part → Clause → Leaf → Asks Term
side_at judge p c l = do
  d ← dots_agree judge l (dots_of c.patterns) l.dots
  e ← judge p (scope_at l) (Mode.check l.goal) c.side
  u ← uses_pass fits p l.context e.uses l.reported
  Ask.done e.core

-- what each leaf of a clause gives, with the leaf's number in tree order
abbrev pub Numbered : Type 0 → Type 0
Numbered X = List (ℕ × X)

-- clause n at each of its leaves in tree order, the first of which has number k
abbrev pub sides_of : {X : Type 0} → (Clause → Leaf → Asks X) → ℕ → Clause → ℕ → List Leaf → Asks (Numbered X)
sides_of side n c k [] = Ask.done []
sides_of side n c k (l ∷ ls) = elim (eqb l.clause n) [
  | true ↦ (do
    t ← side c l
    ts ← sides_of side n c (suc k) ls
    Ask.done ((k, t) ∷ ts))
  | false ↦ sides_of side n c (suc k) ls
]

-- clauses in text order
abbrev pub all_sides : {X : Type 0} → (Clause → Leaf → Asks X) → ℕ → List Clause → List Leaf → Asks (Numbered X)
all_sides side n [] ls = Ask.done []
all_sides side n (c ∷ cs) ls = do
  ts ← sides_of side n c 0 ls
  ss ← all_sides side (suc n) cs ls
  Ask.done (ts ++ ss)

-- in tree order
abbrev pub with_number : ℕ → Numbered Term → Terms → Terms
with_number k [] ts = ts
with_number k (e ∷ es) ts = cond (eqb e.0 k) (e.1 ▸ ts) (with_number k es ts)

abbrev pub in_order : ℕ → List Leaf → Numbered Term → Terms
in_order k [] es = ε
in_order k (l ∷ ls) es = with_number k es (in_order (suc k) ls es)

-- ---- what a tree leaves out
abbrev pub covers : Defined → Option (List Shape) → Asks (Unit {0})
covers D None = Ask.done tt
covers D (Some ps) = need D.may_miss (Cause.missing D.name ps) (at D.group.first Test.covered)

-- each clause has a leaf
abbrev pub reaches : Defined → List Leaf → ℕ → List Clause → Asks (Unit {0})
reaches D ls n [] = Ask.done tt
reaches D ls n (c ∷ cs) = do
  u ← need (list_any (λ (l : Leaf). eqb l.clause n) ls) (Cause.unreachable D.name) (at c.span Test.reached)
  reaches D ls (suc n) cs

-- ---- the body, judged once more: it has a type, which compares Equal to the definition's
abbrev pub body_refused : Defined → Premise → Asks (Unit {0})
body_refused D e =
    Ask.fail (refused (Cause.core_refused D.name) (record { span = D.group.first; rule = e.rule; number = e.number }))

abbrev pub or_body_refused : Defined → Bool → Asks (Unit {0})
or_body_refused D true = Ask.done tt
or_body_refused D false = body_refused D (record { rule = rule.Conversion; number = 2 })

unfoldable pub body_holds : Defined → Term → Asks (Unit {0})
body_holds D body =
    asked_at (at D.group.first Test.body) (infer (env D.group.globals) D.group.part [] body)
    (λ (j : Inferred). alike (at D.group.first Test.body) 0 j.type D.type >>= or_body_refused D)
    (body_refused D)

-- ---- the tree of a definition by clauses: it covers all values, or the definition may miss some, and each clause is
-- reached
unfoldable pub tree_of : Defined → Asks Planned
tree_of D = do
  P ← plan D.group D.type D.labels
  covered ← covers D (uncovered P.tree)
  reached ← reaches D (leaves P.tree) 0 D.group.clauses
  Ask.done P

-- with these right sides
abbrev pub body_with : Planned → Numbered Term → Term
body_with P sides = lams P.opened (glue P.tree (in_order 0 (leaves P.tree) sides))

-- ---- the body of a definition by clauses
unfoldable pub body_of : Judges → Defined → Asks Term
body_of judge D = do
  P ← tree_of D
  sides ← all_sides (side_at judge D.group.part) 0 D.group.clauses (leaves P.tree)
  let body = body_with P sides
  holds ← body_holds D body
  Ask.done body
