-- What the splits above a node have seen of each opened binder: a tree of constructors, with a variable of the node
-- where nothing was examined. Which variables are live, which patterns no clause covers, and where a use is reported is
-- read off these trees.
use Rattle.std.specs.Prelude.{ℕ, zero, suc, Bool, false, ◌||◌, eqb, List, [], ◌∷◌, ◌++◌, map, Option, Some, None}
use Rattle.std.specs.List.{filter}
use Rattle.qtt_base.specs.declared.place.Span.{Span}
use Rattle.qtt_syntax.specs.declared.expr.Mark.TheVariants.{Written}
use Rattle.qtt_syntax.specs.declared.expr.Target.TheVariants.{Global}
use Rattle.qtt_syntax.specs.Tree.{Shape, Shapes}
use Rattle.qtt_syntax.specs.Tree.Shape.{variable, wildcard, constructor, dot}
use Rattle.qtt_syntax.specs.Tree.Shapes.{no_shape, shape_and}
use Rattle.qtt_term.specs.declared.term.ConId.{ConId}
use Rattle.qtt_term.specs.Term.{Term, var}
use Rattle.qtt_term.specs.Substitution.{sub}
use Rattle.qtt_term.specs.Items.{ConstructorEntry}
use Rattle.qtt_term.specs.Entries.{Entries}
use Rattle.qtt_term.specs.Scope.{name_of}
use Rattle.qtt_rules.specs.Report.{Report}
use Rattle.qtt_split.specs.Constructors.{constructor_entry, bare}

mutual
  pub data Seen : Type 0 where
    -- a live variable: an opened binder, a field, or a binder that a split bound again, which none examined, solved or
    -- reverted
    open_at : ℕ → Seen
    -- solved by an index equation, by this term
    by_equation : Term → Seen
    -- examined; in this branch it is this constructor of what was seen of its fields
    made_of : ConId → Sights → Seen

  pub data Sights : Type 0 where
    no_sight : Sights
    sight_and : Seen → Sights → Sights

abbrev pub sights : List Seen → Sights
sights [] = no_sight
sights (s ∷ ss) = sight_and s (sights ss)

-- ρ is what becomes of each live variable, and δ what stands for each variable in the solutions
abbrev mutual
  pub seen_by : (ℕ → Seen) → (ℕ → Term) → Seen → Seen
  seen_by ρ δ (Seen.open_at i) = ρ i
  seen_by ρ δ (Seen.by_equation u) = Seen.by_equation (sub δ u)
  seen_by ρ δ (Seen.made_of c ss) = Seen.made_of c (all_seen_by ρ δ ss)

  pub all_seen_by : (ℕ → Seen) → (ℕ → Term) → Sights → Sights
  all_seen_by ρ δ Sights.no_sight = Sights.no_sight
  all_seen_by ρ δ (Sights.sight_and s ss) = Sights.sight_and (seen_by ρ δ s) (all_seen_by ρ δ ss)

-- under one binder more
abbrev pub seen_deeper : Seen → Seen
seen_deeper s = seen_by (λ i. Seen.open_at (suc i)) (λ i. var (suc i)) s

-- ---- live variables
abbrev mutual
  pub shows : ℕ → Seen → Bool
  shows i (Seen.open_at j) = eqb i j
  shows i (Seen.by_equation u) = false
  shows i (Seen.made_of c ss) = any_shows i ss

  pub any_shows : ℕ → Sights → Bool
  any_shows i Sights.no_sight = false
  any_shows i (Sights.sight_and s ss) = shows i s || any_shows i ss

-- the variables of a context of n, the oldest first
abbrev pub oldest_first : ℕ → List ℕ
oldest_first zero = []
oldest_first (suc n) = n ∷ oldest_first n

-- in context order
abbrev pub live : ℕ → Sights → List ℕ
live n ss = filter (λ i. any_shows i ss) (oldest_first n)

-- ---- the patterns that lead to a node, each with the place of the first clause
abbrev pub of_entry : Span → Option ConstructorEntry → Shapes → Shape
of_entry s None ps = wildcard Written s
of_entry s (Some c) ps = constructor Written (record { path = bare c.name; target = Global c.id; span = s }) ps s

abbrev mutual
  pub pattern_of : Entries → Span → Seen → Shape
  pattern_of K s (Seen.open_at i) = wildcard Written s
  pattern_of K s (Seen.by_equation u) = wildcard Written s
  pattern_of K s (Seen.made_of c ss) = of_entry s (constructor_entry K c) (patterns_of K s ss)

  pub patterns_of : Entries → Span → Sights → Shapes
  patterns_of K s Sights.no_sight = no_shape
  patterns_of K s (Sights.sight_and x ss) = shape_and (pattern_of K s x) (patterns_of K s ss)

-- one for each opened binder
abbrev pub pattern_list : Entries → Span → Sights → List Shape
pattern_list K s Sights.no_sight = []
pattern_list K s (Sights.sight_and x ss) = pattern_of K s x ∷ pattern_list K s ss

-- ---- where the use of a live variable is reported
-- at a pattern all variables that are live below it, in the order of a context of n
abbrev pub reported_at : ℕ → Option (List ℕ) → Span → Seen → List Report
reported_at n name s x =
    map (λ i. record { variable = i; name = name; place = s }) (filter (λ i. shows i x) (oldest_first n))

-- a pattern against what was seen; a pattern inside a solved place reports nothing
abbrev mutual
  pub reports : ℕ → Shape → Seen → List Report
  reports n (variable m x s) y = reported_at n (name_of x) s y
  reports n (wildcard m s) y = reported_at n None s y
  reports n (dot m e s) y = reported_at n None s y
  reports n (constructor m h ps s) (Seen.made_of c ss) = all_reports n ps ss
  reports n (constructor m h ps s) _ = []

  pub all_reports : ℕ → Shapes → Sights → List Report
  all_reports n (shape_and p ps) (Sights.sight_and y ss) = reports n p y ++ all_reports n ps ss
  all_reports n _ _ = []
