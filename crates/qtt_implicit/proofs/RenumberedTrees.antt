-- Trees whose local names get other numbers.
use Rattle.std.proofs.Common.{◌≡◌, ◌∙◌, refl, ap, sym, ℕ, suc, ◌+◌, ◌-◌, arith, Bool, true, false, List, nat_lt, if◌then◌else◌}
use mathlib.Core.Path.{ap₂}
use Rattle.qtt_base.specs.declared.place.Span.{Span}
use Rattle.qtt_syntax.specs.declared.expr.Named.{Named}
use Rattle.qtt_syntax.specs.declared.expr.Target.{Target}
use Rattle.qtt_syntax.specs.declared.expr.Target.TheVariants as target
use Rattle.qtt_syntax.specs.Tree.{Tree, Annotation, Argument, Arguments, Binder, Binders, Statement, Statements}
use Rattle.qtt_syntax.specs.Tree.Tree.{name, number, text, universe, hole, the, apply, pi, lambda, letting, doing}
use Rattle.qtt_syntax.specs.Tree.Annotation.{untyped, typed}
use Rattle.qtt_syntax.specs.Tree.Argument.{argument}
use Rattle.qtt_syntax.specs.Tree.Arguments.{no_argument, argument_and}
use Rattle.qtt_syntax.specs.Tree.Binder.{plain, typed_binder}
use Rattle.qtt_syntax.specs.Tree.Binders.{no_binder, binder_and}
use Rattle.qtt_syntax.specs.Tree.Statement.{bind, local, run}
use Rattle.qtt_syntax.specs.Tree.Statements.{no_statement, statement_and}
use Rattle.qtt_implicit.specs.Moving.{Change, shifted, at_binder, count, bound, changed, changed_annotation, changed_argument, changed_arguments, changed_binder, changed_binders, changed_statement, changed_statements, weighed, weighed_annotation, weighed_argument, weighed_arguments, weighed_binder, weighed_binders, weighed_statement, weighed_statements}
use Rattle.qtt_implicit.specs.Forgetting.{renumbering, target_without}

abbrev pub named : List ℕ → Target → Span → Named
named p t s = record { path = p; target = t; span = s }

pub shifted_binder : (d j : ℕ) (n : Named) → shifted d (at_binder j n) ≡ at_binder (j + d) n
shifted_binder d j n = by (nat_lt j 0) refl
  where
    moved : ℕ → Named
    moved i = record { path = n.path; target = target.Local i; span = n.span }

    by : (b : Bool) → nat_lt j 0 ≡ b → (if b then name (moved j) else at_binder (j + d) (moved j)) ≡ at_binder (j + d) n
    by true e = absurd (grind (arith, e))
    by false e = refl

-- a used name stays one
pub renumbered_name : (f : ℕ → ℕ) (d : ℕ) (p : List ℕ) (t : Target) (s : Span) →
    (renumbering f).name d (named p t s) ≡ name (named p (target_without f d t) s)
renumbered_name f d p (target.Local i) s = by (nat_lt i d)
  where
    by : (b : Bool) →
        (if b then name (named p (target.Local i) s)
        else shifted d (at_binder (f (i - d)) (named p (target.Local i) s))) ≡
        name (named p (if b then target.Local i else target.Local (f (i - d) + d)) s)
    by true = refl
    by false = shifted_binder d (f (i - d)) (named p (target.Local i) s)
renumbered_name f d p (target.Global id) s = refl
renumbered_name f d p target.Unknown s = refl

count_changed : (c : Change) (d : ℕ) (bs : Binders) → count (changed_binders c d bs) ≡ count bs
count_changed c d no_binder = refl
count_changed c d (binder_and b more) = ap suc (count_changed c (suc d) more)

bound_changed : (c : Change) (d : ℕ) (s : Statement) → bound (changed_statement c d s) ≡ bound s
bound_changed c d (bind n e) = refl
bound_changed c d (local m n t e s) = refl
bound_changed c d (run e s) = refl

-- ---- names that keep their numbers
module _ (f : ℕ → ℕ) (same : (i : ℕ) → f i ≡ i) where
  target_same : (d : ℕ) (t : Target) → target_without f d t ≡ t
  target_same d (target.Local i) = by (nat_lt i d) refl
    where
      by : (b : Bool) → nat_lt i d ≡ b → (if b then target.Local i else target.Local (f (i - d) + d)) ≡ target.Local i
      by true e = refl
      by false e = let h = same (i - d) in ap target.Local (grind (arith, h, e))
  target_same d (target.Global id) = refl
  target_same d target.Unknown = refl

  mutual
    pub unmoved : (d : ℕ) (t : Tree) → changed (renumbering f) d t ≡ t
    unmoved d (name n) =
        renumbered_name f d n.path n.target n.span
        ∙ ap (λ (t : Target). name (named n.path t n.span)) (target_same d n.target)
    unmoved d (number z s) = refl
    unmoved d (text v s) = refl
    unmoved d (universe l ls s) = refl
    unmoved d (hole n s) = refl
    unmoved d (the t e s) = ap₂ (λ x y. the x y s) (unmoved d t) (unmoved d e)
    unmoved d (apply g xs s) = ap₂ (λ x y. apply x y s) (unmoved d g) (unmoved_arguments d xs)
    unmoved d (pi k m n a b s) = ap₂ (λ x y. pi k m n x y s) (unmoved d a) (unmoved (suc d) b)
    unmoved d (lambda bs b s) = ap₂ (λ x y. lambda x y s) (unmoved_binders d bs) (unmoved (d + count bs) b)
    unmoved d (letting m n t e b s) =
        ap (λ x. letting m n x (changed (renumbering f) d e) (changed (renumbering f) (suc d) b) s)
        (unmoved_annotation d t)
        ∙ ap₂ (λ x y. letting m n t x y s) (unmoved d e) (unmoved (suc d) b)
    unmoved d (doing ss s) = ap (λ x. doing x s) (unmoved_statements d ss)

    pub unmoved_annotation : (d : ℕ) (t : Annotation) → changed_annotation (renumbering f) d t ≡ t
    unmoved_annotation d untyped = refl
    unmoved_annotation d (typed t) = ap typed (unmoved d t)

    pub unmoved_argument : (d : ℕ) (a : Argument) → changed_argument (renumbering f) d a ≡ a
    unmoved_argument d (argument k t) = ap (argument k) (unmoved d t)

    pub unmoved_arguments : (d : ℕ) (xs : Arguments) → changed_arguments (renumbering f) d xs ≡ xs
    unmoved_arguments d no_argument = refl
    unmoved_arguments d (argument_and a more) = ap₂ argument_and (unmoved_argument d a) (unmoved_arguments d more)

    pub unmoved_binder : (d : ℕ) (b : Binder) → changed_binder (renumbering f) d b ≡ b
    unmoved_binder d (plain n) = refl
    unmoved_binder d (typed_binder m n t s) = ap (λ x. typed_binder m n x s) (unmoved d t)

    pub unmoved_binders : (d : ℕ) (bs : Binders) → changed_binders (renumbering f) d bs ≡ bs
    unmoved_binders d no_binder = refl
    unmoved_binders d (binder_and b more) = ap₂ binder_and (unmoved_binder d b) (unmoved_binders (suc d) more)

    pub unmoved_statement : (d : ℕ) (s : Statement) → changed_statement (renumbering f) d s ≡ s
    unmoved_statement d (bind n e) = ap (bind n) (unmoved d e)
    unmoved_statement d (local m n t e s) =
        ap₂ (λ x y. local m n x y s) (unmoved_annotation d t) (unmoved d e)
    unmoved_statement d (run e s) = ap (λ x. run x s) (unmoved d e)

    pub unmoved_statements : (d : ℕ) (ss : Statements) → changed_statements (renumbering f) d ss ≡ ss
    unmoved_statements d no_statement = refl
    unmoved_statements d (statement_and s more) =
        ap₂ statement_and (unmoved_statement d s) (unmoved_statements (d + bound s) more)

-- ---- names that get their numbers back
module _ (f g : ℕ → ℕ) (back : (i : ℕ) → g (f i) ≡ i) where
  target_back : (d : ℕ) (t : Target) → target_without g d (target_without f d t) ≡ t
  target_back d (target.Local i) = by (nat_lt i d) refl
    where
      still : (b : Bool) → nat_lt i d ≡ b → b ≡ true →
          (if b then target.Local i else target.Local (g (i - d) + d)) ≡ target.Local i
      still true e h = refl
      still false e h = absurd cc

      moved : (b : Bool) → nat_lt (f (i - d) + d) d ≡ b → nat_lt i d ≡ false →
          (if b then target.Local (f (i - d) + d) else target.Local (g (f (i - d) + d - d) + d)) ≡ target.Local i
      moved true e h = absurd (grind (arith, e))
      moved false e h =
          let there : f (i - d) + d - d ≡ f (i - d) = omega arith in
          let here = back (i - d) in
          ap target.Local (ap (λ (j : ℕ). g j + d) there ∙ grind (arith, here, h))

      by : (b : Bool) → nat_lt i d ≡ b →
          target_without g d (if b then target.Local i else target.Local (f (i - d) + d)) ≡ target.Local i
      by true e = still (nat_lt i d) refl e
      by false e = moved (nat_lt (f (i - d) + d) d) refl e
  target_back d (target.Global id) = refl
  target_back d target.Unknown = refl

  name_back : (d : ℕ) (n : Named) → changed (renumbering g) d ((renumbering f).name d n) ≡ name n
  name_back d n =
      ap (changed (renumbering g) d) (renumbered_name f d n.path n.target n.span)
      ∙ renumbered_name g d n.path (target_without f d n.target) n.span
      ∙ ap (λ (t : Target). name (named n.path t n.span)) (target_back d n.target)

  mutual
    pub undone : (d : ℕ) (t : Tree) → changed (renumbering g) d (changed (renumbering f) d t) ≡ t
    undone d (name n) = name_back d n
    undone d (number z s) = refl
    undone d (text v s) = refl
    undone d (universe l ls s) = refl
    undone d (hole n s) = refl
    undone d (the t e s) = ap₂ (λ x y. the x y s) (undone d t) (undone d e)
    undone d (apply h xs s) = ap₂ (λ x y. apply x y s) (undone d h) (undone_arguments d xs)
    undone d (pi k m n a b s) = ap₂ (λ x y. pi k m n x y s) (undone d a) (undone (suc d) b)
    undone d (lambda bs b s) =
        ap₂ (λ x y. lambda x y s) (undone_binders d bs)
        (ap (λ (k : ℕ). changed (renumbering g) (d + k) (changed (renumbering f) (d + count bs) b))
        (count_changed (renumbering f) d bs) ∙ undone (d + count bs) b)
    undone d (letting m n t e b s) =
        ap (λ x. letting m n x (changed (renumbering g) d (changed (renumbering f) d e))
        (changed (renumbering g) (suc d) (changed (renumbering f) (suc d) b)) s) (undone_annotation d t)
        ∙ ap₂ (λ x y. letting m n t x y s) (undone d e) (undone (suc d) b)
    undone d (doing ss s) = ap (λ x. doing x s) (undone_statements d ss)

    pub undone_annotation : (d : ℕ) (t : Annotation) →
        changed_annotation (renumbering g) d (changed_annotation (renumbering f) d t) ≡ t
    undone_annotation d untyped = refl
    undone_annotation d (typed t) = ap typed (undone d t)

    pub undone_argument : (d : ℕ) (a : Argument) →
        changed_argument (renumbering g) d (changed_argument (renumbering f) d a) ≡ a
    undone_argument d (argument k t) = ap (argument k) (undone d t)

    pub undone_arguments : (d : ℕ) (xs : Arguments) →
        changed_arguments (renumbering g) d (changed_arguments (renumbering f) d xs) ≡ xs
    undone_arguments d no_argument = refl
    undone_arguments d (argument_and a more) = ap₂ argument_and (undone_argument d a) (undone_arguments d more)

    pub undone_binder : (d : ℕ) (b : Binder) →
        changed_binder (renumbering g) d (changed_binder (renumbering f) d b) ≡ b
    undone_binder d (plain n) = refl
    undone_binder d (typed_binder m n t s) = ap (λ x. typed_binder m n x s) (undone d t)

    pub undone_binders : (d : ℕ) (bs : Binders) →
        changed_binders (renumbering g) d (changed_binders (renumbering f) d bs) ≡ bs
    undone_binders d no_binder = refl
    undone_binders d (binder_and b more) = ap₂ binder_and (undone_binder d b) (undone_binders (suc d) more)

    pub undone_statement : (d : ℕ) (s : Statement) →
        changed_statement (renumbering g) d (changed_statement (renumbering f) d s) ≡ s
    undone_statement d (bind n e) = ap (bind n) (undone d e)
    undone_statement d (local m n t e s) = ap₂ (λ x y. local m n x y s) (undone_annotation d t) (undone d e)
    undone_statement d (run e s) = ap (λ x. run x s) (undone d e)

    pub undone_statements : (d : ℕ) (ss : Statements) →
        changed_statements (renumbering g) d (changed_statements (renumbering f) d ss) ≡ ss
    undone_statements d no_statement = refl
    undone_statements d (statement_and s more) =
        ap₂ statement_and (undone_statement d s)
        (ap (λ (k : ℕ). changed_statements (renumbering g) (d + k)
        (changed_statements (renumbering f) (d + bound s) more))
        (bound_changed (renumbering f) d s) ∙ undone_statements (d + bound s) more)

-- ---- weights that no number changes
module _ (f : ℕ → ℕ) (w : Tree → ℕ) (alike : (d : ℕ) (t : Tree) → w (changed (renumbering f) d t) ≡ w t) where
  name_weighed : (d : ℕ) (n : Named) → weighed w ((renumbering f).name d n) ≡ w (name n)
  name_weighed d n =
      ap (weighed w) (renumbered_name f d n.path n.target n.span)
      ∙ sym (ap w (renumbered_name f d n.path n.target n.span))
      ∙ alike d (name n)

  mutual
    pub weighed_same : (d : ℕ) (t : Tree) → weighed w (changed (renumbering f) d t) ≡ weighed w t
    weighed_same d (name n) = name_weighed d n
    weighed_same d (number z s) = alike d (number z s)
    weighed_same d (text v s) = alike d (text v s)
    weighed_same d (universe l ls s) = alike d (universe l ls s)
    weighed_same d (hole n s) = alike d (hole n s)
    weighed_same d (the t e s) =
        ap₂ (λ x y. x + y) (alike d (the t e s)) (ap₂ (λ x y. x + y) (weighed_same d t) (weighed_same d e))
    weighed_same d (apply g xs s) =
        ap₂ (λ x y. x + y) (alike d (apply g xs s))
        (ap₂ (λ x y. x + y) (weighed_same d g) (weighed_same_arguments d xs))
    weighed_same d (pi k m n a b s) =
        ap₂ (λ x y. x + y) (alike d (pi k m n a b s))
        (ap₂ (λ x y. x + y) (weighed_same d a) (weighed_same (suc d) b))
    weighed_same d (lambda bs b s) =
        ap₂ (λ x y. x + y) (alike d (lambda bs b s))
        (ap₂ (λ x y. x + y) (weighed_same_binders d bs) (weighed_same (d + count bs) b))
    weighed_same d (letting m n t e b s) =
        ap₂ (λ x y. x + y) (alike d (letting m n t e b s))
        (ap₂ (λ x y. x + y) (weighed_same_annotation d t)
        (ap₂ (λ x y. x + y) (weighed_same d e) (weighed_same (suc d) b)))
    weighed_same d (doing ss s) = ap₂ (λ x y. x + y) (alike d (doing ss s)) (weighed_same_statements d ss)

    pub weighed_same_annotation : (d : ℕ) (t : Annotation) →
        weighed_annotation w (changed_annotation (renumbering f) d t) ≡ weighed_annotation w t
    weighed_same_annotation d untyped = refl
    weighed_same_annotation d (typed t) = weighed_same d t

    pub weighed_same_argument : (d : ℕ) (a : Argument) →
        weighed_argument w (changed_argument (renumbering f) d a) ≡ weighed_argument w a
    weighed_same_argument d (argument k t) = weighed_same d t

    pub weighed_same_arguments : (d : ℕ) (xs : Arguments) →
        weighed_arguments w (changed_arguments (renumbering f) d xs) ≡ weighed_arguments w xs
    weighed_same_arguments d no_argument = refl
    weighed_same_arguments d (argument_and a more) =
        ap₂ (λ x y. x + y) (weighed_same_argument d a) (weighed_same_arguments d more)

    pub weighed_same_binder : (d : ℕ) (b : Binder) →
        weighed_binder w (changed_binder (renumbering f) d b) ≡ weighed_binder w b
    weighed_same_binder d (plain n) = refl
    weighed_same_binder d (typed_binder m n t s) = weighed_same d t

    pub weighed_same_binders : (d : ℕ) (bs : Binders) →
        weighed_binders w (changed_binders (renumbering f) d bs) ≡ weighed_binders w bs
    weighed_same_binders d no_binder = refl
    weighed_same_binders d (binder_and b more) =
        ap₂ (λ x y. x + y) (weighed_same_binder d b) (weighed_same_binders (suc d) more)

    pub weighed_same_statement : (d : ℕ) (s : Statement) →
        weighed_statement w (changed_statement (renumbering f) d s) ≡ weighed_statement w s
    weighed_same_statement d (bind n e) = weighed_same d e
    weighed_same_statement d (local m n t e s) =
        ap₂ (λ x y. x + y) (weighed_same_annotation d t) (weighed_same d e)
    weighed_same_statement d (run e s) = weighed_same d e

    pub weighed_same_statements : (d : ℕ) (ss : Statements) →
        weighed_statements w (changed_statements (renumbering f) d ss) ≡ weighed_statements w ss
    weighed_same_statements d no_statement = refl
    weighed_same_statements d (statement_and s more) =
        ap₂ (λ x y. x + y) (weighed_same_statement d s) (weighed_same_statements (d + bound s) more)
