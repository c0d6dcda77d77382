-- Changes of trees, one behind another.
use Rattle.std.proofs.Common.{◌≡◌, ◌∙◌, refl, ap, sym, subst, ℕ, suc, ◌+◌, arith}
use mathlib.Core.Path.{ap₂}
use Rattle.qtt_base.specs.declared.place.Span.{Span}
use Rattle.qtt_syntax.specs.declared.expr.Mark.{Mark}
use Rattle.qtt_syntax.specs.declared.expr.Named.{Named}
use Rattle.qtt_syntax.specs.declared.expr.Local.{Local}
use Rattle.qtt_syntax.specs.Tree.{Tree, Annotation, Argument, Arguments, Binder, Binders, Statement, Statements}
use Rattle.qtt_syntax.specs.Tree.Tree.{name, number, text, universe, hole, the, apply, pi, lambda, letting, doing}
use Rattle.qtt_syntax.specs.Tree.Annotation.{untyped, typed}
use Rattle.qtt_syntax.specs.Tree.Argument.{argument}
use Rattle.qtt_syntax.specs.Tree.Arguments.{no_argument, argument_and}
use Rattle.qtt_syntax.specs.Tree.Binder.{plain, typed_binder}
use Rattle.qtt_syntax.specs.Tree.Binders.{no_binder, binder_and}
use Rattle.qtt_syntax.specs.Tree.Statement.{bind, local, run}
use Rattle.qtt_syntax.specs.Tree.Statements.{no_statement, statement_and}
use Rattle.qtt_implicit.specs.Moving.{Change, count, bound, changed, changed_name, changed_annotation, changed_argument, changed_arguments, changed_binder, changed_binders, changed_statement, changed_statements, weighed, weighed_annotation, weighed_argument, weighed_arguments, weighed_binder, weighed_binders, weighed_statement, weighed_statements}
use Rattle.qtt_implicit.specs.Forgetting.{renumbering}
use Rattle.qtt_implicit.proofs.RenumberedTrees.{unmoved}

pub count_changed : (c : Change) (d : ℕ) (bs : Binders) → count (changed_binders c d bs) ≡ count bs
count_changed c d no_binder = refl
count_changed c d (binder_and b more) = ap suc (count_changed c (suc d) more)

pub bound_changed : (c : Change) (d : ℕ) (s : Statement) → bound (changed_statement c d s) ≡ bound s
bound_changed c d (bind n e) = refl
bound_changed c d (local m n t e s) = refl
bound_changed c d (run e s) = refl

-- ---- a change behind another is a third one, where it is so at each name
-- the depths of the three, as many binders behind where they begin
pub record Depths (i j k a b e : ℕ) : Type 0 where
  pub inside : ℕ
  pub first : a ≡ inside + i
  pub second : b ≡ inside + j
  pub third : e ≡ inside + k

one_in : (i j k a b e : ℕ) → Depths i j k a b e → Depths i j k (suc a) (suc b) (suc e)
one_in i j k a b e h =
    let p = h.first in
    let q = h.second in
    let r = h.third in
    record {
      inside = suc h.inside;
      first = omega (arith, p);
      second = omega (arith, q);
      third = omega (arith, r);
    }

more_in : (n i j k a b e : ℕ) → Depths i j k a b e → Depths i j k (a + n) (b + n) (e + n)
more_in n i j k a b e h =
    let p = h.first in
    let q = h.second in
    let r = h.third in
    record {
      inside = h.inside + n;
      first = omega (arith, p);
      second = omega (arith, q);
      third = omega (arith, r);
    }

pub record Composed (f g h : Change) (i j k : ℕ) : Type 0 where
  pub names : (d : ℕ) (n : Named) → changed f (d + i) (g.name (d + j) n) ≡ h.name (d + k) n
  pub marks : (m : Mark) → f.mark (g.mark m) ≡ h.mark m
  pub spans : (s : Span) → f.span (g.span s) ≡ h.span s

module _ (f g h : Change) (i j k : ℕ) (c : Composed f g h i j k) where
  abbrev D : ℕ → ℕ → ℕ → Type 0
  D = Depths i j k

  locals : (n : Local) → changed_name f (changed_name g n) ≡ changed_name h n
  locals n = ap (λ (s : Span). let l : Local = record { name = n.name; span = s } in l) (c.spans n.span)

  at_name : (a b e : ℕ) → D a b e → (n : Named) → changed f a (g.name b n) ≡ h.name e n
  at_name a b e w n =
      let P : ℕ → ℕ → ℕ → Type 0 = λ x y z. changed f x (g.name y n) ≡ h.name z n in
      let p = sym w.first in
      let q = sym w.second in
      let r = sym w.third in
      subst (λ (x : ℕ). P x b e) p (subst (λ (y : ℕ). P (w.inside + i) y e) q
      (subst (λ (z : ℕ). P (w.inside + i) (w.inside + j) z) r (c.names w.inside n)))

  mutual
    pub composed : (a b e : ℕ) → D a b e → (t : Tree) → changed f a (changed g b t) ≡ changed h e t
    composed a b e w (name n) = at_name a b e w n
    composed a b e w (number z s) = ap (number z) (c.spans s)
    composed a b e w (text v s) = ap (text v) (c.spans s)
    composed a b e w (universe l ls s) = ap₂ (universe l) (c.spans ls) (c.spans s)
    composed a b e w (hole n s) = ap (hole n) (c.spans s)
    composed a b e w (the t v s) =
        let p = composed a b e w t in
        let q = composed a b e w v in
        let r = c.spans s in
        cc
    composed a b e w (apply t xs s) =
        let p = composed a b e w t in
        let q = composed_arguments a b e w xs in
        let r = c.spans s in
        cc
    composed a b e w (pi m q n t u s) =
        let p = composed a b e w t in
        let r = composed (suc a) (suc b) (suc e) (one_in i j k a b e w) u in
        let o = c.marks m in
        let l = c.spans s in
        cc
    composed a b e w (lambda bs t s) =
        let p = composed_binders a b e w bs in
        let q =
        ap (λ (x : ℕ). changed f (a + x) (changed g (b + count bs) t)) (count_changed g b bs)
        ∙ composed (a + count bs) (b + count bs) (e + count bs) (more_in (count bs) i j k a b e w) t in
        let r = c.spans s in
        cc
    composed a b e w (letting m n t v u s) =
        let o = locals n in
        let p = composed_annotation a b e w t in
        let q = composed a b e w v in
        let r = composed (suc a) (suc b) (suc e) (one_in i j k a b e w) u in
        let l = c.spans s in
        cc
    composed a b e w (doing ss s) =
        let p = composed_statements a b e w ss in
        let r = c.spans s in
        cc

    pub composed_annotation : (a b e : ℕ) → D a b e → (t : Annotation) →
        changed_annotation f a (changed_annotation g b t) ≡ changed_annotation h e t
    composed_annotation a b e w untyped = refl
    composed_annotation a b e w (typed t) = ap typed (composed a b e w t)

    pub composed_argument : (a b e : ℕ) → D a b e → (x : Argument) →
        changed_argument f a (changed_argument g b x) ≡ changed_argument h e x
    composed_argument a b e w (argument m t) = ap₂ argument (c.marks m) (composed a b e w t)

    pub composed_arguments : (a b e : ℕ) → D a b e → (xs : Arguments) →
        changed_arguments f a (changed_arguments g b xs) ≡ changed_arguments h e xs
    composed_arguments a b e w no_argument = refl
    composed_arguments a b e w (argument_and x more) =
        ap₂ argument_and (composed_argument a b e w x) (composed_arguments a b e w more)

    pub composed_binder : (a b e : ℕ) → D a b e → (x : Binder) →
        changed_binder f a (changed_binder g b x) ≡ changed_binder h e x
    composed_binder a b e w (plain n) = ap plain (locals n)
    composed_binder a b e w (typed_binder m n t s) =
        let o = locals n in
        let p = composed a b e w t in
        let r = c.spans s in
        cc

    pub composed_binders : (a b e : ℕ) → D a b e → (xs : Binders) →
        changed_binders f a (changed_binders g b xs) ≡ changed_binders h e xs
    composed_binders a b e w no_binder = refl
    composed_binders a b e w (binder_and x more) =
        ap₂ binder_and (composed_binder a b e w x)
        (composed_binders (suc a) (suc b) (suc e) (one_in i j k a b e w) more)

    pub composed_statement : (a b e : ℕ) → D a b e → (x : Statement) →
        changed_statement f a (changed_statement g b x) ≡ changed_statement h e x
    composed_statement a b e w (bind n t) = ap₂ bind (locals n) (composed a b e w t)
    composed_statement a b e w (local m n t v s) =
        let o = locals n in
        let p = composed_annotation a b e w t in
        let q = composed a b e w v in
        let r = c.spans s in
        cc
    composed_statement a b e w (run t s) = ap₂ run (composed a b e w t) (c.spans s)

    pub composed_statements : (a b e : ℕ) → D a b e → (xs : Statements) →
        changed_statements f a (changed_statements g b xs) ≡ changed_statements h e xs
    composed_statements a b e w no_statement = refl
    composed_statements a b e w (statement_and x more) =
        ap₂ statement_and (composed_statement a b e w x)
        (ap (λ (y : ℕ). changed_statements f (a + y) (changed_statements g (b + bound x) more)) (bound_changed g b x)
        ∙ composed_statements (a + bound x) (b + bound x) (e + bound x) (more_in (bound x) i j k a b e w) more)

-- ---- changes that are the same at each name
pub same_depths : (d : ℕ) → Depths 0 0 0 d d d
same_depths d = record { inside = d; first = omega arith; second = omega arith; third = omega arith }

module _ (g h : Change) (names : (d : ℕ) (n : Named) → g.name d n ≡ h.name d n)
    (marks : (m : Mark) → g.mark m ≡ h.mark m) (spans : (s : Span) → g.span s ≡ h.span s) where
  abbrev itself : Change
  itself = renumbering (λ i. i)

  by_itself : Composed itself g h 0 0 0
  by_itself = record {
    names = λ d n. unmoved (λ i. i) (λ i. refl) (d + 0) (g.name (d + 0) n) ∙ names (d + 0) n;
    marks = marks;
    spans = spans;
  }

  pub alike : (d : ℕ) (t : Tree) → changed g d t ≡ changed h d t
  alike d t =
      sym (unmoved (λ i. i) (λ i. refl) d (changed g d t))
      ∙ composed itself g h 0 0 0 by_itself d d d (same_depths d) t

-- ---- weights that a change keeps
module _ (c : Change) (w : Tree → ℕ) (named : (d : ℕ) (n : Named) → weighed w (c.name d n) ≡ w (name n))
    (same : (d : ℕ) (t : Tree) → w (changed c d t) ≡ w t) where
  mutual
    pub weighs_same : (d : ℕ) (t : Tree) → weighed w (changed c d t) ≡ weighed w t
    weighs_same d (name n) = named d n
    weighs_same d (number z s) = same d (number z s)
    weighs_same d (text v s) = same d (text v s)
    weighs_same d (universe l ls s) = same d (universe l ls s)
    weighs_same d (hole n s) = same d (hole n s)
    weighs_same d (the t e s) =
        ap₂ (λ x y. x + y) (same d (the t e s)) (ap₂ (λ x y. x + y) (weighs_same d t) (weighs_same d e))
    weighs_same d (apply g xs s) =
        ap₂ (λ x y. x + y) (same d (apply g xs s))
        (ap₂ (λ x y. x + y) (weighs_same d g) (arguments_same d xs))
    weighs_same d (pi k m n a b s) =
        ap₂ (λ x y. x + y) (same d (pi k m n a b s))
        (ap₂ (λ x y. x + y) (weighs_same d a) (weighs_same (suc d) b))
    weighs_same d (lambda bs b s) =
        ap₂ (λ x y. x + y) (same d (lambda bs b s))
        (ap₂ (λ x y. x + y) (binders_same d bs) (weighs_same (d + count bs) b))
    weighs_same d (letting m n t e b s) =
        ap₂ (λ x y. x + y) (same d (letting m n t e b s))
        (ap₂ (λ x y. x + y) (annotation_same d t)
        (ap₂ (λ x y. x + y) (weighs_same d e) (weighs_same (suc d) b)))
    weighs_same d (doing ss s) = ap₂ (λ x y. x + y) (same d (doing ss s)) (statements_same d ss)

    annotation_same : (d : ℕ) (t : Annotation) →
        weighed_annotation w (changed_annotation c d t) ≡ weighed_annotation w t
    annotation_same d untyped = refl
    annotation_same d (typed t) = weighs_same d t

    argument_same : (d : ℕ) (a : Argument) →
        weighed_argument w (changed_argument c d a) ≡ weighed_argument w a
    argument_same d (argument k t) = weighs_same d t

    arguments_same : (d : ℕ) (xs : Arguments) →
        weighed_arguments w (changed_arguments c d xs) ≡ weighed_arguments w xs
    arguments_same d no_argument = refl
    arguments_same d (argument_and a more) =
        ap₂ (λ x y. x + y) (argument_same d a) (arguments_same d more)

    binder_same : (d : ℕ) (b : Binder) →
        weighed_binder w (changed_binder c d b) ≡ weighed_binder w b
    binder_same d (plain n) = refl
    binder_same d (typed_binder m n t s) = weighs_same d t

    binders_same : (d : ℕ) (bs : Binders) →
        weighed_binders w (changed_binders c d bs) ≡ weighed_binders w bs
    binders_same d no_binder = refl
    binders_same d (binder_and b more) =
        ap₂ (λ x y. x + y) (binder_same d b) (binders_same (suc d) more)

    statement_same : (d : ℕ) (s : Statement) →
        weighed_statement w (changed_statement c d s) ≡ weighed_statement w s
    statement_same d (bind n e) = weighs_same d e
    statement_same d (local m n t e s) =
        ap₂ (λ x y. x + y) (annotation_same d t) (weighs_same d e)
    statement_same d (run e s) = weighs_same d e

    statements_same : (d : ℕ) (ss : Statements) →
        weighed_statements w (changed_statements c d ss) ≡ weighed_statements w ss
    statements_same d no_statement = refl
    statements_same d (statement_and s more) =
        ap₂ (λ x y. x + y) (statement_same d s) (statements_same (d + bound s) more)
