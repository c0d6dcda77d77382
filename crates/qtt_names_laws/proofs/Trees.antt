-- Expressions and patterns with the targets of their names, rule by rule.
use Rattle.std.proofs.Common.{◌≡◌, ℕ, Bool, true, false, ◌||◌, cond, List, [], ◌∷◌, ◌++◌, append_assoc, append-nil, Ok, refl, sym, ap, ◌∙◌, subst}
use Rattle.std.proofs.lemmas.Bool.{or_parts, false_from_ne_true}
use Rattle.qtt_base.specs.declared.place.Span.{Span}
use Rattle.qtt_syntax.specs.declared.expr.Named.{Named}
use Rattle.qtt_syntax.specs.Tree.{Tree, Annotation, Argument, Arguments, Binder, Binders, Statement, Statements, Shape, Shapes}
use Rattle.qtt_syntax.specs.Tree.Tree.{name, number, text, universe, hole, the, apply, pi, lambda, letting, doing}
use Rattle.qtt_syntax.specs.Tree.Annotation.{untyped, typed}
use Rattle.qtt_syntax.specs.Tree.Argument.{argument}
use Rattle.qtt_syntax.specs.Tree.Arguments.{no_argument, argument_and}
use Rattle.qtt_syntax.specs.Tree.Binder.{plain, typed_binder}
use Rattle.qtt_syntax.specs.Tree.Binders.{no_binder, binder_and}
use Rattle.qtt_syntax.specs.Tree.Statement.{bind, local, run}
use Rattle.qtt_syntax.specs.Tree.Statements.{no_statement, statement_and}
use Rattle.qtt_syntax.specs.Tree.Shape.{variable, wildcard, constructor, dot}
use Rattle.qtt_syntax.specs.Tree.Shapes.{no_shape, shape_and}
use Rattle.qtt_names.specs.Answer.{duplicate}
use Rattle.qtt_names.specs.Filled as code
use Rattle.qtt_names.specs.Filled.{Names, filled, filled_annotation, filled_argument, filled_arguments, filled_binder, filled_binders, filled_statement, filled_statements, binder_name, binder_names, behind_binder, bound_by}
use Rattle.qtt_names.specs.Patterns.{is_among, first_of, behind_shape, filled_shape, filled_shapes}
use Rattle.qtt_names.specs.Scope.{same_name}
use Rattle.qtt_names_laws.specs.Sight.{Place, Absent}
use Rattle.qtt_names_laws.specs.Sight.Absent.{none, other}
use Rattle.qtt_names_laws.specs.Places.{binds, under, bare, under_binder, under_binders, behind_statement}
use Rattle.qtt_names_laws.specs.Resolution.{NameResolves, Resolves, AnnotationResolves, ArgumentResolves, ArgumentsResolve, BinderResolves, BindersResolve, StatementResolves, StatementsResolve, ShapeResolves, ShapesResolve}
use Rattle.qtt_names_laws.specs.Faults.{Occurrence, AllRight, FirstFault, uses, annotation_uses, argument_uses, arguments_uses, binder_uses, binders_uses, statement_uses, statements_uses, shape_uses, shapes_uses}
use Rattle.qtt_names_laws.proofs.Lists.{apart, apart_from}
use Rattle.qtt_names_laws.proofs.Parts.{more_variables}
use Rattle.qtt_names_laws.proofs.Outcomes.{Outcome, then_outcome, done, then_is}

-- ---- a name that is to be new

pub among : (n : List ℕ) (before : List (List ℕ)) → is_among n before ≡ true → Absent n before → ⊥
among n _ e none = absurd (cc e)
among n _ e (other {m = m} {more = more} d h) =
    among n more (sym (ap (λ (t : Bool). t || is_among n more) (apart_from n m d)) ∙ e) h

pub not_among : (n : List ℕ) (before : List (List ℕ)) → is_among n before ≡ false → Absent n before
not_among n [] e = none
not_among n (m ∷ more) e =
    let p = or_parts (same_name n m) (is_among n more) e in
    other (apart n m p.0) (not_among n more p.1)

pub new_outcome : (before : List (List ℕ)) (n : List ℕ) (s : Span) →
    Outcome (λ u. Absent n before) (Occurrence.new before n s ∷ []) (first_of before n s)
new_outcome before n s = by (is_among n before) refl
  where
    by : (t : Bool) → is_among n before ≡ t →
        Outcome (λ u. Absent n before) (Occurrence.new before n s ∷ []) (cond t (duplicate {A = Unit {0}} n s) (Ok tt))
    by true e = Outcome.err (FirstFault.here (among n before e, refl))
    by false e =
        Outcome.ok (not_among n before e) (AllRight.and_more (not_among n before e) AllRight.none)

-- among names that are the same
known_outcome : (before known : List (List ℕ)) (n : List ℕ) (s : Span) → before ≡ known →
    Outcome (λ u. Absent n before) (Occurrence.new before n s ∷ []) (first_of known n s)
known_outcome before known n s q =
    subst (λ (l : List (List ℕ)). Outcome (λ u. Absent n before) (Occurrence.new before n s ∷ []) (first_of l n s)) q
    (new_outcome before n s)

pub new_is : (before : List (List ℕ)) (n : List ℕ) (s : Span) → Absent n before → first_of before n s ≡ Ok tt
new_is before n s h =
    ap (λ (t : Bool). cond t (duplicate {A = Unit {0}} n s) (Ok tt))
    (false_from_ne_true (is_among n before) (λ e. among n before e h))

-- ---- expressions

module _ (names : Names) (at : List (List ℕ) → Place)
    (step : (p : Place) (Γ : List (List ℕ)) (n : List ℕ) → p ≡ at Γ → under p n ≡ at (Γ ++ n ∷ []))
    (looked : (p : Place) (Γ : List (List ℕ)) (n : Named) → p ≡ at Γ →
    Outcome (NameResolves p n) (Occurrence.use_of p n ∷ []) (names Γ n))
    (found : (p : Place) (Γ : List (List ℕ)) (n n' : Named) → p ≡ at Γ → NameResolves p n n' → names Γ n ≡ Ok n') where
  binder_step : (b : Binder) (p : Place) (Γ : List (List ℕ)) → p ≡ at Γ → under_binder p b ≡ at (behind_binder Γ b)
  binder_step (plain n) p Γ e = step p Γ n.name e
  binder_step (typed_binder m n t s) p Γ e = step p Γ n.name e

  binders_step : (bs : Binders) (p : Place) (Γ : List (List ℕ)) → p ≡ at Γ →
      under_binders p bs ≡ at (Γ ++ binder_names bs)
  binders_step no_binder p Γ e = e ∙ sym (ap at (append-nil Γ))
  binders_step (binder_and b more) p Γ e =
      binders_step more (under_binder p b) (behind_binder Γ b) (binder_step b p Γ e) ∙
      ap at (append_assoc Γ (binder_name b ∷ []) (binder_names more))

  statement_step : (s : Statement) (p : Place) (Γ : List (List ℕ)) → p ≡ at Γ →
      behind_statement p s ≡ at (Γ ++ bound_by s)
  statement_step (bind n x) p Γ e = step p Γ n.name e
  statement_step (local m n t x s) p Γ e = step p Γ n.name e
  statement_step (run x s) p Γ e = e ∙ sym (ap at (append-nil Γ))

  mutual
    pub outcome : (t : Tree) (p : Place) (Γ : List (List ℕ)) → p ≡ at Γ →
        Outcome (Resolves p t) (uses p t) (filled names Γ t)
    outcome (name n) p Γ e = done (names Γ n) _ (looked p Γ n e) (λ n' h. Resolves.a_name h)
    outcome (number v s) p Γ e = Outcome.ok Resolves.a_number AllRight.none
    outcome (text v s) p Γ e = Outcome.ok Resolves.a_text AllRight.none
    outcome (universe l ls s) p Γ e = Outcome.ok Resolves.a_universe AllRight.none
    outcome (hole n s) p Γ e = Outcome.ok Resolves.a_hole AllRight.none
    outcome (the t x s) p Γ e =
        then_outcome (filled names Γ t) _ (outcome t p Γ e)
        (λ t' h. done (filled names Γ x) _ (outcome x p Γ e) (λ x' k. Resolves.a_typing h k))
    outcome (apply f xs s) p Γ e =
        then_outcome (filled names Γ f) _ (outcome f p Γ e)
        (λ f' h. done (filled_arguments names Γ xs) _ (arguments_outcome xs p Γ e)
        (λ xs' k. Resolves.an_application h k))
    outcome (pi k m n a b s) p Γ e =
        then_outcome (filled names Γ a) _ (outcome a p Γ e)
        (λ a' h. done (filled names (Γ ++ n ∷ []) b) _ (outcome b (under p n) (Γ ++ n ∷ []) (step p Γ n e))
        (λ b' j. Resolves.a_pi h j))
    outcome (lambda bs b s) p Γ e =
        then_outcome (filled_binders names Γ bs) _ (binders_outcome bs p Γ e)
        (λ bs' h. done (filled names (Γ ++ binder_names bs) b) _
        (outcome b (under_binders p bs) (Γ ++ binder_names bs) (binders_step bs p Γ e)) (λ b' j. Resolves.a_lambda h j))
    outcome (letting m n t x b s) p Γ e =
        then_outcome (filled_annotation names Γ t) _ (annotation_outcome t p Γ e)
        (λ t' g. then_outcome (filled names Γ x) _ (outcome x p Γ e)
        (λ x' h. done (filled names (Γ ++ n.name ∷ []) b) _
        (outcome b (under p n.name) (Γ ++ n.name ∷ []) (step p Γ n.name e)) (λ b' j. Resolves.a_let g h j)))
    outcome (doing ss s) p Γ e =
        done (filled_statements names Γ ss) _ (statements_outcome ss p Γ e) (λ ss' h. Resolves.a_do h)

    annotation_outcome : (t : Annotation) (p : Place) (Γ : List (List ℕ)) → p ≡ at Γ →
        Outcome (AnnotationResolves p t) (annotation_uses p t) (filled_annotation names Γ t)
    annotation_outcome untyped p Γ e = Outcome.ok AnnotationResolves.no_type AllRight.none
    annotation_outcome (typed t) p Γ e =
        done (filled names Γ t) _ (outcome t p Γ e) (λ t' h. AnnotationResolves.a_type h)

    argument_outcome : (a : Argument) (p : Place) (Γ : List (List ℕ)) → p ≡ at Γ →
        Outcome (ArgumentResolves p a) (argument_uses p a) (filled_argument names Γ a)
    argument_outcome (argument k x) p Γ e =
        done (filled names Γ x) _ (outcome x p Γ e) (λ x' h. ArgumentResolves.an_argument h)

    arguments_outcome : (xs : Arguments) (p : Place) (Γ : List (List ℕ)) → p ≡ at Γ →
        Outcome (ArgumentsResolve p xs) (arguments_uses p xs) (filled_arguments names Γ xs)
    arguments_outcome no_argument p Γ e = Outcome.ok ArgumentsResolve.no_arguments AllRight.none
    arguments_outcome (argument_and a more) p Γ e =
        then_outcome (filled_argument names Γ a) _ (argument_outcome a p Γ e)
        (λ a' h. done (filled_arguments names Γ more) _ (arguments_outcome more p Γ e)
        (λ more' k. ArgumentsResolve.argument_and_more h k))

    binder_outcome : (b : Binder) (p : Place) (Γ : List (List ℕ)) → p ≡ at Γ →
        Outcome (BinderResolves p b) (binder_uses p b) (filled_binder names Γ b)
    binder_outcome (plain n) p Γ e = Outcome.ok BinderResolves.by_name AllRight.none
    binder_outcome (typed_binder m n t s) p Γ e =
        done (filled names Γ t) _ (outcome t p Γ e) (λ t' h. BinderResolves.by_type h)

    binders_outcome : (bs : Binders) (p : Place) (Γ : List (List ℕ)) → p ≡ at Γ →
        Outcome (BindersResolve p bs) (binders_uses p bs) (filled_binders names Γ bs)
    binders_outcome no_binder p Γ e = Outcome.ok BindersResolve.no_binders AllRight.none
    binders_outcome (binder_and b more) p Γ e =
        then_outcome (filled_binder names Γ b) _ (binder_outcome b p Γ e)
        (λ b' h. done (filled_binders names (behind_binder Γ b) more) _
        (binders_outcome more (under_binder p b) (behind_binder Γ b) (binder_step b p Γ e))
        (λ more' k. BindersResolve.binder_and_more h k))

    statement_outcome : (s : Statement) (p : Place) (Γ : List (List ℕ)) → p ≡ at Γ →
        Outcome (StatementResolves p s) (statement_uses p s) (filled_statement names Γ s)
    statement_outcome (bind n x) p Γ e =
        done (filled names Γ x) _ (outcome x p Γ e) (λ x' h. StatementResolves.a_bind h)
    statement_outcome (local m n t x s) p Γ e =
        then_outcome (filled_annotation names Γ t) _ (annotation_outcome t p Γ e)
        (λ t' g. done (filled names Γ x) _ (outcome x p Γ e) (λ x' h. StatementResolves.a_let_statement g h))
    statement_outcome (run x s) p Γ e =
        done (filled names Γ x) _ (outcome x p Γ e) (λ x' h. StatementResolves.a_run h)

    statements_outcome : (ss : Statements) (p : Place) (Γ : List (List ℕ)) → p ≡ at Γ →
        Outcome (StatementsResolve p ss) (statements_uses p ss) (filled_statements names Γ ss)
    statements_outcome no_statement p Γ e = Outcome.ok StatementsResolve.no_statements AllRight.none
    statements_outcome (statement_and s more) p Γ e =
        then_outcome (filled_statement names Γ s) _ (statement_outcome s p Γ e)
        (λ s' h. done (filled_statements names (code.behind_statement Γ s) more) _
        (statements_outcome more (behind_statement p s) (code.behind_statement Γ s) (statement_step s p Γ e))
        (λ more' k. StatementsResolve.statement_and_more h k))

  mutual
    pub is : (p : Place) (t u : Tree) → Resolves p t u → (Γ : List (List ℕ)) → p ≡ at Γ → filled names Γ t ≡ Ok u
    is p _ _ (Resolves.a_name {n = n} {n' = n'} h) Γ e = then_is (names Γ n) _ (found p Γ n n' e h) refl
    is p _ _ Resolves.a_number Γ e = refl
    is p _ _ Resolves.a_text Γ e = refl
    is p _ _ Resolves.a_universe Γ e = refl
    is p _ _ Resolves.a_hole Γ e = refl
    is p _ _ (Resolves.a_typing {t = t} {t' = t'} {e = x} {e' = x'} h k) Γ e =
        then_is (filled names Γ t) _ (is p t t' h Γ e) (then_is (filled names Γ x) _ (is p x x' k Γ e) refl)
    is p _ _ (Resolves.an_application {f = f} {f' = f'} {xs = xs} {xs' = xs'} h k) Γ e =
        then_is (filled names Γ f) _ (is p f f' h Γ e)
        (then_is (filled_arguments names Γ xs) _ (arguments_is p xs xs' k Γ e) refl)
    is p _ _ (Resolves.a_pi {n = n} {a = a} {a' = a'} {b = b} {b' = b'} h k) Γ e =
        then_is (filled names Γ a) _ (is p a a' h Γ e)
        (then_is (filled names (Γ ++ n ∷ []) b) _ (is (under p n) b b' k (Γ ++ n ∷ []) (step p Γ n e)) refl)
    is p _ _ (Resolves.a_lambda {bs = bs} {bs' = bs'} {b = b} {b' = b'} h k) Γ e =
        then_is (filled_binders names Γ bs) _ (binders_is p bs bs' h Γ e)
        (then_is (filled names (Γ ++ binder_names bs) b) _
        (is (under_binders p bs) b b' k (Γ ++ binder_names bs) (binders_step bs p Γ e)) refl)
    is p _ _ (Resolves.a_let {n = n} {t = t} {t' = t'} {e = x} {e' = x'} {b = b} {b' = b'} g h k) Γ e =
        then_is (filled_annotation names Γ t) _ (annotation_is p t t' g Γ e)
        (then_is (filled names Γ x) _ (is p x x' h Γ e)
        (then_is (filled names (Γ ++ n.name ∷ []) b) _
        (is (under p n.name) b b' k (Γ ++ n.name ∷ []) (step p Γ n.name e)) refl))
    is p _ _ (Resolves.a_do {ss = ss} {ss' = ss'} h) Γ e =
        then_is (filled_statements names Γ ss) _ (statements_is p ss ss' h Γ e) refl

    annotation_is : (p : Place) (t u : Annotation) → AnnotationResolves p t u → (Γ : List (List ℕ)) → p ≡ at Γ →
        filled_annotation names Γ t ≡ Ok u
    annotation_is p _ _ AnnotationResolves.no_type Γ e = refl
    annotation_is p _ _ (AnnotationResolves.a_type {t = t} {t' = t'} h) Γ e =
        then_is (filled names Γ t) _ (is p t t' h Γ e) refl

    argument_is : (p : Place) (a b : Argument) → ArgumentResolves p a b → (Γ : List (List ℕ)) → p ≡ at Γ →
        filled_argument names Γ a ≡ Ok b
    argument_is p _ _ (ArgumentResolves.an_argument {e = x} {e' = x'} h) Γ e =
        then_is (filled names Γ x) _ (is p x x' h Γ e) refl

    arguments_is : (p : Place) (a b : Arguments) → ArgumentsResolve p a b → (Γ : List (List ℕ)) → p ≡ at Γ →
        filled_arguments names Γ a ≡ Ok b
    arguments_is p _ _ ArgumentsResolve.no_arguments Γ e = refl
    arguments_is p _ _ (ArgumentsResolve.argument_and_more {a = a} {a' = a'} {more = more} {more' = more'} h k) Γ e =
        then_is (filled_argument names Γ a) _ (argument_is p a a' h Γ e)
        (then_is (filled_arguments names Γ more) _ (arguments_is p more more' k Γ e) refl)

    binder_is : (p : Place) (a b : Binder) → BinderResolves p a b → (Γ : List (List ℕ)) → p ≡ at Γ →
        filled_binder names Γ a ≡ Ok b
    binder_is p _ _ BinderResolves.by_name Γ e = refl
    binder_is p _ _ (BinderResolves.by_type {t = t} {t' = t'} h) Γ e =
        then_is (filled names Γ t) _ (is p t t' h Γ e) refl

    binders_is : (p : Place) (a b : Binders) → BindersResolve p a b → (Γ : List (List ℕ)) → p ≡ at Γ →
        filled_binders names Γ a ≡ Ok b
    binders_is p _ _ BindersResolve.no_binders Γ e = refl
    binders_is p _ _ (BindersResolve.binder_and_more {b = b} {b' = b'} {more = more} {more' = more'} h k) Γ e =
        then_is (filled_binder names Γ b) _ (binder_is p b b' h Γ e)
        (then_is (filled_binders names (behind_binder Γ b) more) _
        (binders_is (under_binder p b) more more' k (behind_binder Γ b) (binder_step b p Γ e)) refl)

    statement_is : (p : Place) (a b : Statement) → StatementResolves p a b → (Γ : List (List ℕ)) → p ≡ at Γ →
        filled_statement names Γ a ≡ Ok b
    statement_is p _ _ (StatementResolves.a_bind {e = x} {e' = x'} h) Γ e =
        then_is (filled names Γ x) _ (is p x x' h Γ e) refl
    statement_is p _ _ (StatementResolves.a_let_statement {t = t} {t' = t'} {e = x} {e' = x'} g h) Γ e =
        then_is (filled_annotation names Γ t) _ (annotation_is p t t' g Γ e)
        (then_is (filled names Γ x) _ (is p x x' h Γ e) refl)
    statement_is p _ _ (StatementResolves.a_run {e = x} {e' = x'} h) Γ e =
        then_is (filled names Γ x) _ (is p x x' h Γ e) refl

    statements_is : (p : Place) (a b : Statements) → StatementsResolve p a b → (Γ : List (List ℕ)) → p ≡ at Γ →
        filled_statements names Γ a ≡ Ok b
    statements_is p _ _ StatementsResolve.no_statements Γ e = refl
    statements_is p _ _ (StatementsResolve.statement_and_more {s = s} {s' = s'} {more = more} {more' = more'} h k) Γ e =
        then_is (filled_statement names Γ s) _ (statement_is p s s' h Γ e)
        (then_is (filled_statements names (code.behind_statement Γ s) more) _
        (statements_is (behind_statement p s) more more' k (code.behind_statement Γ s) (statement_step s p Γ e)) refl)

  -- ---- patterns

  module _ (p : Place) (Γ : List (List ℕ)) (e : p ≡ at Γ) (f : bare p ≡ at []) where
    mutual
      pub shape_outcome : (a : Shape) (before known : List (List ℕ)) → before ≡ known →
          Outcome (ShapeResolves p before a) (shape_uses p before a) (filled_shape names Γ known a)
      shape_outcome (variable k n s) before known q =
          done (first_of known n s) _ (known_outcome before known n s q) (λ u h. ShapeResolves.a_variable h)
      shape_outcome (wildcard k s) before known q = Outcome.ok ShapeResolves.a_wildcard AllRight.none
      shape_outcome (constructor k h ps s) before known q =
          then_outcome (names [] h) _ (looked (bare p) [] h f)
          (λ h' x. done (filled_shapes names Γ known ps) _ (shapes_outcome ps before known q)
          (λ ps' y. ShapeResolves.a_constructor x y))
      shape_outcome (dot k x s) before known q =
          done (filled names Γ x) _ (outcome x p Γ e) (λ x' h. ShapeResolves.a_dot h)

      shapes_outcome : (ps : Shapes) (before known : List (List ℕ)) → before ≡ known →
          Outcome (ShapesResolve p before ps) (shapes_uses p before ps) (filled_shapes names Γ known ps)
      shapes_outcome no_shape before known q = Outcome.ok ShapesResolve.no_shapes AllRight.none
      shapes_outcome (shape_and a more) before known q =
          then_outcome (filled_shape names Γ known a) _ (shape_outcome a before known q)
          (λ a' h. done (filled_shapes names Γ (behind_shape known a) more) _
          (shapes_outcome more (before ++ binds a) (behind_shape known a) (more_variables before known a q))
          (λ more' k. ShapesResolve.shape_and_more h k))

  mutual
    pub shape_is : (p : Place) (before : List (List ℕ)) (a b : Shape) → ShapeResolves p before a b →
        (known : List (List ℕ)) → before ≡ known → (Γ : List (List ℕ)) → p ≡ at Γ → bare p ≡ at [] →
        filled_shape names Γ known a ≡ Ok b
    shape_is p before _ _ (ShapeResolves.a_variable {n = n} {s = s} h) known q Γ e f =
        then_is (first_of known n s) _ (new_is known n s (subst (Absent n) q h)) refl
    shape_is p before _ _ ShapeResolves.a_wildcard known q Γ e f = refl
    shape_is p before _ _ (ShapeResolves.a_constructor {h = h} {h' = h'} {ps = ps} {ps' = ps'} x y) known q Γ e f =
        then_is (names [] h) _ (found (bare p) [] h h' f x)
        (then_is (filled_shapes names Γ known ps) _ (shapes_is p before ps ps' y known q Γ e f) refl)
    shape_is p before _ _ (ShapeResolves.a_dot {e = x} {e' = x'} h) known q Γ e f =
        then_is (filled names Γ x) _ (is p x x' h Γ e) refl

    shapes_is : (p : Place) (before : List (List ℕ)) (a b : Shapes) → ShapesResolve p before a b →
        (known : List (List ℕ)) → before ≡ known → (Γ : List (List ℕ)) → p ≡ at Γ → bare p ≡ at [] →
        filled_shapes names Γ known a ≡ Ok b
    shapes_is p before _ _ ShapesResolve.no_shapes known q Γ e f = refl
    shapes_is p before _ _ (ShapesResolve.shape_and_more {a = a} {a' = a'} {more = more} {more' = more'} h k)
        known q Γ e f =
        then_is (filled_shape names Γ known a) _ (shape_is p before a a' h known q Γ e f)
        (then_is (filled_shapes names Γ (behind_shape known a) more) _
        (shapes_is p (before ++ binds a) more more' k (behind_shape known a) (more_variables before known a q) Γ e f)
        refl)
