-- Forgetting: the parts of a tree in turn.
use Rattle.std.proofs.Common.{◌≡◌, ◌∙◌, ap, sym, refl, ℕ, suc, ◌+◌, List, [], ◌∷◌, ◌++◌, map, fold, length, Some, None, Option}
use Rattle.std.specs.Prelude.{filter_map, flat_map, Vec, Box}
use Rattle.std.specs.Global.{Global}
use Rattle.std.proofs.lemmas.List.{length-map}
use mathlib.Core.Path.{ap₂, fun_ext}
use Rattle.std.proofs.lemmas.Grind.{common_steps}
use Rattle.qtt_base.specs.declared.place.Span.{Span}
use Rattle.qtt_syntax.specs.declared.expr.Named.{Named}
use Rattle.qtt_syntax.specs.declared.expr.Expr.{Expr, the_lemmas}
use Rattle.qtt_syntax.specs.declared.expr.Expr.TheVariants as code
use Rattle.qtt_syntax.specs.declared.expr.Argument as argument_code
use Rattle.qtt_syntax.specs.declared.expr.Binder as binder_code
use Rattle.qtt_syntax.specs.declared.expr.Statement as statement_code
use Rattle.qtt_syntax.specs.declared.expr.Mark.{Mark}
use Rattle.qtt_syntax.specs.declared.expr.Mark.TheVariants.{Written, Braced, Inserted}
use Rattle.qtt_syntax.specs.declared.pattern.Pattern.{Pattern, the_lemmas as pattern_lemmas}
use Rattle.qtt_syntax.specs.declared.pattern.Pattern.TheVariants as pattern
use Rattle.qtt_syntax.specs.View.{tree_of, argument_of, binder_of, statement_of, shape_of}
use Rattle.qtt_syntax.specs.Tree.{Tree, Argument, Binder, Statement, Shape, arguments, binders, statements, shapes}
use Rattle.qtt_syntax.specs.Tree.Tree.{apply, lambda, doing}
use Rattle.qtt_syntax.specs.Tree.Item.{clause}
use Rattle.qtt_syntax.specs.Tree.Argument.{argument}
use Rattle.qtt_syntax.specs.Tree.Arguments.{argument_and}
use Rattle.qtt_syntax.specs.Tree.Binders.{binder_and}
use Rattle.qtt_syntax.specs.Tree.Statement.{bind, local, run}
use Rattle.qtt_syntax.specs.Tree.Statements.{statement_and}
use Rattle.qtt_syntax.specs.Tree.Shape.{variable, wildcard, constructor, dot}
use Rattle.qtt_syntax.specs.Tree.Shapes.{shape_and}
use Rattle.qtt_syntax.proofs.Rows.{apply_view, lambda_view, do_view, let_view, local_view, constructor_view}
use Rattle.qtt_implicit.specs.Moving.{count, bound, changed_arguments, changed_binders, changed_statements}
use Rattle.qtt_implicit.specs.Patterns.{marks, all_marks, shape_list}
use Rattle.qtt_implicit.specs.Forget.{side_forgotten, forgotten_arguments, forgotten_binders, forgotten_statement, forgotten_statements, shapes_forgotten}
use Rattle.qtt_implicit.specs.Forgetting.{renumbering, without, argument_without, binder_without, statement_without, shape_without, behind_binder, behind_statement, in_passing}

module _ (f : ℕ → ℕ) where
  pub arguments_row : (d : ℕ) (xs : List Argument) →
      changed_arguments (renumbering f) d (forgotten_arguments (arguments xs)) ≡
      arguments (filter_map (argument_without f d) xs)
  arguments_row d [] = refl
  arguments_row d (argument Written t ∷ xs) =
      ap (argument_and (argument Written (without f d t))) (arguments_row d xs)
  arguments_row d (argument Braced t ∷ xs) = ap (argument_and (argument Braced (without f d t))) (arguments_row d xs)
  arguments_row d (argument Inserted t ∷ xs) = arguments_row d xs

  pub binders_row : (d : ℕ) (xs : List Binder) →
      changed_binders (renumbering f) d (forgotten_binders (binders xs)) ≡
      binders (in_passing behind_binder (binder_without f) d xs)
  binders_row d [] = refl
  binders_row d (x ∷ xs) = ap (binder_and (binder_without f d x)) (binders_row (suc d) xs)

  bound_same : (s : Statement) → bound (forgotten_statement s) ≡ bound s
  bound_same (bind n e) = refl
  bound_same (local m n t e s) = refl
  bound_same (run e s) = refl

  pub statements_row : (d : ℕ) (xs : List Statement) →
      changed_statements (renumbering f) d (forgotten_statements (statements xs)) ≡
      statements (in_passing behind_statement (statement_without f) d xs)
  statements_row d [] = refl
  statements_row d (x ∷ xs) =
      ap (λ (k : ℕ). statement_and (statement_without f d x)
      (changed_statements (renumbering f) (d + k) (forgotten_statements (statements xs))))
      (bound_same x)
      ∙ ap (statement_and (statement_without f d x)) (statements_row (d + bound x) xs)

  pub shapes_row : (xs : List Shape) → shapes_forgotten f (shapes xs) ≡ shapes (filter_map (shape_without f) xs)
  shapes_row [] = refl
  shapes_row (variable Written n s ∷ xs) = ap (shape_and (variable Written n s)) (shapes_row xs)
  shapes_row (variable Braced n s ∷ xs) = ap (shape_and (variable Braced n s)) (shapes_row xs)
  shapes_row (variable Inserted n s ∷ xs) = shapes_row xs
  shapes_row (wildcard k s ∷ xs) = ap (shape_and (wildcard k s)) (shapes_row xs)
  shapes_row (constructor k h ps s ∷ xs) =
      ap (shape_and (constructor k h (shapes_forgotten f ps) s)) (shapes_row xs)
  shapes_row (dot k e s ∷ xs) = ap (shape_and (dot k (side_forgotten f e) s)) (shapes_row xs)

pub marks_row : (xs : List Shape) → all_marks (shapes xs) ≡ flat_map marks xs
marks_row [] = refl
marks_row (x ∷ xs) = ap (λ (l : List Mark). marks x ++ l) (marks_row xs)

-- how many names binders bind
pub count_row : (d : ℕ) (xs : List Binder) → d + count (forgotten_binders (binders xs)) ≡ d + length xs
count_row d xs = ap (λ (k : ℕ). d + k) (row xs)
  where
    row : (xs : List Binder) → count (forgotten_binders (binders xs)) ≡ length xs
    row [] = refl
    row (x ∷ xs) = ap suc (row xs)

module _ {A B : Type 0} (behind : ℕ → A → ℕ) (each : ℕ → A → B) where
  -- the last of several stands behind the others
  pub in_passing-one_more : (d : ℕ) (xs : List A) (x : A) →
      in_passing behind each d (xs ++ x ∷ []) ≡ in_passing behind each d xs ++ each (fold behind d xs) x ∷ []
  in_passing-one_more d [] x = refl
  in_passing-one_more d (y ∷ xs) x = ap (λ (l : List B). each d y ∷ l) (in_passing-one_more (behind d y) xs x)

-- one more of a list, of which some are left out
module _ {A B : Type 0} (h : A → Option B) where
  pub filter_some : (xs : List A) (x : A) (y : B) → h x ≡ Some y →
      filter_map h (xs ++ x ∷ []) ≡ filter_map h xs ++ y ∷ []
  filter_some [] x y e = rw e refl
  filter_some (z ∷ xs) x y e = by (h z) refl (filter_some xs x y e)
    where
      by : (o : Option B) → h z ≡ o → filter_map h (xs ++ x ∷ []) ≡ filter_map h xs ++ y ∷ [] →
          filter_map h (z ∷ (xs ++ x ∷ [])) ≡ filter_map h (z ∷ xs) ++ y ∷ []
      by None f ih = rw f ih
      by (Some b) f ih = rw f (ap (λ (l : List B). b ∷ l) ih)

  pub filter_none : (xs : List A) (x : A) → h x ≡ None → filter_map h (xs ++ x ∷ []) ≡ filter_map h xs
  filter_none [] x e = rw e refl
  filter_none (z ∷ xs) x e = by (h z) refl (filter_none xs x e)
    where
      by : (o : Option B) → h z ≡ o → filter_map h (xs ++ x ∷ []) ≡ filter_map h xs →
          filter_map h (z ∷ (xs ++ x ∷ [])) ≡ filter_map h (z ∷ xs)
      by None f ih = rw f ih
      by (Some b) f ih = rw f (ap (λ (l : List B). b ∷ l) ih)

-- ---- forms with rows of parts
pub apply_without : (f : ℕ → ℕ) (d : ℕ) (g h : Box Expr Global) (v w : Vec argument_code.Argument Global) (s : Span) →
    tree_of g.value ≡ without f d (tree_of h.value) →
    map argument_of v.items ≡ filter_map (argument_without f d) (map argument_of w.items) →
    tree_of (code.Apply g v s) ≡ without f d (tree_of (code.Apply h w s))
apply_without f d g h v w s one other =
    apply_view g v s
    ∙ ap₂ (λ x y. apply x y s) one (ap arguments other ∙ sym (arguments_row f d (map argument_of w.items)))
    ∙ ap (without f d) (sym (apply_view h w s))

pub lambda_without : (f : ℕ → ℕ) (d i : ℕ) (v w : Vec binder_code.Binder Global) (b c : Box Expr Global) (s : Span) →
    i ≡ d + length w.items → tree_of b.value ≡ without f i (tree_of c.value) →
    map binder_of v.items ≡ in_passing behind_binder (binder_without f) d (map binder_of w.items) →
    tree_of (code.Lambda v b s) ≡ without f d (tree_of (code.Lambda w c s))
lambda_without f d i v w b c s inside one other =
    let deep : i ≡ d + count (forgotten_binders (binders (map binder_of w.items))) =
    inside ∙ ap (λ (n : ℕ). d + n) (sym (length-map w.items binder_of)) ∙ sym (count_row d (map binder_of w.items)) in
    lambda_view v b s
    ∙ ap₂ (λ x y. lambda x y s) (ap binders other ∙ sym (binders_row f d (map binder_of w.items)))
    (one ∙ ap (λ (n : ℕ). without f n (tree_of c.value)) deep)
    ∙ ap (without f d) (sym (lambda_view w c s))

pub do_without : (f : ℕ → ℕ) (d : ℕ) (v w : Vec statement_code.Statement Global) (s : Span) →
    map statement_of v.items ≡ in_passing behind_statement (statement_without f) d (map statement_of w.items) →
    tree_of (code.Do v s) ≡ without f d (tree_of (code.Do w s))
do_without f d v w s row =
    do_view v s
    ∙ ap (λ x. doing x s) (ap statements row ∙ sym (statements_row f d (map statement_of w.items)))
    ∙ ap (without f d) (sym (do_view w s))

pub constructor_without : (f : ℕ → ℕ) (k : Mark) (h : Named) (v w : Vec Pattern Global) (s : Span) →
    map shape_of v.items ≡ filter_map (shape_without f) (map shape_of w.items) →
    Some (shape_of (pattern.Constructor k h v s)) ≡ shape_without f (shape_of (pattern.Constructor k h w s))
constructor_without f k h v w s row =
    ap Some (constructor_view k h v s)
    ∙ ap (λ x. Some (constructor k h x s)) (ap shapes row ∙ sym (shapes_row f (map shape_of w.items)))
    ∙ ap (shape_without f) (sym (constructor_view k h w s))

pub constructor_form : (p : Pattern) (k : Mark) (h : Named) (v : Vec Pattern Global) (s : Span) →
    p ≡ pattern.Constructor k h v s → shape_of p ≡ constructor k h (shapes (map shape_of v.items)) s
constructor_form p k h v s is = ap shape_of is ∙ constructor_view k h v s

pub listed : (ps : List Shape) → shape_list (shapes ps) ≡ ps
listed [] = refl
listed (p ∷ ps) = ap (λ (l : List Shape). p ∷ l) (listed ps)

-- a clause whose parts are forgotten
pub clause_without : (f g : ℕ → ℕ) → ((i : ℕ) → f i ≡ g i) → (n : List ℕ) (ps qs : List Shape)
    (e side : Tree) (s : Span) →
    qs ≡ filter_map (shape_without f) ps → side ≡ without f 0 e →
    clause n qs side s ≡ clause n (shape_list (shapes_forgotten g (shapes ps))) (side_forgotten g e) s
clause_without f g same n ps qs e side s one other =
    let patterns : qs ≡ shape_list (shapes_forgotten f (shapes ps)) =
    one ∙ sym (listed (filter_map (shape_without f) ps)) ∙ ap shape_list (sym (shapes_row f ps)) in
    ap₂ (λ x y. clause n x y s) patterns other
    ∙ ap (λ (h : ℕ → ℕ). clause n (shape_list (shapes_forgotten h (shapes ps))) (side_forgotten h e) s) (fun_ext same)

-- all that forgetting the parts of an expression wants
pub ruleset parts = (
  the_lemmas,
  common_steps,
  apply_view,
  lambda_view,
  do_view,
  let_view,
  local_view,
  arguments_row,
  binders_row,
  statements_row,
  count_row,
  in_passing-one_more,
  filter_some,
  filter_none,
)

-- all that forgetting the parts of a pattern wants
pub ruleset shape_parts = (
  pattern_lemmas,
  common_steps,
  constructor_view,
  shapes_row,
  marks_row,
  filter_some,
  filter_none,
)
