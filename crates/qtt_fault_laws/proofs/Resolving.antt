-- The faults of names in expressions and patterns are kept.
use Rattle.std.proofs.Common.{ℕ, suc, Bool, false, List, [], ◌∷◌, ◌++◌, Option, Some, None, Ok, codes}
use Rattle.qtt_syntax.specs.declared.expr.Local.{Local}
use Rattle.qtt_syntax.specs.declared.expr.Mark.TheVariants.{Written, Braced, Inserted}
use Rattle.qtt_syntax.specs.declared.expr.Named.{Named}
use Rattle.qtt_syntax.specs.Tree.{Tree, Annotation, Arguments, Binder, Binders, Statement, Statements, Shape, Shapes}
use Rattle.qtt_syntax.specs.Tree.Tree.{name, number, text, universe, hole, the, apply, pi, lambda, letting, doing}
use Rattle.qtt_syntax.specs.Tree.Annotation.{untyped, typed}
use Rattle.qtt_syntax.specs.Tree.Argument.{argument}
use Rattle.qtt_syntax.specs.Tree.Arguments.{no_argument, argument_and}
use Rattle.qtt_syntax.specs.Tree.Binder.{plain, typed_binder}
use Rattle.qtt_syntax.specs.Tree.Binders.{no_binder, binder_and}
use Rattle.qtt_syntax.specs.Tree.Statement.{bind, local, run}
use Rattle.qtt_syntax.specs.Tree.Statements.{no_statement, statement_and}
use Rattle.qtt_syntax.specs.Tree.Shape.{variable, wildcard, constructor, dot}
use Rattle.qtt_syntax.specs.Tree.Shapes.{no_shape, shape_and}
use Rattle.qtt_grammar.specs.declared.class.Pass.TheVariants.{Counts}
use Rattle.qtt_names.specs.Filled.{Names, filled, filled_annotation, filled_argument, filled_arguments, filled_binder, filled_binders, filled_statement, filled_statements, binder_names, behind_binder, behind_statement}
use Rattle.qtt_names.specs.Patterns.{first_of, behind_shape, filled_shape, filled_shapes}
use Rattle.qtt_names.specs.Resolved.{tail_hole, last_hole, statement_hole, filled_chain}
use Rattle.qtt_reprint.proofs.Formed as formed
use Rattle.qtt_reprint.proofs.Formed.{is_named}
use Rattle.qtt_reprint.proofs.Steps.{Fit}
use Rattle.qtt_fault_laws.proofs.Names.{Spells, named_spells, hole_spells, Keeps, then_keeps, first_keeps}

abbrev pub Formed : Tree → Type 0
Formed = formed.Formed Fit Counts

module _ (names : Names) (keeps : (Γ : List (List ℕ)) (n : Named) → Spells n.path → Keeps (names Γ n)) where
  mutual
    pub filled_keeps : (t : Tree) → Formed t → (Γ : List (List ℕ)) → Keeps (filled names Γ t)
    filled_keeps (name n) f Γ = then_keeps (names Γ n) _ (keeps Γ n (named_spells n.path f.1.1)) (λ n. tt)
    filled_keeps (number n s) f Γ = tt
    filled_keeps (text v s) f Γ = tt
    filled_keeps (universe l ls s) f Γ = tt
    filled_keeps (hole n s) f Γ = tt
    filled_keeps (the t e s) f Γ =
        then_keeps (filled names Γ t) _ (filled_keeps t f.0.0 Γ)
        (λ u. then_keeps (filled names Γ e) _ (filled_keeps e f.1.0 Γ) (λ v. tt))
    filled_keeps (apply g xs s) f Γ =
        then_keeps (filled names Γ g) _ (filled_keeps g f.0.0 Γ)
        (λ h. then_keeps (filled_arguments names Γ xs) _ (arguments_keep (is_named g) xs f.1.1 Γ) (λ v. tt))
    filled_keeps (pi Written m n a b s) f Γ =
        then_keeps (filled names Γ a) _ (filled_keeps a f.1.0.0 Γ)
        (λ u. then_keeps (filled names (Γ ++ n ∷ []) b) _ (filled_keeps b f.1.1.0 (Γ ++ n ∷ [])) (λ v. tt))
    filled_keeps (pi Braced m n a b s) f Γ = absurd f
    filled_keeps (pi Inserted m n a b s) f Γ = absurd f
    filled_keeps (lambda bs b s) f Γ =
        then_keeps (filled_binders names Γ bs) _ (binders_keep bs f.1.0 Γ)
        (λ u. then_keeps (filled names (Γ ++ binder_names bs) b) _ (filled_keeps b f.1.1 (Γ ++ binder_names bs))
        (λ v. tt))
    filled_keeps (letting m n t e b s) f Γ =
        then_keeps (filled_annotation names Γ t) _ (annotation_keeps t f.1.0 Γ)
        (λ u. then_keeps (filled names Γ e) _ (filled_keeps e f.1.1.0.0 Γ)
        (λ v. then_keeps (filled names (Γ ++ n.name ∷ []) b) _ (filled_keeps b f.1.1.1 (Γ ++ n.name ∷ [])) (λ w. tt)))
    filled_keeps (doing ss s) f Γ =
        then_keeps (filled_statements names Γ ss) _ (statements_keep 1 ss f Γ) (λ u. tt)

    annotation_keeps : (t : Annotation) → formed.Annotation_formed Fit Counts t → (Γ : List (List ℕ)) →
        Keeps (filled_annotation names Γ t)
    annotation_keeps untyped f Γ = tt
    annotation_keeps (typed t) f Γ = then_keeps (filled names Γ t) _ (filled_keeps t f.0 Γ) (λ u. tt)

    arguments_keep : (b : Bool) (xs : Arguments) → formed.Arguments_formed Fit Counts b xs → (Γ : List (List ℕ)) →
        Keeps (filled_arguments names Γ xs)
    arguments_keep b no_argument f Γ = tt
    arguments_keep b (argument_and (argument Written t) more) f Γ =
        then_keeps (filled_argument names Γ (argument Written t)) _
        (then_keeps (filled names Γ t) _ (filled_keeps t f.0.0 Γ) (λ u. tt))
        (λ u. then_keeps (filled_arguments names Γ more) _ (arguments_keep false more f.1 Γ) (λ v. tt))
    arguments_keep b (argument_and (argument Braced t) more) f Γ =
        then_keeps (filled_argument names Γ (argument Braced t)) _
        (then_keeps (filled names Γ t) _ (filled_keeps t f.1.0.0 Γ) (λ u. tt))
        (λ u. then_keeps (filled_arguments names Γ more) _ (arguments_keep b more f.1.1 Γ) (λ v. tt))
    arguments_keep b (argument_and (argument Inserted t) more) f Γ = absurd f

    binder_keeps : (b : Binder) → formed.Binder_formed Fit Counts b → (Γ : List (List ℕ)) →
        Keeps (filled_binder names Γ b)
    binder_keeps (plain n) f Γ = tt
    binder_keeps (typed_binder m n t s) f Γ = then_keeps (filled names Γ t) _ (filled_keeps t f.1.0 Γ) (λ u. tt)

    binders_keep : (bs : Binders) → formed.Binders_formed Fit Counts bs → (Γ : List (List ℕ)) →
        Keeps (filled_binders names Γ bs)
    binders_keep no_binder f Γ = tt
    binders_keep (binder_and b more) f Γ =
        then_keeps (filled_binder names Γ b) _ (binder_keeps b f.0 Γ)
        (λ u. then_keeps (filled_binders names (behind_binder Γ b) more) _ (binders_keep more f.1 (behind_binder Γ b))
        (λ v. tt))

    statement_keeps : (s : Statement) → formed.Statement_formed Fit Counts s → (Γ : List (List ℕ)) →
        Keeps (filled_statement names Γ s)
    statement_keeps (bind n e) f Γ = then_keeps (filled names Γ e) _ (filled_keeps e f.1.0 Γ) (λ u. tt)
    statement_keeps (local m n t e s) f Γ =
        then_keeps (filled_annotation names Γ t) _ (annotation_keeps t f.1.0 Γ)
        (λ u. then_keeps (filled names Γ e) _ (filled_keeps e f.1.1.0 Γ) (λ v. tt))
    statement_keeps (run e s) f Γ = then_keeps (filled names Γ e) _ (filled_keeps e f Γ) (λ u. tt)

    statements_keep : (n : ℕ) (ss : Statements) → formed.Statements_formed Fit Counts n ss → (Γ : List (List ℕ)) →
        Keeps (filled_statements names Γ ss)
    statements_keep n no_statement f Γ = absurd f
    statements_keep n (statement_and s no_statement) f Γ =
        then_keeps (filled_statement names Γ s) _ (statement_keeps s f.0 Γ)
        (λ u. then_keeps (Ok no_statement) _ tt (λ v. tt))
    statements_keep n (statement_and s (statement_and t more)) f Γ =
        then_keeps (filled_statement names Γ s) _ (statement_keeps s f.0 Γ)
        (λ u. then_keeps (filled_statements names (behind_statement Γ s) (statement_and t more)) _
        (statements_keep (suc n) (statement_and t more) f.1.1.1 (behind_statement Γ s)) (λ v. tt))

  -- ---- types of items

  pub typing_keeps : (t : Tree) → formed.Typing_formed Fit Counts t → (Γ : List (List ℕ)) → Keeps (filled names Γ t)
  typing_keeps (pi Braced m n a b s) f Γ =
      then_keeps (filled names Γ a) _ (filled_keeps a f.1.1.0.0 Γ)
      (λ u. then_keeps (filled names (Γ ++ n ∷ []) b) _ (typing_keeps b f.1.1.1 (Γ ++ n ∷ [])) (λ v. tt))
  typing_keeps (pi Written m n a b s) f Γ = filled_keeps (pi Written m n a b s) f.0 Γ
  typing_keeps (pi Inserted m n a b s) f Γ = absurd f.0
  typing_keeps (name n) f Γ = filled_keeps (name n) f.0 Γ
  typing_keeps (number n s) f Γ = tt
  typing_keeps (text v s) f Γ = tt
  typing_keeps (universe l ls s) f Γ = tt
  typing_keeps (hole n s) f Γ = tt
  typing_keeps (the t e s) f Γ = filled_keeps (the t e s) f.0 Γ
  typing_keeps (apply g xs s) f Γ = filled_keeps (apply g xs s) f.0 Γ
  typing_keeps (lambda bs b s) f Γ = filled_keeps (lambda bs b s) f.0 Γ
  typing_keeps (letting m n t e b s) f Γ = filled_keeps (letting m n t e b s) f.0 Γ
  typing_keeps (doing ss s) f Γ = filled_keeps (doing ss s) f.0 Γ

  pub chain_keeps : (t : Tree) → Formed t → (Γ : List (List ℕ)) → Keeps (filled_chain names Γ t)
  chain_keeps (pi Written m n a b s) f Γ =
      then_keeps (filled names Γ a) _ (filled_keeps a f.1.0.0 Γ)
      (λ u. then_keeps (filled_chain names (Γ ++ codes "_" ∷ []) b) _ (chain_keeps b f.1.1.0 (Γ ++ codes "_" ∷ []))
      (λ v. tt))
  chain_keeps (pi Braced m n a b s) f Γ = absurd f
  chain_keeps (pi Inserted m n a b s) f Γ = absurd f
  chain_keeps (name n) f Γ = filled_keeps (name n) f Γ
  chain_keeps (number n s) f Γ = tt
  chain_keeps (text v s) f Γ = tt
  chain_keeps (universe l ls s) f Γ = tt
  chain_keeps (hole n s) f Γ = tt
  chain_keeps (the t e s) f Γ = filled_keeps (the t e s) f Γ
  chain_keeps (apply g xs s) f Γ = filled_keeps (apply g xs s) f Γ
  chain_keeps (lambda bs b s) f Γ = filled_keeps (lambda bs b s) f Γ
  chain_keeps (letting m n t e b s) f Γ = filled_keeps (letting m n t e b s) f Γ
  chain_keeps (doing ss s) f Γ = filled_keeps (doing ss s) f Γ

  -- ---- patterns

  mutual
    pub shape_keeps : (p : Shape) → formed.Shape_formed Fit Counts p → (Γ before : List (List ℕ)) →
        Keeps (filled_shape names Γ before p)
    shape_keeps (variable k n s) f Γ before =
        then_keeps (first_of before n s) _ (first_keeps before n s (named_spells n f.1.1)) (λ u. tt)
    shape_keeps (wildcard k s) f Γ before = tt
    shape_keeps (constructor k h ps s) f Γ before =
        then_keeps (names [] h) _ (keeps [] h (named_spells h.path f.1.1.0.1))
        (λ u. then_keeps (filled_shapes names Γ before ps) _ (shapes_keep 0 ps f.1.1.1 Γ before) (λ v. tt))
    shape_keeps (dot k e s) f Γ before = then_keeps (filled names Γ e) _ (filled_keeps e f.1.0 Γ) (λ u. tt)

    shapes_keep : (n : ℕ) (ps : Shapes) → formed.Shapes_formed Fit Counts n ps → (Γ before : List (List ℕ)) →
        Keeps (filled_shapes names Γ before ps)
    shapes_keep n no_shape f Γ before = tt
    shapes_keep n (shape_and p more) f Γ before =
        then_keeps (filled_shape names Γ before p) _ (shape_keeps p f.1.0 Γ before)
        (λ u. then_keeps (filled_shapes names Γ (behind_shape before p) more) _
        (shapes_keep (suc n) more f.1.1 Γ (behind_shape before p)) (λ v. tt))

-- ---- holes

abbrev pub Hole_spells : Option Local → Type 0
Hole_spells None = Unit {0}
Hole_spells (Some h) = Spells h.name

mutual
  pub tail_spells : (t : Tree) → Formed t → Hole_spells (tail_hole t)
  tail_spells (name n) f = tt
  tail_spells (number n s) f = tt
  tail_spells (text v s) f = tt
  tail_spells (universe l ls s) f = tt
  tail_spells (hole n s) f = hole_spells n f
  tail_spells (the t e s) f = tt
  tail_spells (apply g xs s) f = tt
  tail_spells (pi k m n a b s) f = tt
  tail_spells (lambda bs b s) f = tail_spells b f.1.1
  tail_spells (letting m n t e b s) f = tail_spells b f.1.1.1
  tail_spells (doing ss s) f = last_spells 1 ss f

  last_spells : (n : ℕ) (ss : Statements) → formed.Statements_formed Fit Counts n ss → Hole_spells (last_hole ss)
  last_spells n no_statement f = tt
  last_spells n (statement_and s no_statement) f = statement_spells s f.0
  last_spells n (statement_and s (statement_and t more)) f = last_spells (suc n) (statement_and t more) f.1.1.1

  statement_spells : (s : Statement) → formed.Statement_formed Fit Counts s → Hole_spells (statement_hole s)
  statement_spells (bind n e) f = tt
  statement_spells (local m n t e s) f = tt
  statement_spells (run e s) f = tail_spells e f
