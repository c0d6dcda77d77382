-- Trees with the targets of their names, or the first fault in text order.
use Rattle.std.specs.Prelude.{List, [], ◌∷◌, ◌++◌, ℕ, Ok}
use Rattle.qtt_syntax.specs.declared.expr.Named.{Named}
use Rattle.qtt_syntax.specs.Tree.{Tree, Annotation, Argument, Arguments, Binder, Binders, Statement, Statements}
use Rattle.qtt_syntax.specs.Tree.Tree.{name, number, text, universe, hole, the, apply, pi, lambda, letting, doing}
use Rattle.qtt_syntax.specs.Tree.Annotation.{untyped, typed}
use Rattle.qtt_syntax.specs.Tree.Argument.{argument}
use Rattle.qtt_syntax.specs.Tree.Arguments.{no_argument, argument_and}
use Rattle.qtt_syntax.specs.Tree.Binder.{plain, typed_binder}
use Rattle.qtt_syntax.specs.Tree.Binders.{no_binder, binder_and}
use Rattle.qtt_syntax.specs.Tree.Statement.{bind, local, run}
use Rattle.qtt_syntax.specs.Tree.Statements.{no_statement, statement_and}
use Rattle.qtt_names.specs.Answer.{Answer, ◌>>=◌}

-- how names are looked up behind local binders, the oldest first
abbrev pub Names : Type 0
Names = List (List ℕ) → Named → Answer Named

-- the name that a binder of a `\` binds
abbrev pub binder_name : Binder → List ℕ
binder_name (plain n) = n.name
binder_name (typed_binder m n t s) = n.name

-- the names of binders
abbrev pub binder_names : Binders → List (List ℕ)
binder_names no_binder = []
binder_names (binder_and b more) = binder_name b ∷ binder_names more

-- the names that a statement binds for those behind it
abbrev pub bound_by : Statement → List (List ℕ)
bound_by (bind n e) = n.name ∷ []
bound_by (local m n t e s) = n.name ∷ []
bound_by (run e s) = []

-- behind an argument stands what stands before it
abbrev pub unmoved : List (List ℕ) → Argument → List (List ℕ)
unmoved Γ a = Γ

abbrev pub behind_binder : List (List ℕ) → Binder → List (List ℕ)
behind_binder Γ b = Γ ++ binder_name b ∷ []

abbrev pub behind_statement : List (List ℕ) → Statement → List (List ℕ)
behind_statement Γ s = Γ ++ bound_by s

abbrev mutual
  -- an expression behind the local binders Γ
  pub filled : Names → List (List ℕ) → Tree → Answer Tree
  filled names Γ (name n) = do
    n' ← names Γ n
    Ok (name n')
  filled names Γ (number n s) = Ok (number n s)
  filled names Γ (text v s) = Ok (text v s)
  filled names Γ (universe l ls s) = Ok (universe l ls s)
  filled names Γ (hole n s) = Ok (hole n s)
  filled names Γ (the t e s) = do
    t' ← filled names Γ t
    e' ← filled names Γ e
    Ok (the t' e' s)
  filled names Γ (apply f xs s) = do
    f' ← filled names Γ f
    xs' ← filled_arguments names Γ xs
    Ok (apply f' xs' s)
  filled names Γ (pi k m n a b s) = do
    a' ← filled names Γ a
    b' ← filled names (Γ ++ n ∷ []) b
    Ok (pi k m n a' b' s)
  filled names Γ (lambda bs b s) = do
    bs' ← filled_binders names Γ bs
    b' ← filled names (Γ ++ binder_names bs) b
    Ok (lambda bs' b' s)
  filled names Γ (letting m n t e b s) = do
    t' ← filled_annotation names Γ t
    e' ← filled names Γ e
    b' ← filled names (Γ ++ n.name ∷ []) b
    Ok (letting m n t' e' b' s)
  filled names Γ (doing ss s) = do
    ss' ← filled_statements names Γ ss
    Ok (doing ss' s)

  pub filled_annotation : Names → List (List ℕ) → Annotation → Answer Annotation
  filled_annotation names Γ untyped = Ok untyped
  filled_annotation names Γ (typed t) = do
    t' ← filled names Γ t
    Ok (typed t')

  pub filled_argument : Names → List (List ℕ) → Argument → Answer Argument
  filled_argument names Γ (argument k e) = do
    e' ← filled names Γ e
    Ok (argument k e')

  pub filled_arguments : Names → List (List ℕ) → Arguments → Answer Arguments
  filled_arguments names Γ no_argument = Ok no_argument
  filled_arguments names Γ (argument_and a more) = do
    a' ← filled_argument names Γ a
    more' ← filled_arguments names Γ more
    Ok (argument_and a' more')

  pub filled_binder : Names → List (List ℕ) → Binder → Answer Binder
  filled_binder names Γ (plain n) = Ok (plain n)
  filled_binder names Γ (typed_binder m n t s) = do
    t' ← filled names Γ t
    Ok (typed_binder m n t' s)

  -- each binder stands behind those before it
  pub filled_binders : Names → List (List ℕ) → Binders → Answer Binders
  filled_binders names Γ no_binder = Ok no_binder
  filled_binders names Γ (binder_and b more) = do
    b' ← filled_binder names Γ b
    more' ← filled_binders names (behind_binder Γ b) more
    Ok (binder_and b' more')

  pub filled_statement : Names → List (List ℕ) → Statement → Answer Statement
  filled_statement names Γ (bind n e) = do
    e' ← filled names Γ e
    Ok (bind n e')
  filled_statement names Γ (local m n t e s) = do
    t' ← filled_annotation names Γ t
    e' ← filled names Γ e
    Ok (local m n t' e' s)
  filled_statement names Γ (run e s) = do
    e' ← filled names Γ e
    Ok (run e' s)

  -- each statement stands behind what those before it bind
  pub filled_statements : Names → List (List ℕ) → Statements → Answer Statements
  filled_statements names Γ no_statement = Ok no_statement
  filled_statements names Γ (statement_and s more) = do
    s' ← filled_statement names Γ s
    more' ← filled_statements names (behind_statement Γ s) more
    Ok (statement_and s' more')
