-- Trees that are moved to another place: their names keep what they stand for. And trees of which parts are unknown.
use Rattle.std.specs.Prelude.{ℕ, suc, ◌+◌, ◌-◌, nat_lt, nat_eq, if◌then◌else◌, Bool, []}
use Rattle.qtt_base.specs.declared.place.Span.{Span}
use Rattle.qtt_syntax.specs.declared.expr.Mark.{Mark}
use Rattle.qtt_syntax.specs.declared.expr.Named.{Named}
use Rattle.qtt_syntax.specs.declared.expr.Local.{Local}
use Rattle.qtt_syntax.specs.declared.expr.Target.{Target}
use Rattle.qtt_syntax.specs.declared.expr.Target.TheVariants as target
use Rattle.qtt_syntax.specs.Tree.{Tree, Annotation, Argument, Arguments, Binder, Binders, Statement, Statements}
use Rattle.qtt_syntax.specs.Tree.Tree.{name, number, text, universe, hole, the, apply, pi, lambda, letting, doing}
use Rattle.qtt_syntax.specs.Tree.Annotation.{untyped, typed}
use Rattle.qtt_syntax.specs.Tree.Argument.{argument}
use Rattle.qtt_syntax.specs.Tree.Arguments.{no_argument, argument_and}
use Rattle.qtt_syntax.specs.Tree.Binder.{plain, typed_binder}
use Rattle.qtt_syntax.specs.Tree.Binders.{no_binder, binder_and}
use Rattle.qtt_syntax.specs.Tree.Statement.{bind, local, run}
use Rattle.qtt_syntax.specs.Tree.Statements.{no_statement, statement_and}

-- ---- changes of a tree
-- what becomes of a used name that stands behind so many of the tree's own binders, of a mark, and of a place
pub record Change : Type 0 where
  pub name : ℕ → Named → Tree
  pub mark : Mark → Mark
  pub span : Span → Span

abbrev pub changed_name : Change → Local → Local
changed_name c n = record { name = n.name; span = c.span n.span }

-- how many names a list of binders binds
abbrev pub count : Binders → ℕ
count no_binder = 0
count (binder_and b more) = suc (count more)

-- how many names a statement binds for those behind it
abbrev pub bound : Statement → ℕ
bound (bind n e) = 1
bound (local m n t e s) = 1
bound (run e s) = 0

abbrev mutual
  -- behind d binders of the tree's own
  pub changed : Change → ℕ → Tree → Tree
  changed c d (name n) = c.name d n
  changed c d (number z s) = number z (c.span s)
  changed c d (text v s) = text v (c.span s)
  changed c d (universe l ls s) = universe l (c.span ls) (c.span s)
  changed c d (hole n s) = hole n (c.span s)
  changed c d (the t e s) = the (changed c d t) (changed c d e) (c.span s)
  changed c d (apply f xs s) = apply (changed c d f) (changed_arguments c d xs) (c.span s)
  changed c d (pi k m n a b s) = pi (c.mark k) m n (changed c d a) (changed c (suc d) b) (c.span s)
  changed c d (lambda bs b s) = lambda (changed_binders c d bs) (changed c (d + count bs) b) (c.span s)
  changed c d (letting m n t e b s) = letting m (changed_name c n) (changed_annotation c d t) (changed c d e)
      (changed c (suc d) b) (c.span s)
  changed c d (doing ss s) = doing (changed_statements c d ss) (c.span s)

  pub changed_annotation : Change → ℕ → Annotation → Annotation
  changed_annotation c d untyped = untyped
  changed_annotation c d (typed t) = typed (changed c d t)

  pub changed_argument : Change → ℕ → Argument → Argument
  changed_argument c d (argument k t) = argument (c.mark k) (changed c d t)

  pub changed_arguments : Change → ℕ → Arguments → Arguments
  changed_arguments c d no_argument = no_argument
  changed_arguments c d (argument_and a more) = argument_and (changed_argument c d a) (changed_arguments c d more)

  pub changed_binder : Change → ℕ → Binder → Binder
  changed_binder c d (plain n) = plain (changed_name c n)
  changed_binder c d (typed_binder m n t s) = typed_binder m (changed_name c n) (changed c d t) (c.span s)

  pub changed_binders : Change → ℕ → Binders → Binders
  changed_binders c d no_binder = no_binder
  changed_binders c d (binder_and b more) = binder_and (changed_binder c d b) (changed_binders c (suc d) more)

  pub changed_statement : Change → ℕ → Statement → Statement
  changed_statement c d (bind n e) = bind (changed_name c n) (changed c d e)
  changed_statement c d (local m n t e s) = local m (changed_name c n) (changed_annotation c d t) (changed c d e)
      (c.span s)
  changed_statement c d (run e s) = run (changed c d e) (c.span s)

  pub changed_statements : Change → ℕ → Statements → Statements
  changed_statements c d no_statement = no_statement
  changed_statements c d (statement_and s more) = statement_and (changed_statement c d s)
      (changed_statements c (d + bound s) more)

abbrev pub kept : {A : Type 0} → A → A
kept a = a

-- ---- names
-- a name that stands for another local binder
abbrev pub at_binder : ℕ → Named → Tree
at_binder i n = name (record { path = n.path; target = target.Local i; span = n.span })

-- a name of the tree's own binders stays; a free local one is moved
abbrev pub shifted_name : ℕ → ℕ → Named → Target → Tree
shifted_name k d n (target.Local i) = if nat_lt i d then name n else at_binder (i + k) n
shifted_name k d n (target.Global id) = name n
shifted_name k d n target.Unknown = name n

-- behind k more binders
abbrev pub shifted : ℕ → Tree → Tree
shifted k = changed (record { name = λ d n. shifted_name k d n n.target; mark = kept; span = kept }) 0

abbrev pub replaced_name : (ℕ → Named → Tree) → ℕ → Named → Target → Tree
replaced_name σ d n (target.Local i) = if nat_lt i d then name n else shifted d (σ (i - d) n)
replaced_name σ d n (target.Global id) = name n
replaced_name σ d n target.Unknown = name n

-- the free local names replaced, where σ gives what stands for each
abbrev pub replaced : (ℕ → Named → Tree) → Tree → Tree
replaced σ = changed (record { name = λ d n. replaced_name σ d n n.target; mark = kept; span = kept }) 0

-- each place is this one
abbrev pub placed : Span → Tree → Tree
placed s =
    changed (record {
      name = λ d n. name (record { path = n.path; target = n.target; span = s });
      mark = kept;
      span = λ t. s;
    }) 0

-- ---- unknown parts
-- A part that is unknown is a name that stands for nothing: in a tree whose names were looked up no other name does.
abbrev pub nowhere : Span
nowhere = record { line = 0; col = 0; len = 0 }

abbrev pub unknown : Tree
unknown = name (record { path = []; target = target.Unknown; span = nowhere })

-- what a tree weighs, where each expression in it is given a weight
abbrev mutual
  pub weighed : (Tree → ℕ) → Tree → ℕ
  weighed w (name n) = w (name n)
  weighed w (number z s) = w (number z s)
  weighed w (text v s) = w (text v s)
  weighed w (universe l ls s) = w (universe l ls s)
  weighed w (hole n s) = w (hole n s)
  weighed w (the t e s) = w (the t e s) + (weighed w t + weighed w e)
  weighed w (apply f xs s) = w (apply f xs s) + (weighed w f + weighed_arguments w xs)
  weighed w (pi k m n a b s) = w (pi k m n a b s) + (weighed w a + weighed w b)
  weighed w (lambda bs b s) = w (lambda bs b s) + (weighed_binders w bs + weighed w b)
  weighed w (letting m n t e b s) = w (letting m n t e b s) + (weighed_annotation w t + (weighed w e + weighed w b))
  weighed w (doing ss s) = w (doing ss s) + weighed_statements w ss

  pub weighed_annotation : (Tree → ℕ) → Annotation → ℕ
  weighed_annotation w untyped = 0
  weighed_annotation w (typed t) = weighed w t

  pub weighed_argument : (Tree → ℕ) → Argument → ℕ
  weighed_argument w (argument k t) = weighed w t

  pub weighed_arguments : (Tree → ℕ) → Arguments → ℕ
  weighed_arguments w no_argument = 0
  weighed_arguments w (argument_and a more) = weighed_argument w a + weighed_arguments w more

  pub weighed_binder : (Tree → ℕ) → Binder → ℕ
  weighed_binder w (plain n) = 0
  weighed_binder w (typed_binder m n t s) = weighed w t

  pub weighed_binders : (Tree → ℕ) → Binders → ℕ
  weighed_binders w no_binder = 0
  weighed_binders w (binder_and b more) = weighed_binder w b + weighed_binders w more

  pub weighed_statement : (Tree → ℕ) → Statement → ℕ
  weighed_statement w (bind n e) = weighed w e
  weighed_statement w (local m n t e s) = weighed_annotation w t + weighed w e
  weighed_statement w (run e s) = weighed w e

  pub weighed_statements : (Tree → ℕ) → Statements → ℕ
  weighed_statements w no_statement = 0
  weighed_statements w (statement_and s more) = weighed_statement w s + weighed_statements w more

abbrev pub stands_for_nothing : Target → ℕ
stands_for_nothing target.Unknown = 1
stands_for_nothing (target.Local i) = 0
stands_for_nothing (target.Global id) = 0

abbrev pub unknown_weight : Tree → ℕ
unknown_weight (name n) = stands_for_nothing n.target
unknown_weight _ = 0

-- the tree has no unknown part
abbrev pub is_known : Tree → Bool
is_known t = nat_eq (weighed unknown_weight t) 0

-- Nodes: each expression is one. What holds it, as an argument's mark, a binder or a statement, is none.
abbrev pub nodes : Tree → ℕ
nodes = weighed (λ t. 1)
