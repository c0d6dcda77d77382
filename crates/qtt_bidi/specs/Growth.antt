-- Larger environments than the one of a derivation: what is there stays, items may be added and bodies set, and each
-- global name of the expression stands for the same item, which is there.
use Rattle.std.specs.Prelude.{◌≡◌}
use Rattle.qtt_base.specs.declared.place.GlobalId.{GlobalId}
use Rattle.qtt_syntax.specs.declared.expr.Target.{Target}
use Rattle.qtt_syntax.specs.declared.expr.Target.TheVariants as target
use Rattle.qtt_syntax.specs.Tree.{Tree, Annotation, Arguments, Binder, Binders, Statement, Statements}
use Rattle.qtt_syntax.specs.Tree.Tree.{name, number, text, universe, hole, the, apply, pi, lambda, letting, doing}
use Rattle.qtt_syntax.specs.Tree.Annotation.{untyped, typed}
use Rattle.qtt_syntax.specs.Tree.Argument.{argument}
use Rattle.qtt_syntax.specs.Tree.Arguments.{no_argument, argument_and}
use Rattle.qtt_syntax.specs.Tree.Binder.{plain, typed_binder}
use Rattle.qtt_syntax.specs.Tree.Binders.{no_binder, binder_and}
use Rattle.qtt_syntax.specs.Tree.Statement.{bind, local, run}
use Rattle.qtt_syntax.specs.Tree.Statements.{no_statement, statement_and}
use Rattle.qtt_term.specs.Signature.{Env, There, NamedThere}
use Rattle.qtt_term.specs.Contraction.{BodiesClosed}
use Rattle.qtt_term.specs.Judgement.{Part}
use Rattle.qtt_term.specs.Entries.{Entries, env}
use Rattle.qtt_term.specs.Environment.{ResultsCounted}
use Rattle.qtt_term.specs.Scope.{Scope}
use Rattle.qtt_rules.specs.Judged.{Judged, Mode}
use Rattle.qtt_preserve.specs.Grows.{Grows, FamiliesStay}
use Rattle.qtt_bidi.specs.Meaning.{Meaning, meaning}
use Rattle.qtt_bidi.specs.Rules.{Elaborates}

-- what a name stands for is there
abbrev pub IsThere : Env → Meaning → Type 0
IsThere E (Meaning.definition d) = There (E.definition d)
IsThere E (Meaning.family f) = There (E.family f)
IsThere E (Meaning.constructor c) = There (E.family c.family)
IsThere E (Meaning.listed r n) = NamedThere E n
IsThere E (Meaning.pure m) = Unit {0}

-- a global name stands for the same in both environments, and for something that is there in the first
pub record StaysNamed (G H : Entries) (id : GlobalId) : Type 0 where
  pub there : IsThere (env G) (meaning G id)
  pub same : meaning G id ≡ meaning H id

-- ---- this holds of each global name in an expression
abbrev pub OfTarget : (GlobalId → Type 0) → Target → Type 0
OfTarget P target.Unknown = Unit {0}
OfTarget P (target.Local i) = Unit {0}
OfTarget P (target.Global id) = P id

abbrev mutual
  pub EachName : (GlobalId → Type 0) → Tree → Type 0
  EachName P (name n) = OfTarget P n.target
  EachName P (number z s) = Unit {0}
  EachName P (text v s) = Unit {0}
  EachName P (universe l r s) = Unit {0}
  EachName P (hole n s) = Unit {0}
  EachName P (the A e s) = EachName P A × EachName P e
  EachName P (apply f es s) = EachName P f × EachInArguments P es
  EachName P (pi k q x A B s) = EachName P A × EachName P B
  EachName P (lambda bs e s) = EachInBinders P bs × EachName P e
  EachName P (letting q x A e b s) = EachInAnnotation P A × EachName P e × EachName P b
  EachName P (doing ss s) = EachInStatements P ss

  pub EachInAnnotation : (GlobalId → Type 0) → Annotation → Type 0
  EachInAnnotation P untyped = Unit {0}
  EachInAnnotation P (typed A) = EachName P A

  pub EachInArguments : (GlobalId → Type 0) → Arguments → Type 0
  EachInArguments P no_argument = Unit {0}
  EachInArguments P (argument_and (argument k e) es) = EachName P e × EachInArguments P es

  pub EachInBinder : (GlobalId → Type 0) → Binder → Type 0
  EachInBinder P (plain x) = Unit {0}
  EachInBinder P (typed_binder q x A s) = EachName P A

  pub EachInBinders : (GlobalId → Type 0) → Binders → Type 0
  EachInBinders P no_binder = Unit {0}
  EachInBinders P (binder_and b bs) = EachInBinder P b × EachInBinders P bs

  pub EachInStatement : (GlobalId → Type 0) → Statement → Type 0
  EachInStatement P (bind x e) = EachName P e
  EachInStatement P (local q x A e s) = EachInAnnotation P A × EachName P e
  EachInStatement P (run e s) = EachName P e

  pub EachInStatements : (GlobalId → Type 0) → Statements → Type 0
  EachInStatements P no_statement = Unit {0}
  EachInStatements P (statement_and t ss) = EachInStatement P t × EachInStatements P ss

-- a derivation stands in the larger environment; bodies are closed and results counted in any environment that is built
abbrev pub DerivationsGrow : Type 0
DerivationsGrow = (G H : Entries) → Grows (env G) (env H) → FamiliesStay (env G) (env H) →
    BodiesClosed (env G) → ResultsCounted (env G) → BodiesClosed (env H) → ResultsCounted (env H) →
    (p : Part) (S : Scope) (m : Mode) (e : Tree) (j : Judged) → EachName (StaysNamed G H) e →
    Elaborates G p S m e j → Elaborates H p S m e j
