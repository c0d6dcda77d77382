-- The last premises of rules and their results, as parts of the table.
use Rattle.std.specs.Prelude.{drop, Option}
use Rattle.qtt_base.specs.declared.place.Span.{Span}
use Rattle.qtt_usage.specs.declared.mult.Mult.{Mult}
use Rattle.qtt_usage.specs.Usage.{usage_sum, usage_scale}
use Rattle.qtt_syntax.specs.declared.expr.Local.{Local}
use Rattle.qtt_syntax.specs.Tree.{Tree, Annotation, Binder, Argument, Arguments, Statements}
use Rattle.qtt_syntax.specs.Tree.Argument.{argument}
use Rattle.qtt_syntax.specs.Tree.Statements.{no_statement, statement_and}
use Rattle.qtt_term.specs.declared.rule.Rule.TheVariants as rule
use Rattle.qtt_term.specs.Term as core
use Rattle.qtt_term.specs.Term.{Term, var, node, ε, ◌▸◌, Pi, Lam, App, Act}
use Rattle.qtt_term.specs.Substitution.{inst}
use Rattle.qtt_term.specs.Signature.{mult_of}
use Rattle.qtt_term.specs.Judgement.{Part, under}
use Rattle.qtt_term.specs.Ask.{Ask, ◌>>=◌, asked_at}
use Rattle.qtt_term.specs.Infer.{infer}
use Rattle.qtt_term.specs.Entries.{Entries, env}
use Rattle.qtt_term.specs.Scope.{Scope, depth, name_of}
use Rattle.qtt_rules.specs.Refusal.{Cause, at}
use Rattle.qtt_rules.specs.Asks.{Asks, refuse}
use Rattle.qtt_rules.specs.Judged.{Judged, judged, Mode}
use Rattle.qtt_bidi.specs.Premises.{Action, fit}
use Rattle.qtt_bidi.specs.Elaboration.{Written, binder_name, binder_place, let_type, bound_name, bound_place, statement_place, argument_count, arguments, place, judge, valued, let_row, bind_row, statements}

-- no variable
abbrev pub IsForm : Term → Type 0
IsForm (var i) = ⊥
IsForm (node F ts) = Unit {0}

-- the expression of an argument
abbrev pub expression : Argument → Tree
expression (argument k e) = e

-- a term that a name stands for, which the core judgement accepts in the run part
abbrev pub accepted_as : Entries → Scope → Span → Term → Term → Asks Judged
accepted_as G S s t A =
    asked_at (at s rule.Stands 1) (infer (env G) Part.run S.vars t)
    (λ j. Ask.done (judged A t j.uses))
    (λ x. refuse (Cause.erased_use (depth S) t) (at s rule.Stands 1))

-- a function of multiplicity q and codomain B applied to an argument
abbrev pub applied_to : Judged → Mult → Term → Judged → Judged
applied_to f q B a = judged (inst B a.core) (App q f.core a.core) (usage_sum f.uses (usage_scale q a.uses))

abbrev pub found_lambda : Part → Mult → Local → Term → Judged → Span → Asks Judged
found_lambda p q x A b s = do
  fits ← fit p (name_of x.name) q b.uses (at s rule.LamSynth 4)
  Ask.done (judged (Pi q A b.type) (Lam q A b.core) (drop 1 b.uses))

abbrev pub checked_lambda : Part → Mult → Binder → Term → Term → Judged → Asks Judged
checked_lambda p q x A T b = do
  fits ← fit p (name_of (binder_name x).name) q b.uses (at (binder_place x) rule.LamCheck 5)
  Ask.done (judged T (Lam q A b.core) (drop 1 b.uses))

abbrev pub let_ends : Part → Mode → Mult → Local → Judged → Judged → Asks Judged
let_ends p m q x e b = do
  fits ← fit p (name_of x.name) q b.uses (at x.span rule.Let 4)
  Ask.done (judged (let_type m b.type e.core) (App q (Lam q e.type b.core) e.core)
      (usage_sum (drop 1 b.uses) (usage_scale q e.uses)))

-- an action of type C, and what follows it, in a block of type B
abbrev pub bind_term : Action → Action → Term → Term → Term
bind_term C B e k =
    Act (core.Action.bind C.io B.io) 2 (C.result ▸ B.result ▸ e ▸ Lam (mult_of C.io) C.result k ▸ ε)

abbrev pub bind_ends : Part → Option Local → Span → Action → Action → Judged → Term → Judged → Asks Judged
bind_ends p x r C B e A k = do
  fits ← fit p (bound_name x) (mult_of C.io) k.uses (at (bound_place x r) rule.DoBind 6)
  Ask.done (judged A (bind_term C B e.core k.core) (usage_sum e.uses (drop 1 k.uses)))

-- written arguments
abbrev pub written : Entries → Part → Scope → Arguments → Written
written G p S es = record { count = argument_count es; checked = λ Θ σ. arguments G p S Θ σ es }

-- the first token of statements, of which there is one
abbrev pub list_place : Statements → Span
list_place no_statement = record { line = 0; col = 0; len = 0 }
list_place (statement_and t ss) = statement_place t

-- ---- rows over what follows
-- a `let` over the statements after it
abbrev pub let_then : Entries → Part → Scope → Mode → Mult → Local → Annotation → Tree → Statements → Asks Judged
let_then G p S m q x A e ss =
    let_row p S m q x (valued G S A (λ n. judge G (under p q) S n e))
    (λ T n. statements G p T n (list_place ss) ss)

-- an action, with the name that it binds, and the statements after it, the first of them at s
abbrev pub bind_then : Entries → Part → Scope → Mode → Span → Option Local → Tree → Statements → Asks Judged
bind_then G p S m s x e ss =
    bind_row p S m s (place e) x (judge G p S Mode.synth e) (λ T n. statements G p T n (list_place ss) ss)
