-- The way to a hole in tail position: a `\`, a `let` or a `do` has the premises of its row, but its last part is walked
-- and not checked, and the uses before the hole are added up as those rows do.
use Rattle.std.specs.Prelude.{ℕ, suc, Bool, true, false, List, [], ◌∷◌, ◌++◌, drop, Option, Some, None}
use Rattle.qtt_base.specs.declared.place.Span.{Span}
use Rattle.qtt_usage.specs.declared.mult.Mult.{Mult}
use Rattle.qtt_usage.specs.Usage.{usage_at, usage_sum, usage_scale}
use Rattle.qtt_syntax.specs.declared.expr.Local.{Local}
use Rattle.qtt_syntax.specs.Tree.{Tree, Binders, Statements}
use Rattle.qtt_syntax.specs.Tree.Tree.{hole, lambda, letting, doing}
use Rattle.qtt_syntax.specs.Tree.Binders.{no_binder, binder_and}
use Rattle.qtt_syntax.specs.Tree.Statement.{bind, local, run}
use Rattle.qtt_syntax.specs.Tree.Statements.{no_statement, statement_and}
use Rattle.qtt_term.specs.Term.{Term}
use Rattle.qtt_term.specs.Substitution.{ren}
use Rattle.qtt_term.specs.Signature.{mult_of}
use Rattle.qtt_term.specs.Judgement.{Part, under}
use Rattle.qtt_term.specs.Ask.{Ask, ◌>>=◌}
use Rattle.qtt_term.specs.Scope.{name_of, Scope, depth, with_name}
use Rattle.qtt_term.specs.Entries.{Entries}
use Rattle.qtt_rules.specs.Refusal.{Cause, Place, at}
use Rattle.qtt_rules.specs.Asks.{Asks, refuse, need}
use Rattle.qtt_rules.specs.Judged.{Judged, Mode}
use Rattle.qtt_rules.specs.Report.{Report, uses_pass}
use Rattle.qtt_bidi.specs.Premises.{function_of, action_of}
use Rattle.qtt_bidi.specs.Elaboration.{place, statement_place, unused, judge, valued, written_domain, binder_name, binder_place, bound, bound_name, bound_place}
use Rattle.qtt_holes.specs.Hole.{Hole, left_of, fits_before, all_left, in_sight}
use Rattle.qtt_term.specs.declared.rule.Rule.TheVariants as rule

-- ---- a hole in tail position
abbrev mutual
  pub has_hole : Tree → Bool
  has_hole (hole n s) = true
  has_hole (lambda bs e s) = has_hole e
  has_hole (letting q x A e b s) = has_hole b
  has_hole (doing ss s) = ends_in_hole ss
  has_hole _ = false

  pub ends_in_hole : Statements → Bool
  ends_in_hole (statement_and (run e s) no_statement) = has_hole e
  ends_in_hole (statement_and s no_statement) = false
  ends_in_hole (statement_and s ss) = ends_in_hole ss
  ends_in_hole no_statement = false

-- ---- what a walk finds: the hole, in this scope with these names, the innermost first; the uses before it of the
-- variables where the walk began; and what is left of those that were bound on the way, the newest first
pub record Walked : Type 0 where
  pub name : List ℕ
  pub span : Span
  pub goal : Term
  pub scope : Scope
  pub names : List (List ℕ)
  pub uses : List Mult
  pub left : List Mult

-- at the hole
abbrev pub found_hole : Scope → List (List ℕ) → List ℕ → Span → Term → Walked
found_hole S ns n s A = record { name = n; span = s; goal = A; scope = S; names = ns; uses = unused S; left = [] }

-- behind a binder of this multiplicity
abbrev pub passed : Part → Mult → Walked → Walked
passed p q w = record {
  name = w.name;
  span = w.span;
  goal = w.goal;
  scope = w.scope;
  names = w.names;
  uses = drop 1 w.uses;
  left = w.left ++ (left_of p q (usage_at w.uses 0) ∷ []);
}

-- with these uses besides
abbrev pub used_too : List Mult → Walked → Walked
used_too us w = record {
  name = w.name;
  span = w.span;
  goal = w.goal;
  scope = w.scope;
  names = w.names;
  uses = usage_sum
      us w.uses;
  left = w.left;
}

-- in the run part what the newest variable was used for before the hole fits (18)
abbrev pub fit_before : Part → Option (List ℕ) → Mult → List Mult → Place → Asks (Unit {0})
fit_before Part.erased n q us p = Ask.done tt
fit_before Part.run n q us p = need (fits_before (usage_at us 0) q) (Cause.wrong_usage n q (usage_at us 0)) p

-- a statement without a name binds no name
abbrev pub bound_names : Option Local → List (List ℕ) → List (List ℕ)
bound_names None ns = ns
bound_names (Some x) ns = x.name ∷ ns

-- ---- rows
abbrev pub Walks : Type 0
Walks = Scope → List (List ℕ) → Term → Asks Walked

-- Let, from the value on: 3 the body is walked; 4 the use of the name before the hole fits (18)
abbrev pub let_way : Part → Scope → List (List ℕ) → Term → Mult → Local → Asks Judged → Walks → Asks Walked
let_way p S ns A q x value body = do
  e ← value
  w ← body (with_name q e.type S) (x.name ∷ ns) (ren suc A)
  fits ← fit_before p (name_of x.name) q w.uses (at x.span rule.Let 4)
  Ask.done (used_too (usage_scale q e.uses) (passed p q w))

-- Do bind: 2 the head of the expected type is IO or IO1 (35); 3 the action is synthesised; 4 the head of its type is IO
-- or IO1 (35); 5 the rest is walked; 6 the use of the name before the hole fits (18)
abbrev pub bind_way : Part → Scope → List (List ℕ) → Term → Span → Span → Option Local → Asks Judged → Walks → Asks
    Walked
bind_way p S ns A s r x action rest = do
  B ← action_of S A (at s rule.DoBind 2)
  e ← action
  C ← action_of S e.type (at r rule.DoBind 4)
  w ← rest (bound x (mult_of C.io) C.result S) (bound_names x ns) (ren suc A)
  fits ← fit_before p (bound_name x) (mult_of C.io) w.uses (at (bound_place x r) rule.DoBind 6)
  Ask.done (used_too e.uses (passed p (mult_of C.io) w))

-- Lam check: 1 the head of the expected type is a function type (15); 2, 3 what is written agrees with it; 4 the body
-- is walked; 5 the use of the name before the hole fits (18)
abbrev pub lambda_way : Entries → Part → Scope → List (List ℕ) → Span → Term → Binders → Walks → Asks Walked
lambda_way G p S ns s A no_binder body = body S ns A
lambda_way G p S ns s A (binder_and x bs) body = do
  F ← function_of S A (at s rule.LamCheck 1)
  agrees ← written_domain G S s F x
  w ← lambda_way G p (with_name F.mult F.domain S) ((binder_name x).name ∷ ns) s F.codomain bs body
  fits ← fit_before p (name_of (binder_name x).name) F.mult w.uses (at (binder_place x) rule.LamCheck 5)
  Ask.done (passed p F.mult w)

-- ---- the way, against a type
abbrev mutual
  pub way : Entries → Part → Scope → List (List ℕ) → Tree → Term → Asks Walked
  way G p S ns (hole n s) A = Ask.done (found_hole S ns n s A)
  way G p S ns (lambda bs e s) A = lambda_way G p S ns s A bs (λ T ms B. way G p T ms e B)
  way G p S ns (letting q x C e b s) A = let_way p S ns A q x (valued G S C (λ n. judge G (under p q) S n e))
      (λ T ms B. way G p T ms b B)
  way G p S ns (doing ss s) A = statements_way G p S ns s ss A
  way G p S ns e A = refuse Cause.unread (at (place e) rule.Switch 1)

  -- statements of a `do`, the first of which stands at s
  pub statements_way : Entries → Part → Scope → List (List ℕ) → Span → Statements → Term → Asks Walked
  statements_way G p S ns s (statement_and (run e r) no_statement) A = way G p S ns e A
  statements_way G p S ns s (statement_and (run e r) (statement_and t ss)) A =
      bind_way p S ns A s (place e) None (judge G p S Mode.synth e)
      (λ T ms B. statements_way G p T ms (statement_place t) (statement_and t ss) B)
  statements_way G p S ns s (statement_and (bind x e) (statement_and t ss)) A =
      bind_way p S ns A s (place e) (Some x) (judge G p S Mode.synth e)
      (λ T ms B. statements_way G p T ms (statement_place t) (statement_and t ss) B)
  statements_way G p S ns s (statement_and (local q x C e r) (statement_and t ss)) A =
      let_way p S ns A q x (valued G S C (λ n. judge G (under p q) S n e))
      (λ T ms B. statements_way G p T ms (statement_place t) (statement_and t ss) B)
  statements_way G p S ns s _ A = refuse Cause.unread (at s rule.Do 1)

-- the hole that a walk from this scope found
abbrev pub hole_of : Part → Scope → Walked → Hole
hole_of p S w = record {
  name = w.name;
  span = w.span;
  goal = w.goal;
  depth = depth w.scope;
  seen = in_sight (w.left ++ all_left p S.vars w.uses) w.names w.scope.names;
}

-- The walk at a leaf, where this is reported: behind the way, a pattern variable fits where it was used at most once
-- before the hole (18).
abbrev pub walk : Entries → Part → Scope → List (List ℕ) → List Report → Tree → Term → Asks Hole
walk G p S ns rs e A = do
  w ← way G p S ns e A
  fit ← uses_pass fits_before p S.vars w.uses rs
  Ask.done (hole_of p S w)
