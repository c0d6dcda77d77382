-- Elaboration of expressions, in two directions: a type is synthesised, or a given type is checked. It gives a core
-- term and the uses of the context's variables. Each rule is here as its list of premises, in order and with their
-- numbers; the number in brackets is the kind of refusal where the premise is false. The place is the first token of
-- the form, unless a premise names another. (Bidirectional rules over the judgement of Atkey 2018; the profile of the
-- language is its own.)
use Rattle.std.specs.Prelude.{ℕ, suc, max, Bool, true, false, ◌&&◌, eqb, List, [], ◌∷◌, ◌++◌, length, drop, Option, Some, None, slice_get}
use Rattle.qtt_base.specs.declared.place.GlobalId.{GlobalId}
use Rattle.qtt_base.specs.declared.place.Span.{Span}
use Rattle.qtt_usage.specs.declared.mult.Mult.{Mult}
use Rattle.qtt_usage.specs.Mult.{same_mult}
use Rattle.qtt_usage.specs.Usage.{usage_sum, usage_scale, no_usage}
use Rattle.qtt_syntax.specs.declared.expr.Local.{Local}
use Rattle.qtt_syntax.specs.declared.expr.Target.{Target}
use Rattle.qtt_syntax.specs.declared.expr.Target.TheVariants as target
use Rattle.qtt_syntax.specs.Tree.{Tree, Annotation, Arguments, Binder, Binders, Statement, Statements}
use Rattle.qtt_syntax.specs.Tree.Tree.{name, number, text, universe, hole, the, apply, pi, lambda, letting, doing}
use Rattle.qtt_syntax.specs.Tree.Annotation.{untyped, typed}
use Rattle.qtt_syntax.specs.Tree.Argument.{argument}
use Rattle.qtt_syntax.specs.Tree.Arguments.{no_argument, argument_and}
use Rattle.qtt_syntax.specs.Tree.Binder.{plain, typed_binder}
use Rattle.qtt_syntax.specs.Tree.Binders.{no_binder, binder_and}
use Rattle.qtt_syntax.specs.Tree.Statement.{bind, local, run}
use Rattle.qtt_syntax.specs.Tree.Statements.{no_statement, statement_and}
use Rattle.qtt_term.specs.declared.term.ConId.{ConId}
use Rattle.qtt_term.specs.declared.rule.Rule.{Rule}
use Rattle.qtt_term.specs.declared.rule.Rule.TheVariants as rule
use Rattle.qtt_term.specs.Term.{Io, Action, Form, Term, Terms, var, node, ε, ◌▸◌, ◌+++◌, Sort, Pi, Lam, App, Def, IntLit, TextLit, Act}
use Rattle.qtt_term.specs.Substitution.{ren, sub, cons, push, inst, closed}
use Rattle.qtt_term.specs.Signature.{Tele, ConSig, signature, definition_at, fam_at, IntTy, StringTy, mult_of}
use Rattle.qtt_term.specs.Judgement.{Part, mult_at, erase_binds, under}
use Rattle.qtt_term.specs.Infer.{infer, usable, use_at}
use Rattle.qtt_term.specs.Ask.{Ask, ◌>>=◌, asked_at}
use Rattle.qtt_term.specs.Entries.{Entries, env}
use Rattle.qtt_term.specs.Scope.{Scope, depth, with_var, with_name, name_of}
use Rattle.qtt_term.specs.Forms.{Function, front}
use Rattle.qtt_rules.specs.Refusal.{Cause, Place, at}
use Rattle.qtt_rules.specs.Asks.{Asks, refuse, need, agree}
use Rattle.qtt_rules.specs.Judged.{Judged, judged, Mode}
use Rattle.qtt_bidi.specs.Meaning.{Meaning, meaning, exact}
use Rattle.qtt_bidi.specs.Premises.{sort_of, function_of, family_of, action_of, result_of, fit}

-- under one more binder
abbrev pub lifted : Mode → Mode
lifted Mode.synth = Mode.synth
lifted (Mode.check A) = Mode.check (ren suc A)

abbrev pub unused : Scope → List Mult
unused S = no_usage (depth S)

-- the first token of an expression
abbrev pub place : Tree → Span
place (name n) = n.span
place (number z s) = s
place (text v s) = s
place (universe l ls s) = s
place (hole n s) = s
place (the A e s) = s
place (apply f es s) = s
place (pi k q x A B s) = s
place (lambda bs e s) = s
place (letting q x A e b s) = s
place (doing ss s) = s

-- Switch: 1 it is synthesised; 2 what is found compares Equal to what is expected (16)
abbrev pub switched : Scope → Mode → Span → Asks Judged → Asks Judged
switched S Mode.synth s synthesised = synthesised
switched S (Mode.check A) s synthesised = do
  j ← synthesised
  same ← agree (depth S) j.type A (at s rule.Switch 2)
  Ask.done (judged A j.core j.uses)

pub record Classified : Type 0 where
  pub core : Term
  pub level : ℕ

-- "is a type": what is synthesised in the erased part has a type whose head is a Sort (19)
abbrev pub is_type : Scope → Asks Judged → Place → Asks Classified
is_type S synthesised p = do
  j ← synthesised
  l ← sort_of S j.type p
  Ask.done (record { core = j.core; level = l })

-- ---- names
-- Var: 1 in the run part the variable is not declared 0 (23)
-- Stands, for a name that stands for a term that is no variable: 1 in the run part the core judgement accepts the term
-- there (23)
abbrev pub stands_for : Entries → Part → Scope → Span → Term → Term → Asks Judged
stands_for G p S s (var i) A = do
  used ← need (usable p (mult_at S.vars i)) (Cause.erased_use (depth S) (var i)) (at s rule.Var 1)
  Ask.done (judged A (var i) (use_at p (depth S) i))
stands_for G Part.run S s (node F ts) A =
    asked_at (at s rule.Stands 1) (infer (env G) Part.run S.vars (node F ts))
    (λ j. Ask.done (judged A (node F ts) j.uses))
    (λ x. refuse (Cause.erased_use (depth S) (node F ts)) (at s rule.Stands 1))
stands_for G Part.erased S s (node F ts) A = Ask.done (judged A (node F ts) (unused S))

abbrev pub local_row : Entries → Part → Scope → Span → Option (Term × Term) → Asks Judged
local_row G p S s None = refuse Cause.unread (at s rule.Var 1)
local_row G p S s (Some x) = stands_for G p S s x.0 x.1

-- Global: 1 in the run part it is not a 0 definition (23)
abbrev pub definition_row : Entries → Part → Scope → Span → GlobalId → Asks Judged
definition_row G p S s d = do
  used ← need (usable p (definition_at (env G) d).mult) (Cause.erased_use (depth S) (Def d)) (at s rule.Global 1)
  Ask.done (judged (definition_at (env G) d).type (Def d) (unused S))

-- ---- what takes exactly its arguments
pub record Given : Type 0 where
  pub cores : Terms
  pub uses : List Mult

abbrev pub given : Terms → List Mult → Given
given ts u = record { cores = ts; uses = u }

-- written arguments: how many, and what checking them against a telescope asks, σ being what stands for the variables
-- before it
pub record Written : Type 0 where
  pub count : ℕ
  pub checked : Tele → (ℕ → Term) → Asks Given

abbrev pub none_written : Scope → Written
none_written S = record { count = 0; checked = λ Θ σ. Ask.done (given ε (unused S)) }

abbrev pub exactly : ℕ → Written → Place → Asks (Unit {0})
exactly n w p = need (eqb n w.count) (Cause.wrong_arity n w.count) p

-- Family, Prim, Act: 1 exactly its arguments (21); 2 each is checked, those of a family or of IO in the erased part
abbrev pub listed_row : Scope → Span → Rule → Form → Tele → Term → Written → Asks Judged
listed_row S s r F Θ A w = do
  all ← exactly (length Θ) w (at s r 1)
  g ← w.checked Θ closed
  Ask.done (judged (sub (push g.cores closed) A) (node F g.cores) g.uses)

-- Con synth: 1 the family has no parameters (14); 2 exactly its fields (21); 3 each is checked
abbrev pub con_synth : Scope → Span → ConId → ℕ → ConSig → Written → Asks Judged
con_synth S s c k d w = do
  no_params ← need (eqb k 0) Cause.needs_type (at s rule.ConSynth 1)
  all ← exactly (length d.fields) w (at s rule.ConSynth 2)
  g ← w.checked d.fields closed
  Ask.done (judged (sub (push g.cores closed) d.result) (node (Form.con c.family c.place 0) g.cores) g.uses)

-- Con check: 1 the head of the expected type is the constructor's family (22); 2 exactly its fields (21); 3 each is
-- checked, with the family's parameters from there; 4 the constructor's type compares Equal to the expected one (16)
abbrev pub con_check : Scope → Span → ConId → ℕ → ConSig → Term → Written → Asks Judged
con_check S s c k d A w = do
  xs ← family_of c.family S A (at s rule.ConCheck 1)
  all ← exactly (length d.fields) w (at s rule.ConCheck 2)
  g ← w.checked d.fields (push (front k xs) closed)
  same ← agree (depth S) (sub (push (front k xs +++ g.cores) closed) d.result) A (at s rule.ConCheck 4)
  Ask.done (judged A (node (Form.con c.family c.place k) (front k xs +++ g.cores)) g.uses)

abbrev pub con_row : Scope → Mode → Span → ConId → ℕ → Option ConSig → Written → Asks Judged
con_row S m s c k None w = refuse Cause.unread (at s rule.ConSynth 1)
con_row S Mode.synth s c k (Some d) w = con_synth S s c k d w
con_row S (Mode.check A) s c k (Some d) w = con_check S s c k d A w

-- Pure: 1 it is checked, not synthesised (14); 2 the head of the expected type is IO, for pure1 IO1 (35); 3 exactly
-- one argument (21); 4 it is checked, at many, for pure1 at 1
abbrev pub pure_row : Scope → Mode → Span → Io → Written → Asks Judged
pure_row S Mode.synth s m w = refuse Cause.needs_type (at s rule.Pure 1)
pure_row S (Mode.check A) s m w = do
  B ← result_of m S A (at s rule.Pure 2)
  one ← exactly 1 w (at s rule.Pure 3)
  g ← w.checked ((mult_of m, var 0) ∷ []) (cons B closed)
  Ask.done (judged A (Act (Action.pure m) 1 (B ▸ g.cores)) g.uses)

-- ---- global names
-- parameters and indices, erased
abbrev pub family_telescope : Entries → GlobalId → Tele
family_telescope G f = erase_binds ((fam_at (env G) f).params ++ (fam_at (env G) f).indices)

abbrev pub constructor_at : Entries → ConId → Option ConSig
constructor_at G c = slice_get (fam_at (env G) c.family).constructors c.place

abbrev pub param_count : Entries → ConId → ℕ
param_count G c = length (fam_at (env G) c.family).params

abbrev pub global_row : Entries → Part → Scope → Mode → Span → Meaning → Written → Asks Judged
global_row G p S m s (Meaning.definition d) w = switched S m s (definition_row G p S s d)
global_row G p S m s (Meaning.family f) w = switched S m s
    (listed_row S s rule.Family (Form.fam f) (family_telescope G f) (Sort (fam_at (env G) f).level) w)
global_row G p S m s (Meaning.constructor c) w = con_row S m s c (param_count G c) (constructor_at G c) w
global_row G p S m s (Meaning.listed r n) w = switched S m s
    (listed_row S s r (Form.named n) (signature (env G) n).arguments (signature (env G) n).type w)
global_row G p S m s (Meaning.pure i) w = pure_row S m s i w

abbrev pub name_row : Entries → Part → Scope → Mode → Span → Target → Asks Judged
name_row G p S m s target.Unknown = refuse Cause.unread (at s rule.Var 1)
name_row G p S m s (target.Local i) = switched S m s (local_row G p S s (slice_get S.names i))
name_row G p S m s (target.Global id) = global_row G p S m s (meaning G id) (none_written S)

-- ---- binders
abbrev pub is_typed : Binder → Bool
is_typed (plain x) = false
is_typed (typed_binder q x A s) = true

abbrev pub all_typed : Binders → Bool
all_typed no_binder = true
all_typed (binder_and b bs) = is_typed b && all_typed bs

abbrev pub binder_name : Binder → Local
binder_name (plain x) = x
binder_name (typed_binder q x A s) = x

-- its first token
abbrev pub binder_place : Binder → Span
binder_place (plain x) = x.span
binder_place (typed_binder q x A s) = s

-- the type of a `let`: where it is synthesised, the body's with the value in it
abbrev pub let_type : Mode → Term → Term → Term
let_type Mode.synth B e = inst B e
let_type (Mode.check A) B e = A

-- Let: 1 a written type is a type (19); 2 the value is checked against it, or else synthesised; 3 the body, in the
-- mode of the whole; 4 its use of the name fits (18)
abbrev pub let_row : Part → Scope → Mode → Mult → Local → Asks Judged → (Scope → Mode → Asks Judged) → Asks Judged
let_row p S m q x value body = do
  e ← value
  b ← body (with_name q e.type S) (lifted m)
  fits ← fit p (name_of x.name) q b.uses (at x.span rule.Let 4)
  Ask.done (judged (let_type m b.type e.core) (App q (Lam q e.type b.core) e.core)
      (usage_sum (drop 1 b.uses) (usage_scale q e.uses)))

-- the name that a statement binds, where it binds one
abbrev pub bound : Option Local → Mult → Term → Scope → Scope
bound None = with_var
bound (Some x) = with_name

abbrev pub bound_name : Option Local → Option (List ℕ)
bound_name None = None
bound_name (Some x) = name_of x.name

abbrev pub bound_place : Option Local → Span → Span
bound_place None s = s
bound_place (Some x) s = x.span

-- Do bind, for a statement at s with an action at r: 1 it is checked, not synthesised (14); 2 the head of the
-- expected type is IO or IO1 (35); 3 the action is synthesised; 4 the head of its type is IO or IO1 (35, at the
-- action); 5 the rest is checked under the name, many after IO and 1 after IO1; 6 its use of the name fits (18)
abbrev pub bind_row : Part → Scope → Mode → Span → Span → Option Local → Asks Judged → (Scope → Mode → Asks Judged) →
    Asks Judged
bind_row p S Mode.synth s r x action rest = refuse Cause.needs_type (at s rule.DoBind 1)
bind_row p S (Mode.check A) s r x action rest = do
  B ← action_of S A (at s rule.DoBind 2)
  e ← action
  C ← action_of S e.type (at r rule.DoBind 4)
  k ← rest (bound x (mult_of C.io) C.result S) (Mode.check (ren suc A))
  fits ← fit p (bound_name x) (mult_of C.io) k.uses (at (bound_place x r) rule.DoBind 6)
  Ask.done (judged A
      (Act (Action.bind C.io B.io) 2 (C.result ▸ B.result ▸ e.core ▸ Lam (mult_of C.io) C.result k.core ▸ ε))
      (usage_sum e.uses (drop 1 k.uses)))

-- the first token of a statement
abbrev pub statement_place : Statement → Span
statement_place (bind x e) = x.span
statement_place (local q x A e s) = s
statement_place (run e s) = s

-- an application goes by the row of its function where that takes exactly its arguments, and else by App
abbrev pub by_function : Option Meaning → (Meaning → Asks Judged) → (Unit {0} → Asks Judged) → Asks Judged
by_function None exact_row app_row = app_row tt
by_function (Some x) exact_row app_row = exact_row x

abbrev pub argument_count : Arguments → ℕ
argument_count no_argument = 0
argument_count (argument_and a es) = suc (argument_count es)

-- ---- the rules
-- an expression, in a part, a scope and a mode
abbrev mutual
  pub judge : Entries → Part → Scope → Mode → Tree → Asks Judged
  judge G p S m (name n) = name_row G p S m n.span n.target
  -- Lit: no premise
  judge G p S m (number z s) = switched S m s (Ask.done (judged IntTy (IntLit z) (unused S)))
  judge G p S m (text v s) = switched S m s (Ask.done (judged StringTy (TextLit v) (unused S)))
  -- Univ: no premise
  judge G p S m (universe l ls s) = switched S m s (Ask.done (judged (Sort (suc l)) (Sort l) (unused S)))
  judge G p S m (hole n s) = refuse Cause.unread (at s rule.Switch 1)
  -- Pi: 1 the domain is a type (19); 2 the codomain is a type under the binder (19)
  judge G p S m (pi k q x A B s) = switched S m s (do
    D ← is_type S (judge G Part.erased S Mode.synth A) (at (place A) rule.Pi 1)
    C ← is_type (with_name q D.core S) (judge G Part.erased (with_name q D.core S) Mode.synth B)
        (at (place B) rule.Pi 2)
    Ask.done (judged (Sort (max D.level C.level)) (Pi q D.core C.core) (unused S)))
  -- Lam synth: 1 every binder has a type (14); the others stand at each binder
  judge G p S Mode.synth (lambda bs e s) = do
    have_types ← need (all_typed bs) Cause.needs_type (at s rule.LamSynth 1)
    synthesised_lambda G p S bs (λ T. judge G p T Mode.synth e)
  judge G p S (Mode.check A) (lambda bs e s) = checked_lambda G p S s A bs (λ T B. judge G p T (Mode.check B) e)
  judge G p S m (apply f es s) =
      by_function (exact G f)
      (λ x. global_row G p S m s x (record { count = argument_count es; checked = λ Θ σ. arguments G p S Θ σ es }))
      (λ u. switched S m s (do
        j ← judge G p S Mode.synth f
        applied G p S s j es))
  judge G p S m (letting q x A e b s) =
      let_row p S m q x (valued G S A (λ n. judge G (under p q) S n e)) (λ T n. judge G p T n b)
  judge G p S m (doing ss s) = statements G p S m s ss
  -- The: 1 the written type is a type (19); 2 the value is checked
  judge G p S m (the A e s) = switched S m s (do
    D ← is_type S (judge G Part.erased S Mode.synth A) (at (place A) rule.The 1)
    judge G p S (Mode.check D.core) e)

  -- arguments, each checked in the part of its multiplicity
  pub arguments : Entries → Part → Scope → Tele → (ℕ → Term) → Arguments → Asks Given
  arguments G p S [] σ es = Ask.done (given ε (unused S))
  arguments G p S (b ∷ Θ) σ no_argument = Ask.done (given ε (unused S))
  arguments G p S (b ∷ Θ) σ (argument_and (argument k e) es) = do
    a ← judge G (under p b.0) S (Mode.check (sub σ b.1)) e
    g ← arguments G p S Θ (cons a.core σ) es
    Ask.done (given (a.core ▸ g.cores) (usage_sum (usage_scale b.0 a.uses) g.uses))

  -- App: 1 the function is synthesised; 2 the head of its type is a function type (15); 3 the argument is checked
  pub applied : Entries → Part → Scope → Span → Judged → Arguments → Asks Judged
  applied G p S s f no_argument = Ask.done f
  applied G p S s f (argument_and (argument k e) es) = do
    F ← function_of S f.type (at s rule.App 2)
    a ← judge G (under p F.mult) S (Mode.check F.domain) e
    applied G p S s (judged (inst F.codomain a.core) (App F.mult f.core a.core)
        (usage_sum f.uses (usage_scale F.mult a.uses))) es

  -- Lam synth: 2 the domain is a type (19); 3 the body is synthesised; 4 its use of the name fits (18)
  pub synthesised_lambda : Entries → Part → Scope → Binders → (Scope → Asks Judged) → Asks Judged
  synthesised_lambda G p S no_binder body = body S
  -- (a binder without a type has been told by premise 1)
  synthesised_lambda G p S (binder_and (plain x) bs) body = refuse Cause.needs_type (at x.span rule.LamSynth 1)
  synthesised_lambda G p S (binder_and (typed_binder q x A s) bs) body = do
    D ← is_type S (judge G Part.erased S Mode.synth A) (at (place A) rule.LamSynth 2)
    b ← synthesised_lambda G p (with_name q D.core S) bs body
    fits ← fit p (name_of x.name) q b.uses (at s rule.LamSynth 4)
    Ask.done (judged (Pi q D.core b.type) (Lam q D.core b.core) (drop 1 b.uses))

  -- Lam check: 1 the head of the expected type is a function type (15); 2, 3 what is written agrees with it; 4 the
  -- body is checked; 5 its use of the name fits (18)
  pub checked_lambda : Entries → Part → Scope → Span → Term → Binders → (Scope → Term → Asks Judged) → Asks Judged
  checked_lambda G p S s A no_binder body = body S A
  checked_lambda G p S s A (binder_and x bs) body = do
    F ← function_of S A (at s rule.LamCheck 1)
    agrees ← written_domain G S s F x
    b ← checked_lambda G p (with_name F.mult F.domain S) s F.codomain bs body
    fits ← fit p (name_of (binder_name x).name) F.mult b.uses (at (binder_place x) rule.LamCheck 5)
    Ask.done (judged A (Lam F.mult F.domain b.core) (drop 1 b.uses))

  -- Lam check: 2 where a type is written, the mark, or its absence, is that of the function type (17); 3 the written
  -- domain is a type (19), and compares Equal to that of the function type (16)
  pub written_domain : Entries → Scope → Span → Function → Binder → Asks (Unit {0})
  written_domain G S s F (plain x) = Ask.done tt
  written_domain G S s F (typed_binder q x A r) = do
    same ← need (same_mult q F.mult) (Cause.wrong_quantity F.mult q) (at s rule.LamCheck 2)
    D ← is_type S (judge G Part.erased S Mode.synth A) (at (place A) rule.LamCheck 3)
    agree (depth S) D.core F.domain (at s rule.LamCheck 3)

  -- Let: 1 a written type is a type (19); 2 the value is checked against it, or else synthesised
  pub valued : Entries → Scope → Annotation → (Mode → Asks Judged) → Asks Judged
  valued G S untyped value = value Mode.synth
  valued G S (typed A) value = do
    D ← is_type S (judge G Part.erased S Mode.synth A) (at (place A) rule.Let 1)
    value (Mode.check D.core)

  -- Statements of a `do`, the first of which stands at s. Do: one statement is as its expression; a `let` is Let over
  -- the rest.
  pub statements : Entries → Part → Scope → Mode → Span → Statements → Asks Judged
  statements G p S m s (statement_and (run e r) no_statement) = judge G p S m e
  statements G p S m s (statement_and (run e r) (statement_and t ss)) =
      bind_row p S m s (place e) None (judge G p S Mode.synth e)
      (λ T n. statements G p T n (statement_place t) (statement_and t ss))
  statements G p S m s (statement_and (bind x e) (statement_and t ss)) =
      bind_row p S m s (place e) (Some x) (judge G p S Mode.synth e)
      (λ T n. statements G p T n (statement_place t) (statement_and t ss))
  statements G p S m s (statement_and (local q x A e r) (statement_and t ss)) =
      let_row p S m q x (valued G S A (λ n. judge G (under p q) S n e))
      (λ T n. statements G p T n (statement_place t) (statement_and t ss))
  statements G p S m s _ = refuse Cause.unread (at s rule.Do 1)
