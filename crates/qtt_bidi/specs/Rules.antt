-- Elaboration as a relation, rule by rule: heads are heads without a bound, and what compares Equal is convertible.
use Rattle.std.specs.Prelude.{◌≡◌, ℕ, ℤ, suc, max, List, [], ◌∷◌, drop, Option, Some, None, slice_get}
use Rattle.qtt_base.specs.declared.place.GlobalId.{GlobalId}
use Rattle.qtt_base.specs.declared.place.Span.{Span}
use Rattle.qtt_usage.specs.declared.mult.Mult.{Mult}
use Rattle.qtt_usage.specs.Mult.{◌≼◌}
use Rattle.qtt_usage.specs.Usage.{usage_sum, usage_scale, usage_at}
use Rattle.qtt_syntax.specs.declared.expr.Local.{Local}
use Rattle.qtt_syntax.specs.declared.expr.Mark.{Mark}
use Rattle.qtt_syntax.specs.declared.expr.Named.{Named}
use Rattle.qtt_syntax.specs.declared.expr.Target.TheVariants as target
use Rattle.qtt_syntax.specs.Tree.{Tree, Annotation, Arguments, Binder, Binders, Statement, Statements}
use Rattle.qtt_syntax.specs.Tree.Tree.{name, number, text, universe, the, apply, pi, lambda, letting, doing}
use Rattle.qtt_syntax.specs.Tree.Annotation.{untyped, typed}
use Rattle.qtt_syntax.specs.Tree.Argument.{argument}
use Rattle.qtt_syntax.specs.Tree.Arguments.{no_argument, argument_and}
use Rattle.qtt_syntax.specs.Tree.Binder.{plain, typed_binder}
use Rattle.qtt_syntax.specs.Tree.Binders.{no_binder, binder_and}
use Rattle.qtt_syntax.specs.Tree.Statement.{bind, local, run}
use Rattle.qtt_syntax.specs.Tree.Statements.{no_statement, statement_and}
use Rattle.qtt_term.specs.declared.term.ConId.{ConId}
use Rattle.qtt_term.specs.declared.rule.Rule.{Rule}
use Rattle.qtt_term.specs.Term.{Io, Action, Form, Term, Terms, var, node, ε, ◌▸◌, ◌+++◌, Sort, Pi, Lam, App, Fam, Def, IntLit, TextLit, Act}
use Rattle.qtt_term.specs.Term as core
use Rattle.qtt_term.specs.Substitution.{ren, sub, cons, push, inst, closed}
use Rattle.qtt_term.specs.Signature.{Tele, ConSig, definition_at, fam_at, signature, IntTy, StringTy, IoTy, mult_of}
use Rattle.qtt_term.specs.Contraction.{Conv}
use Rattle.qtt_term.specs.Judgement.{Part, InRun, Usable, mult_at, under}
use Rattle.qtt_term.specs.Ask.{Ending, HeadIs, Ends}
use Rattle.qtt_term.specs.Infer.{infer, use_at}
use Rattle.qtt_term.specs.Entries.{Entries, env}
use Rattle.qtt_term.specs.Scope.{Scope, depth, with_name}
use Rattle.qtt_term.specs.Forms.{front}
use Rattle.qtt_rules.specs.Judged.{Judged, judged, Mode}
use Rattle.qtt_bidi.specs.Meaning.{Meaning, meaning, exact}
use Rattle.qtt_bidi.specs.Elaboration.{lifted, unused, Classified, Given, given, let_type, bound, family_telescope, constructor_at, param_count}

-- in the run part the newest variable's use fits its multiplicity
abbrev pub Fits : Part → Mult → List Mult → Type 0
Fits p q us = InRun p (usage_at us 0 ≼ q)

-- the uses that the core judgement finds for a term; in the erased part nothing is asked
abbrev pub Accepted : Entries → Part → Scope → Term → List Mult → Type 0
Accepted G Part.run S t us = (A : Term) × Ends (env G) (infer (env G) Part.run S.vars t)
    (Ending.ok (record { type = A; uses = us }))
Accepted G Part.erased S t us = us ≡ unused S

-- the expression is a name of this meaning with these arguments
pub data Calls (G : Entries) : Tree → Meaning → Arguments → Type 0 where
  alone : {n : Named} {id : GlobalId} {m : Meaning} → n.target ≡ target.Global id → meaning G id ≡ m →
      Calls G (name n) m no_argument
  to_arguments : {f : Tree} {es : Arguments} {s : Span} {m : Meaning} → exact G f ≡ Some m → Calls G (apply f es s) m es

-- a statement with an action, and the name that it binds
pub data Acts : Statement → Option Local → Tree → Type 0 where
  binds : {x : Local} {e : Tree} → Acts (bind x e) (Some x) e
  runs : {e : Tree} {s : Span} → Acts (run e s) None e

mutual
  -- ---- forms whose type is found: where a type is expected, the rule Switch compares them
  pub data Found (G : Entries) : Part → Scope → Tree → Judged → Type 0 where
    -- Var
    variable : {p : Part} {S : Scope} {n : Named} {i k : ℕ} {A : Term} →
        n.target ≡ target.Local i → slice_get S.names i ≡ Some (var k, A) → Usable p (mult_at S.vars k) →
        Found G p S (name n) (judged A (var k) (use_at p (depth S) k))
    -- Stands
    stands : {p : Part} {S : Scope} {n : Named} {i : ℕ} {F : Form} {ts : Terms} {A : Term} {us : List Mult} →
        n.target ≡ target.Local i → slice_get S.names i ≡ Some (node F ts, A) → Accepted G p S (node F ts) us →
        Found G p S (name n) (judged A (node F ts) us)
    -- Global
    global : {p : Part} {S : Scope} {n : Named} {d e : GlobalId} →
        n.target ≡ target.Global d → meaning G d ≡ Meaning.definition e → Usable p (definition_at (env G) e).mult →
        Found G p S (name n) (judged (definition_at (env G) e).type (Def e) (unused S))
    -- Univ
    sort : {p : Part} {S : Scope} {l : ℕ} {r s : Span} →
        Found G p S (universe l r s) (judged (Sort (suc l)) (Sort l) (unused S))
    -- Pi
    function_type : {p : Part} {S : Scope} {k : Mark} {q : Mult} {x : List ℕ} {A B : Tree} {s : Span}
        {D C : Classified} →
        IsType G S A D → IsType G (with_name q D.core S) B C →
        Found G p S (pi k q x A B s) (judged (Sort (max D.level C.level)) (Pi q D.core C.core) (unused S))
    -- App
    application : {p : Part} {S : Scope} {f : Tree} {es : Arguments} {s : Span} {F j : Judged} →
        exact G f ≡ None → Elaborates G p S Mode.synth f F → Applied G p S F es j →
        Found G p S (apply f es s) j
    -- Family
    family : {p : Part} {S : Scope} {e : Tree} {f : GlobalId} {es : Arguments} {g : Given} →
        Calls G e (Meaning.family f) es → Checked G p S (family_telescope G f) closed es g →
        Found G p S e (judged (Sort (fam_at (env G) f).level) (Fam f g.cores) g.uses)
    -- Family of IO and IO1, Prim, Act
    listed : {p : Part} {S : Scope} {e : Tree} {r : Rule} {n : core.Named} {es : Arguments} {g : Given} →
        Calls G e (Meaning.listed r n) es → Checked G p S (signature (env G) n).arguments closed es g →
        Found G p S e (judged (sub (push g.cores closed) (signature (env G) n).type) (node (Form.named n) g.cores)
        g.uses)
    -- The
    ascribed : {p : Part} {S : Scope} {A e : Tree} {s : Span} {D : Classified} {j : Judged} →
        IsType G S A D → Elaborates G p S (Mode.check D.core) e j →
        Found G p S (the A e s) j
    -- Lit
    integer : {p : Part} {S : Scope} {z : ℤ} {s : Span} → Found G p S (number z s) (judged IntTy (IntLit z) (unused S))
    string : {p : Part} {S : Scope} {v : List ℕ} {s : Span} →
        Found G p S (text v s) (judged StringTy (TextLit v) (unused S))

  -- ---- an expression has this type, core and uses; in check mode the type is the given one
  pub data Elaborates (G : Entries) : Part → Scope → Mode → Tree → Judged → Type 0 where
    found : {p : Part} {S : Scope} {e : Tree} {j : Judged} → Found G p S e j → Elaborates G p S Mode.synth e j
    -- Switch
    switch : {p : Part} {S : Scope} {e : Tree} {j : Judged} {A : Term} →
        Found G p S e j → Conv (env G) j.type A → Elaborates G p S (Mode.check A) e (judged A j.core j.uses)
    -- Lam synth, Lam check
    lam_synth : {p : Part} {S : Scope} {bs : Binders} {e : Tree} {s : Span} {j : Judged} →
        FoundLambda G p S bs e j → Elaborates G p S Mode.synth (lambda bs e s) j
    lam_check : {p : Part} {S : Scope} {bs : Binders} {e : Tree} {s : Span} {A : Term} {j : Judged} →
        CheckedLambda G p S A bs e j → Elaborates G p S (Mode.check A) (lambda bs e s) j
    -- Con synth
    con_synth : {p : Part} {S : Scope} {e : Tree} {c : ConId} {d : ConSig} {es : Arguments} {g : Given} →
        Calls G e (Meaning.constructor c) es → constructor_at G c ≡ Some d → param_count G c ≡ 0 →
        Checked G p S d.fields closed es g →
        Elaborates G p S Mode.synth e
        (judged (sub (push g.cores closed) d.result) (node (Form.con c.family c.place 0) g.cores) g.uses)
    -- Con check
    con_check : {p : Part} {S : Scope} {e : Tree} {c : ConId} {d : ConSig} {es : Arguments} {A : Term} {xs : Terms}
        {g : Given} →
        Calls G e (Meaning.constructor c) es → constructor_at G c ≡ Some d → HeadIs (env G) A (Fam c.family xs) →
        Checked G p S d.fields (push (front (param_count G c) xs) closed) es g →
        Conv (env G) (sub (push (front (param_count G c) xs +++ g.cores) closed) d.result) A →
        Elaborates G p S (Mode.check A) e
        (judged A (node (Form.con c.family c.place (param_count G c)) (front (param_count G c) xs +++ g.cores))
        g.uses)
    -- Pure
    pure : {p : Part} {S : Scope} {e : Tree} {m : Io} {es : Arguments} {A B : Term} {g : Given} →
        Calls G e (Meaning.pure m) es → HeadIs (env G) A (IoTy m B) →
        Checked G p S ((mult_of m, var 0) ∷ []) (cons B closed) es g →
        Elaborates G p S (Mode.check A) e (judged A (Act (Action.pure m) 1 (B ▸ g.cores)) g.uses)
    -- Let
    let_in : {p : Part} {S : Scope} {m : Mode} {q : Mult} {x : Local} {A : Annotation} {e b : Tree} {s : Span}
        {v j : Judged} →
        Valued G (under p q) S A e v → Elaborates G p (with_name q v.type S) (lifted m) b j → Fits p q j.uses →
        Elaborates G p S m (letting q x A e b s)
        (judged (let_type m j.type v.core) (App q (Lam q v.type j.core) v.core)
        (usage_sum (drop 1 j.uses) (usage_scale q v.uses)))
    block : {p : Part} {S : Scope} {m : Mode} {ss : Statements} {s : Span} {j : Judged} →
        Runs G p S m ss j → Elaborates G p S m (doing ss s) j

  -- it is a type
  pub data IsType (G : Entries) : Scope → Tree → Classified → Type 0 where
    classified : {S : Scope} {e : Tree} {j : Judged} {l : ℕ} →
        Elaborates G Part.erased S Mode.synth e j → HeadIs (env G) j.type (Sort l) →
        IsType G S e (record { core = j.core; level = l })

  -- arguments, exactly those of a telescope, σ being what stands for the variables before it
  pub data Checked (G : Entries) : Part → Scope → Tele → (ℕ → Term) → Arguments → Given → Type 0 where
    none : {p : Part} {S : Scope} {σ : ℕ → Term} → Checked G p S [] σ no_argument (given ε (unused S))
    more : {p : Part} {S : Scope} {q : Mult} {T : Term} {Θ : Tele} {σ : ℕ → Term} {k : Mark}
        {e : Tree} {es : Arguments} {a : Judged} {g : Given} →
        Elaborates G (under p q) S (Mode.check (sub σ T)) e a → Checked G p S Θ (cons a.core σ) es g →
        Checked G p S ((q, T) ∷ Θ) σ (argument_and (argument k e) es)
        (given (a.core ▸ g.cores) (usage_sum (usage_scale q a.uses) g.uses))

  -- a function that is judged so, applied to arguments
  pub data Applied (G : Entries) : Part → Scope → Judged → Arguments → Judged → Type 0 where
    itself : {p : Part} {S : Scope} {f : Judged} → Applied G p S f no_argument f
    to : {p : Part} {S : Scope} {f a j : Judged} {q : Mult} {A B : Term} {k : Mark} {e : Tree} {es : Arguments} →
        HeadIs (env G) f.type (Pi q A B) → Elaborates G (under p q) S (Mode.check A) e a →
        Applied G p S (judged (inst B a.core) (App q f.core a.core) (usage_sum f.uses (usage_scale q a.uses))) es j →
        Applied G p S f (argument_and (argument k e) es) j

  pub data FoundLambda (G : Entries) : Part → Scope → Binders → Tree → Judged → Type 0 where
    found_body : {p : Part} {S : Scope} {e : Tree} {j : Judged} → Elaborates G p S Mode.synth e j →
        FoundLambda G p S no_binder e j
    found_binder : {p : Part} {S : Scope} {q : Mult} {x : Local} {A : Tree} {s : Span} {bs : Binders} {e : Tree}
        {D : Classified} {j : Judged} →
        IsType G S A D → FoundLambda G p (with_name q D.core S) bs e j → Fits p q j.uses →
        FoundLambda G p S (binder_and (typed_binder q x A s) bs) e
        (judged (Pi q D.core j.type) (Lam q D.core j.core) (drop 1 j.uses))

  pub data CheckedLambda (G : Entries) : Part → Scope → Term → Binders → Tree → Judged → Type 0 where
    checked_body : {p : Part} {S : Scope} {A : Term} {e : Tree} {j : Judged} → Elaborates G p S (Mode.check A) e j →
        CheckedLambda G p S A no_binder e j
    checked_binder : {p : Part} {S : Scope} {T : Term} {q : Mult} {A B : Term} {b : Binder} {bs : Binders}
        {e : Tree} {j : Judged} →
        HeadIs (env G) T (Pi q A B) → Agrees G S q A b → CheckedLambda G p (with_name q A S) B bs e j →
        Fits p q j.uses →
        CheckedLambda G p S T (binder_and b bs) e (judged T (Lam q A j.core) (drop 1 j.uses))

  -- what is written of a binder agrees with the domain of a function type and its multiplicity
  pub data Agrees (G : Entries) : Scope → Mult → Term → Binder → Type 0 where
    without_type : {S : Scope} {q : Mult} {A : Term} {x : Local} → Agrees G S q A (plain x)
    with_type : {S : Scope} {q : Mult} {A : Term} {x : Local} {T : Tree} {s : Span} {D : Classified} →
        IsType G S T D → Conv (env G) D.core A → Agrees G S q A (typed_binder q x T s)

  -- the value of a `let`
  pub data Valued (G : Entries) : Part → Scope → Annotation → Tree → Judged → Type 0 where
    without_annotation : {p : Part} {S : Scope} {e : Tree} {j : Judged} → Elaborates G p S Mode.synth e j →
        Valued G p S untyped e j
    with_annotation : {p : Part} {S : Scope} {A e : Tree} {D : Classified} {j : Judged} →
        IsType G S A D → Elaborates G p S (Mode.check D.core) e j → Valued G p S (typed A) e j

  -- the statements of a `do`
  pub data Runs (G : Entries) : Part → Scope → Mode → Statements → Judged → Type 0 where
    -- Do
    last : {p : Part} {S : Scope} {m : Mode} {e : Tree} {s : Span} {j : Judged} → Elaborates G p S m e j →
        Runs G p S m (statement_and (run e s) no_statement) j
    -- Do bind
    act : {p : Part} {S : Scope} {st : Statement} {x : Option Local} {e : Tree} {t : Statement} {ss : Statements}
        {T A B : Term} {m n : Io} {j k : Judged} →
        Acts st x e → HeadIs (env G) T (IoTy n B) → Elaborates G p S Mode.synth e j → HeadIs (env G) j.type (IoTy m A) →
        Runs G p (bound x (mult_of m) A S) (Mode.check (ren suc T)) (statement_and t ss) k → Fits p (mult_of m) k.uses →
        Runs G p S (Mode.check T) (statement_and st (statement_and t ss))
        (judged T (Act (Action.bind m n) 2 (A ▸ B ▸ j.core ▸ Lam (mult_of m) A k.core ▸ ε))
        (usage_sum j.uses (drop 1 k.uses)))
    -- Let
    let_then : {p : Part} {S : Scope} {m : Mode} {q : Mult} {x : Local} {A : Annotation} {e : Tree} {s : Span}
        {t : Statement} {ss : Statements} {v j : Judged} →
        Valued G (under p q) S A e v → Runs G p (with_name q v.type S) (lifted m) (statement_and t ss) j →
        Fits p q j.uses →
        Runs G p S m (statement_and (local q x A e s) (statement_and t ss))
        (judged (let_type m j.type v.core) (App q (Lam q v.type j.core) v.core)
        (usage_sum (drop 1 j.uses) (usage_scale q v.uses)))
