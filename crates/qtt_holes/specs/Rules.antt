-- The way to a hole as a relation, rule by rule.
use Rattle.std.specs.Prelude.{ℕ, suc, Bool, List, ◌∷◌, Option, All, T}
use Rattle.qtt_base.specs.declared.place.Span.{Span}
use Rattle.qtt_usage.specs.declared.mult.Mult.{Mult}
use Rattle.qtt_usage.specs.Usage.{usage_at, usage_scale}
use Rattle.qtt_syntax.specs.declared.expr.Local.{Local}
use Rattle.qtt_syntax.specs.Tree.{Tree, Annotation, Binder, Binders, Statement, Statements}
use Rattle.qtt_syntax.specs.Tree.Tree.{hole, lambda, letting, doing}
use Rattle.qtt_syntax.specs.Tree.Binders.{no_binder, binder_and}
use Rattle.qtt_syntax.specs.Tree.Statement.{local, run}
use Rattle.qtt_syntax.specs.Tree.Statements.{no_statement, statement_and}
use Rattle.qtt_term.specs.Term.{Io, Term, Pi}
use Rattle.qtt_term.specs.Substitution.{ren}
use Rattle.qtt_term.specs.Signature.{IoTy, mult_of}
use Rattle.qtt_term.specs.Judgement.{Ctx, Part, InRun, mult_at, under}
use Rattle.qtt_term.specs.Ask.{HeadIs}
use Rattle.qtt_term.specs.Entries.{Entries, env}
use Rattle.qtt_term.specs.Scope.{Scope, with_name}
use Rattle.qtt_rules.specs.Judged.{Judged, Mode}
use Rattle.qtt_rules.specs.Report.{Report}
use Rattle.qtt_bidi.specs.Elaboration.{binder_name, bound}
use Rattle.qtt_bidi.specs.Rules.{Elaborates, Acts, Agrees, Valued}
use Rattle.qtt_holes.specs.Hole.{Hole, fits_before}
use Rattle.qtt_holes.specs.Walk.{Walked, found_hole, passed, used_too, bound_names, hole_of}

-- in the run part the newest variable's use before the hole fits its multiplicity
abbrev pub FitsBefore : Part → Mult → List Mult → Type 0
FitsBefore p q us = InRun p (T (fits_before (usage_at us 0) q))

mutual
  -- ---- the way to a hole, in a scope with these names, against a type
  pub data Walks (G : Entries) : Part → Scope → List (List ℕ) → Term → Tree → Walked → Type 0 where
    at_hole : {p : Part} {S : Scope} {ns : List (List ℕ)} {A : Term} {n : List ℕ} {s : Span} →
        Walks G p S ns A (hole n s) (found_hole S ns n s A)
    -- Lam check
    in_lambda : {p : Part} {S : Scope} {ns : List (List ℕ)} {A : Term} {bs : Binders} {e : Tree} {s : Span}
        {w : Walked} →
        WalksLambda G p S ns A bs e w → Walks G p S ns A (lambda bs e s) w
    -- Let
    in_let : {p : Part} {S : Scope} {ns : List (List ℕ)} {A : Term} {q : Mult} {x : Local} {C : Annotation}
        {e b : Tree} {s : Span} {v : Judged} {w : Walked} →
        Valued G (under p q) S C e v → Walks G p (with_name q v.type S) (x.name ∷ ns) (ren suc A) b w →
        FitsBefore p q w.uses →
        Walks G p S ns A (letting q x C e b s) (used_too (usage_scale q v.uses) (passed p q w))
    in_block : {p : Part} {S : Scope} {ns : List (List ℕ)} {A : Term} {ss : Statements} {s : Span} {w : Walked} →
        WalksStatements G p S ns A ss w → Walks G p S ns A (doing ss s) w

  -- binders, and the way behind them
  pub data WalksLambda (G : Entries) : Part → Scope → List (List ℕ) → Term → Binders → Tree → Walked → Type 0 where
    body : {p : Part} {S : Scope} {ns : List (List ℕ)} {A : Term} {e : Tree} {w : Walked} → Walks G p S ns A e w →
        WalksLambda G p S ns A no_binder e w
    binder : {p : Part} {S : Scope} {ns : List (List ℕ)} {F : Term} {q : Mult} {A B : Term} {b : Binder}
        {bs : Binders} {e : Tree} {w : Walked} →
        HeadIs (env G) F (Pi q A B) → Agrees G S q A b →
        WalksLambda G p (with_name q A S) ((binder_name b).name ∷ ns) B bs e w → FitsBefore p q w.uses →
        WalksLambda G p S ns F (binder_and b bs) e (passed p q w)

  -- the statements of a `do`
  pub data WalksStatements (G : Entries) : Part → Scope → List (List ℕ) → Term → Statements → Walked → Type 0 where
    -- Do
    last : {p : Part} {S : Scope} {ns : List (List ℕ)} {A : Term} {e : Tree} {s : Span} {w : Walked} →
        Walks G p S ns A e w → WalksStatements G p S ns A (statement_and (run e s) no_statement) w
    -- Do bind
    act : {p : Part} {S : Scope} {ns : List (List ℕ)} {st : Statement} {x : Option Local} {e : Tree}
        {t : Statement} {ss : Statements} {F A B : Term} {m n : Io} {j : Judged} {w : Walked} →
        Acts st x e → HeadIs (env G) F (IoTy n B) → Elaborates G p S Mode.synth e j → HeadIs (env G) j.type (IoTy m A) →
        WalksStatements G p (bound x (mult_of m) A S) (bound_names x ns) (ren suc F) (statement_and t ss) w →
        FitsBefore p (mult_of m) w.uses →
        WalksStatements G p S ns F (statement_and st (statement_and t ss))
        (used_too j.uses (passed p (mult_of m) w))
    -- Let
    let_then : {p : Part} {S : Scope} {ns : List (List ℕ)} {A : Term} {q : Mult} {x : Local} {C : Annotation}
        {e : Tree} {s : Span} {t : Statement} {ss : Statements} {v : Judged} {w : Walked} →
        Valued G (under p q) S C e v →
        WalksStatements G p (with_name q v.type S) (x.name ∷ ns) (ren suc A) (statement_and t ss) w →
        FitsBefore p q w.uses →
        WalksStatements G p S ns A (statement_and (local q x C e s) (statement_and t ss))
        (used_too (usage_scale q v.uses) (passed p q w))

-- the use of a variable that is reported, and what it is declared as, pass a test
abbrev pub Passes : (test : Mult → Mult → Bool) → Ctx → List Mult → Report → Type 0
Passes test Γ us r = T (test (usage_at us r.variable) (mult_at Γ r.variable))

-- that of each, in the run part
abbrev pub UsesPass : (test : Mult → Mult → Bool) → Part → Ctx → List Mult → List Report → Type 0
UsesPass test p Γ us rs = InRun p (All (Passes test Γ us) rs)

-- the hole of a right side at a leaf, where these pattern variables are reported
pub data HasHole (G : Entries) (p : Part) (S : Scope) (ns : List (List ℕ)) (rs : List Report) (e : Tree) (A : Term) :
    Hole → Type 0 where
  has_hole : {w : Walked} → Walks G p S ns A e w → UsesPass fits_before p S.vars w.uses rs →
      HasHole G p S ns rs e A (hole_of p S w)
