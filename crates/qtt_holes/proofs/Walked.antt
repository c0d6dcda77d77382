-- What the way to a hole ends with is what its rules derive.
use Rattle.std.proofs.Common.{ℕ, suc, List, ◌∷◌, Option, Some, None, subst}
use Rattle.qtt_base.specs.declared.place.Span.{Span}
use Rattle.qtt_usage.specs.declared.mult.Mult.{Mult}
use Rattle.qtt_usage.specs.Usage.{usage_scale}
use Rattle.qtt_syntax.specs.declared.expr.Local.{Local}
use Rattle.qtt_syntax.specs.Tree.{Tree, Annotation, Binder, Binders, Statement, Statements}
use Rattle.qtt_syntax.specs.Tree.Tree.{name, number, text, universe, hole, the, apply, pi, lambda, letting, doing}
use Rattle.qtt_syntax.specs.Tree.Annotation.{untyped, typed}
use Rattle.qtt_syntax.specs.Tree.Binder.{plain, typed_binder}
use Rattle.qtt_syntax.specs.Tree.Binders.{no_binder, binder_and}
use Rattle.qtt_syntax.specs.Tree.Statement.{bind, local, run}
use Rattle.qtt_syntax.specs.Tree.Statements.{no_statement, statement_and}
use Rattle.qtt_term.specs.Term.{Term}
use Rattle.qtt_term.specs.Substitution.{ren}
use Rattle.qtt_term.specs.Judgement.{Part, under}
use Rattle.qtt_term.specs.Entries.{Entries, env}
use Rattle.qtt_term.specs.Scope.{Scope, with_name}
use Rattle.qtt_term.specs.Forms.{Function}
use Rattle.qtt_term.proofs.Same.{same_mult-is}
use Rattle.qtt_rules.specs.Asks.{Asks}
use Rattle.qtt_rules.specs.Judged.{Judged, Mode}
use Rattle.qtt_rules.specs.Report.{Report}
use Rattle.qtt_core_check.proofs.Parts.{parts, ended}
use Rattle.qtt_bidi.specs.Elaboration.{place, statement_place, judge, valued, written_domain}
use Rattle.qtt_bidi.specs.Rules.{Acts, Agrees, Valued}
use Rattle.qtt_bidi.proofs.Endings.{Gives, holding, agreeing, head_found}
use Rattle.qtt_bidi.proofs.Heads.{function_head, action_head}
use Rattle.qtt_bidi.proofs.Derived.{derived, typing}
use Rattle.qtt_holes.specs.Hole.{Hole, fits_before}
use Rattle.qtt_holes.specs.Walk.{Walked, passed, used_too, let_way, bind_way, lambda_way, way, statements_way, walk}
use Rattle.qtt_holes.specs.Rules.{FitsBefore, Walks, WalksLambda, WalksStatements, HasHole}
use Rattle.qtt_holes.proofs.Passing.{fit_so, uses_so}

-- ---- premises of elaboration
value_so : (A : Annotation) (G : Entries) (p : Part) (S : Scope) (e : Tree) (j : Judged) →
    Gives (env G) (valued G S A (λ n. judge G p S n e)) j → Valued G p S A e j
value_so untyped G p S e j x = Valued.without_annotation (derived e G p S Mode.synth j x)
value_so (typed A) G p S e j x =
    let r = parts _ _ _ x in
    Valued.with_annotation (typing G S A _ _ (derived A G Part.erased S Mode.synth) r.mid r.first)
    (derived e G p S _ j r.after)

domain_so : (y : Binder) (G : Entries) (S : Scope) (s : Span) (F : Function) (u : Unit {0}) →
    Gives (env G) (written_domain G S s F y) u → Agrees G S F.mult F.domain y
domain_so (plain y) G S s F u x = Agrees.without_type
domain_so (typed_binder q y A l) G S s F u x =
    let r = parts _ _ _ x in
    let d = parts _ _ _ r.after in
    subst (λ m. Agrees G S m F.domain (typed_binder q y A l)) (same_mult-is q F.mult (holding _ _ r.mid r.first))
    (Agrees.with_type (typing G S A _ _ (derived A G Part.erased S Mode.synth) d.mid d.first)
    (agreeing _ _ _ _ u d.after))

-- ---- rows, over what their parts give
abbrev Ways : Type 0
Ways = Scope → List (List ℕ) → Term → Asks Walked

let_so : (G : Entries) (p : Part) (S : Scope) (ns : List (List ℕ)) (A : Term) (q : Mult) (x : Local)
    (value : Asks Judged) (body : Ways) (X : Walked → Type 0) (V : Judged → Type 0) →
    ((v : Judged) → Gives (env G) value v → V v) →
    (W : Scope → List (List ℕ) → Term → Walked → Type 0) →
    ((T : Scope) (ms : List (List ℕ)) (B : Term) (w : Walked) → Gives (env G) (body T ms B) w → W T ms B w) →
    ((v : Judged) (w : Walked) → V v → W (with_name q v.type S) (x.name ∷ ns) (ren suc A) w → FitsBefore p q w.uses →
    X (used_too (usage_scale q v.uses) (passed p q w))) →
    (w : Walked) → Gives (env G) (let_way p S ns A q x value body) w → X w
let_so G p S ns A q x value body X V v W b end w y =
    let r = parts _ _ _ y in
    let c = parts _ _ _ r.after in
    let f = parts _ _ _ c.after in
    subst X (ended _ _ f.after)
    (end r.mid c.mid (v r.mid r.first) (b _ _ _ c.mid c.first) (fit_so p _ q _ _ f.mid f.first))

bind_so : (G : Entries) (p : Part) (S : Scope) (ns : List (List ℕ)) (A : Term) (s : Span) (st : Statement)
    (x : Option Local) (e : Tree) (t : Statement) (ss : Statements) (rest : Ways) →
    Acts st x e →
    ((T : Scope) (ms : List (List ℕ)) (B : Term) (w : Walked) → Gives (env G) (rest T ms B) w →
    WalksStatements G p T ms B (statement_and t ss) w) →
    (w : Walked) → Gives (env G) (bind_way p S ns A s (place e) x (judge G p S Mode.synth e) rest) w →
    WalksStatements G p S ns A (statement_and st (statement_and t ss)) w
bind_so G p S ns A s st x e t ss rest a f w y =
    let b = parts _ _ _ y in
    let r = parts _ _ _ b.after in
    let c = parts _ _ _ r.after in
    let k = parts _ _ _ c.after in
    let u = parts _ _ _ k.after in
    subst (λ z. WalksStatements G p S ns A (statement_and st (statement_and t ss)) z) (ended _ _ u.after)
    (WalksStatements.act a (action_head (head_found _ _ _ A _ b.mid b.first))
    (derived e G p S Mode.synth r.mid r.first) (action_head (head_found _ _ _ r.mid.type _ c.mid c.first))
    (f _ _ _ k.mid k.first) (fit_so p _ _ _ _ u.mid u.first))

lambda_so : (bs : Binders) (G : Entries) (p : Part) (S : Scope) (ns : List (List ℕ)) (s : Span) (A : Term)
    (body : Ways) (e : Tree) →
    ((T : Scope) (ms : List (List ℕ)) (B : Term) (w : Walked) → Gives (env G) (body T ms B) w →
    Walks G p T ms B e w) →
    (w : Walked) → Gives (env G) (lambda_way G p S ns s A bs body) w → WalksLambda G p S ns A bs e w
lambda_so no_binder G p S ns s A body e d w x = WalksLambda.body (d S ns A w x)
lambda_so (binder_and y bs) G p S ns s A body e d w x =
    let r = parts _ _ _ x in
    let a = parts _ _ _ r.after in
    let b = parts _ _ _ a.after in
    let f = parts _ _ _ b.after in
    subst (λ z. WalksLambda G p S ns A (binder_and y bs) e z) (ended _ _ f.after)
    (WalksLambda.binder (function_head (head_found _ _ _ A _ r.mid r.first)) (domain_so y G S s r.mid a.mid a.first)
    (lambda_so bs G p _ _ s _ body e d b.mid b.first) (fit_so p _ _ _ _ f.mid f.first))

-- ---- all ways
mutual
  pub way_so : (e : Tree) (G : Entries) (p : Part) (S : Scope) (ns : List (List ℕ)) (A : Term) (w : Walked) →
      Gives (env G) (way G p S ns e A) w → Walks G p S ns A e w
  way_so (name n) G p S ns A w x = elim x [ ]
  way_so (number z s) G p S ns A w x = elim x [ ]
  way_so (text v s) G p S ns A w x = elim x [ ]
  way_so (universe l ls s) G p S ns A w x = elim x [ ]
  way_so (pi k q y C B s) G p S ns A w x = elim x [ ]
  way_so (apply f es s) G p S ns A w x = elim x [ ]
  way_so (the C e s) G p S ns A w x = elim x [ ]
  way_so (hole n s) G p S ns A w x = subst (λ z. Walks G p S ns A (hole n s) z) (ended _ _ x) Walks.at_hole
  way_so (lambda bs e s) G p S ns A w x =
      Walks.in_lambda (lambda_so bs G p S ns s A _ e (λ T ms B v y. way_so e G p T ms B v y) w x)
  way_so (letting q y C e b s) G p S ns A w x =
      let_so G p S ns A q y _ _ (λ z. Walks G p S ns A (letting q y C e b s) z)
      (λ v. Valued G (under p q) S C e v) (λ v z. value_so C G (under p q) S e v z)
      (λ T ms B v. Walks G p T ms B b v) (λ T ms B v z. way_so b G p T ms B v z)
      (λ v k d c f. Walks.in_let d c f) w x
  way_so (doing ss s) G p S ns A w x = Walks.in_block (statements_so ss G p S ns s A w x)

  statements_so : (ss : Statements) (G : Entries) (p : Part) (S : Scope) (ns : List (List ℕ)) (s : Span) (A : Term)
      (w : Walked) → Gives (env G) (statements_way G p S ns s ss A) w → WalksStatements G p S ns A ss w
  statements_so no_statement G p S ns s A w x = elim x [ ]
  statements_so (statement_and (run e r) no_statement) G p S ns s A w x =
      WalksStatements.last (way_so e G p S ns A w x)
  statements_so (statement_and (bind y e) no_statement) G p S ns s A w x = elim x [ ]
  statements_so (statement_and (local q y C e r) no_statement) G p S ns s A w x = elim x [ ]
  statements_so (statement_and (run e r) (statement_and t ss)) G p S ns s A w x =
      bind_so G p S ns A s (run e r) None e t ss _ Acts.runs
      (λ T ms B v y. statements_so (statement_and t ss) G p T ms (statement_place t) B v y) w x
  statements_so (statement_and (bind y e) (statement_and t ss)) G p S ns s A w x =
      bind_so G p S ns A s (bind y e) (Some y) e t ss _ Acts.binds
      (λ T ms B v z. statements_so (statement_and t ss) G p T ms (statement_place t) B v z) w x
  statements_so (statement_and (local q y C e r) (statement_and t ss)) G p S ns s A w x =
      let_so G p S ns A q y _ _
      (λ z. WalksStatements G p S ns A (statement_and (local q y C e r) (statement_and t ss)) z)
      (λ v. Valued G (under p q) S C e v) (λ v z. value_so C G (under p q) S e v z)
      (λ T ms B v. WalksStatements G p T ms B (statement_and t ss) v)
      (λ T ms B v z. statements_so (statement_and t ss) G p T ms (statement_place t) B v z)
      (λ v k d c f. WalksStatements.let_then d c f) w x

pub walk_so : (G : Entries) (p : Part) (S : Scope) (ns : List (List ℕ)) (rs : List Report) (e : Tree) (A : Term)
    (h : Hole) → Gives (env G) (walk G p S ns rs e A) h → HasHole G p S ns rs e A h
walk_so G p S ns rs e A h x =
    let w = parts _ _ _ x in
    let u = parts _ _ _ w.after in
    subst (λ z. HasHole G p S ns rs e A z) (ended _ _ u.after)
    (HasHole.has_hole (way_so e G p S ns A w.mid w.first) (uses_so fits_before p S.vars w.mid.uses rs u.mid u.first))
