-- What elaboration ends with has a derivation by the rules.
use Rattle.std.proofs.Common.{◌≡◌, ℕ, Bool, true, false, List, [], ◌∷◌, length, drop, Option, Some, None, slice_get, refl, ap, subst, ◌∙◌, T, arith}
use Rattle.std.proofs.lemmas.Bool.{eqb-true}
use Rattle.qtt_base.specs.declared.place.GlobalId.{GlobalId}
use Rattle.qtt_base.specs.declared.place.Span.{Span}
use Rattle.qtt_usage.specs.declared.mult.Mult.{Mult}
use Rattle.qtt_usage.specs.Usage.{usage_sum, usage_scale}
use Rattle.qtt_syntax.specs.declared.expr.Local.{Local}
use Rattle.qtt_syntax.specs.declared.expr.Named.{Named}
use Rattle.qtt_syntax.specs.declared.expr.Target.{Target}
use Rattle.qtt_syntax.specs.declared.expr.Target.TheVariants as target
use Rattle.qtt_syntax.specs.Tree.{Tree, Annotation, Arguments, Binder, Binders, Statement, Statements}
use Rattle.qtt_syntax.specs.Tree.Tree.{name, number, text, universe, hole, the, apply, pi, lambda, letting, doing}
use Rattle.qtt_syntax.specs.Tree.Annotation.{untyped, typed}
use Rattle.qtt_syntax.specs.Tree.Argument.{argument}
use Rattle.qtt_syntax.specs.Tree.Arguments.{no_argument, argument_and}
use Rattle.qtt_syntax.specs.Tree.Binder.{plain, typed_binder}
use Rattle.qtt_syntax.specs.Tree.Binders.{no_binder, binder_and}
use Rattle.qtt_syntax.specs.Tree.Statement.{bind, local, run}
use Rattle.qtt_syntax.specs.Tree.Statements.{no_statement, statement_and}
use Rattle.qtt_term.specs.declared.term.ConId.{ConId}
use Rattle.qtt_term.specs.Term.{Io, Term, var, node, Lam, App}
use Rattle.qtt_term.specs.Signature.{Tele, ConSig}
use Rattle.qtt_term.specs.Judgement.{Part, under}
use Rattle.qtt_term.specs.Ask.{◌>>=◌}
use Rattle.qtt_term.specs.Entries.{Entries, env}
use Rattle.qtt_term.specs.Scope.{Scope, with_name}
use Rattle.qtt_term.specs.Forms.{Function}
use Rattle.qtt_term.proofs.Same.{same_mult-is}
use Rattle.qtt_rules.specs.Refusal.{Place}
use Rattle.qtt_rules.specs.Asks.{Asks}
use Rattle.qtt_rules.specs.Judged.{Judged, judged, Mode}
use Rattle.qtt_core_check.proofs.Parts.{parts, ended}
use Rattle.qtt_core_check.proofs.Forms.{is-usable}
use Rattle.qtt_bidi.specs.Premises.{fit}
use Rattle.qtt_bidi.specs.Meaning.{Meaning, meaning, exact, of_target, if_exact}
use Rattle.qtt_bidi.specs.Elaboration.{lifted, Classified, Given, Written, none_written, switched, is_type, stands_for, local_row, definition_row, con_row, constructor_at, param_count, pure_row, global_row, name_row, let_type, let_row, bind_row, by_function, argument_count, place, statement_place, judge, arguments, applied, synthesised_lambda, checked_lambda, written_domain, valued, statements}
use Rattle.qtt_bidi.specs.Rules.{Fits, Calls, Acts, Found, Elaborates, IsType, Checked, Applied, FoundLambda, CheckedLambda, Agrees, Valued, Runs}
use Rattle.qtt_bidi.proofs.Endings.{Gives, holding, agreeing, head_found, asked}
use Rattle.qtt_bidi.proofs.Heads.{sort_head, function_head, family_head, action_head, result_head}

-- ---- tests
true_so : (b : Bool) → b ≡ true → T b
true_so true e = tt
true_so false e = absurd (cc e)

pub fit_so : {E : _} (p : Part) (n : Option (List ℕ)) (q : Mult) (us : List Mult) (l : Place) (u : Unit {0}) →
    Gives E (fit p n q us l) u → Fits p q us
unfolding fit
fit_so Part.erased n q us l u x = tt
fit_so Part.run n q us l u x = true_so _ (holding _ _ u x)

-- what takes exactly its arguments is no definition
no_definition : (m : Meaning) (d : GlobalId) → if_exact m ≡ Some (Meaning.definition d) → ⊥
no_definition (Meaning.definition c) d e = absurd (cc e)
no_definition (Meaning.family f) d e = absurd (cc e)
no_definition (Meaning.constructor c) d e = absurd (cc e)
no_definition (Meaning.listed r n) d e = absurd (cc e)
no_definition (Meaning.pure m) d e = absurd (cc e)

target_exact : (G : Entries) (t : Target) (d : GlobalId) → of_target G t ≡ Some (Meaning.definition d) → ⊥
target_exact G target.Unknown d e = absurd (cc e)
target_exact G (target.Local i) d e = absurd (cc e)
target_exact G (target.Global id) d e = no_definition (meaning G id) d e

never_exact : (G : Entries) (f : Tree) (d : GlobalId) → exact G f ≡ Some (Meaning.definition d) → ⊥
never_exact G (name n) d e = target_exact G n.target d e
never_exact G _ d e = absurd (cc e)

-- ---- rows
abbrev pub Derives : Entries → Part → Scope → Mode → Tree → Asks Judged → Type 0
Derives G p S m e M = (j : Judged) → Gives (env G) M j → Elaborates G p S m e j

abbrev Finds : Entries → Part → Scope → Tree → Asks Judged → Type 0
Finds G p S e M = (j : Judged) → Gives (env G) M j → Found G p S e j

-- written arguments are checked as the rules have it
abbrev Matches : Entries → Part → Scope → Written → Arguments → Type 0
Matches G p S w es = (Θ : Tele) (σ : ℕ → Term) (g : Given) → length Θ ≡ w.count → Gives (env G) (w.checked Θ σ) g →
    Checked G p S Θ σ es g

switching : (G : Entries) (p : Part) (S : Scope) (e : Tree) (s : Span) (m : Mode) (M : Asks Judged) → Finds G p S e M →
    Derives G p S m e (switched S m s M)
switching G p S e s Mode.synth M f j x = Elaborates.found (f j x)
switching G p S e s (Mode.check A) M f j x =
    let r = parts _ _ _ x in
    let a = parts _ _ _ r.after in
    subst (λ d. Elaborates G p S (Mode.check A) e d) (ended _ _ a.after)
    (Elaborates.switch (f r.mid r.first) (agreeing _ r.mid.type A _ a.mid a.first))

pub typing : (G : Entries) (S : Scope) (e : Tree) (M : Asks Judged) (l : Place) →
    Derives G Part.erased S Mode.synth e M → (D : Classified) → Gives (env G) (is_type S M l) D → IsType G S e D
typing G S e M l f D x =
    let r = parts _ _ _ x in
    let s = parts _ _ _ r.after in
    subst (λ d. IsType G S e d) (ended _ _ s.after)
    (IsType.classified (f r.mid r.first) (sort_head (head_found _ _ _ r.mid.type _ s.mid s.first)))

standing : (G : Entries) (p : Part) (S : Scope) (s : Span) (n : Named) (i : ℕ) → n.target ≡ target.Local i →
    (t A : Term) → slice_get S.names i ≡ Some (t, A) →
    Finds G p S (name n) (stands_for G p S s t A)
standing G p S s n i t (var k) A e j x =
    let r = parts _ _ _ x in
    subst (λ d. Found G p S (name n) d) (ended _ _ r.after)
    (Found.variable t e (is-usable _ _ (holding _ _ r.mid r.first)))
standing G Part.run S s n i t (node F ts) A e j x =
    let r = asked _ _ _ _ j x in
    subst (λ d. Found G Part.run S (name n) d) (ended _ _ r.after) (Found.stands t e (r.mid.type, r.first))
standing G Part.erased S s n i t (node F ts) A e j x =
    subst (λ d. Found G Part.erased S (name n) d) (ended _ _ x) (Found.stands t e refl)

locally : (G : Entries) (p : Part) (S : Scope) (s : Span) (n : Named) (i : ℕ) → n.target ≡ target.Local i →
    (o : Option (Term × Term)) → slice_get S.names i ≡ o →
    Finds G p S (name n) (local_row G p S s o)
locally G p S s n i t None e j x = elim x [ ]
locally G p S s n i t (Some y) e j x = standing G p S s n i t y.0 y.1 e j x

defined : (G : Entries) (p : Part) (S : Scope) (s : Span) (n : Named) (id d : GlobalId) → n.target ≡ target.Global id →
    meaning G id ≡ Meaning.definition d →
    Finds G p S (name n) (definition_row G p S s d)
defined G p S s n id d t e j x =
    let r = parts _ _ _ x in
    subst (λ z. Found G p S (name n) z) (ended _ _ r.after)
    (Found.global t e (is-usable _ _ (holding _ _ r.mid r.first)))

constructing : (G : Entries) (p : Part) (S : Scope) (m : Mode) (s : Span) (c : ConId) (o : Option ConSig) (w : Written)
    (e : Tree) (es : Arguments) →
    Calls G e (Meaning.constructor c) es → Matches G p S w es → constructor_at G c ≡ o →
    Derives G p S m e (con_row S m s c (param_count G c) o w)
constructing G p S m s c None w e es k f h j x = elim x [ ]
constructing G p S Mode.synth s c (Some d) w e es k f h j x =
    let a = parts _ _ _ x in
    let b = parts _ _ _ a.after in
    let g = parts _ _ _ b.after in
    subst (λ z. Elaborates G p S Mode.synth e z) (ended _ _ g.after)
    (Elaborates.con_synth k h (eqb-true _ _ (holding _ _ a.mid a.first))
    (f _ _ g.mid (eqb-true _ _ (holding _ _ b.mid b.first)) g.first))
constructing G p S (Mode.check A) s c (Some d) w e es k f h j x =
    let a = parts _ _ _ x in
    let b = parts _ _ _ a.after in
    let g = parts _ _ _ b.after in
    let q = parts _ _ _ g.after in
    subst (λ z. Elaborates G p S (Mode.check A) e z) (ended _ _ q.after)
    (Elaborates.con_check k h (family_head (head_found _ _ _ A _ a.mid a.first))
    (f _ _ g.mid (eqb-true _ _ (holding _ _ b.mid b.first)) g.first)
    (agreeing _ _ A _ q.mid q.first))

purely : (G : Entries) (p : Part) (S : Scope) (m : Mode) (s : Span) (i : Io) (w : Written) (e : Tree) (es : Arguments) →
    Calls G e (Meaning.pure i) es → Matches G p S w es → Derives G p S m e (pure_row S m s i w)
purely G p S Mode.synth s i w e es k f j x = elim x [ ]
purely G p S (Mode.check A) s i w e es k f j x =
    let a = parts _ _ _ x in
    let b = parts _ _ _ a.after in
    let g = parts _ _ _ b.after in
    subst (λ z. Elaborates G p S (Mode.check A) e z) (ended _ _ g.after)
    (Elaborates.pure k (result_head (head_found _ _ _ A _ a.mid a.first))
    (f _ _ g.mid (eqb-true _ _ (holding _ _ b.mid b.first)) g.first))

calling : (G : Entries) (p : Part) (S : Scope) (m : Mode) (s : Span) (x : Meaning) (w : Written) (e : Tree)
    (es : Arguments) →
    Calls G e x es → Matches G p S w es →
    ((d : GlobalId) → x ≡ Meaning.definition d → Finds G p S e (definition_row G p S s d)) →
    Derives G p S m e (global_row G p S m s x w)
calling G p S m s (Meaning.definition d) w e es k f def j y = switching G p S e s m _ (def d refl) j y
calling G p S m s (Meaning.family h) w e es k f def j y = switching G p S e s m _ (λ i x.
    let a = parts _ _ _ x in
    let g = parts _ _ _ a.after in
    subst (λ z. Found G p S e z) (ended _ _ g.after)
    (Found.family k (f _ _ g.mid (eqb-true _ _ (holding _ _ a.mid a.first)) g.first))) j y
calling G p S m s (Meaning.constructor c) w e es k f def j y =
    constructing G p S m s c (constructor_at G c) w e es k f refl j y
calling G p S m s (Meaning.listed r n) w e es k f def j y = switching G p S e s m _ (λ i x.
    let a = parts _ _ _ x in
    let g = parts _ _ _ a.after in
    subst (λ z. Found G p S e z) (ended _ _ g.after)
    (Found.listed k (f _ _ g.mid (eqb-true _ _ (holding _ _ a.mid a.first)) g.first))) j y
calling G p S m s (Meaning.pure i) w e es k f def j y = purely G p S m s i w e es k f j y

nothing_written : (G : Entries) (p : Part) (S : Scope) → Matches G p S (none_written S) no_argument
nothing_written G p S [] σ g e x = subst (λ z. Checked G p S [] σ no_argument z) (ended _ _ x) Checked.none
nothing_written G p S (b ∷ Θ) σ g e x = absurd (cc e)

naming : (G : Entries) (p : Part) (S : Scope) (m : Mode) (n : Named) (t : Target) → n.target ≡ t →
    Derives G p S m (name n) (name_row G p S m n.span t)
naming G p S m n target.Unknown e j x = elim x [ ]
naming G p S m n (target.Local i) e j x = switching G p S (name n) n.span m _
    (locally G p S n.span n i e (slice_get S.names i) refl) j x
naming G p S m n (target.Global id) e j x =
    calling G p S m n.span (meaning G id) (none_written S) (name n) no_argument (Calls.alone e refl)
    (nothing_written G p S) (λ d h. defined G p S n.span n id d e h) j x

-- ---- binders and statements, over what their parts give
letting_so : (G : Entries) (p : Part) (S : Scope) (m : Mode) (q : Mult) (x : Local) (value : Asks Judged)
    (body : Scope → Mode → Asks Judged) (X : Judged → Type 0) →
    (V : Judged → Type 0) → ((v : Judged) → Gives (env G) value v → V v) →
    (B : Scope → Mode → Judged → Type 0) →
    ((T : Scope) (n : Mode) (b : Judged) → Gives (env G) (body T n) b → B T n b) →
    ((v b : Judged) → V v → B (with_name q v.type S) (lifted m) b → Fits p q b.uses →
    X (judged (let_type m b.type v.core) (App q (Lam q v.type b.core) v.core)
    (usage_sum (drop 1 b.uses) (usage_scale q v.uses)))) →
    (j : Judged) → Gives (env G) (let_row p S m q x value body) j → X j
letting_so G p S m q x value body X V v B b end j y =
    let r = parts _ _ _ y in
    let c = parts _ _ _ r.after in
    let f = parts _ _ _ c.after in
    subst X (ended _ _ f.after)
    (end r.mid c.mid (v r.mid r.first) (b _ _ c.mid c.first) (fit_so p _ q _ _ f.mid f.first))

binding_so : (G : Entries) (p : Part) (S : Scope) (m : Mode) (s : Span) (st : Statement) (x : Option Local) (e : Tree)
    (t : Statement) (ss : Statements) (M : Asks Judged) (rest : Scope → Mode → Asks Judged) →
    Acts st x e → Derives G p S Mode.synth e M →
    ((T : Scope) (n : Mode) (b : Judged) → Gives (env G) (rest T n) b → Runs G p T n (statement_and t ss) b) →
    (j : Judged) → Gives (env G) (bind_row p S m s (place e) x M rest) j →
    Runs G p S m (statement_and st (statement_and t ss)) j
binding_so G p S Mode.synth s st x e t ss M rest a d f j y = elim y [ ]
binding_so G p S (Mode.check A) s st x e t ss M rest a d f j y =
    let b = parts _ _ _ y in
    let r = parts _ _ _ b.after in
    let c = parts _ _ _ r.after in
    let k = parts _ _ _ c.after in
    let u = parts _ _ _ k.after in
    subst (λ z. Runs G p S (Mode.check A) (statement_and st (statement_and t ss)) z) (ended _ _ u.after)
    (Runs.act a (action_head (head_found _ _ _ A _ b.mid b.first)) (d r.mid r.first)
    (action_head (head_found _ _ _ r.mid.type _ c.mid c.first))
    (f _ _ k.mid k.first) (fit_so p _ _ _ _ u.mid u.first))

applying : (G : Entries) (p : Part) (S : Scope) (m : Mode) (f : Tree) (es : Arguments) (s : Span) (o : Option Meaning) →
    exact G f ≡ o →
    Derives G p S Mode.synth f (judge G p S Mode.synth f) →
    ((F j : Judged) → Gives (env G) (applied G p S s F es) j → Applied G p S F es j) →
    Matches G p S (record { count = argument_count es; checked = λ Θ σ. arguments G p S Θ σ es }) es →
    Derives G p S m (apply f es s)
    (by_function o (λ x. global_row G p S m s x
    (record { count = argument_count es; checked = λ Θ σ. arguments G p S Θ σ es }))
    (λ u. switched S m s (judge G p S Mode.synth f >>= λ j. applied G p S s j es)))
applying G p S m f es s None e d a c j x = switching G p S (apply f es s) s m _ (λ k y.
    let r = parts _ _ _ y in
    Found.application e (d r.mid r.first) (a r.mid k r.after)) j x
applying G p S m f es s (Some y) e d a c j x =
    calling G p S m s y _ (apply f es s) es (Calls.to_arguments e) c (λ h q. absurd (never_exact G f h (e ∙ ap Some q)))
    j x

-- ---- all expressions
mutual
  pub derived : (e : Tree) (G : Entries) (p : Part) (S : Scope) (m : Mode) → Derives G p S m e (judge G p S m e)
  derived (name n) G p S m j x = naming G p S m n n.target refl j x
  derived (number z s) G p S m j x = switching G p S (number z s) s m _
      (λ k y. subst (λ d. Found G p S (number z s) d) (ended _ _ y) Found.integer) j x
  derived (text v s) G p S m j x = switching G p S (text v s) s m _
      (λ k y. subst (λ d. Found G p S (text v s) d) (ended _ _ y) Found.string) j x
  derived (universe l ls s) G p S m j x = switching G p S (universe l ls s) s m _
      (λ k y. subst (λ d. Found G p S (universe l ls s) d) (ended _ _ y) Found.sort) j x
  derived (hole n s) G p S m j x = elim x [ ]
  derived (pi k q x A B s) G p S m j y = switching G p S (pi k q x A B s) s m _ (λ i z.
      let r = parts _ _ _ z in
      let c = parts _ _ _ r.after in
      subst (λ d. Found G p S (pi k q x A B s) d) (ended _ _ c.after)
      (Found.function_type (typing G S A _ _ (derived A G Part.erased S Mode.synth) r.mid r.first)
      (typing G (with_name q r.mid.core S) B _ _ (derived B G Part.erased (with_name q r.mid.core S) Mode.synth)
      c.mid c.first))) j y
  derived (lambda bs e s) G p S Mode.synth j x =
      let r = parts _ _ _ x in
      Elaborates.lam_synth (derived_found bs G p S _ e (λ T. derived e G p T Mode.synth) j r.after)
  derived (lambda bs e s) G p S (Mode.check A) j x =
      Elaborates.lam_check (derived_checked bs G p S s A _ e (λ T B. derived e G p T (Mode.check B)) j x)
  derived (apply f es s) G p S m j x = applying G p S m f es s (exact G f) refl (derived f G p S Mode.synth)
      (λ F k y. derived_applied es G p S s F k y) (λ Θ σ g n y. derived_arguments es G p S Θ σ g n y) j x
  derived (letting q x A e b s) G p S m j y =
      letting_so G p S m q x _ _ (λ z. Elaborates G p S m (letting q x A e b s) z) (λ v. Valued G (under p q) S A e v)
      (λ v z. derived_value A G (under p q) S _ e (λ n. derived e G (under p q) S n) v z)
      (λ T n k. Elaborates G p T n b k) (λ T n k z. derived b G p T n k z) (λ v k d c f. Elaborates.let_in d c f) j y
  derived (doing ss s) G p S m j x = Elaborates.block (derived_statements ss G p S m s j x)
  derived (the A e s) G p S m j y = switching G p S (the A e s) s m _ (λ k z.
      let r = parts _ _ _ z in
      Found.ascribed (typing G S A _ _ (derived A G Part.erased S Mode.synth) r.mid r.first)
      (derived e G p S _ k r.after)) j y

  derived_arguments : (es : Arguments) (G : Entries) (p : Part) (S : Scope) (Θ : Tele) (σ : ℕ → Term) (g : Given) →
      length Θ ≡ argument_count es →
      Gives (env G) (arguments G p S Θ σ es) g → Checked G p S Θ σ es g
  derived_arguments no_argument G p S [] σ g n x = subst (λ z. Checked G p S [] σ no_argument z) (ended _ _ x)
      Checked.none
  derived_arguments no_argument G p S (b ∷ Θ) σ g n x = absurd (cc n)
  derived_arguments (argument_and a es) G p S [] σ g n x = absurd (cc n)
  derived_arguments (argument_and (argument k e) es) G p S (b ∷ Θ) σ g n x =
      let r = parts _ _ _ x in
      let q = parts _ _ _ r.after in
      subst (λ z. Checked G p S (b ∷ Θ) σ (argument_and (argument k e) es) z) (ended _ _ q.after)
      (Checked.more (derived e G (under p b.0) S _ r.mid r.first)
      (derived_arguments es G p S Θ _ q.mid (omega (arith, n)) q.first))

  derived_applied : (es : Arguments) (G : Entries) (p : Part) (S : Scope) (s : Span) (f j : Judged) →
      Gives (env G) (applied G p S s f es) j → Applied G p S f es j
  derived_applied no_argument G p S s f j x = subst (λ z. Applied G p S f no_argument z) (ended _ _ x) Applied.itself
  derived_applied (argument_and (argument k e) es) G p S s f j x =
      let r = parts _ _ _ x in
      let a = parts _ _ _ r.after in
      Applied.to (function_head (head_found _ _ _ f.type _ r.mid r.first))
      (derived e G (under p r.mid.mult) S _ a.mid a.first) (derived_applied es G p S s _ j a.after)

  derived_found : (bs : Binders) (G : Entries) (p : Part) (S : Scope) (body : Scope → Asks Judged) (e : Tree) →
      ((T : Scope) → Derives G p T Mode.synth e (body T)) →
      (j : Judged) → Gives (env G) (synthesised_lambda G p S bs body) j → FoundLambda G p S bs e j
  derived_found no_binder G p S body e d j x = FoundLambda.found_body (d S j x)
  derived_found (binder_and (plain y) bs) G p S body e d j x = elim x [ ]
  derived_found (binder_and (typed_binder q y A s) bs) G p S body e d j x =
      let r = parts _ _ _ x in
      let b = parts _ _ _ r.after in
      let f = parts _ _ _ b.after in
      subst (λ z. FoundLambda G p S (binder_and (typed_binder q y A s) bs) e z) (ended _ _ f.after)
      (FoundLambda.found_binder (typing G S A _ _ (derived A G Part.erased S Mode.synth) r.mid r.first)
      (derived_found bs G p _ body e d b.mid b.first) (fit_so p _ q _ _ f.mid f.first))

  derived_checked : (bs : Binders) (G : Entries) (p : Part) (S : Scope) (s : Span) (A : Term)
      (body : Scope → Term → Asks Judged) (e : Tree) →
      ((T : Scope) (B : Term) → Derives G p T (Mode.check B) e (body T B)) → (j : Judged) →
      Gives (env G) (checked_lambda G p S s A bs body) j → CheckedLambda G p S A bs e j
  derived_checked no_binder G p S s A body e d j x = CheckedLambda.checked_body (d S A j x)
  derived_checked (binder_and y bs) G p S s A body e d j x =
      let r = parts _ _ _ x in
      let w = parts _ _ _ r.after in
      let b = parts _ _ _ w.after in
      let f = parts _ _ _ b.after in
      subst (λ z. CheckedLambda G p S A (binder_and y bs) e z) (ended _ _ f.after)
      (CheckedLambda.checked_binder (function_head (head_found _ _ _ A _ r.mid r.first))
      (derived_domain y G S s r.mid w.mid w.first) (derived_checked bs G p _ s _ body e d b.mid b.first)
      (fit_so p _ _ _ _ f.mid f.first))

  derived_domain : (y : Binder) (G : Entries) (S : Scope) (s : Span) (F : Function) (u : Unit {0}) →
      Gives (env G) (written_domain G S s F y) u → Agrees G S F.mult F.domain y
  derived_domain (plain y) G S s F u x = Agrees.without_type
  derived_domain (typed_binder q y A l) G S s F u x =
      let r = parts _ _ _ x in
      let d = parts _ _ _ r.after in
      subst (λ m. Agrees G S m F.domain (typed_binder q y A l)) (same_mult-is q F.mult (holding _ _ r.mid r.first))
      (Agrees.with_type (typing G S A _ _ (derived A G Part.erased S Mode.synth) d.mid d.first)
      (agreeing _ _ _ _ u d.after))

  derived_value : (A : Annotation) (G : Entries) (p : Part) (S : Scope) (value : Mode → Asks Judged) (e : Tree) →
      ((n : Mode) → Derives G p S n e (value n)) →
      (j : Judged) → Gives (env G) (valued G S A value) j → Valued G p S A e j
  derived_value untyped G p S value e d j x = Valued.without_annotation (d Mode.synth j x)
  derived_value (typed A) G p S value e d j x =
      let r = parts _ _ _ x in
      Valued.with_annotation (typing G S A _ _ (derived A G Part.erased S Mode.synth) r.mid r.first) (d _ j r.after)

  derived_statements : (ss : Statements) (G : Entries) (p : Part) (S : Scope) (m : Mode) (s : Span) (j : Judged) →
      Gives (env G) (statements G p S m s ss) j → Runs G p S m ss j
  derived_statements no_statement G p S m s j x = elim x [ ]
  derived_statements (statement_and (run e r) no_statement) G p S m s j x = Runs.last (derived e G p S m j x)
  derived_statements (statement_and (bind y e) no_statement) G p S m s j x = elim x [ ]
  derived_statements (statement_and (local q y A e r) no_statement) G p S m s j x = elim x [ ]
  derived_statements (statement_and (run e r) (statement_and t ss)) G p S m s j x =
      binding_so G p S m s (run e r) None e t ss _ _ Acts.runs (derived e G p S Mode.synth)
      (λ T n b y. derived_statements (statement_and t ss) G p T n (statement_place t) b y) j x
  derived_statements (statement_and (bind y e) (statement_and t ss)) G p S m s j x =
      binding_so G p S m s (bind y e) (Some y) e t ss _ _ Acts.binds (derived e G p S Mode.synth)
      (λ T n b z. derived_statements (statement_and t ss) G p T n (statement_place t) b z) j x
  derived_statements (statement_and (local q y A e r) (statement_and t ss)) G p S m s j x =
      letting_so G p S m q y _ _ (λ z. Runs G p S m (statement_and (local q y A e r) (statement_and t ss)) z)
      (λ v. Valued G (under p q) S A e v)
      (λ v z. derived_value A G (under p q) S _ e (λ n. derived e G (under p q) S n) v z)
      (λ T n k. Runs G p T n (statement_and t ss) k)
      (λ T n k z. derived_statements (statement_and t ss) G p T n (statement_place t) k z)
      (λ v k d c f. Runs.let_then d c f) j x
