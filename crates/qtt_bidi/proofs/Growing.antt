-- A derivation stands in every larger environment in which its names mean the same.
use Rattle.std.proofs.Common.{◌≡◌, ℕ, zero, suc, List, [], ◌∷◌, ◌++◌, length, Option, Some, None, slice_get, refl, sym, subst, ap, ◌∙◌, ◌<◌, arith}
use mathlib.Core.Path.{ap₂}
use Rattle.qtt_base.specs.declared.place.GlobalId.{GlobalId}
use Rattle.qtt_usage.specs.declared.mult.Mult.{Mult}
use Rattle.qtt_usage.specs.Uses.{Use, zero_use}
use Rattle.qtt_usage.specs.Usage.{usage_at}
use Rattle.qtt_prims.specs.declared.lit.Lit.TheVariants as literal
use Rattle.qtt_syntax.specs.declared.expr.Target.{Target}
use Rattle.qtt_syntax.specs.declared.expr.Target.TheVariants as target
use Rattle.qtt_syntax.specs.Tree.{Tree, Annotation, Arguments, Binder, Binders, Statement, Statements}
use Rattle.qtt_syntax.specs.declared.expr.Local.{Local}
use Rattle.qtt_syntax.specs.declared.expr.Named as used
use Rattle.qtt_syntax.specs.Tree.Tree.{name, number, text, universe, hole, the, apply, pi, lambda, letting, doing}
use Rattle.qtt_term.specs.Term.{Io, PrimTy, Named, Form, Term, Terms, var, node, ε, ◌▸◌, Sort, Pi, Fam, Def, ◌+++◌}
use Rattle.qtt_term.specs.Substitution.{sub, push, closed}
use Rattle.qtt_term.specs.Signature.{Env, Definition, family_of, definition_of, definition_at, There, NamedThere, ConSig, Tele, fam_sig, signature, IoTy}
use Rattle.qtt_term.specs.Contraction.{contract, Conv}
use Rattle.qtt_term.specs.Question as question
use Rattle.qtt_term.specs.Question.{either, wrap, argument_step, head_step, step_at, arguments_step, head_from}
use Rattle.qtt_term.specs.Judgement.{Part, Ctx, InScope, IsCon, Usable, erase_binds, Args, ParamsThenArgs, Cases, Rule}
use Rattle.qtt_term.specs.Judgement as core
use Rattle.qtt_term.specs.Accepted.{Accepts, AcceptsAll}
use Rattle.qtt_term.specs.Ask.{Ending, HeadIs, Ends}
use Rattle.qtt_term.specs.Infer.{infer}
use Rattle.qtt_term.specs.Entries.{Entries, env}
use Rattle.qtt_term.specs.Scope.{Scope}
use Rattle.qtt_rules.specs.Judged.{Judged, judged, Mode}
use Rattle.qtt_term.proofs.Options.{none≢some}
use Rattle.qtt_confluence.proofs.Root.{Root, view, contracts}
use Rattle.qtt_preserve.specs.Grows.{Grows, FamiliesStay, DefinitionGrows}
use Rattle.qtt_preserve.proofs.Grow.{conv-grows}
use Rattle.qtt_bidi.specs.Meaning.{Meaning, meaning, exact, of_target, if_exact}
use Rattle.qtt_term.specs.Forms.{front}
use Rattle.qtt_core_check.specs.Laws.{AcceptedIsInferred}
use Rattle.qtt_core_check.proofs.AcceptedInferred.{accepted-inferred}
use Rattle.qtt_bidi.specs.Elaboration.{unused, Classified, Given}
use Rattle.qtt_bidi.specs.Rules.{Accepted, Calls, Acts, Found, Elaborates, IsType, Checked, Applied, FoundLambda, CheckedLambda, Agrees, Valued, Runs}
use Rattle.qtt_bidi.specs.Growth.{IsThere, OfTarget, StaysNamed, EachName, EachInAnnotation, EachInArguments, EachInBinder, EachInBinders, EachInStatement, EachInStatements, DerivationsGrow}

definition-grew : (o r : Option Definition) →
    ((A : Definition) → o ≡ Some A → (B : Definition) × (r ≡ Some B) × DefinitionGrows A B) → There o →
    There r × DefinitionGrows (definition_of o) (definition_of r)
definition-grew None r h t = elim t [ ]
definition-grew (Some A) r h t =
    let (B, e, g) = h A refl in
    subst (λ r. There r × DefinitionGrows A (definition_of r)) (sym e) (tt, g)

there-of-body : (o : Option Definition) (b : Term) → (definition_of o).body ≡ Some b → There o
there-of-body (Some D) b e = tt
there-of-body None b e = absurd (none≢some e)

there-of-con : (o : Option _) (f : GlobalId) (n : ℕ) (c : ConSig) →
    IsCon (fam_sig f (family_of o)).constructors n c → There o
there-of-con (Some F) f n c i = tt
there-of-con None f n c i = elim i [ ]

-- ---- steps toward a head
either-grows : {A : Type 0} (o a b : Option A) (s : A) → ((x : A) → a ≡ Some x → b ≡ Some x) →
    either o a ≡ Some s → either o b ≡ Some s
either-grows (Some t) a b s h e = e
either-grows None a b s h e = h s e

first-grows : {A : Type 0} (o r a b : Option A) (s : A) → ((x : A) → o ≡ Some x → r ≡ Some x) → a ≡ None →
    either o a ≡ Some s → either r b ≡ Some s
first-grows (Some t) r a b s h n e = subst (λ r. either r b ≡ Some s) (sym (h t refl)) e
first-grows None r a b s h n e = absurd (none≢some (sym n ∙ e))

wrap-grows : {A B : Type 0} (f : A → B) (a b : Option A) (s : B) → ((x : A) → a ≡ Some x → b ≡ Some x) →
    wrap f a ≡ Some s → wrap f b ≡ Some s
wrap-grows f None b s h e = absurd (none≢some e)
wrap-grows f (Some x) b s h e = subst (λ b. wrap f b ≡ Some s) (sym (h x refl)) e

module _ {D E : Env} (g : Grows D E) where
  definition-grown : (d : GlobalId) → There (D.definition d) →
      There (E.definition d) × DefinitionGrows (definition_at D d) (definition_at E d)
  definition-grown d w = definition-grew (D.definition d) (E.definition d) (g.definitions d) w

  body-grown : (d : GlobalId) (b : Term) → (definition_at D d).body ≡ Some b → (definition_at E d).body ≡ Some b
  body-grown d b e = (definition-grown d (there-of-body (D.definition d) b e)).1.body b e

  root-grows : {F : Form} {ts : Terms} {t : Term} → Root D F ts t → Root E F ts t
  root-grows Root.by_beta = Root.by_beta
  root-grows (Root.by_iota h e) = Root.by_iota h e
  root-grows Root.by_deletion = Root.by_deletion
  root-grows (Root.by_delta {d = d} {b = b} e) = Root.by_delta (body-grown d b e)
  root-grows (Root.by_prim d e) = Root.by_prim d e

  contract-grows : (F : Form) (ts : Terms) (t : Term) → contract D F ts ≡ Some t → contract E F ts ≡ Some t
  contract-grows F ts t e = contracts (root-grows (view D F ts t e))

  argument-grows : (o : Option _) (t : Term) (ts : Terms) (a b : Option Term) (c d : Option Terms) (s : Terms) →
      ((x : Term) → a ≡ Some x → b ≡ Some x) → ((x : Terms) → c ≡ Some x → d ≡ Some x) →
      argument_step o t ts a c ≡ Some s → argument_step o t ts b d ≡ Some s
  argument-grows None t ts a b c d s h k e = wrap-grows _ a b s h e
  argument-grows (Some l) t ts a b c d s h k e = wrap-grows _ c d s k e

  -- a form that contracts alike in all environments, or inside
  inside : (F : Form) (ts : Terms) (a b : Option Terms) (s : Term) → contract D F ts ≡ contract E F ts →
      ((x : Terms) → a ≡ Some x → b ≡ Some x) →
      either (contract D F ts) (wrap (node F) a) ≡ Some s → either (contract E F ts) (wrap (node F) b) ≡ Some s
  inside F ts a b s c h e =
      subst (λ r. either r (wrap (node F) b) ≡ Some s) c
      (either-grows (contract D F ts) (wrap (node F) a) (wrap (node F) b) s (λ x k. wrap-grows (node F) a b x h k) e)

  rigid : (F : Form) (ts : Terms) (s : Term) → either (contract D F ts) None ≡ Some s →
      either (contract E F ts) None ≡ Some s
  rigid F ts s e = first-grows (contract D F ts) (contract E F ts) None None s (contract-grows F ts) refl e

  mutual
    unfolding contract

    step-grows : (t s : Term) → head_step D t ≡ Some s → head_step E t ≡ Some s
    step-grows (var i) s e = absurd (none≢some e)
    step-grows (node (Form.app q) ts) s e = inside (Form.app q) ts _ _ s refl (at-grows ts 0) e
    step-grows (node (Form.case q f k m ns) ts) s e =
        inside (Form.case q f k m ns) ts _ _ s refl (at-grows ts (question.scrutinee_place k ns)) e
    step-grows (node (Form.delete q) ts) s e = inside (Form.delete q) ts _ _ s refl (at-grows ts 4) e
    step-grows (node (Form.named (Named.prim p)) ts) s e =
        inside (Form.named (Named.prim p)) ts _ _ s refl (arguments-grow ts) e
    step-grows (node (Form.named (Named.def d)) ts) s e =
        first-grows (contract D (Form.named (Named.def d)) ts) (contract E (Form.named (Named.def d)) ts) None None s
        (contract-grows (Form.named (Named.def d)) ts) refl e
    step-grows (node (Form.sort l) ts) s e = rigid (Form.sort l) ts s e
    step-grows (node (Form.pi q) ts) s e = rigid (Form.pi q) ts s e
    step-grows (node (Form.lam q) ts) s e = rigid (Form.lam q) ts s e
    step-grows (node (Form.fam f) ts) s e = rigid (Form.fam f) ts s e
    step-grows (node (Form.con f n k) ts) s e = rigid (Form.con f n k) ts s e
    step-grows (node Form.trap ts) s e = rigid Form.trap ts s e
    step-grows (node (Form.tape n) ts) s e = rigid (Form.tape n) ts s e
    step-grows (node (Form.named (Named.lit l)) ts) s e = rigid (Form.named (Named.lit l)) ts s e
    step-grows (node (Form.named (Named.prim_ty p)) ts) s e = rigid (Form.named (Named.prim_ty p)) ts s e
    step-grows (node (Form.named (Named.act a k)) ts) s e = rigid (Form.named (Named.act a k)) ts s e

    at-grows : (ts : Terms) (n : ℕ) (s : Terms) → step_at D ts n ≡ Some s → step_at E ts n ≡ Some s
    at-grows ε n s e = absurd (none≢some e)
    at-grows (t ▸ ts) zero s e = wrap-grows _ (head_step D t) (head_step E t) s (step-grows t) e
    at-grows (t ▸ ts) (suc n) s e = wrap-grows _ (step_at D ts n) (step_at E ts n) s (at-grows ts n) e

    arguments-grow : (ts : Terms) (s : Terms) → arguments_step D ts ≡ Some s → arguments_step E ts ≡ Some s
    arguments-grow ε s e = absurd (none≢some e)
    arguments-grow (t ▸ ts) s e =
        argument-grows _ t ts (head_step D t) (head_step E t) (arguments_step D ts) (arguments_step E ts) s
        (step-grows t) (arguments-grow ts) e

  -- ---- heads that no contraction changes
  from-grows : (n made : ℕ) (t h : Term) (k : ℕ) → head_step E h ≡ None →
      head_from D n made t ≡ question.Head.done h k → head_from E n made t ≡ question.Head.done h k
  from-grows zero made t h k still e = last (head_step D t) refl e
    where
      last : (o : Option Term) → head_step D t ≡ o →
          (elim o [ None ↦ question.Head.done t made | Some s ↦ question.Head.spent ]) ≡ question.Head.done h k →
          head_from E zero made t ≡ question.Head.done h k
      last None c e =
          let same : t ≡ h = cc e in
          subst (λ o. (elim o [ None ↦ question.Head.done t made | Some s ↦ question.Head.spent ]) ≡
          question.Head.done h k) (sym (ap (head_step E) same ∙ still)) e
      last (Some s) c e = absurd (cc e)
  from-grows (suc n) made t h k still e =
      next (head_step D t) refl (λ s x. from-grows n (suc made) s h k still x) e
    where
      next : (o : Option Term) → head_step D t ≡ o →
          ((s : Term) → head_from D n (suc made) s ≡ question.Head.done h k →
          head_from E n (suc made) s ≡ question.Head.done h k) →
          (elim o [ None ↦ question.Head.done t made | Some s ↦ head_from D n (suc made) s ]) ≡
          question.Head.done h k → head_from E (suc n) made t ≡ question.Head.done h k
      next None c more e =
          let same : t ≡ h = cc e in
          subst (λ o. (elim o [ None ↦ question.Head.done t made | Some s ↦ head_from E n (suc made) s ]) ≡
          question.Head.done h k) (sym (ap (head_step E) same ∙ still)) e
      next (Some s) c more e =
          subst (λ o. (elim o [ None ↦ question.Head.done t made | Some s ↦ head_from E n (suc made) s ]) ≡
          question.Head.done h k) (sym (step-grows t s c)) (more s e)

  head-grows : (t h : Term) → head_step E h ≡ None → HeadIs D t h → HeadIs E t h
  head-grows t h still x =
      record { bound = x.bound; made = x.made; is = from-grows x.bound 0 t h x.made still x.is }

  sort-grows : {t : Term} {l : ℕ} → HeadIs D t (Sort l) → HeadIs E t (Sort l)
  unfolding contract
  sort-grows {t} {l} x = head-grows t (Sort l) refl x

  function-grows : {t : Term} {q : Mult} {A B : Term} → HeadIs D t (Pi q A B) → HeadIs E t (Pi q A B)
  unfolding contract
  function-grows {t} {q} {A} {B} x = head-grows t (Pi q A B) refl x

  fam-grows : {t : Term} {f : GlobalId} {ts : Terms} → HeadIs D t (Fam f ts) → HeadIs E t (Fam f ts)
  unfolding contract
  fam-grows {t} {f} {ts} x = head-grows t (Fam f ts) refl x

  action-grows : {t : Term} {m : Io} {A : Term} → HeadIs D t (IoTy m A) → HeadIs E t (IoTy m A)
  unfolding contract
  action-grows {t} {m} {A} x = head-grows t (IoTy m A) refl x

-- ---- what the core judgement accepts
module _ {D E : Env} (g : Grows D E) (stays : FamiliesStay D E) where
  named-grows : (n : Named) → NamedThere D n → NamedThere E n
  named-grows (Named.def d) w = (definition-grown g d w).0
  named-grows (Named.lit l) w = tt
  named-grows (Named.prim_ty p) w = tt
  named-grows (Named.prim p) w = tt
  named-grows (Named.act a k) w = w

  signature-grows : (n : Named) → NamedThere D n → signature D n ≡ signature E n
  signature-grows (Named.def d) w =
      let r = (definition-grown g d w).1 in
      ap₂ (λ A q. record { arguments = []; type = A; mult = q }) r.type r.mult
  signature-grows (Named.lit (literal.Int z)) w = refl
  signature-grows (Named.lit (literal.Text s)) w = refl
  signature-grows (Named.prim_ty PrimTy.int) w = refl
  signature-grows (Named.prim_ty PrimTy.string) w = refl
  signature-grows (Named.prim_ty PrimTy.handle) w = refl
  signature-grows (Named.prim_ty (PrimTy.io_of m)) w = refl
  signature-grows (Named.prim p) w = refl
  signature-grows (Named.act a k) w = refl

  rule-grows : {p : Part} {F : Form} {ts : Terms} {js : List core.Judged} {R : Term} {own : Use} →
      Rule D p F ts js R own → Rule E p F ts js R own
  rule-grows Rule.sort = Rule.sort
  rule-grows Rule.pi = Rule.pi
  rule-grows Rule.lam = Rule.lam
  rule-grows Rule.app = Rule.app
  rule-grows Rule.trap = Rule.trap
  rule-grows Rule.tape = Rule.tape
  rule-grows (Rule.delete m) = Rule.delete m
  rule-grows {ts = ts} {js = js} {R = R} (Rule.fam {f = f} w a) =
      let e = stays f w in
      Rule.fam (subst (λ o. There o) e w)
      (subst (λ o. ParamsThenArgs (erase_binds (fam_sig f (family_of o)).indices) (fam_sig f (family_of o)).params
      closed ts js (Sort (fam_sig f (family_of o)).level) R) e a)
  rule-grows {p} {ts = ts} {js = js} {R = R} (Rule.con {f = f} {n = n} {c = c} i a) =
      let e = stays f (there-of-con (D.family f) f n c i) in
      subst (λ o. IsCon (fam_sig f (family_of o)).constructors n c →
      ParamsThenArgs c.fields (fam_sig f (family_of o)).params closed ts js c.result R →
      Rule E p (Form.con f n (length (fam_sig f (family_of o)).params)) ts js R zero_use)
      (sym e) (λ i a. Rule.con i a) i a
  rule-grows {p} {ts = ts} {js = js} (Rule.named {n = n} w m a) =
      subst (λ S. Rule E p (Form.named n) ts js (sub (push ts closed) S.type) zero_use) (sym (signature-grows n w))
      (Rule.named (named-grows n w) (subst (λ S. Usable p S.mult) (signature-grows n w) m)
      (subst (λ S. Args S.arguments closed ts js) (signature-grows n w) a))
  rule-grows {ts = ts} {js = js} {R = R} (Rule.case {q = q} {f = f} {k = x} {m = y} {ns = ns} w m a) =
      let e = stays f w in
      Rule.case (subst (λ o. There o) e w) m
      (subst (λ o. Cases (fam_sig f (family_of o)) q (fam_sig f (family_of o)).params closed x y ns ts js R) e a)

  mutual
    accepts-grows : {p : Part} {Γ : Ctx} {t A : Term} {u : Use} → Accepts D p Γ t A u → Accepts E p Γ t A u
    accepts-grows (Accepts.variable s m e) = Accepts.variable s m e
    accepts-grows (Accepts.by_rule r s hs e) = Accepts.by_rule (rule-grows r) s (all-grow hs) e
    accepts-grows (Accepts.conversion h c) = Accepts.conversion (accepts-grows h) (conv-grows g c)

    all-grow : {p : Part} {Γ : Ctx} {ns : List ℕ} {ts : Terms} {js : List core.Judged} → AcceptsAll D p Γ ns ts js →
        AcceptsAll E p Γ ns ts js
    all-grow AcceptsAll.none = AcceptsAll.none
    all-grow (AcceptsAll.more e h f hs) = AcceptsAll.more e (accepts-grows h) f (all-grow hs)

same-uses : (us ws : List Mult) → length us ≡ length ws →
    ((i : ℕ) → i < length us → usage_at us i ≡ usage_at ws i) → us ≡ ws
same-uses [] [] e h = refl
same-uses [] (w ∷ ws) e h = absurd (cc e)
same-uses (u ∷ us) [] e h = absurd (cc e)
same-uses (u ∷ us) (w ∷ ws) e h =
    ap₂ (λ u us. u ∷ us) (h 0 (omega arith))
    (same-uses us ws (cc e) (λ i k. h (suc i) (omega (arith, k))))

in-scope : (Γ : Ctx) (i : ℕ) → i < length Γ → InScope Γ i
in-scope [] i k = absurd (omega (arith, k))
in-scope (b ∷ Γ) zero k = tt
in-scope (b ∷ Γ) (suc i) k = in-scope Γ i (omega (arith, k))

-- ---- names
if_exact-is : (x m : Meaning) → if_exact x ≡ Some m → x ≡ m
if_exact-is (Meaning.definition d) m e = absurd (none≢some e)
if_exact-is (Meaning.family f) m e = cc e
if_exact-is (Meaning.constructor c) m e = cc e
if_exact-is (Meaning.listed r n) m e = cc e
if_exact-is (Meaning.pure i) m e = cc e

module _ (G H : Entries) where
  abbrev Stays : GlobalId → Type 0
  Stays id = StaysNamed G H id

  target-grows : (t : Target) → (w : OfTarget Stays t) → of_target G t ≡ of_target H t
  target-grows target.Unknown w = refl
  target-grows (target.Local i) w = refl
  target-grows (target.Global id) w = ap if_exact w.same

  target-there : (t : Target) (m : Meaning) → OfTarget Stays t → of_target G t ≡ Some m → IsThere (env G) m
  target-there target.Unknown m w e = absurd (none≢some e)
  target-there (target.Local i) m w e = absurd (none≢some e)
  target-there (target.Global id) m w e = subst (λ x. IsThere (env G) x) (if_exact-is (meaning G id) m e) w.there

  exact-grows : (f : Tree) → EachName Stays f → exact G f ≡ exact H f
  exact-grows (name n) w = target-grows n.target w
  exact-grows (number z s) w = refl
  exact-grows (text v s) w = refl
  exact-grows (universe l r s) w = refl
  exact-grows (hole n s) w = refl
  exact-grows (the A e s) w = refl
  exact-grows (apply f es s) w = refl
  exact-grows (pi k q x A B s) w = refl
  exact-grows (lambda bs e s) w = refl
  exact-grows (letting q x A e b s) w = refl
  exact-grows (doing ss s) w = refl

  exact-there : (f : Tree) (m : Meaning) → EachName Stays f → exact G f ≡ Some m → IsThere (env G) m
  exact-there (name n) m w e = target-there n.target m w e
  exact-there (number z s) m w e = absurd (none≢some e)
  exact-there (text v s) m w e = absurd (none≢some e)
  exact-there (universe l r s) m w e = absurd (none≢some e)
  exact-there (hole n s) m w e = absurd (none≢some e)
  exact-there (the A e s) m w x = absurd (none≢some x)
  exact-there (apply f es s) m w e = absurd (none≢some e)
  exact-there (pi k q x A B s) m w e = absurd (none≢some e)
  exact-there (lambda bs e s) m w x = absurd (none≢some x)
  exact-there (letting q x A e b s) m w y = absurd (none≢some y)
  exact-there (doing ss s) m w e = absurd (none≢some e)

  at-target : (n : used.Named) (id : GlobalId) → n.target ≡ target.Global id → OfTarget Stays n.target → Stays id
  at-target n id t w = subst (λ t. OfTarget Stays t) t w

  calls-grow : {e : Tree} {m : Meaning} {es : Arguments} → EachName Stays e → Calls G e m es → Calls H e m es
  calls-grow w (Calls.alone {n = n} {id = id} t k) = Calls.alone t (sym (at-target n id t w).same ∙ k)
  calls-grow w (Calls.to_arguments {f = f} x) = Calls.to_arguments (sym (exact-grows f w.0) ∙ x)

  called : {e : Tree} {m : Meaning} {es : Arguments} → EachName Stays e → Calls G e m es → IsThere (env G) m
  called w (Calls.alone {n = n} {id = id} t k) =
      subst (λ x. IsThere (env G) x) k (at-target n id t w).there
  called {m = m} w (Calls.to_arguments {f = f} x) = exact-there f m w.0 x

  arguments-named : {e : Tree} {m : Meaning} {es : Arguments} → EachName Stays e → Calls G e m es →
      EachInArguments Stays es
  arguments-named w (Calls.alone t k) = tt
  arguments-named w (Calls.to_arguments x) = w.1

  action-named : {st : Statement} {x : Option Local} {e : Tree} → Acts st x e → EachInStatement Stays st →
      EachName Stays e
  action-named Acts.binds w = w
  action-named Acts.runs w = w

  module _ (g : Grows (env G) (env H)) (stays : FamiliesStay (env G) (env H))
      (here : AcceptedIsInferred (env G)) (there : AcceptedIsInferred (env H)) where
    accepted-grows : (p : Part) (S : Scope) (t : Term) (us : List Mult) → Accepted G p S t us → Accepted H p S t us
    accepted-grows Part.erased S t us a = a
    accepted-grows Part.run S t us (A, ends) =
        let d = here.derived Part.run S.vars t (record { type = A; uses = us }) ends in
        let (j, again, said) = there.inferred Part.run S.vars t A d.use_of_term (accepts-grows g stays d.holds) in
        let c = there.derived Part.run S.vars t j again in
        let same : j.uses ≡ us = same-uses j.uses us (c.counted ∙ sym d.counted)
        (λ i k. sym (said.1 i (in-scope S.vars i (subst (λ n. i < n) c.counted k))) ∙ d.variables i) in (
          j.type,
          subst (λ us. Ends (env H) (infer (env H) Part.run S.vars t)
              (Ending.ok (record { type = j.type; uses = us }))) same again,
        )

    mutual
      found-grows : {p : Part} {S : Scope} {e : Tree} {j : Judged} → EachName Stays e → Found G p S e j →
          Found H p S e j
      found-grows w (Found.variable t s u) = Found.variable t s u
      found-grows {p} {S} w (Found.stands {F = F} {ts = ts} {us = us} t s a) =
          Found.stands t s (accepted-grows p S (node F ts) us a)
      found-grows {p} {S} w (Found.global {n = n} {d = d} {e = e} t m u) =
          let x = at-target n d t w in
          let r = (definition-grown g e (subst (λ x. IsThere (env G) x) m x.there)).1 in
          subst (λ A. Found H p S (name n) (judged A (Def e) (unused S))) (sym r.type)
          (Found.global t (sym x.same ∙ m) (subst (λ q. Usable p q) r.mult u))
      found-grows w Found.sort = Found.sort
      found-grows w (Found.function_type a b) =
          Found.function_type (type-grows w.0 a) (type-grows w.1 b)
      found-grows w (Found.application {f = f} x d a) =
          Found.application (sym (exact-grows f w.0) ∙ x) (elaborates-grows w.0 d) (applied-grows w.1 a)
      found-grows {p} {S} w (Found.family {e = e} {f = f} {es = es} {g = r} c a) =
          let o = stays f (called w c) in
          subst (λ o. Checked H p S
          (erase_binds ((fam_sig f (family_of o)).params ++ (fam_sig f (family_of o)).indices)) closed es r →
          Found H p S e (judged (Sort (fam_sig f (family_of o)).level) (Fam f r.cores) r.uses)) (sym o)
          (λ a. Found.family (calls-grow w c) a) (checked-grows (arguments-named w c) a)
      found-grows {p} {S} w (Found.listed {e = e} {n = n} {es = es} {g = r} c a) =
          subst (λ Z. Checked H p S Z.arguments closed es r →
          Found H p S e (judged (sub (push r.cores closed) Z.type) (node (Form.named n) r.cores) r.uses))
          (sym (signature-grows g stays n (called w c)))
          (λ a. Found.listed (calls-grow w c) a) (checked-grows (arguments-named w c) a)
      found-grows w (Found.ascribed a d) = Found.ascribed (type-grows w.0 a) (elaborates-grows w.1 d)
      found-grows w Found.integer = Found.integer
      found-grows w Found.string = Found.string

      elaborates-grows : {p : Part} {S : Scope} {m : Mode} {e : Tree} {j : Judged} → EachName Stays e →
          Elaborates G p S m e j → Elaborates H p S m e j
      elaborates-grows w (Elaborates.found f) = Elaborates.found (found-grows w f)
      elaborates-grows w (Elaborates.switch f c) = Elaborates.switch (found-grows w f) (conv-grows g c)
      elaborates-grows w (Elaborates.lam_synth l) = Elaborates.lam_synth (found-lambda-grows w.0 w.1 l)
      elaborates-grows w (Elaborates.lam_check l) = Elaborates.lam_check (checked-lambda-grows w.0 w.1 l)
      elaborates-grows w (Elaborates.con_synth {c = c} {d = d} h t k a) =
          let o = stays c.family (called w h) in
          Elaborates.con_synth (calls-grow w h)
          (subst (λ o. slice_get (fam_sig c.family (family_of o)).constructors c.place ≡ Some d) o t)
          (subst (λ o. length (fam_sig c.family (family_of o)).params ≡ 0) o k)
          (checked-grows (arguments-named w h) a)
      elaborates-grows {p} {S} w (Elaborates.con_check {e = e} {c = c} {d = d} {es = es} {A = A} {xs = xs} {g = r}
          h t x a s) =
          let o = stays c.family (called w h) in
          subst (λ o. Checked H p S d.fields (push (front (length (fam_sig c.family (family_of o)).params) xs) closed)
          es r → Conv (env H) (sub (push (front (length (fam_sig c.family (family_of o)).params) xs +++ r.cores)
          closed) d.result) A →
          Elaborates H p S (Mode.check A) e (judged A
          (node (Form.con c.family c.place (length (fam_sig c.family (family_of o)).params))
          (front (length (fam_sig c.family (family_of o)).params) xs +++ r.cores)) r.uses)) (sym o)
          (λ a s. Elaborates.con_check (calls-grow w h)
          (subst (λ o. slice_get (fam_sig c.family (family_of o)).constructors c.place ≡ Some d) o t)
          (fam-grows g x) a s)
          (checked-grows (arguments-named w h) a) (conv-grows g s)
      elaborates-grows w (Elaborates.pure c h a) =
          Elaborates.pure (calls-grow w c) (action-grows g h) (checked-grows (arguments-named w c) a)
      elaborates-grows w (Elaborates.let_in v b f) =
          Elaborates.let_in (valued-grows w.0 w.1 v) (elaborates-grows w.2 b) f
      elaborates-grows w (Elaborates.block r) = Elaborates.block (runs-grow w r)

      type-grows : {S : Scope} {e : Tree} {D : Classified} → EachName Stays e → IsType G S e D → IsType H S e D
      type-grows w (IsType.classified d h) = IsType.classified (elaborates-grows w d) (sort-grows g h)

      checked-grows : {p : Part} {S : Scope} {Θ : Tele} {σ : ℕ → Term} {es : Arguments} {r : Given} →
          EachInArguments Stays es → Checked G p S Θ σ es r → Checked H p S Θ σ es r
      checked-grows w Checked.none = Checked.none
      checked-grows w (Checked.more d a) = Checked.more (elaborates-grows w.0 d) (checked-grows w.1 a)

      applied-grows : {p : Part} {S : Scope} {f j : Judged} {es : Arguments} → EachInArguments Stays es →
          Applied G p S f es j → Applied H p S f es j
      applied-grows w Applied.itself = Applied.itself
      applied-grows w (Applied.to h d a) =
          Applied.to (function-grows g h) (elaborates-grows w.0 d) (applied-grows w.1 a)

      found-lambda-grows : {p : Part} {S : Scope} {bs : Binders} {e : Tree} {j : Judged} → EachInBinders Stays bs →
          EachName Stays e → FoundLambda G p S bs e j → FoundLambda H p S bs e j
      found-lambda-grows v w (FoundLambda.found_body d) = FoundLambda.found_body (elaborates-grows w d)
      found-lambda-grows v w (FoundLambda.found_binder t l f) =
          FoundLambda.found_binder (type-grows v.0 t) (found-lambda-grows v.1 w l) f

      checked-lambda-grows : {p : Part} {S : Scope} {A : Term} {bs : Binders} {e : Tree} {j : Judged} →
          EachInBinders Stays bs → EachName Stays e → CheckedLambda G p S A bs e j → CheckedLambda H p S A bs e j
      checked-lambda-grows v w (CheckedLambda.checked_body d) = CheckedLambda.checked_body (elaborates-grows w d)
      checked-lambda-grows v w (CheckedLambda.checked_binder h a l f) =
          CheckedLambda.checked_binder (function-grows g h) (agrees-grows v.0 a) (checked-lambda-grows v.1 w l) f

      agrees-grows : {S : Scope} {q : Mult} {A : Term} {b : Binder} → EachInBinder Stays b → Agrees G S q A b →
          Agrees H S q A b
      agrees-grows w Agrees.without_type = Agrees.without_type
      agrees-grows w (Agrees.with_type t c) = Agrees.with_type (type-grows w t) (conv-grows g c)

      valued-grows : {p : Part} {S : Scope} {A : Annotation} {e : Tree} {j : Judged} → EachInAnnotation Stays A →
          EachName Stays e → Valued G p S A e j → Valued H p S A e j
      valued-grows v w (Valued.without_annotation d) = Valued.without_annotation (elaborates-grows w d)
      valued-grows v w (Valued.with_annotation t d) = Valued.with_annotation (type-grows v t) (elaborates-grows w d)

      runs-grow : {p : Part} {S : Scope} {m : Mode} {ss : Statements} {j : Judged} → EachInStatements Stays ss →
          Runs G p S m ss j → Runs H p S m ss j
      runs-grow w (Runs.last d) = Runs.last (elaborates-grows w.0 d)
      runs-grow w (Runs.act a h d x r f) =
          Runs.act a (action-grows g h) (elaborates-grows (action-named a w.0) d) (action-grows g x) (runs-grow w.1 r) f
      runs-grow w (Runs.let_then v r f) =
          Runs.let_then (valued-grows w.0.0 w.0.1 v) (runs-grow w.1 r) f

pub derivations_grow_holds : DerivationsGrow
derivations_grow_holds G H g stays closed counted closed_too counted_too p S m e j w d =
    elaborates-grows G H g stays (accepted-inferred (env G) closed counted)
    (accepted-inferred (env H) closed_too counted_too) w d
