-- A typed term under a substitution, for any class of substitutions that is kept under a binder.
use Rattle.std.proofs.Common.{◌≡◌, ℕ, suc, List, [], ◌∷◌, length, map, refl, sym, ◌∙◌, ap, subst}
use mathlib.Core.Path.{fun_ext, ap₂, subst₂}
use Rattle.qtt_usage.specs.declared.mult.Mult.{Mult}
use Rattle.qtt_usage.specs.Mult.{𝟘, 𝟙, ω, ◌≼◌}
use Rattle.qtt_usage.specs.Uses.{Key, Use, unit, zero_use}
use Rattle.qtt_usage.proofs.Mults.{≼-refl, ≼-trans}
use Rattle.qtt_term.specs.Term.{Form, binders, zeros, Term, Terms, var, ε, ◌▸◌, size, ◌+++◌, Sort}
use Rattle.qtt_term.specs.Substitution.{closed, sub, subs, lift, lifts, push, shift}
use Rattle.qtt_term.specs.Signature.{Refl, Tele, ConSig, FamSig, Env, signature}
use Rattle.qtt_term.specs.Contraction.{BodiesClosed, Conv}
use Rattle.qtt_term.specs.Judgement.{Ctx, InScope, mult_at, type_at, ext, Part, under, InRun, AtMost, Usable, Judged, judged, branch, BindersFit, total, sub_binds, scale, Args, ParamsThenArgs, branch_type, Branches, Cases, Rule}
use Rattle.qtt_term.proofs.Subst.{sub-sub, inst-sub, cons-then_sub, push-then_sub, push-lifts, lifts-shift, lifts-then_sub, subs-after, subs-size, subs-append, fill-sub}
use Rattle.qtt_confluence.proofs.Confluence.{conv-sub}
use Rattle.qtt_preserve.specs.Within.{Has, HasAll}
use Rattle.qtt_preserve.specs.Through.{through}
use Rattle.qtt_preserve.proofs.Uses.{◌≼ᵤ◌, lift_uses, lifts_uses, sub_judged, ≼-of, through-mono, through-zero, through-var, through-tape, through-fit, length-sub_binds, total-sub}

pub always : {P : Type 0} (p : Part) → P → InRun p P
always Part.run h = h
always Part.erased h = tt

pub in_run : {P Q : Type 0} (p : Part) → (P → Q) → InRun p P → InRun p Q
in_run Part.run f h = f h
in_run Part.erased f h = tt

pub in_run₂ : {P Q R : Type 0} (p : Part) → (P → Q → R) → InRun p P → InRun p Q → InRun p R
in_run₂ Part.run f h k = f h k
in_run₂ Part.erased f h k = tt

pub in_run₃ : {P Q R S : Type 0} (p : Part) → (P → Q → R → S) → InRun p P → InRun p Q → InRun p R → InRun p S
in_run₃ Part.run f h k l = f h k l
in_run₃ Part.erased f h k l = tt

pub ≼ᵤ-trans : (u v w : Use) → u ≼ᵤ v → v ≼ᵤ w → u ≼ᵤ w
≼ᵤ-trans u v w h k x = ≼-trans (u x) (v x) (w x) (h x) (k x)

pub at_most-trans : (Γ : Ctx) (u v w : Use) → AtMost Γ u v → AtMost Γ v w → AtMost Γ u w
at_most-trans Γ u v w h k x s = ≼-trans (u x) (v x) (w x) (h x s) (k x s)

-- Conversion, and a greater use
pub has_as : (E : Env) {p : Part} {Γ : Ctx} {t A : Term} {u : Use} (B : Term) (w : Use) → Has E p Γ t A u →
    Conv E A B → InRun p (AtMost Γ u w) → Has E p Γ t B w
has_as E {p} {Γ} {u = u} B w (Has.at_var s m c f) k g =
    Has.at_var s m (Conv.thence c k) (in_run₂ p (at_most-trans Γ _ u w) f g)
has_as E {p} {Γ} {u = u} B w (Has.at_node r hs c f) k g =
    Has.at_node r hs (Conv.thence c k) (in_run₂ p (at_most-trans Γ _ u w) f g)

-- ---- telescopes and types under a substitution
lift-sub_binds : (τ σ : ℕ → Term) → (λ i. sub (lift τ) (lift σ i)) ≡ lift (λ i. sub τ (σ i))
lift-sub_binds τ σ = lifts-then_sub 1 τ σ

pub sub_binds-twice : (τ σ : ℕ → Term) (Θ : Tele) → sub_binds τ (sub_binds σ Θ) ≡ sub_binds (λ i. sub τ (σ i)) Θ
sub_binds-twice τ σ [] = refl
sub_binds-twice τ σ (b ∷ Θ) =
    ap₂ (λ T Ξ. (b.0, T) ∷ Ξ) (sub-sub τ σ b.1)
    (sub_binds-twice (lift τ) (lift σ) Θ ∙ ap (λ f. sub_binds f Θ) (lift-sub_binds τ σ))

pub length-scale : (q : Mult) (Θ : Tele) → length (scale q Θ) ≡ length Θ
length-scale q [] = refl
length-scale q (b ∷ Θ) = ap suc (length-scale q Θ)

branch_type-sub : (τ σ : ℕ → Term) (c : ConSig) (P : Term) (N : ℕ) → size c.targets ≡ N →
    sub (lifts (length c.fields) τ) (branch_type σ c P) ≡ branch_type (λ i. sub τ (σ i)) c (sub (lifts N τ) P)
branch_type-sub τ σ c P N e =
    sub-sub (lifts m τ) (push (subs [] (lifts m σ) K) (λ i. var (shift m i))) P
    ∙ ap (λ f. sub f P) (push-then_sub (subs [] (lifts m σ) K) (lifts m τ) (λ i. var (shift m i)))
    ∙ ap₂ (λ A f. sub (push A f) P)
    (subs-after K [] (lifts m τ) (lifts m σ) ∙ ap (λ f. subs [] f K) (lifts-then_sub m τ σ))
    (fun_ext λ i. lifts-shift m τ i)
    ∙ sym (ap (λ f. sub f P) (push-lifts L (λ i. var (shift m i)) τ))
    ∙ sym (sub-sub (push L (λ i. var (shift m i))) (lifts (size L) τ) P)
    ∙ ap (λ n. sub (push L (λ i. var (shift m i))) (sub (lifts n τ) P))
    (subs-size K [] (lifts m (λ i. sub τ (σ i))) ∙ e)
  where
    m : ℕ
    m = length c.fields

    K : Terms
    K = c.targets

    L : Terms
    L = subs [] (lifts m (λ i. sub τ (σ i))) K

abbrev RuleAt : Env → Part → Form → Terms → List Judged → Term → Use → Type 0
RuleAt E p F ts js R top = (own : Use) × Rule E p F ts js R own × (own ≼ᵤ top)

module _ (Γ : Ctx) (τ : ℕ → Term) (M : ℕ → Use) where
  abbrev then : (ℕ → Term) → ℕ → Term
  then σ i = sub τ (σ i)

  pub args-sub : {Θ : Tele} {σ : ℕ → Term} {ts : Terms} {js : List Judged} → Args Θ σ ts js →
      Args Θ (λ i. sub τ (σ i)) (subs [] τ ts) (map (sub_judged Γ τ M) js)
  args-sub Args.none = Args.none
  args-sub (Args.more {q = q} {T = T} {Θ = Θ} {σ = σ} {a = a} {ts = ts} {js = js} {u = u} h) =
      subst (λ B. Args ((q, T) ∷ Θ) (λ i. sub τ (σ i)) (sub τ a ▸ subs [] τ ts)
      (judged [] B q (through Γ M u) ∷ map (sub_judged Γ τ M) js))
      (sym (sub-sub τ σ T))
      (Args.more (subst (λ f. Args Θ f (subs [] τ ts) (map (sub_judged Γ τ M) js)) (cons-then_sub τ σ a) (args-sub h)))

  params-sub : {Ξ Θ : Tele} {σ : ℕ → Term} {ts : Terms} {js : List Judged} {S R : Term} →
      ParamsThenArgs Ξ Θ σ ts js S R →
      ParamsThenArgs Ξ Θ (λ i. sub τ (σ i)) (subs [] τ ts) (map (sub_judged Γ τ M) js) S (sub τ R)
  params-sub {Ξ} (ParamsThenArgs.param {q = q} {T = T} {Θ = Θ} {σ = σ} {a = a} {ts = ts} {js = js} {u = u} {S = S}
      {R = R} h) =
      subst (λ B. ParamsThenArgs Ξ ((q, T) ∷ Θ) (λ i. sub τ (σ i)) (sub τ a ▸ subs [] τ ts)
      (judged [] B 𝟘 (through Γ M u) ∷ map (sub_judged Γ τ M) js) S (sub τ R))
      (sym (sub-sub τ σ T))
      (ParamsThenArgs.param (subst
      (λ f. ParamsThenArgs Ξ Θ f (subs [] τ ts) (map (sub_judged Γ τ M) js) S (sub τ R)) (cons-then_sub τ σ a)
      (params-sub h)))
  params-sub {Ξ} (ParamsThenArgs.done {σ = σ} {ts = ts} {js = js} {S = S} h) =
      subst (ParamsThenArgs Ξ [] (λ i. sub τ (σ i)) (subs [] τ ts) (map (sub_judged Γ τ M) js) S)
      (ap (λ f. sub f S) (sym (push-then_sub ts τ σ)) ∙ sym (sub-sub τ (push ts σ) S))
      (ParamsThenArgs.done (args-sub h))

  branches-sub : {S : FamSig} {q : Mult} {σ : ℕ → Term} {P : Term} {cs : List ConSig} {ns : List ℕ} {ts : Terms}
      {js : List Judged} {R : Term} →
      Branches S q σ P cs ns ts js R →
      Branches S q (λ i. sub τ (σ i)) (sub (lifts (length S.motive) τ) P) cs ns (subs ns τ ts)
      (map (sub_judged Γ τ M) js) (sub τ R)
  branches-sub {S} {q} {σ} {P}
      (Branches.each {c = c} {cs = cs} {n = n} {ns = ns} {b = b} {ts = ts} {js = js} {w = w} {R = R} e h) =
      let Θ : Tele = scale q c.fields in
      subst₂ (λ Ξ B. Branches S q (λ i. sub τ (σ i)) (sub (lifts (length S.motive) τ) P) (c ∷ cs) (n ∷ ns)
      (sub (lifts n τ) b ▸ subs ns τ ts)
      (branch Ξ B (through (ext Γ (sub_binds σ Θ)) (lifts_uses (length (sub_binds σ Θ)) M) w) ∷
      map (sub_judged Γ τ M) js) (sub τ R))
      (sym (sub_binds-twice τ σ Θ))
      (sym (ap (λ k. sub (lifts k τ) (branch_type σ c P)) (length-sub_binds σ Θ ∙ length-scale q c.fields) ∙
      branch_type-sub τ σ c P (length S.motive) e))
      (Branches.each e (branches-sub h))
  branches-sub {S} {q} {σ} {P} (Branches.scrutinee {s = s} is {w = w} e) =
      subst₂ (λ B R. Branches S q (λ i. sub τ (σ i)) (sub (lifts (length S.motive) τ) P) [] [] (sub τ s ▸ ε)
      (judged [] B q (through Γ M w) ∷ []) R)
      (ap (λ f. sub f S.self) (sym (push-then_sub is τ σ)) ∙ sym (sub-sub τ (push is σ) S.self))
      (sym (fill-sub τ (is +++ (s ▸ ε)) (length S.motive) P e ∙
      ap (λ xs. sub (push xs var) (sub (lifts (length S.motive) τ) P)) (subs-append is (s ▸ ε) τ)))
      (Branches.scrutinee (subs [] τ is)
      (ap size (sym (subs-append is (s ▸ ε) τ)) ∙ subs-size (is +++ (s ▸ ε)) [] τ ∙ e))

  cases-sub : {S : FamSig} {q : Mult} {Θ : Tele} {σ : ℕ → Term} {k m : ℕ} {ns : List ℕ} {ts : Terms}
      {js : List Judged} {R : Term} →
      Cases S q Θ σ k m ns ts js R →
      Cases S q Θ (λ i. sub τ (σ i)) k m ns (subs (zeros k (m ∷ ns)) τ ts) (map (sub_judged Γ τ M) js)
      (sub τ R)
  cases-sub {S} {q} (Cases.param {r = r} {T = T} {Θ = Θ} {σ = σ} {k = k} {m = m} {ns = ns} {a = a} {ts = ts}
      {js = js} {u = u} {R = R} h) =
      subst (λ B. Cases S q ((r, T) ∷ Θ) (λ i. sub τ (σ i)) (suc k) m ns (sub τ a ▸ subs (zeros k (m ∷ ns)) τ ts)
      (judged [] B 𝟘 (through Γ M u) ∷ map (sub_judged Γ τ M) js) (sub τ R))
      (sym (sub-sub τ σ T))
      (Cases.param (subst (λ f. Cases S q Θ f k m ns (subs (zeros k (m ∷ ns)) τ ts) (map (sub_judged Γ τ M) js)
      (sub τ R)) (cons-then_sub τ σ a) (cases-sub h)))
  cases-sub {S} {q} (Cases.motive {σ = σ} {ns = ns} {P = P} {ts = ts} {js = js} {u = u} {l = l} {R = R} h) =
      subst (λ Ξ. Cases S q [] (λ i. sub τ (σ i)) 0 (length S.motive) ns
      (sub (lifts (length S.motive) τ) P ▸ subs ns τ ts)
      (judged Ξ (Sort l) 𝟘 (through (ext Γ (sub_binds σ S.motive)) (lifts_uses (length (sub_binds σ S.motive)) M)
      u) ∷ map (sub_judged Γ τ M) js) (sub τ R))
      (sym (sub_binds-twice τ σ S.motive))
      (Cases.motive (branches-sub h))

  none_own : zero_use ≼ᵤ through Γ M zero_use
  none_own = λ x. ≼-of (ap (λ f. f x) (sym (through-zero Γ M)))

  rule-sub : {E : Env} {p : Part} {F : Form} {ts : Terms} {js : List Judged} {R : Term} {own : Use} →
      Rule E p F ts js R own →
      RuleAt E p F (subs (binders F) τ ts) (map (sub_judged Γ τ M) js) (sub τ R) (through Γ M own)
  rule-sub Rule.sort = (zero_use, Rule.sort, none_own)
  rule-sub Rule.pi = (zero_use, Rule.pi, none_own)
  rule-sub Rule.lam = (zero_use, Rule.lam, none_own)
  rule-sub (Rule.app {B = B} {a = a}) = (zero_use, rw (inst-sub τ B a) Rule.app, none_own)
  rule-sub (Rule.trap {any = any}) = (through Γ M any, Rule.trap, λ x. ≼-refl (through Γ M any x))
  rule-sub (Rule.tape {n = n}) = (unit (Key.h n), Rule.tape, λ x. ≼-of (ap (λ f. f x) (sym (through-tape Γ M n))))
  rule-sub (Rule.fam there h) = (zero_use, Rule.fam there (params-sub h), none_own)
  rule-sub (Rule.con i h) = (zero_use, Rule.con i (params-sub h), none_own)
  rule-sub {E} {p} (Rule.named {n = n} {ts = ts} {js = js} there m h) = (
    zero_use,
    subst (λ R. Rule E p (Form.named n) (subs [] τ ts) (map (sub_judged Γ τ M) js) R zero_use)
        (ap (λ f. sub f (signature E n).type) (sym (push-then_sub ts τ closed)) ∙
        sym (sub-sub τ (push ts closed) (signature E n).type))
        (Rule.named there m (args-sub h)),
    none_own,
  )
  rule-sub (Rule.case there m h) = (zero_use, Rule.case there m (cases-sub h), none_own)
  rule-sub (Rule.delete {A = A} {s = s} {P = P} {e = e} m) =
      (zero_use, rw (inst-sub τ P e, inst-sub τ P (Refl A s)) (Rule.delete m), none_own)

-- a variable at its own multiplicity
pub usable-under : (p : Part) (q : Mult) → Usable (under p q) q
usable-under p 𝟘 = tt
usable-under Part.run 𝟙 = tt
usable-under Part.erased 𝟙 = tt
usable-under Part.run ω = tt
usable-under Part.erased ω = tt

-- any derivation is one in the erased part, whatever its use
erase_rule : {E : Env} {p : Part} {F : Form} {ts : Terms} {js : List Judged} {R : Term} {own : Use} →
    Rule E p F ts js R own → Rule E Part.erased F ts js R own
erase_rule Rule.sort = Rule.sort
erase_rule Rule.pi = Rule.pi
erase_rule Rule.lam = Rule.lam
erase_rule Rule.app = Rule.app
erase_rule Rule.trap = Rule.trap
erase_rule Rule.tape = Rule.tape
erase_rule (Rule.fam there h) = Rule.fam there h
erase_rule (Rule.con i h) = Rule.con i h
erase_rule (Rule.named there m h) = Rule.named there tt h
erase_rule (Rule.case there m h) = Rule.case there tt h
erase_rule (Rule.delete m) = Rule.delete tt

within-erased : (q : Mult) (P : Type 0) → InRun (under Part.erased q) P
within-erased 𝟘 P = tt
within-erased 𝟙 P = tt
within-erased ω P = tt

under-erased : {E : Env} {Γ : Ctx} {t A : Term} {u : Use} (q : Mult) → Has E Part.erased Γ t A u →
    Has E (under Part.erased q) Γ t A u
under-erased 𝟘 h = h
under-erased 𝟙 h = h
under-erased ω h = h

mutual
  pub erase : {E : Env} {p : Part} {Γ : Ctx} {t A : Term} {u : Use} → Has E p Γ t A u → Has E Part.erased Γ t A u
  erase (Has.at_var s m c f) = Has.at_var s tt c tt
  erase (Has.at_node r hs c f) = Has.at_node (erase_rule r) (erase_all hs) c tt

  pub erase_all : {E : Env} {p : Part} {Γ : Ctx} {ns : List ℕ} {ts : Terms} {js : List Judged} →
      HasAll E p Γ ns ts js → HasAll E Part.erased Γ ns ts js
  erase_all HasAll.none = HasAll.none
  erase_all (HasAll.more {j = j} e h fit hs) =
      HasAll.more e (under-erased j.mult (erase h)) (within-erased j.mult (BindersFit j.binds j.uses))
      (erase_all hs)

-- what holds under m in a part holds so in a part of that part
pub lower : {E : Env} {Γ : Ctx} {t A : Term} {u : Use} (p : Part) (q m : Mult) → Has E (under p m) Γ t A u →
    Has E (under (under p q) m) Γ t A u
lower p 𝟘 m h = under-erased m (erase h)
lower p 𝟙 m h = h
lower p ω m h = h

pub raise : {E : Env} {Γ : Ctx} {t A : Term} {u : Use} (p : Part) (m : Mult) → Usable p m →
    Has E (under p m) Γ t A u → Has E p Γ t A u
raise Part.run 𝟘 s h = elim s [ ]
raise Part.erased 𝟘 s h = h
raise p 𝟙 s h = h
raise p ω s h = h

module _ (E : Env) (bodies : BodiesClosed E) (Good : Part → Ctx → Ctx → (ℕ → Term) → (ℕ → Use) → Type 0)
    (lowered : (p : Part) (q : Mult) (Γ Δ : Ctx) (σ : ℕ → Term) (M : ℕ → Use) → Good p Γ Δ σ M →
    Good (under p q) Γ Δ σ M)
    (lifted : (p : Part) (Γ Δ : Ctx) (σ : ℕ → Term) (M : ℕ → Use) (q : Mult) (A : Term) → Good p Γ Δ σ M →
    Good p ((q, A) ∷ Γ) ((q, sub σ A) ∷ Δ) (lift σ) (lift_uses M))
    (looked : (p : Part) (Γ Δ : Ctx) (σ : ℕ → Term) (M : ℕ → Use) → Good p Γ Δ σ M →
    (i : ℕ) → InScope Γ i → Usable p (mult_at Γ i) → Has E p Δ (σ i) (sub σ (type_at Γ i)) (M i))
  where
    lifteds : (p : Part) (Γ Δ : Ctx) (σ : ℕ → Term) (M : ℕ → Use) (Θ : List (Mult × Term)) → Good p Γ Δ σ M →
        Good p (ext Γ Θ) (ext Δ (sub_binds σ Θ)) (lifts (length Θ) σ) (lifts_uses (length Θ) M)
    lifteds p Γ Δ σ M [] g = g
    lifteds p Γ Δ σ M (b ∷ Θ) g =
        lifteds p (b ∷ Γ) ((b.0, sub σ b.1) ∷ Δ) (lift σ) (lift_uses M) Θ (lifted p Γ Δ σ M b.0 b.1 g)

    mutual
      pub travel : {p : Part} {Γ : Ctx} {t A : Term} {u : Use} → Has E p Γ t A u →
          (Δ : Ctx) (σ : ℕ → Term) (M : ℕ → Use) → Good p Γ Δ σ M → Has E p Δ (sub σ t) (sub σ A) (through Γ M u)
      travel {p} {Γ} {u = u} (Has.at_var {i = i} {C = C} s m c f) Δ σ M g =
          has_as E (sub σ C) (through Γ M u) (looked p Γ Δ σ M g i s m) (conv-sub bodies c σ)
          (in_run p (λ k x d. subst (λ w. w x ≼ through Γ M u x) (through-var Γ M i s)
          (through-mono Γ M (unit (Key.v i)) u k x)) f)
      travel {p} {Γ} {u = u} (Has.at_node {js = js} {own = own} r hs c f) Δ σ M g =
          let r' = rule-sub Γ σ M r in
          Has.at_node r'.1 (travel_all hs Δ σ M g) (conv-sub bodies c σ)
          (in_run p (λ k x d. ≼ᵤ-trans _ (through Γ M (total own js)) _ (total-sub Γ σ M js own r'.0 r'.2)
          (through-mono Γ M (total own js) u k) x) f)

      travel_all : {p : Part} {Γ : Ctx} {ns : List ℕ} {ts : Terms} {js : List Judged} → HasAll E p Γ ns ts js →
          (Δ : Ctx) (σ : ℕ → Term) (M : ℕ → Use) → Good p Γ Δ σ M →
          HasAll E p Δ ns (subs ns σ ts) (map (sub_judged Γ σ M) js)
      travel_all HasAll.none Δ σ M g = HasAll.none
      travel_all {p} {Γ} {ns} (HasAll.more {t = t} {j = j} e h fit hs) Δ σ M g =
          HasAll.more (e ∙ sym (length-sub_binds σ j.binds))
          (subst (λ n. Has E (under p j.mult) (ext Δ (sub_binds σ j.binds)) (sub (lifts n σ) t)
          (sub (lifts (length j.binds) σ) j.type)
          (through (ext Γ j.binds) (lifts_uses (length j.binds) M) j.uses)) (sym e)
          (travel h (ext Δ (sub_binds σ j.binds)) (lifts (length j.binds) σ) (lifts_uses (length j.binds) M)
          (lifteds (under p j.mult) Γ Δ σ M j.binds (lowered p j.mult Γ Δ σ M g))))
          (in_run (under p j.mult) (through-fit Γ σ M j.binds j.uses) fit)
          (travel_all hs Δ σ M g)
