-- One split: a typed closed value meets a constructor that does not clash, and its solutions hold.
use Rattle.std.proofs.Common.{◌≡◌, ℕ, zero, suc, ◌+◌, List, [], ◌++◌, length, true, false, ◌&&◌, eqb, refl, sym, ◌∙◌, ap, subst, arith}
use Rattle.std.proofs.lemmas.Bool.{eq-eqb}
use mathlib.Core.Path.{ap₂, subst₂}
use Rattle.qtt_base.specs.declared.place.GlobalId.{GlobalId}
use Rattle.qtt_usage.specs.Uses.{Use}
use Rattle.qtt_term.specs.Term.{Form, Term, Terms, var, node, ε, ◌▸◌, size, skip, ◌+++◌, same_id, Fam}
use Rattle.qtt_term.specs.Substitution.{sub, subs, lifts, push, above, closed}
use Rattle.qtt_term.specs.Signature.{Constructor, ConSig, con_sig, Env, Family, family_of, fam_sig, eq_id, eq_family, EqTy, family_at, fam_at}
use Rattle.qtt_term.specs.Contraction.{BodiesClosed, Conv}
use Rattle.qtt_term.specs.Judgement.{IsCon, Part, Args, Rule}
use Rattle.qtt_term.specs.Environment.{HasPrim}
use Rattle.qtt_term.specs.Value.{Value}
use Rattle.qtt_term.proofs.Subst.{subs-after, subs-append, subs-size, push-then_sub, push-lifts}
use Rattle.qtt_term.proofs.Same.{id-same}
use Rattle.qtt_term.proofs.Evaluation.{value-kept}
use Rattle.qtt_confluence.specs.Injective as injective
use Rattle.qtt_confluence.proofs.Confluence.{convs-same, convs-back, convs-thence, conv-sub, convs-fill, stiff-nodes, push-conv}
use Rattle.qtt_confluence.proofs.Injective.{stiff-fam, con_injective}
use Rattle.qtt_confluence.proofs.Families.{Splits, split-is, size-append, convs-split, is_con-sig, params-are}
use Rattle.qtt_preserve.specs.Within.{Has}
use Rattle.qtt_preserve.proofs.Exact.{typed-has}
use Rattle.qtt_preserve.proofs.Iota.{Fielded, find_fields, args-size}
use Rattle.qtt_preserve.proofs.Travel.{erase_all}
use Rattle.qtt_preserve.proofs.Progress.{value_at, is-con}
use Rattle.qtt_split.specs.Relation.{Convs, Clash, Solves}
use Rattle.qtt_split.specs.Split.{results_of}
use Rattle.qtt_clause_laws.specs.OneSplit.{Met, Hold, OneSplit, IsRefl, OneDeletion}
use Rattle.qtt_clause_laws.proofs.Columns.{skip-subs}

-- ---- convertible lists
pub convs-to : {E : Env} {ts ss : Terms} → injective.Convs E ts ss → Convs E ts ss
convs-to injective.Convs.none = Convs.none
convs-to (injective.Convs.more h hs) = Convs.more h (convs-to hs)

pub convs-of : {E : Env} {ts ss : Terms} → Convs E ts ss → injective.Convs E ts ss
convs-of Convs.none = injective.Convs.none
convs-of (Convs.more h hs) = injective.Convs.more h (convs-of hs)

pub convs-skip : {E : Env} (k : ℕ) {ts ss : Terms} → injective.Convs E ts ss →
    injective.Convs E (skip k ts) (skip k ss)
convs-skip zero h = h
convs-skip (suc k) injective.Convs.none = injective.Convs.none
convs-skip (suc k) (injective.Convs.more h hs) = convs-skip k hs

-- convertible one by one to the first of these
pub data Ahead (E : Env) : Terms → Terms → Type 0 where
  none : {ss : Terms} → Ahead E ε ss
  more : {t s : Term} {ts ss : Terms} → Conv E t s → Ahead E ts ss → Ahead E (t ▸ ts) (s ▸ ss)

ahead-all : {E : Env} {ts ss : Terms} → injective.Convs E ts ss → Ahead E ts ss
ahead-all injective.Convs.none = Ahead.none
ahead-all (injective.Convs.more h hs) = Ahead.more h (ahead-all hs)

ahead-of : {E : Env} {ts ss : Terms} (rs : Terms) → injective.Convs E ts ss → Ahead E ts (ss +++ rs)
ahead-of rs injective.Convs.none = Ahead.none
ahead-of rs (injective.Convs.more h hs) = Ahead.more h (ahead-of rs hs)

-- ---- equations under substitutions
module _ (E : Env) (bodies : BodiesClosed E) (σ π : ℕ → Term) where
  fields-agree : {f g : GlobalId} {c d k l : ℕ} {u : Term} (vs ws : Terms) →
      Conv E (node (Form.con f c k) (subs [] σ vs)) (sub π u) → Conv E u (node (Form.con g d l) ws) →
      (f ≡ g) × (c ≡ d) × injective.Convs E (subs [] σ (skip k vs)) (subs [] π (skip l ws))
  fields-agree {f} {g} {c} {d} {k} {l} vs ws h e =
      let x = Conv.thence h (conv-sub bodies e π) in
      let r = con_injective E bodies f g c d k l (subs [] σ vs) (subs [] π ws) x in
      let same = subst₂ (injective.Convs E) (skip-subs k vs σ) (ap (λ m. skip m (subs [] π ws)) r.2 ∙ skip-subs l ws π)
      (convs-skip k r.3) in
      (r.0, r.1, same)

  same-con : {f g : GlobalId} {c d : ℕ} → f ≡ g → c ≡ d → same_id f g && eqb c d ≡ false → ⊥
  same-con {f} {g} {c} {d} p q e = true≢false (sym (ap₂ ◌&&◌ (ap (same_id f) (sym p) ∙ id-same f) (eq-eqb c d q)) ∙ e)
    where
      true≢false : true ≡ false → ⊥
      true≢false e = cc e

  pub no-clash : {ts us : Terms} → Clash E ts us → Ahead E (subs [] σ ts) (subs [] π us) → ⊥
  no-clash (Clash.conflict {vs = vs} {ws = ws} e n) (Ahead.more h hs) = let r = fields-agree vs ws h e in
      same-con r.0 r.1 n
  no-clash (Clash.of_fields {vs = vs} {ws = ws} e x) (Ahead.more h hs) =
      no-clash x (ahead-all (fields-agree vs ws h e).2)
  no-clash (Clash.later x) (Ahead.more h hs) = no-clash x hs

  hold-append : {s r : List (ℕ × Term)} → Hold E σ π s → Hold E σ π r → Hold E σ π (s ++ r)
  hold-append Hold.none k = k
  hold-append (Hold.more c h) k = Hold.more c (hold-append h k)

  pub solutions-hold : {ts us : Terms} {s : List (ℕ × Term)} → Solves E ts us s →
      Ahead E (subs [] σ ts) (subs [] π us) → Hold E σ π s
  solutions-hold Solves.no_target a = Hold.none
  solutions-hold Solves.no_result a = Hold.none
  solutions-hold (Solves.solution x) (Ahead.more h hs) = Hold.more (Conv.back h) (solutions-hold x hs)
  solutions-hold (Solves.injectivity {k = k} {l = l} {vs = vs} {ws = ws} {ts = ts} {us = us} e x y) (Ahead.more h hs) =
      hold-append (solutions-hold x (ahead-all (fields-agree vs ws h e).2)) (solutions-hold y hs)

-- ---- what a value is
made : {E : Env} {p : Part} {f : GlobalId} {c l : ℕ} {xs ps is : Terms} {u : Use} → BodiesClosed E →
    size ps ≡ length (family_at E f).params →
    Has E p [] (node (Form.con f c l) xs) (node (Form.fam f) (ps +++ is)) u → Met E f ps is (node (Form.con f c l) xs)
made {E} {p} {f = f} {c = c} {xs = xs} {ps = ps} {is = is} bodies z
    (Has.at_node {js = js} {R = R} (Rule.con {c = K} i a) hs cv fu) =
    record {
      place = c;
      constructor_is = d;
      there = subst (IsCon (fam_at E f).constructors c) K-is i;
      own = r.taken;
      fields = fs;
      shape = ap (node (Form.con f c k)) r.whole;
      own_sized = r.sized;
      sized = sized;
      params_agree = convs-to parts.0;
      asked = l.asked;
      args = subst (λ τ. Args d.fields τ fs l.asked) r.is
          (subst (λ (K : ConSig). Args K.fields l.params fs l.asked) K-is l.args);
      typed = erase_all l.has;
      indices_agree = convs-to (subst (λ τ. injective.Convs E (subs [] (push fs τ) d.results) is) r.is parts.1);
    }
  where
    k : ℕ
    k = length (family_at E f).params

    l : Fielded E p [] K.fields (family_at E f).params closed xs (skip (length (family_at E f).params) xs) js K.result
        R
    l = find_fields a hs

    fs : Terms
    fs = skip k xs

    r : Splits (family_at E f).params closed xs l.params fs
    r = split-is l.split

    i' : (d : Constructor) × (K ≡ con_sig f k (0 + c) d)
    i' = is_con-sig f k (family_at E f).constructors 0 c K i

    d : Constructor
    d = i'.0

    K-is : K ≡ con_sig f k c d
    K-is = i'.1 ∙ ap (λ m. con_sig f k m d) (omega arith)

    sized : size fs ≡ length d.fields
    sized = args-size l.args ∙ ap (λ (K : ConSig). length K.fields) K-is

    result-is : R ≡ node (Form.fam f) (r.taken +++ subs [] (push fs l.params) d.results)
    result-is = sym l.result ∙ ap (λ (K : ConSig). sub (push fs l.params) K.result) K-is
        ∙ ap (node (Form.fam f)) (subs-append (above (length d.fields) k) d.results (push fs l.params)
        ∙ ap (λ ts. ts +++ subs [] (push fs l.params) d.results) (params-are r fs (length d.fields) sized))

    parts : injective.Convs E r.taken ps × injective.Convs E (subs [] (push fs l.params) d.results) is
    parts = convs-split r.taken ps (r.sized ∙ sym z) (stiff-nodes bodies (stiff-fam E f) (stiff-fam E f)
        (subst (λ R. Conv E R (node (Form.fam f) (ps +++ is))) result-is cv)).1

pub met : {E : Env} {p : Part} {f : GlobalId} (ps is : Terms) {v : Term} {u : Use} → BodiesClosed E →
    size ps ≡ length (family_at E f).params → Value E v →
    Has E p [] v (node (Form.fam f) (ps +++ is)) u → Met E f ps is v
met {E} {p} {f} ps is {v} {u} bodies z w h =
    let r = value_at bodies h (value-kept w) (stiff-fam E f) in
    let s = is-con r.0 f r.3 in
    let d : v ≡ node (Form.con f s.0 s.1) r.1 = r.2 ∙ ap (λ F. node F r.1) s.2 in
    subst (Met E f ps is) (sym d) (made bodies z (subst (λ v. Has E p [] v (node (Form.fam f) (ps +++ is)) u) d h))

-- the type of a value of a family has at least the parameters
sized-as : {E : Env} {p : Part} {f : GlobalId} {c l : ℕ} {xs ys : Terms} {u : Use} → BodiesClosed E →
    Has E p [] (node (Form.con f c l) xs) (node (Form.fam f) ys) u →
    (n : ℕ) × (size ys ≡ length (family_at E f).params + n)
sized-as {E} {p} {f = f} {c = c} {xs = xs} {ys = ys} bodies
    (Has.at_node {js = js} {R = R} (Rule.con {c = K} i a) hs cv fu) = (
      size (subs [] (push fs l.params) d.results),
      sym (convs-size agree)
          ∙ size-append r.taken (subs [] (push fs l.params) d.results)
          ∙ ap (λ n. n + size (subs [] (push fs l.params) d.results)) r.sized,
    )
  where
    k : ℕ
    k = length (family_at E f).params

    l : Fielded E p [] K.fields (family_at E f).params closed xs (skip (length (family_at E f).params) xs) js K.result
        R
    l = find_fields a hs

    fs : Terms
    fs = skip k xs

    r : Splits (family_at E f).params closed xs l.params fs
    r = split-is l.split

    i' : (d : Constructor) × (K ≡ con_sig f k (0 + c) d)
    i' = is_con-sig f k (family_at E f).constructors 0 c K i

    d : Constructor
    d = i'.0

    sized : size fs ≡ length d.fields
    sized = args-size l.args ∙ ap (λ (K : ConSig). length K.fields) i'.1

    result-is : R ≡ node (Form.fam f) (r.taken +++ subs [] (push fs l.params) d.results)
    result-is = sym l.result ∙ ap (λ (K : ConSig). sub (push fs l.params) K.result) i'.1
        ∙ ap (node (Form.fam f)) (subs-append (above (length d.fields) k) d.results (push fs l.params)
        ∙ ap (λ ts. ts +++ subs [] (push fs l.params) d.results) (params-are r fs (length d.fields) sized))

    convs-size : {ts ss : Terms} → injective.Convs E ts ss → size ts ≡ size ss
    convs-size injective.Convs.none = refl
    convs-size (injective.Convs.more h hs) = ap suc (convs-size hs)

    agree : injective.Convs E (r.taken +++ subs [] (push fs l.params) d.results) ys
    agree = (stiff-nodes bodies (stiff-fam E f) (stiff-fam E f)
        (subst (λ R. Conv E R (node (Form.fam f) ys)) result-is cv)).1

pub family-sized : {E : Env} {p : Part} {f : GlobalId} (ys : Terms) {v : Term} {u : Use} → BodiesClosed E → Value E v →
    Has E p [] v (node (Form.fam f) ys) u →
    (n : ℕ) × (size ys ≡ length (family_at E f).params + n)
family-sized {E} {p} {f} ys {v} {u} bodies w h =
    let r = value_at bodies h (value-kept w) (stiff-fam E f) in
    let s = is-con r.0 f r.3 in
    let d : v ≡ node (Form.con f s.0 s.1) r.1 = r.2 ∙ ap (λ F. node F r.1) s.2 in
    sized-as bodies (subst (λ v. Has E p [] v (node (Form.fam f) ys) u) d h)

-- the result indices, and what is behind them, at the node's parameters
results-at : (ts ps fs : Terms) (σ : ℕ → Term) (n : ℕ) → size fs ≡ n →
    subs [] (push fs σ) (subs [] (lifts n (push ps closed)) ts) ≡ subs [] (push fs (push (subs [] σ ps) closed)) ts
results-at ts ps fs σ n z =
    subs-after ts [] (push fs σ) (lifts n (push ps closed))
    ∙ ap (λ ρ. subs [] ρ ts) (ap (λ n i. sub (push fs σ) (lifts n (push ps closed) i)) (sym z)
    ∙ push-lifts fs σ (push ps closed) ∙ ap (push fs) (push-then_sub ps σ closed))

pub one-split : (E : Env) → BodiesClosed E → (p : Part) (f : GlobalId) (ps is targets : Terms) (σ : ℕ → Term)
    (v : Term) (u : Use) →
    size ps ≡ length (family_at E f).params → Convs E is targets → Value E v →
    Has E p [] v (sub σ (Fam f (ps +++ is))) u →
    (m : Met E f (subs [] σ ps) (subs [] σ is) v)
    × (Clash E targets (results_of ps (con_sig f (length (family_at E f).params) m.place m.constructor_is)) → ⊥)
    × ((s : List (ℕ × Term)) → Solves E targets (results_of ps
    (con_sig f (length (family_at E f).params) m.place m.constructor_is)) s → Hold E σ (push m.fields σ) s)
one-split E bodies p f ps is targets σ v u z c w h = (
  m,
  (λ x. no-clash E bodies σ π x agree),
  λ s x.
      solutions-hold E bodies σ π x agree,
)
  where
    m : Met E f (subs [] σ ps) (subs [] σ is) v
    m = met (subs [] σ ps) (subs [] σ is) bodies (subs-size ps [] σ ∙ z) w
        (subst (λ xs. Has E p [] v (node (Form.fam f) xs) u) (subs-append ps is σ) h)

    π : ℕ → Term
    π = push m.fields σ

    K : ConSig
    K = con_sig f (length (family_at E f).params) m.place m.constructor_is

    convs-sub : {ts ss : Terms} → Convs E ts ss → injective.Convs E (subs [] σ ts) (subs [] σ ss)
    convs-sub Convs.none = injective.Convs.none
    convs-sub (Convs.more h hs) = injective.Convs.more (conv-sub bodies h σ) (convs-sub hs)

    τ : ℕ → Term
    τ = push m.fields (push (subs [] σ ps) closed)

    found : injective.Convs E (subs [] τ m.constructor_is.results) (subs [] σ is)
    found = convs-thence (convs-fill bodies m.constructor_is.results [] _ _
        (push-conv (convs-same m.fields) _ _ (push-conv (convs-back (convs-of m.params_agree)) closed closed
        (λ i. Conv.same)))) (convs-of m.indices_agree)

    agree : Ahead E (subs [] σ targets) (subs [] π (results_of ps K))
    agree = subst (Ahead E (subs [] σ targets)) (sym (results-at K.targets ps m.fields σ (length K.fields) m.sized
        ∙ subs-append m.constructor_is.results _ τ))
        (ahead-of _ (convs-back (convs-thence found (convs-sub c))))

pub one_split_holds : OneSplit
one_split_holds E bodies p f ps is targets σ v u z c w h =
    one-split E bodies p f ps is targets σ v u z c w (typed-has h)

-- ---- Eq of Prim
abbrev refl_con : Constructor
refl_con = record { fields = []; results = var 0 ▸ ε }

only-one : {c : ℕ} {k : ConSig} → IsCon (fam_sig eq_id eq_family).constructors c k →
    (c ≡ 0) × (k ≡ con_sig eq_id 2 0 refl_con)
only-one IsCon.here = (refl, refl)
only-one (IsCon.there h) = elim h [ ]

behind-two : Term → Terms
behind-two (var i) = ε
behind-two (node F ts) = skip 2 ts

record OneCon (c : ℕ) (d : Constructor) : Type 0 where
  first : c ≡ 0
  no_fields : d.fields ≡ []
  one_result : d.results ≡ var 0 ▸ ε

one-con : {F : Family} {c : ℕ} {d : Constructor} → F ≡ eq_family →
    IsCon (fam_sig eq_id F).constructors c (con_sig eq_id (length F.params) c d) → OneCon c d
unfolding behind-two
one-con {F} {c} {d} e i =
    let r = only-one (subst (λ (F : Family). IsCon (fam_sig eq_id F).constructors c
    (con_sig eq_id (length F.params) c d)) e i) in
    record {
      first = r.0;
      no_fields = ap (λ (k : ConSig). k.fields) r.1;
      one_result = ap
          (λ (k : ConSig). behind-two k.result) r.1;
    }

no-terms : (ts : Terms) → size ts ≡ 0 → ts ≡ ε
no-terms ε z = refl
no-terms (t ▸ ts) z = absurd (cc z)

is-refl : {E : Env} (A s i v : Term) (k c : ℕ) (own fields results : Terms) →
    v ≡ node (Form.con eq_id c k) (own +++ fields) → c ≡ 0 → k ≡ 2 → fields ≡ ε → results ≡ var 0 ▸ ε →
    Convs E own (A ▸ s ▸ ε) → Convs E (subs [] (push fields (push own closed)) results) (i ▸ ε) → IsRefl E A s i v
is-refl {E} A s i v k c own fields results e z two bare one
    (Convs.more {t = B} {ts = rest} h (Convs.more {t = r} g Convs.none)) x =
    record {
      type = B;
      point = r;
      is = e ∙ ap (λ fs. node (Form.con eq_id c k) (B ▸ r ▸ fs)) bare
          ∙ ap₂ (λ c k. node (Form.con eq_id c k) (B ▸ r ▸ ε)) z two;
      same_type = h;
      same_point = g;
      same_index = at (subst (λ ts. Convs E (subs [] (push ts (push (B ▸ r ▸ ε) closed)) (var 0 ▸ ε)) (i ▸ ε)) bare
          (subst (λ rs. Convs E (subs [] (push fields (push (B ▸ r ▸ ε) closed)) rs) (i ▸ ε)) one x));
    }
  where
    at : {a b : Term} → Convs E (a ▸ ε) (b ▸ ε) → Conv E a b
    at (Convs.more h Convs.none) = h

pub one-deletion : {E : Env} (A s i : Term) {p : Part} {v : Term} {u : Use} → HasPrim E → BodiesClosed E → Value E v →
    Has E p [] v (EqTy A s i) u → IsRefl E A s i v
one-deletion {E} A s i {p} {v} prims bodies w h =
    let F : family_at E eq_id ≡ eq_family = ap family_of prims.equalities in
    let k : length (family_at E eq_id).params ≡ 2 = ap (λ (F : Family). length F.params) F in
    let m = met (A ▸ s ▸ ε) (i ▸ ε) bodies (sym k) w h in
    let o = one-con F m.there in
    is-refl A s i v (length (family_at E eq_id).params) m.place m.own m.fields m.constructor_is.results m.shape o.first
    k
    (no-terms m.fields (m.sized ∙ ap length o.no_fields)) o.one_result m.params_agree m.indices_agree

pub one_deletion_holds : OneDeletion
one_deletion_holds E prims bodies p A s i v u w h = one-deletion A s i prims bodies w (typed-has h)
