-- Two convertible terms contract to a common term, and a form that never contracts stays.
use Rattle.std.proofs.Common.{◌≡◌, ℕ, zero, suc, List, refl, sym, ◌∙◌, ap, subst, None}
use Rattle.qtt_term.specs.Term.{Form, binders, first, rest, Term, Terms, var, node, ε, ◌▸◌}
use Rattle.qtt_term.specs.Substitution.{sub, subs, lift, lifts, cons, push, inst}
use Rattle.qtt_term.specs.Signature.{Env}
use Rattle.qtt_term.specs.Contraction.{BodiesClosed, contract, Step, Steps, Reduces, Conv}
use Rattle.qtt_term.proofs.Subst.{ren-is-sub}
use Rattle.qtt_term.proofs.Options.{none≢some}
use Rattle.qtt_confluence.specs.Injective.{Convs}
use Rattle.qtt_confluence.proofs.Parallel.{Par, Pars, ParMany, par_many-join, par-refl, pars-refl, confluent}
use Rattle.qtt_confluence.proofs.Coherent.{stable, coherent}

pub data ReducesParts (E : Env) : Terms → Terms → Type 0 where
  none_left : {ts : Terms} → ReducesParts E ts ts
  first_of : {ts ss rs : Terms} → Steps E ts ss → ReducesParts E ss rs → ReducesParts E ts rs

pub reduces-join : {E : Env} {t s r : Term} → Reduces E t s → Reduces E s r → Reduces E t r
reduces-join Reduces.done k = k
reduces-join (Reduces.then h hs) k = Reduces.then h (reduces-join hs k)

pub parts-join : {E : Env} {ts ss rs : Terms} → ReducesParts E ts ss → ReducesParts E ss rs → ReducesParts E ts rs
parts-join ReducesParts.none_left k = k
parts-join (ReducesParts.first_of h hs) k = ReducesParts.first_of h (parts-join hs k)

pub in-node : {E : Env} {F : Form} {ts ss : Terms} → ReducesParts E ts ss → Reduces E (node F ts) (node F ss)
in-node ReducesParts.none_left = Reduces.done
in-node (ReducesParts.first_of h hs) = Reduces.then (Step.inside h) (in-node hs)

pub in-cell : {E : Env} {t s : Term} {ts : Terms} → Reduces E t s → ReducesParts E (t ▸ ts) (s ▸ ts)
in-cell Reduces.done = ReducesParts.none_left
in-cell (Reduces.then h hs) = ReducesParts.first_of (Steps.at h) (in-cell hs)

pub behind-cell : {E : Env} {t : Term} {ts ss : Terms} → ReducesParts E ts ss → ReducesParts E (t ▸ ts) (t ▸ ss)
behind-cell ReducesParts.none_left = ReducesParts.none_left
behind-cell (ReducesParts.first_of h hs) = ReducesParts.first_of (Steps.after h) (behind-cell hs)

module _ {E : Env} where
  mutual
    par-reduces : {t s : Term} → Par (contract E) t s → Reduces E t s
    par-reduces Par.pvar = Reduces.done
    par-reduces (Par.pnode h) = in-node (pars-reduces h)
    par-reduces (Par.proot h r) = reduces-join (in-node (pars-reduces h)) (Reduces.then (Step.here r) Reduces.done)

    pars-reduces : {ts ss : Terms} → Pars (contract E) ts ss → ReducesParts E ts ss
    pars-reduces Pars.pnil = ReducesParts.none_left
    pars-reduces (Pars.pcell h hs) = parts-join (in-cell (par-reduces h)) (behind-cell (pars-reduces hs))

pub many-reduces : {E : Env} {t s : Term} → ParMany (contract E) t s → Reduces E t s
many-reduces ParMany.pdone = Reduces.done
many-reduces (ParMany.pthen h hs) = reduces-join (par-reduces h) (many-reduces hs)

mutual
  step-par : {E : Env} {t s : Term} → Step E t s → Par (contract E) t s
  step-par {E} (Step.here {ts = ts} r) = Par.proot (pars-refl (contract E) ts) r
  step-par (Step.inside h) = Par.pnode (steps-pars h)

  steps-pars : {E : Env} {ts ss : Terms} → Steps E ts ss → Pars (contract E) ts ss
  steps-pars {E} (Steps.at {ts = ts} h) = Pars.pcell (step-par h) (pars-refl (contract E) ts)
  steps-pars {E} (Steps.after {t = t} h) = Pars.pcell (par-refl (contract E) t) (steps-pars h)

abbrev pub Meet : Env → Term → Term → Type 0
Meet E t s = (r : Term) × ParMany (contract E) t r × ParMany (contract E) s r

joined : (E : Env) → BodiesClosed E → {t s r : Term} → Meet E t s → Meet E s r → Meet E t r
joined E closed a b =
    let c = confluent (contract E) (coherent E closed) a.2 b.1 in
    (c.0, par_many-join a.1 c.1, par_many-join b.2 c.2)

pub conv-meet : {E : Env} → BodiesClosed E → {t s : Term} → Conv E t s → Meet E t s
conv-meet closed (Conv.same {t}) = (t, ParMany.pdone, ParMany.pdone)
conv-meet closed (Conv.by_step {s = s} h) = (s, ParMany.pthen (step-par h) ParMany.pdone, ParMany.pdone)
conv-meet closed (Conv.back h) = let m = conv-meet closed h in (m.0, m.2, m.1)
conv-meet {E} closed (Conv.thence h k) = joined E closed (conv-meet closed h) (conv-meet closed k)

pub confluence : (E : Env) → BodiesClosed E → (t s : Term) → Conv E t s → (r : Term) × Reduces E t r × Reduces E s r
confluence E closed t s h = let m = conv-meet closed h in (m.0, many-reduces m.1, many-reduces m.2)

-- ---- convertible components
pub convs-same : {E : Env} (ts : Terms) → Convs E ts ts
convs-same ε = Convs.none
convs-same (t ▸ ts) = Convs.more Conv.same (convs-same ts)

pub convs-back : {E : Env} {ts ss : Terms} → Convs E ts ss → Convs E ss ts
convs-back Convs.none = Convs.none
convs-back (Convs.more h hs) = Convs.more (Conv.back h) (convs-back hs)

pub convs-thence : {E : Env} {ts ss rs : Terms} → Convs E ts ss → Convs E ss rs → Convs E ts rs
convs-thence Convs.none Convs.none = Convs.none
convs-thence (Convs.more h hs) (Convs.more k ks) = Convs.more (Conv.thence h k) (convs-thence hs ks)

-- inside one component of a list
abbrev Put : (Term → Terms) → Type 0
Put C = (E : Env) (t s : Term) → Step E t s → Steps E (C t) (C s)

conv-put : {E : Env} (F : Form) (C : Term → Terms) → Put C → {t s : Term} → Conv E t s →
    Conv E (node F (C t)) (node F (C s))
conv-put F C p Conv.same = Conv.same
conv-put {E} F C p (Conv.by_step h) = Conv.by_step (Step.inside (p E _ _ h))
conv-put F C p (Conv.back h) = Conv.back (conv-put F C p h)
conv-put F C p (Conv.thence h k) = Conv.thence (conv-put F C p h) (conv-put F C p k)

convs-put : {E : Env} (F : Form) (C : Terms → Terms) →
    ((E : Env) (ts ss : Terms) → Steps E ts ss → Steps E (C ts) (C ss)) →
    {ts ss : Terms} → Convs E ts ss → Conv E (node F (C ts)) (node F (C ss))
convs-put F C p Convs.none = Conv.same
convs-put F C p (Convs.more {t = t} {s = s} {ts = ts} {ss = ss} h hs) =
    Conv.thence (conv-put F (λ r. C (r ▸ ts)) (λ E t s k. p E (t ▸ ts) (s ▸ ts) (Steps.at k)) h)
    (convs-put F (λ rs. C (s ▸ rs)) (λ E ts ss k. p E (s ▸ ts) (s ▸ ss) (Steps.after k)) hs)

pub conv-inside : {E : Env} {F : Form} {ts ss : Terms} → Convs E ts ss → Conv E (node F ts) (node F ss)
conv-inside {F = F} h = convs-put F (λ ts. ts) (λ E ts ss k. k) h

-- ---- under a substitution
mutual
  step-sub : {E : Env} {t s : Term} → BodiesClosed E → Step E t s → (σ : ℕ → Term) → Step E (sub σ t) (sub σ s)
  step-sub {E} closed (Step.here {F = F} {ts = ts} {t = t} e) σ = Step.here (stable E closed σ F ts t e)
  step-sub closed (Step.inside {F = F} h) σ = Step.inside (steps-sub closed h (binders F) σ)

  steps-sub : {E : Env} {ts ss : Terms} → BodiesClosed E → Steps E ts ss →
      (ns : List ℕ) (σ : ℕ → Term) → Steps E (subs ns σ ts) (subs ns σ ss)
  steps-sub closed (Steps.at h) ns σ = Steps.at (step-sub closed h (lifts (first ns) σ))
  steps-sub closed (Steps.after h) ns σ = Steps.after (steps-sub closed h (rest ns) σ)

pub conv-sub : {E : Env} {t s : Term} → BodiesClosed E → Conv E t s → (σ : ℕ → Term) → Conv E (sub σ t) (sub σ s)
conv-sub closed Conv.same σ = Conv.same
conv-sub closed (Conv.by_step h) σ = Conv.by_step (step-sub closed h σ)
conv-sub closed (Conv.back h) σ = Conv.back (conv-sub closed h σ)
conv-sub closed (Conv.thence h k) σ = Conv.thence (conv-sub closed h σ) (conv-sub closed k σ)

-- ---- forms that never contract
abbrev pub Stiff : Env → Form → Type 0
Stiff E F = (ts : Terms) → contract E F ts ≡ None

module _ {E : Env} where
  mutual
    par-conv : {t s : Term} → Par (contract E) t s → Conv E t s
    par-conv Par.pvar = Conv.same
    par-conv (Par.pnode h) = conv-inside (pars-convs h)
    par-conv (Par.proot h e) = Conv.thence (conv-inside (pars-convs h)) (Conv.by_step (Step.here e))

    pub pars-convs : {ts ss : Terms} → Pars (contract E) ts ss → Convs E ts ss
    pars-convs Pars.pnil = Convs.none
    pars-convs (Pars.pcell h hs) = Convs.more (par-conv h) (pars-convs hs)

stiff-par : {E : Env} {F : Form} {ts : Terms} {s : Term} → Stiff E F → Par (contract E) (node F ts) s →
    (ss : Terms) × (s ≡ node F ss) × Convs E ts ss
stiff-par stiff (Par.pnode {ss = ss} h) = (ss, refl, pars-convs h)
stiff-par stiff (Par.proot {ss = ss} h e) = absurd (none≢some (sym (stiff ss) ∙ e))

stiff-many : {E : Env} {F : Form} {s t : Term} → Stiff E F → ParMany (contract E) t s → (ts : Terms) → t ≡ node F ts →
    (ss : Terms) × (s ≡ node F ss) × Convs E ts ss
stiff-many stiff ParMany.pdone ts e = (ts, e, convs-same ts)
stiff-many {E} stiff (ParMany.pthen {s = r} h hs) ts e =
    let a = stiff-par stiff (subst (λ t. Par (contract E) t r) e h) in
    let b = stiff-many stiff hs a.0 a.1 in
    (b.0, b.1, convs-thence a.2 b.2)

form_of : Term → Form
form_of (var i) = Form.trap
form_of (node F ts) = F

terms_of : Term → Terms
terms_of (var i) = ε
terms_of (node F ts) = ts

-- convertible terms whose forms never contract have one form, and convertible components
pub stiff-nodes : {E : Env} {F G : Form} {ts ss : Terms} → BodiesClosed E → Stiff E F → Stiff E G →
    Conv E (node F ts) (node G ss) →
    (F ≡ G) × Convs E ts ss
unfolding form_of terms_of
stiff-nodes {E} {F} {G} {ts} {ss} closed f g h =
    let m = conv-meet closed h in
    let a = stiff-many f m.1 ts refl in
    let b = stiff-many g m.2 ss refl in (
      ap form_of (sym a.1 ∙ b.1),
      convs-thence a.2 (subst (λ rs. Convs E rs ss) (sym (ap terms_of (sym a.1 ∙ b.1))) (convs-back b.2)),
    )

-- ---- convertible terms, for the variables
conv-lift : {E : Env} → BodiesClosed E → (σ τ : ℕ → Term) → ((i : ℕ) → Conv E (σ i) (τ i)) →
    (i : ℕ) → Conv E (lift σ i) (lift τ i)
conv-lift closed σ τ h zero = Conv.same
conv-lift closed σ τ h (suc i) =
    rw (ren-is-sub suc (σ i), ren-is-sub suc (τ i)) (conv-sub closed (h i) (λ j. var (suc j)))

conv-lifts : {E : Env} → BodiesClosed E → (n : ℕ) (σ τ : ℕ → Term) → ((i : ℕ) → Conv E (σ i) (τ i)) → (i : ℕ) →
    Conv E (lifts n σ i) (lifts n τ i)
conv-lifts closed zero σ τ h = h
conv-lifts closed (suc n) σ τ h = conv-lifts closed n (lift σ) (lift τ) (conv-lift closed σ τ h)

mutual
  pub conv-fill : {E : Env} → BodiesClosed E → (t : Term) (σ τ : ℕ → Term) →
      ((i : ℕ) → Conv E (σ i) (τ i)) → Conv E (sub σ t) (sub τ t)
  conv-fill closed (var i) σ τ h = h i
  conv-fill closed (node F ts) σ τ h = conv-inside (convs-fill closed ts (binders F) σ τ h)

  pub convs-fill : {E : Env} → BodiesClosed E → (ts : Terms) (ns : List ℕ) (σ τ : ℕ → Term) →
      ((i : ℕ) → Conv E (σ i) (τ i)) →
      Convs E (subs ns σ ts) (subs ns τ ts)
  convs-fill closed ε ns σ τ h = Convs.none
  convs-fill closed (t ▸ ts) ns σ τ h =
      Convs.more (conv-fill closed t (lifts (first ns) σ) (lifts (first ns) τ) (conv-lifts closed (first ns) σ τ h))
      (convs-fill closed ts (rest ns) σ τ h)

pub conv-inst : {E : Env} → BodiesClosed E → {a b : Term} (B : Term) → Conv E a b → Conv E (inst B a) (inst B b)
conv-inst {E} closed {a} {b} B h = conv-fill closed B (cons a var) (cons b var) go
  where
    go : (i : ℕ) → Conv E (cons a var i) (cons b var i)
    go zero = h
    go (suc i) = Conv.same

-- convertible terms, pushed
pub push-conv : {E : Env} {ts ss : Terms} → Convs E ts ss → (σ τ : ℕ → Term) → ((i : ℕ) → Conv E (σ i) (τ i)) →
    (i : ℕ) →
    Conv E (push ts σ i) (push ss τ i)
push-conv Convs.none σ τ h = h
push-conv {E} (Convs.more {t = t} {s = s} c k) σ τ h = push-conv k (cons t σ) (cons s τ) go
  where
    go : (i : ℕ) → Conv E (cons t σ i) (cons s τ i)
    go zero = c
    go (suc i) = h i
