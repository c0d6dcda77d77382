-- A head stays a head, of the same form.
use Rattle.std.proofs.Common.{◌≡◌, ℕ, zero, suc, List, length, refl, sym, ap, ◌∙◌, subst, Option, Some, None, arith}
use mathlib.Core.Path.{subst₂}
use Rattle.qtt_base.specs.declared.place.GlobalId.{GlobalId}
use Rattle.qtt_usage.specs.declared.mult.Mult.{Mult}
use Rattle.qtt_prims.specs.declared.lit.Lit.{Lit}
use Rattle.qtt_term.specs.Term.{Named, Form, Term, Terms, var, node, ε, ◌▸◌, size, skip, Lam}
use Rattle.qtt_term.specs.Substitution.{sub, push, inst}
use Rattle.qtt_term.specs.Signature.{Env, eq_id}
use Rattle.qtt_term.specs.Contraction.{as_lit, literals, contract}
use Rattle.qtt_term.specs.Question.{either, wrap, argument_step, scrutinee_place, asked, head_step, step_at, arguments_step}
use Rattle.qtt_term.proofs.Options.{none≢some}
use Rattle.qtt_confluence.proofs.Root.{ScrutineeAt, BranchAt, Picks, Root, view, contracts}
use Rattle.qtt_confluence.proofs.Parallel.{Par, Pars}
use Rattle.qtt_confluence.proofs.Coherent.{pars-size, as_lit-par}

pub either-none : {A : Type 0} (o p : Option A) → either o p ≡ None → (o ≡ None) × (p ≡ None)
either-none None p e = (refl, e)
either-none (Some a) p e = absurd (none≢some (sym e))

pub wrap-none : {A B : Type 0} (g : A → B) (o : Option A) → wrap g o ≡ None → o ≡ None
wrap-none g None e = refl
wrap-none g (Some a) e = absurd (none≢some (sym e))

pub no-some : {A : Type 0} (o : Option A) → ((a : A) → o ≡ Some a → ⊥) → o ≡ None
no-some None h = refl
no-some (Some a) h = absurd (h a refl)

-- the same form, and as many components
pub data Alike : Term → Term → Type 0 where
  alike_var : {i : ℕ} → Alike (var i) (var i)
  alike_node : {F : Form} {ts ss : Terms} → size ts ≡ size ss → Alike (node F ts) (node F ss)

pub alike-refl : (t : Term) → Alike t t
alike-refl (var i) = Alike.alike_var
alike-refl (node F ts) = Alike.alike_node refl

pub alike-flip : {t s : Term} → Alike t s → Alike s t
alike-flip Alike.alike_var = Alike.alike_var
alike-flip (Alike.alike_node e) = Alike.alike_node (sym e)

pub alike-join : {t s r : Term} → Alike t s → Alike s r → Alike t r
alike-join Alike.alike_var Alike.alike_var = Alike.alike_var
alike-join (Alike.alike_node d) (Alike.alike_node e) = Alike.alike_node (d ∙ e)

abbrev pub IsStill : Env → Term → Term → Type 0
IsStill E t s = (head_step E s ≡ None) × Alike t s

-- the component at a place, where there is one, is a head before and after
pub data StillAt (E : Env) : ℕ → Terms → Terms → Type 0 where
  off : {n : ℕ} → StillAt E n ε ε
  now : {t s : Term} {ts ss : Terms} → IsStill E t s → StillAt E zero (t ▸ ts) (s ▸ ss)
  behind_one : {n : ℕ} {t s : Term} {ts ss : Terms} → StillAt E n ts ss → StillAt E (suc n) (t ▸ ts) (s ▸ ss)

still-step : {E : Env} {n : ℕ} {ts ss : Terms} → StillAt E n ts ss → step_at E ss n ≡ None
still-step StillAt.off = refl
still-step (StillAt.now k) = rw k.0 refl
still-step (StillAt.behind_one h) = rw (still-step h) refl

-- literals in front stay, and the first other argument stays a head
pub record ArgumentsStill (E : Env) (ts ss : Terms) : Type 0 where
  pub still : arguments_step E ss ≡ None
  pub literal : literals ss ≡ literals ts

-- ---- what contracts behind an alike component contracted before
size-skip : (k : ℕ) (ts ss : Terms) → size ts ≡ size ss → size (skip k ts) ≡ size (skip k ss)
size-skip zero ts ss e = e
size-skip (suc k) ε ε e = refl
size-skip (suc k) ε (s ▸ ss) e = absurd (cc e)
size-skip (suc k) (t ▸ ts) ε e = absurd (cc e)
size-skip (suc k) (t ▸ ts) (s ▸ ss) e = size-skip k ts ss (cc e)

two-parts : (ts : Terms) → size ts ≡ 2 → (A : Term) × (b : Term) × (ts ≡ A ▸ b ▸ ε)
two-parts ε e = absurd (cc e)
two-parts (A ▸ ε) e = absurd (cc e)
two-parts (A ▸ b ▸ ε) e = (A, b, refl)
two-parts (A ▸ b ▸ c ▸ ts) e = absurd (cc e)

was-lam : {t : Term} {q : Mult} {A b : Term} → Alike t (Lam q A b) → (C : Term) × (d : Term) × (t ≡ Lam q C d)
was-lam {q = q} (Alike.alike_node {ts = ts} e) = let (C, d, p) = two-parts ts e in (C, d, ap (node (Form.lam q)) p)

back-scrutinee : {E : Env} {ns : List ℕ} {ts ss : Terms} {s : Term} → ScrutineeAt ns ss s →
    StillAt E (length ns) ts ss → size ts ≡ size ss →
    (r : Term) × ScrutineeAt ns ts r × Alike r s
back-scrutinee ScrutineeAt.end (StillAt.now {t = t} {ts = ε} k) e = (t, ScrutineeAt.end, k.1)
back-scrutinee ScrutineeAt.end (StillAt.now {t = t} {ts = a ▸ ts} k) e = absurd (cc e)
back-scrutinee (ScrutineeAt.later h) (StillAt.behind_one k) e = let r =
    back-scrutinee h k (cc e) in (r.0, ScrutineeAt.later r.1, r.2)

record Back (At : Term → Term → Type 0) (s : Term) : Type 0 where
  body : Term
  scrutinee : Term
  at : At body scrutinee
  alike : Alike scrutinee s

back-branch : {E : Env} {c n : ℕ} {ns : List ℕ} {ts ss : Terms} {b s : Term} → BranchAt c ns ss n b s →
    StillAt E (length ns) ts ss →
    size ts ≡ size ss → Back (BranchAt c ns ts n) s
back-branch (BranchAt.here h) (StillAt.behind_one {t = t} k) e =
    let r = back-scrutinee h k (cc e) in record { body = t; scrutinee = r.0; at = BranchAt.here r.1; alike = r.2 }
back-branch (BranchAt.later h) (StillAt.behind_one k) e =
    let r = back-branch h k (cc e) in
    record { body = r.body; scrutinee = r.scrutinee; at = BranchAt.later r.at; alike = r.alike }

back-picks : {E : Env} {c k n : ℕ} {ns : List ℕ} {ts ss : Terms} {b s : Term} → Picks c k ns ss n b s →
    StillAt E (scrutinee_place k ns) ts ss →
    size ts ≡ size ss → Back (Picks c k ns ts n) s
back-picks (Picks.motive h) (StillAt.behind_one k) e =
    let r = back-branch h k (cc e) in
    record { body = r.body; scrutinee = r.scrutinee; at = Picks.motive r.at; alike = r.alike }
back-picks (Picks.param h) (StillAt.behind_one k) e =
    let r = back-picks h k (cc e) in
    record { body = r.body; scrutinee = r.scrutinee; at = Picks.param r.at; alike = r.alike }

was-con : {t : Term} {f : GlobalId} {c l : ℕ} {xs : Terms} → Alike t (node (Form.con f c l) xs) →
    (ys : Terms) × (t ≡ node (Form.con f c l) ys) × (size ys ≡ size xs)
was-con (Alike.alike_node {ts = ys} e) = (ys, refl, e)

-- what a form asks for is still
abbrev pub StillIn : Env → Form → Terms → Terms → Type 0
StillIn E (Form.app q) ts ss = StillAt E zero ts ss
StillIn E (Form.case q f k m ns) ts ss = StillAt E (scrutinee_place k ns) ts ss
StillIn E (Form.delete q) ts ss = StillAt E 4 ts ss
StillIn E (Form.named (Named.prim p)) ts ss = ArgumentsStill E ts ss
StillIn E _ ts ss = Unit {0}

still-asked : (E : Env) (F : Form) (ts ss : Terms) → StillIn E F ts ss →
    asked F (step_at E ss) (arguments_step E ss) ≡ None
still-asked E (Form.app q) ts ss h = still-step h
still-asked E (Form.case q f k m ns) ts ss h = still-step h
still-asked E (Form.delete q) ts ss h = still-step h
still-asked E (Form.named (Named.prim p)) ts ss h = h.still
still-asked E (Form.named (Named.def d)) ts ss h = refl
still-asked E (Form.named (Named.lit l)) ts ss h = refl
still-asked E (Form.named (Named.prim_ty t)) ts ss h = refl
still-asked E (Form.named (Named.act a k)) ts ss h = refl
still-asked E _ ts ss h = refl

one-more : (ts : Terms) → size ts ≡ 1 → (t : Term) × (ts ≡ t ▸ ε)
one-more ε e = absurd (cc e)
one-more (t ▸ ε) e = (t, refl)
one-more (t ▸ s ▸ ts) e = absurd (cc e)

no-parts : (ts : Terms) → size ts ≡ 0 → ts ≡ ε
no-parts ε e = refl
no-parts (t ▸ ts) e = absurd (cc e)

back-app : (E : Env) {q : Mult} {ts : Terms} {A b a : Term} → StillAt E zero ts (Lam q A b ▸ a ▸ ε) → size ts ≡ 2 →
    (r : Term) × (contract E (Form.app q) ts ≡ Some r)
back-app E {q} (StillAt.now {t = g} {ts = ts} k) e =
    let (a, d) = one-more ts (cc e) in
    let (C, b, p) = was-lam k.1 in
    (inst b a, contracts (subst₂ (λ g ts. Root E (Form.app q) (g ▸ ts) (inst b a)) (sym p) (sym d) Root.by_beta))

back-case : (E : Env) (q : Mult) (f : GlobalId) (m : ℕ) {c k l n : ℕ} {ns : List ℕ} {ts ss xs : Terms} {b : Term} →
    Picks c k ns ss n b (node (Form.con f c l) xs) → size (skip l xs) ≡ n →
    StillAt E (scrutinee_place k ns) ts ss → size ts ≡ size ss →
    (r : Term) × (contract E (Form.case q f k m ns) ts ≡ Some r)
back-case E q f m {c = c} {k = k} {l = l} {n = n} {ns = ns} {ts = ts} {xs = xs} h z s e =
    let r = back-picks h s e in
    let (ys, p, y) = was-con r.alike in (
      sub (push (skip l ys) var) r.body,
      contracts (Root.by_iota (subst (Picks c k ns ts n r.body) p r.at) (size-skip l ys xs y ∙ z)),
    )

deleted-at : (E : Env) (q : Mult) (A s P b : Term) {l : ℕ} {ts xs : Terms} →
    StillAt E zero ts (node (Form.con eq_id zero l) xs ▸ ε) → size ts ≡ 1 →
    (r : Term) × (contract E (Form.delete q) (A ▸ s ▸ P ▸ b ▸ ts) ≡ Some r)
deleted-at E q A s P b (StillAt.now {ts = ts} k) z =
    let d = no-parts ts (cc z) in
    let (ys, p, y) = was-con k.1 in
    (b, contracts (subst₂ (λ e ts. Root E (Form.delete q) (A ▸ s ▸ P ▸ b ▸ e ▸ ts) b) (sym p) (sym d) Root.by_deletion))

back-deletion : (E : Env) (q : Mult) {ts : Terms} {A s P b : Term} {l : ℕ} {xs : Terms} →
    StillAt E 4 ts (A ▸ s ▸ P ▸ b ▸ node (Form.con eq_id zero l) xs ▸ ε) → size ts ≡ 5 →
    (r : Term) × (contract E (Form.delete q) ts ≡ Some r)
back-deletion E q (StillAt.behind_one {t = A}
    (StillAt.behind_one {t = s} (StillAt.behind_one {t = P} (StillAt.behind_one {t = b} h)))) z =
    deleted-at E q A s P b h (omega arith)

back-root : (E : Env) {F : Form} (ts ss : Terms) {s : Term} → Root E F ss s → StillIn E F ts ss → size ts ≡ size ss →
    (r : Term) × (contract E F ts ≡ Some r)
back-root E ts ss Root.by_beta h e = back-app E h e
back-root E ts ss (Root.by_iota {q = q} {f = f} {m = m} p z) h e = back-case E q f m p z h e
back-root E ts ss (Root.by_deletion {q = q}) h e = back-deletion E q h e
back-root E ts ss (Root.by_delta {d = d} {b = b} g) h e = (
  b,
  subst (λ ts. contract E (Form.named (Named.def d)) ts ≡ Some b) (sym (no-parts ts e))
      (contracts (Root.by_delta g)),
)
back-root E ts ss {s = s} (Root.by_prim d g) h e = (s, contracts (Root.by_prim (sym h.literal ∙ d) g))

-- ---- under parallel contraction
pub as_lit-alike : {t s : Term} → Alike t s → as_lit s ≡ as_lit t
as_lit-alike Alike.alike_var = refl
as_lit-alike (Alike.alike_node {F = Form.named (Named.lit l)} {ts = ε} {ss = ε} e) = refl
as_lit-alike (Alike.alike_node {F = Form.named (Named.lit l)} {ts = ε} {ss = s ▸ ss} e) = absurd (cc e)
as_lit-alike (Alike.alike_node {F = Form.named (Named.lit l)} {ts = t ▸ ts} {ss = ε} e) = absurd (cc e)
as_lit-alike (Alike.alike_node {F = Form.named (Named.lit l)} {ts = t ▸ ts} {ss = s ▸ ss} e) = refl
as_lit-alike (Alike.alike_node {F = Form.named (Named.def d)} e) = refl
as_lit-alike (Alike.alike_node {F = Form.named (Named.prim_ty d)} e) = refl
as_lit-alike (Alike.alike_node {F = Form.named (Named.prim d)} e) = refl
as_lit-alike (Alike.alike_node {F = Form.named (Named.act d k)} e) = refl
as_lit-alike (Alike.alike_node e) = refl

argument-still : (E : Env) (t s : Term) (ts ss : Terms) (o : Option Lit) → as_lit t ≡ o →
    argument_step o t ts (head_step E t) (arguments_step E ts) ≡ None → Par (contract E) t s →
    (head_step E t ≡ None → IsStill E t s) → (arguments_step E ts ≡ None → ArgumentsStill E ts ss) →
    ArgumentsStill E (t ▸ ts) (s ▸ ss)
argument-still E t s ts ss None n h p one more =
    let k = one (wrap-none (λ s. s ▸ ts) (head_step E t) h) in
    let o : as_lit s ≡ None = as_lit-alike k.1 ∙ n in
    record { still = rw (o, k.0) refl; literal = rw (o, n) refl }
argument-still E t s ts ss (Some l) n h p one more =
    let k = more (wrap-none (λ ss. t ▸ ss) (arguments_step E ts) h) in
    let o : as_lit s ≡ Some l = as_lit-par E t s l p n in
    record { still = rw (o, k.still) refl; literal = rw (o, n, k.literal) refl }

stills-in : (E : Env) (F : Form) (ts ss : Terms) → ((n : ℕ) → step_at E ts n ≡ None → StillAt E n ts ss) →
    (arguments_step E ts ≡ None → ArgumentsStill E ts ss) →
    asked F (step_at E ts) (arguments_step E ts) ≡ None → StillIn E F ts ss
stills-in E (Form.app q) ts ss one more h = one 0 h
stills-in E (Form.case q f k m ns) ts ss one more h = one (scrutinee_place k ns) h
stills-in E (Form.delete q) ts ss one more h = one 4 h
stills-in E (Form.named (Named.prim p)) ts ss one more h = more h
stills-in E (Form.named (Named.def d)) ts ss one more h = tt
stills-in E (Form.named (Named.lit l)) ts ss one more h = tt
stills-in E (Form.named (Named.prim_ty t)) ts ss one more h = tt
stills-in E (Form.named (Named.act a k)) ts ss one more h = tt
stills-in E _ ts ss one more h = tt

-- no contraction comes of a still node
pub record NodeStill (E : Env) (F : Form) (ts ss : Terms) : Type 0 where
  pub here : contract E F ss ≡ None
  pub step : head_step E (node F ss) ≡ None
  pub alike : Alike (node F ts) (node F ss)

pub still-stays : (E : Env) (F : Form) (ts ss : Terms) → contract E F ts ≡ None → size ts ≡ size ss →
    StillIn E F ts ss → NodeStill E F ts ss
still-stays E F ts ss n e h =
    let c : contract E F ss ≡ None =
    no-some (contract E F ss) (λ s r. none≢some (sym n ∙ (back-root E ts ss (view E F ss s r) h e).1)) in
    record { here = c; step = rw (c, still-asked E F ts ss h) refl; alike = Alike.alike_node e }

node-still : (E : Env) (F : Form) (ts ss : Terms) → size ts ≡ size ss →
    ((n : ℕ) → step_at E ts n ≡ None → StillAt E n ts ss) →
    (arguments_step E ts ≡ None → ArgumentsStill E ts ss) → head_step E (node F ts) ≡ None → NodeStill E F ts ss
node-still E F ts ss e one more h =
    let c = either-none (contract E F ts) (wrap (node F) (asked F (step_at E ts) (arguments_step E ts))) h in
    still-stays E F ts ss c.0 e (stills-in E F ts ss one more (wrap-none (node F) _ c.1))

module _ (E : Env) where
  mutual
    pub stays : (t s : Term) → Par (contract E) t s → head_step E t ≡ None → IsStill E t s
    stays (var i) s Par.pvar h = (refl, Alike.alike_var)
    stays (node F ts) s (Par.pnode {ss = ss} hs) h =
        let r = node-still E F ts ss (sym (pars-size hs)) (λ n k. stills-at ts ss hs n k)
        (λ k. stills-args ts ss hs k) h in
        (r.step, r.alike)
    stays (node F ts) s (Par.proot {ss = ss} hs e) h =
        let r = node-still E F ts ss (sym (pars-size hs)) (λ n k. stills-at ts ss hs n k)
        (λ k. stills-args ts ss hs k) h in
        absurd (none≢some (sym r.here ∙ e))

    stills-at : (ts ss : Terms) → Pars (contract E) ts ss → (n : ℕ) → step_at E ts n ≡ None → StillAt E n ts ss
    stills-at ε ss Pars.pnil n h = StillAt.off
    stills-at (t ▸ ts) ss (Pars.pcell {s = s} k ks) zero h =
        StillAt.now (stays t s k (wrap-none (λ s. s ▸ ts) (head_step E t) h))
    stills-at (t ▸ ts) ss (Pars.pcell {ss = rs} k ks) (suc n) h =
        StillAt.behind_one (stills-at ts rs ks n (wrap-none (λ ss. t ▸ ss) (step_at E ts n) h))

    stills-args : (ts ss : Terms) → Pars (contract E) ts ss → arguments_step E ts ≡ None → ArgumentsStill E ts ss
    stills-args ε ss Pars.pnil h = record { still = refl; literal = refl }
    stills-args (t ▸ ts) ss (Pars.pcell {s = s} {ss = rs} k ks) h =
        argument-still E t s ts rs (as_lit t) refl h k (stays t s k) (stills-args ts rs ks)

  pub no-root : (F : Form) (ts ss : Terms) (u : Term) → Pars (contract E) ts ss → head_step E (node F ts) ≡ None →
      contract E F ss ≡ Some u → ⊥
  no-root F ts ss u hs h e =
      let r = node-still E F ts ss (sym (pars-size hs)) (λ n k. stills-at ts ss hs n k)
      (λ k. stills-args ts ss hs k) h in
      none≢some (sym r.here ∙ e)
