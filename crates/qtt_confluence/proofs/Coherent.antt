-- Contraction is stable and coherent.
use Rattle.std.proofs.Common.{◌≡◌, ℕ, zero, suc, Bool, true, false, List, [], ◌∷◌, refl, sym, ap, ◌∙◌, subst, Some}
use Rattle.qtt_base.specs.declared.place.GlobalId.{GlobalId}
use Rattle.qtt_usage.specs.declared.mult.Mult.{Mult}
use Rattle.qtt_prims.specs.declared.lit.Lit.{Lit}
use Rattle.qtt_prims.specs.declared.answer.PrimAnswer.{PrimAnswer}
use Rattle.qtt_prims.specs.declared.answer.PrimAnswer.TheVariants as answer
use Rattle.qtt_prims.specs.Apply.{apply}
use Rattle.qtt_term.specs.Term.{Named, Form, binders, zeros, Term, Terms, var, node, ε, ◌▸◌, size, skip, Lam}
use Rattle.qtt_term.specs.Substitution.{sub, subs, lifts, cons, push, inst}
use Rattle.qtt_term.specs.Signature.{Env, truth}
use Rattle.qtt_term.specs.Contraction.{BodiesClosed, chain, as_lit, literals, answer_term, contract}
use Rattle.qtt_term.proofs.Subst.{inst-sub, fill-sub, subs-size}
use Rattle.qtt_term.proofs.Closed.{closed-kept}
use Rattle.qtt_term.proofs.Options.{none≢some, some-injective, chain-some}
use Rattle.qtt_confluence.proofs.Root.{ScrutineeAt, BranchAt, Picks, Root, view, contracts}
use Rattle.qtt_confluence.proofs.Parallel.{Rule, Par, Pars, Stable, Coherent, par-refl, par-sub}

-- ---- stable
scrutinee-sub : {ns : List ℕ} {ts : Terms} {s : Term} → ScrutineeAt ns ts s →
    (σ : ℕ → Term) → ScrutineeAt ns (subs ns σ ts) (sub σ s)
scrutinee-sub ScrutineeAt.end σ = ScrutineeAt.end
scrutinee-sub (ScrutineeAt.later h) σ = ScrutineeAt.later (scrutinee-sub h σ)

branch-sub : {c n : ℕ} {ns : List ℕ} {ts : Terms} {b s : Term} → BranchAt c ns ts n b s → (σ : ℕ → Term) →
    BranchAt c ns (subs ns σ ts) n (sub (lifts n σ) b) (sub σ s)
branch-sub (BranchAt.here h) σ = BranchAt.here (scrutinee-sub h σ)
branch-sub (BranchAt.later h) σ = BranchAt.later (branch-sub h σ)

picks-sub : {c k n : ℕ} (m : ℕ) {ns : List ℕ} {ts : Terms} {b s : Term} → Picks c k ns ts n b s → (σ : ℕ → Term) →
    Picks c k ns (subs (zeros k (m ∷ ns)) σ ts) n (sub (lifts n σ) b) (sub σ s)
picks-sub m (Picks.motive h) σ = Picks.motive (branch-sub h σ)
picks-sub m (Picks.param h) σ = Picks.param (picks-sub m h σ)

pub skip-sub : (k : ℕ) (ts : Terms) (σ : ℕ → Term) → skip k (subs [] σ ts) ≡ subs [] σ (skip k ts)
skip-sub zero ts σ = refl
skip-sub (suc k) ε σ = refl
skip-sub (suc k) (t ▸ ts) σ = skip-sub k ts σ

pub as_lit-sub : (ns : List ℕ) (σ : ℕ → Term) (t : Term) (l : Lit) → as_lit t ≡ Some l → as_lit (sub σ t) ≡ Some l
as_lit-sub ns σ (node (Form.named (Named.lit k)) ε) l e = e
as_lit-sub ns σ _ l e = absurd (none≢some e)

literals-sub : (σ : ℕ → Term) (ts : Terms) (ls : List Lit) → literals ts ≡ Some ls → literals (subs [] σ ts) ≡ Some ls
literals-sub σ ε ls e = e
literals-sub σ (t ▸ ts) ls e =
    let r = chain-some (as_lit t) (λ l. chain (literals ts) (λ ls. Some (l ∷ ls))) ls e in
    let c = chain-some (literals ts) (λ ls. Some (r.0 ∷ ls)) ls r.2 in
    rw (as_lit-sub [] σ t r.0 r.1, literals-sub σ ts c.0 c.1) c.2

truth-closed : (b : Bool) (σ : ℕ → Term) → sub σ (truth b) ≡ truth b
truth-closed true σ = refl
truth-closed false σ = refl

-- what a primitive answers is closed
pub answer-closed : (a : PrimAnswer) (t : Term) → answer_term a ≡ Some t → (σ : ℕ → Term) → sub σ t ≡ t
answer-closed (answer.Value l) t e σ = subst (λ t. sub σ t ≡ t) (some-injective e) refl
answer-closed (answer.Truth b) t e σ = subst (λ t. sub σ t ≡ t) (some-injective e) (truth-closed b σ)
answer-closed answer.DivisionByZero t e σ = absurd (none≢some e)
answer-closed answer.IllTyped t e σ = absurd (none≢some e)

root-sub : {E : Env} {F : Form} {ts : Terms} {t : Term} → BodiesClosed E → Root E F ts t → (σ : ℕ → Term) →
    Root E F (subs (binders F) σ ts) (sub σ t)
root-sub closed (Root.by_beta {b = b} {a = a}) σ = rw (inst-sub σ b a) Root.by_beta
root-sub {E} closed (Root.by_iota {q = q} {f = f} {k = k} {l = l} {m = m} {n = n} {ns = ns} {ts = ts} {xs = xs}
    {b = b} h e) σ =
    rw (fill-sub σ (skip l xs) n b e)
    (subst (λ fs. Root E (Form.case q f k m ns) (subs (zeros k (m ∷ ns)) σ ts)
    (sub (push fs var) (sub (lifts n σ) b))) (skip-sub l xs σ)
    (Root.by_iota (picks-sub m h σ) (ap size (skip-sub l xs σ) ∙ subs-size (skip l xs) [] σ ∙ e)))
root-sub closed Root.by_deletion σ = Root.by_deletion
root-sub {E} closed (Root.by_delta {d = d} {b = b} e) σ =
    subst (Root E (Form.named (Named.def d)) ε) (sym (closed-kept b (closed d b e) σ)) (Root.by_delta e)
root-sub {E} closed (Root.by_prim {p = p} {ts = ts} {ls = ls} {t = t} d e) σ =
    subst (Root E (Form.named (Named.prim p)) (subs [] σ ts)) (sym (answer-closed (apply p ls) t e σ))
    (Root.by_prim (literals-sub σ ts ls d) e)

pub stable : (E : Env) → BodiesClosed E → Stable (contract E)
stable E closed σ F ts t e = contracts (root-sub closed (view E F ts t e) σ)

-- ---- coherent
pub pars-size : {c : Rule} {ts ss : Terms} → Pars c ts ss → size ss ≡ size ts
pars-size Pars.pnil = refl
pars-size (Pars.pcell h hs) = ap suc (pars-size hs)

pars-skip : {c : Rule} {ts ss : Terms} (k : ℕ) → Pars c ts ss → Pars c (skip k ts) (skip k ss)
pars-skip zero h = h
pars-skip (suc k) Pars.pnil = Pars.pnil
pars-skip (suc k) (Pars.pcell h hs) = pars-skip k hs

pars-push : {c : Rule} {ts ss : Terms} → Pars c ts ss → (σ τ : ℕ → Term) → ((i : ℕ) → Par c (σ i) (τ i)) → (i : ℕ) →
    Par c (push ts σ i) (push ss τ i)
pars-push Pars.pnil σ τ h = h
pars-push {c} (Pars.pcell {t = t} {s = s} k ks) σ τ h = pars-push ks (cons t σ) (cons s τ) go
  where
    go : (i : ℕ) → Par c (cons t σ i) (cons s τ i)
    go zero = k
    go (suc i) = h i

scrutinee-par : {c : Rule} {ns : List ℕ} {ts ss : Terms} {s : Term} → ScrutineeAt ns ts s → Pars c ts ss →
    (r : Term) × ScrutineeAt ns ss r × Par c s r
scrutinee-par ScrutineeAt.end (Pars.pcell {s = r} h Pars.pnil) = (r, ScrutineeAt.end, h)
scrutinee-par (ScrutineeAt.later k) (Pars.pcell h hs) = let r = scrutinee-par k hs in (r.0, ScrutineeAt.later r.1, r.2)

record Kept (c : Rule) (At : Term → Term → Type 0) (b s : Term) : Type 0 where
  body : Term
  scrutinee : Term
  at : At body scrutinee
  par_body : Par c b body
  par_scrutinee : Par c s scrutinee

branch-par : {c : Rule} {x n : ℕ} {ns : List ℕ} {ts ss : Terms} {b s : Term} → BranchAt x ns ts n b s → Pars c ts ss →
    Kept c (BranchAt x ns ss n) b s
branch-par (BranchAt.here k) (Pars.pcell {s = d} h hs) =
    let r = scrutinee-par k hs in
    record { body = d; scrutinee = r.0; at = BranchAt.here r.1; par_body = h; par_scrutinee = r.2 }
branch-par (BranchAt.later k) (Pars.pcell h hs) =
    let r = branch-par k hs in
    record {
      body = r.body;
      scrutinee = r.scrutinee;
      at = BranchAt.later r.at;
      par_body = r.par_body;
      par_scrutinee = r.par_scrutinee;
    }

picks-par : {c : Rule} {x k n : ℕ} {ns : List ℕ} {ts ss : Terms} {b s : Term} → Picks x k ns ts n b s → Pars c ts ss →
    Kept c (Picks x k ns ss n) b s
picks-par (Picks.motive k) (Pars.pcell h hs) =
    let r = branch-par k hs in
    record {
      body = r.body;
      scrutinee = r.scrutinee;
      at = Picks.motive r.at;
      par_body = r.par_body;
      par_scrutinee = r.par_scrutinee;
    }
picks-par (Picks.param k) (Pars.pcell h hs) =
    let r = picks-par k hs in
    record {
      body = r.body;
      scrutinee = r.scrutinee;
      at = Picks.param r.at;
      par_body = r.par_body;
      par_scrutinee = r.par_scrutinee;
    }

pub as_lit-par : (E : Env) (t s : Term) (l : Lit) → Par (contract E) t s → as_lit t ≡ Some l → as_lit s ≡ Some l
unfolding contract
as_lit-par E t s l (Par.pnode {F = Form.named (Named.lit k)} Pars.pnil) g = g
as_lit-par E t s l (Par.proot {F = Form.named (Named.lit k)} hs h) g = absurd (none≢some h)
as_lit-par E t s l _ g = absurd (none≢some g)

literals-par : (E : Env) (ts ss : Terms) (ls : List Lit) → Pars (contract E) ts ss → literals ts ≡ Some ls →
    literals ss ≡ Some ls
literals-par E ts ss ls Pars.pnil g = g
literals-par E ts ss ls (Pars.pcell {t = t} {s = s} {ts = ts'} {ss = ss'} h hs) g =
    let r = chain-some (as_lit t) (λ l. chain (literals ts') (λ ls. Some (l ∷ ls))) ls g in
    let c = chain-some (literals ts') (λ ls. Some (r.0 ∷ ls)) ls r.2 in
    rw (as_lit-par E t s r.0 h r.1, literals-par E ts' ss' c.0 hs c.1) c.2

-- what contracts to the same answer
abbrev Follows : Env → Form → Terms → Term → Type 0
Follows E F ss t = (s : Term) × (contract E F ss ≡ Some s) × Par (contract E) t s

con-par : (E : Env) {f : GlobalId} {c l : ℕ} {xs : Terms} {s : Term} → Par (contract E) (node (Form.con f c l) xs) s →
    (ys : Terms) × (s ≡ node (Form.con f c l) ys) × Pars (contract E) xs ys
unfolding contract
con-par E (Par.pnode {ss = ys} h) = (ys, refl, h)
con-par E (Par.proot h e) = absurd (none≢some e)

lam-par : (E : Env) {q : Mult} {A b s : Term} → Par (contract E) (Lam q A b) s →
    (C : Term) × (d : Term) × (s ≡ Lam q C d) × Par (contract E) b d
unfolding contract
lam-par E (Par.pnode (Pars.pcell {s = C} hA (Pars.pcell {s = d} hb Pars.pnil))) = (C, d, refl, hb)
lam-par E (Par.proot h e) = absurd (none≢some e)

root-par : {E : Env} {F : Form} {ts ss : Terms} {t : Term} → BodiesClosed E → Root E F ts t →
    Pars (contract E) ts ss → Follows E F ss t
root-par {E} closed (Root.by_beta {q = q} {b = b} {a = a}) (Pars.pcell {s = g} h (Pars.pcell {s = a'} ha Pars.pnil)) =
    let r = lam-par E h in (
      inst r.1 a',
      contracts (subst (λ g. Root E (Form.app q) (g ▸ a' ▸ ε) (inst r.1 a')) (sym r.2) Root.by_beta),
      par-sub (contract E) (stable E closed) (cons a var) (cons a' var)
          (pars-push (Pars.pcell ha Pars.pnil) var var (λ i. Par.pvar)) r.3,
    )
root-par {E} closed (Root.by_iota {f = f} {c = c} {k = k} {l = l} {n = n} {ns = ns} {ts = ts} {xs = xs} {b = b} h
    e) hs =
    let r = picks-par h hs in
    let s = con-par E r.par_scrutinee in (
      sub (push (skip l s.0) var) r.body,
      contracts (Root.by_iota (subst (Picks c k ns _ n r.body) s.1 r.at) (pars-size (pars-skip l s.2) ∙ e)),
      par-sub (contract E) (stable E closed) (push (skip l xs) var) (push (skip l s.0) var)
          (pars-push (pars-skip l s.2) var var (λ i. Par.pvar)) r.par_body,
    )
root-par {E} closed (Root.by_deletion {q = q})
    (Pars.pcell {s = A} hA
    (Pars.pcell {s = s} hs (Pars.pcell {s = P} hP (Pars.pcell {s = b} hb (Pars.pcell {s = e} he Pars.pnil))))) =
    let r = con-par E he in
    (b, contracts (subst (λ e. Root E (Form.delete q) (A ▸ s ▸ P ▸ b ▸ e ▸ ε) b) (sym r.1) Root.by_deletion), hb)
root-par {E} closed (Root.by_delta {b = b} e) Pars.pnil = (b, contracts (Root.by_delta e), par-refl (contract E) b)
root-par {E} closed (Root.by_prim {ts = ts} {ls = ls} {t = t} d e) hs =
    (t, contracts (Root.by_prim (literals-par E ts _ ls hs d) e), par-refl (contract E) t)

pub coherent : (E : Env) → BodiesClosed E → Coherent (contract E)
coherent E closed F ts ss t e hs = root-par closed (view E F ts t e) hs
