-- The contractions toward a head: each is the only one that can be made, inside a form as outside, and under
-- substitution.
use Rattle.std.proofs.Common.{◌≡◌, ℕ, zero, suc, List, [], ◌∷◌, length, refl, sym, ◌∙◌, subst, Option, Some, None, ◌⊎◌, inl, inr}
use Rattle.qtt_prims.specs.declared.lit.Lit.{Lit}
use Rattle.qtt_term.specs.Term.{Named, Form, binders, first, rest, Term, Terms, var, node, ε, ◌▸◌}
use Rattle.qtt_term.specs.Substitution.{sub, subs, lifts}
use Rattle.qtt_term.specs.Signature.{Env, eq_id}
use Rattle.qtt_term.specs.Contraction.{BodiesClosed, chain, as_lit, literals, contract}
use Rattle.qtt_term.specs.Question.{wrap, argument_step, scrutinee_place, asked, head_step, step_at, arguments_step}
use Rattle.qtt_term.proofs.Options.{none≢some, chain-some}
use Rattle.qtt_confluence.specs.Injective.{Rigid}
use Rattle.qtt_confluence.specs.Heads.{Toward}
use Rattle.qtt_confluence.proofs.Root.{ScrutineeAt, BranchAt, Picks, Root, view}
use Rattle.qtt_confluence.proofs.Coherent.{stable, as_lit-sub}
use Rattle.qtt_confluence.proofs.Heads.{no-some}
use Rattle.qtt_confluence.proofs.Compare.{either-some, wrap-some}
use Rattle.qtt_confluence.proofs.Injective.{rigid-stiff}

-- ---- what contracts itself asks for no head
rigid-asked : (F : Form) (at_place : ℕ → Option Terms) (in_arguments : Option Terms) → Rigid F →
    asked F at_place in_arguments ≡ None
rigid-asked (Form.sort l) a o r = refl
rigid-asked (Form.pi q) a o r = refl
rigid-asked (Form.lam q) a o r = refl
rigid-asked (Form.app q) a o r = absurd r
rigid-asked (Form.fam f) a o r = refl
rigid-asked (Form.con f c k) a o r = refl
rigid-asked (Form.case q f k m ns) a o r = absurd r
rigid-asked (Form.delete q) a o r = absurd r
rigid-asked (Form.named (Named.def d)) a o r = absurd r
rigid-asked (Form.named (Named.lit l)) a o r = refl
rigid-asked (Form.named (Named.prim_ty p)) a o r = refl
rigid-asked (Form.named (Named.prim p)) a o r = absurd r
rigid-asked (Form.named (Named.act b k)) a o r = refl
rigid-asked Form.trap a o r = refl
rigid-asked (Form.tape n) a o r = refl

-- a term of a form that no rule contracts is a head
pub rigid-head : (E : Env) (F : Form) (ts : Terms) → Rigid F → head_step E (node F ts) ≡ None
rigid-head E F ts r = rw (rigid-stiff E F r ts, rigid-asked F (step_at E ts) (arguments_step E ts) r) refl

scrutinee-still : (E : Env) {ns : List ℕ} {ts : Terms} {s : Term} → ScrutineeAt ns ts s → head_step E s ≡ None →
    step_at E ts (length ns) ≡ None
scrutinee-still E ScrutineeAt.end h = rw h refl
scrutinee-still E (ScrutineeAt.later k) h = rw (scrutinee-still E k h) refl

branch-still : (E : Env) {c n : ℕ} {ns : List ℕ} {ts : Terms} {b s : Term} → BranchAt c ns ts n b s →
    head_step E s ≡ None → step_at E ts (length ns) ≡ None
branch-still E (BranchAt.here k) h = rw (scrutinee-still E k h) refl
branch-still E (BranchAt.later k) h = rw (branch-still E k h) refl

picks-still : (E : Env) {c k n : ℕ} {ns : List ℕ} {ts : Terms} {b s : Term} → Picks c k ns ts n b s →
    head_step E s ≡ None → step_at E ts (scrutinee_place k ns) ≡ None
picks-still E (Picks.motive k) h = rw (branch-still E k h) refl
picks-still E (Picks.param k) h = rw (picks-still E k h) refl

literals-still : (E : Env) (ts : Terms) (ls : List Lit) → literals ts ≡ Some ls → arguments_step E ts ≡ None
literals-still E ε ls e = refl
literals-still E (t ▸ ts) ls e =
    let r = chain-some (as_lit t) (λ l. chain (literals ts) (λ ls. Some (l ∷ ls))) ls e in
    let c = chain-some (literals ts) (λ ls. Some (r.0 ∷ ls)) ls r.2 in
    rw (r.1, literals-still E ts c.0 c.1) refl

root-still : {E : Env} {F : Form} {ts : Terms} {t : Term} → Root E F ts t →
    asked F (step_at E ts) (arguments_step E ts) ≡ None
root-still {E} (Root.by_beta {q = q} {A = A} {b = b}) = rw (rigid-head E (Form.lam q) (A ▸ b ▸ ε) tt) refl
root-still {E} (Root.by_iota {f = f} {c = c} {l = l} {xs = xs} h e) =
    picks-still E h (rigid-head E (Form.con f c l) xs tt)
root-still {E} (Root.by_deletion {l = l} {xs = xs}) = rw (rigid-head E (Form.con eq_id zero l) xs tt) refl
root-still (Root.by_delta e) = refl
root-still {E} (Root.by_prim {ts = ts} {ls = ls} d e) = literals-still E ts ls d

no-contraction : (E : Env) (F : Form) (ts ss : Terms) → asked F (step_at E ts) (arguments_step E ts) ≡ Some ss →
    contract E F ts ≡ None
no-contraction E F ts ss h =
    no-some (contract E F ts) (λ t e. none≢some (sym (root-still (view E F ts t e)) ∙ h))

-- ---- the two ways of a step
pub step-of-whole : (E : Env) (F : Form) (ts : Terms) (t : Term) → contract E F ts ≡ Some t →
    head_step E (node F ts) ≡ Some t
step-of-whole E F ts t h = rw h refl

pub step-of-part : (E : Env) (F : Form) (ts ss : Terms) → asked F (step_at E ts) (arguments_step E ts) ≡ Some ss →
    head_step E (node F ts) ≡ Some (node F ss)
step-of-part E F ts ss h = rw (no-contraction E F ts ss h, h) refl

literal-still : (E : Env) (t : Term) (l : Lit) → as_lit t ≡ Some l → head_step E t ≡ None
literal-still E (node (Form.named (Named.lit k)) ε) l e = rigid-head E (Form.named (Named.lit k)) ε tt
literal-still E _ l e = absurd (none≢some e)

pub no-literal : (E : Env) (t s : Term) → head_step E t ≡ Some s → as_lit t ≡ None
no-literal E t s h = no-some (as_lit t) (λ l e. none≢some (sym (literal-still E t l e) ∙ h))

-- ---- under substitution
asked-sub : (E : Env) (F : Form) (ns : List ℕ) (σ : ℕ → Term) (ts ss : Terms) →
    ((n : ℕ) → step_at E ts n ≡ Some ss → step_at E (subs ns σ ts) n ≡ Some (subs ns σ ss)) →
    (arguments_step E ts ≡ Some ss → arguments_step E (subs ns σ ts) ≡ Some (subs ns σ ss)) →
    asked F (step_at E ts) (arguments_step E ts) ≡ Some ss →
    asked F (step_at E (subs ns σ ts)) (arguments_step E (subs ns σ ts)) ≡ Some (subs ns σ ss)
asked-sub E (Form.app q) ns σ ts ss one more h = one 0 h
asked-sub E (Form.case q f k m bs) ns σ ts ss one more h = one (scrutinee_place k bs) h
asked-sub E (Form.delete q) ns σ ts ss one more h = one 4 h
asked-sub E (Form.named (Named.prim p)) ns σ ts ss one more h = more h
asked-sub E (Form.named (Named.def d)) ns σ ts ss one more h = absurd (none≢some h)
asked-sub E (Form.named (Named.lit l)) ns σ ts ss one more h = absurd (none≢some h)
asked-sub E (Form.named (Named.prim_ty t)) ns σ ts ss one more h = absurd (none≢some h)
asked-sub E (Form.named (Named.act a k)) ns σ ts ss one more h = absurd (none≢some h)
asked-sub E _ ns σ ts ss one more h = absurd (none≢some h)

abbrev AskedSub : Env → Form → (ℕ → Term) → Terms → Terms → Type 0
AskedSub E F σ ts ss =
    asked F (step_at E (subs (binders F) σ ts)) (arguments_step E (subs (binders F) σ ts)) ≡ Some
    (subs (binders F) σ ss)

module _ (E : Env) (closed : BodiesClosed E) where
  node-sub : (F : Form) (ts : Terms) (s : Term) (σ : ℕ → Term) (o : Option Terms) →
      (contract E F ts ≡ Some s) ⊎ (wrap (node F) o ≡ Some s) →
      ((ss : Terms) → o ≡ Some ss → AskedSub E F σ ts ss) →
      head_step E (node F (subs (binders F) σ ts)) ≡ Some (sub σ s)
  node-sub F ts s σ o (inl r) k = step-of-whole E F (subs (binders F) σ ts) (sub σ s) (stable E closed σ F ts s r)
  node-sub F ts s σ o (inr r) k =
      let w = wrap-some (node F) o s r in
      subst (λ s. head_step E (node F (subs (binders F) σ ts)) ≡ Some (sub σ s)) w.2
      (step-of-part E F (subs (binders F) σ ts) (subs (binders F) σ w.0) (k w.0 w.1))

  argument-sub : (ns : List ℕ) (σ : ℕ → Term) (t : Term) (ts ss : Terms) (o : Option Lit) → as_lit t ≡ o →
      argument_step o t ts (head_step E t) (arguments_step E ts) ≡ Some ss →
      ((s : Term) → head_step E t ≡ Some s →
      head_step E (sub (lifts (first ns) σ) t) ≡ Some (sub (lifts (first ns) σ) s)) →
      ((rs : Terms) → arguments_step E ts ≡ Some rs →
      arguments_step E (subs (rest ns) σ ts) ≡ Some (subs (rest ns) σ rs)) →
      arguments_step E (subs ns σ (t ▸ ts)) ≡ Some (subs ns σ ss)
  argument-sub ns σ t ts ss None n h one more =
      let w = wrap-some (λ s. s ▸ ts) (head_step E t) ss h in
      let k = one w.0 w.1 in
      subst (λ ss. arguments_step E (subs ns σ (t ▸ ts)) ≡ Some (subs ns σ ss)) w.2
      (rw (no-literal E (sub (lifts (first ns) σ) t) (sub (lifts (first ns) σ) w.0) k, k) refl)
  argument-sub ns σ t ts ss (Some l) n h one more =
      let w = wrap-some (λ ss. t ▸ ss) (arguments_step E ts) ss h in
      subst (λ ss. arguments_step E (subs ns σ (t ▸ ts)) ≡ Some (subs ns σ ss)) w.2
      (rw (as_lit-sub [] (lifts (first ns) σ) t l n, more w.0 w.1) refl)

  mutual
    pub head-sub : (t s : Term) (σ : ℕ → Term) → head_step E t ≡ Some s → head_step E (sub σ t) ≡ Some (sub σ s)
    head-sub (var i) s σ h = absurd (none≢some h)
    head-sub (node F ts) s σ h =
        node-sub F ts s σ (asked F (step_at E ts) (arguments_step E ts))
        (either-some (contract E F ts) (wrap (node F) (asked F (step_at E ts) (arguments_step E ts))) s h)
        (λ ss k. asked-sub E F (binders F) σ ts ss (λ n k. at-sub ts ss n (binders F) σ k)
        (λ k. args-sub ts ss (binders F) σ k) k)

    at-sub : (ts ss : Terms) (n : ℕ) (ns : List ℕ) (σ : ℕ → Term) → step_at E ts n ≡ Some ss →
        step_at E (subs ns σ ts) n ≡ Some (subs ns σ ss)
    at-sub ε ss n ns σ h = absurd (none≢some h)
    at-sub (t ▸ ts) ss zero ns σ h =
        let w = wrap-some (λ s. s ▸ ts) (head_step E t) ss h in
        subst (λ ss. step_at E (subs ns σ (t ▸ ts)) zero ≡ Some (subs ns σ ss)) w.2
        (rw (head-sub t w.0 (lifts (first ns) σ) w.1) refl)
    at-sub (t ▸ ts) ss (suc n) ns σ h =
        let w = wrap-some (λ ss. t ▸ ss) (step_at E ts n) ss h in
        subst (λ ss. step_at E (subs ns σ (t ▸ ts)) (suc n) ≡ Some (subs ns σ ss)) w.2
        (rw (at-sub ts w.0 n (rest ns) σ w.1) refl)

    args-sub : (ts ss : Terms) (ns : List ℕ) (σ : ℕ → Term) → arguments_step E ts ≡ Some ss →
        arguments_step E (subs ns σ ts) ≡ Some (subs ns σ ss)
    args-sub ε ss ns σ h = absurd (none≢some h)
    args-sub (t ▸ ts) ss ns σ h =
        argument-sub ns σ t ts ss (as_lit t) refl h (λ s k. head-sub t s (lifts (first ns) σ) k)
        (λ rs k. args-sub ts rs (rest ns) σ k)

  pub toward-sub : {n : ℕ} {t s : Term} (σ : ℕ → Term) → Toward E n t s → Toward E n (sub σ t) (sub σ s)
  toward-sub σ Toward.here = Toward.here
  toward-sub σ (Toward.onward {t = t} {s = s} d w) = Toward.onward (head-sub t s σ d) (toward-sub σ w)

-- ---- steps in components
-- some steps of components, one after the other
pub data Along (next : Terms → Option Terms) : Terms → Terms → Type 0 where
  stay : {ts : Terms} → Along next ts ts
  go : {ts ss rs : Terms} → next ts ≡ Some ss → Along next ss rs → Along next ts rs

pub along-join : {next : Terms → Option Terms} {ts ss rs : Terms} → Along next ts ss → Along next ss rs →
    Along next ts rs
along-join Along.stay k = k
along-join (Along.go h hs) k = Along.go h (along-join hs k)

abbrev pub AlongPlace : Env → ℕ → Terms → Terms → Type 0
AlongPlace E n = Along (λ ts. step_at E ts n)

abbrev pub AlongArguments : Env → Terms → Terms → Type 0
AlongArguments E = Along (arguments_step E)

abbrev pub AlongForm : Env → Form → Terms → Terms → Type 0
AlongForm E F = Along (λ ts. asked F (step_at E ts) (arguments_step E ts))

pub place-first : {E : Env} {n : ℕ} {t s : Term} {ts : Terms} → Toward E n t s → AlongPlace E zero (t ▸ ts) (s ▸ ts)
place-first Toward.here = Along.stay
place-first (Toward.onward d w) = Along.go (rw d refl) (place-first w)

pub place-behind : {E : Env} {n : ℕ} {t : Term} {ts ss : Terms} → AlongPlace E n ts ss →
    AlongPlace E (suc n) (t ▸ ts) (t ▸ ss)
place-behind Along.stay = Along.stay
place-behind (Along.go h hs) = Along.go (rw h refl) (place-behind hs)

pub arguments-first : {E : Env} {n : ℕ} {t s : Term} {ts : Terms} → Toward E n t s →
    AlongArguments E (t ▸ ts) (s ▸ ts)
arguments-first Toward.here = Along.stay
arguments-first {E} (Toward.onward {t = t} {s = s} d w) =
    Along.go (rw (no-literal E t s d, d) refl) (arguments-first w)

pub arguments-behind : {E : Env} {t : Term} {l : Lit} {ts ss : Terms} → as_lit t ≡ Some l → AlongArguments E ts ss →
    AlongArguments E (t ▸ ts) (t ▸ ss)
arguments-behind e Along.stay = Along.stay
arguments-behind e (Along.go h hs) = Along.go (rw (e, h) refl) (arguments-behind e hs)

-- so many contractions lead from t to s
pub record Leads (E : Env) (t s : Term) : Type 0 where
  pub count : ℕ
  pub toward : Toward E count t s

pub toward-join : {E : Env} {m n : ℕ} {t s r : Term} → Toward E m t s → Toward E n s r → Leads E t r
toward-join {n = n} Toward.here k = record { count = n; toward = k }
toward-join (Toward.onward d w) k =
    let r = toward-join w k in record { count = suc r.count; toward = Toward.onward d r.toward }

pub form-leads : {E : Env} {F : Form} {ts ss : Terms} → AlongForm E F ts ss → Leads E (node F ts) (node F ss)
form-leads Along.stay = record { count = zero; toward = Toward.here }
form-leads {E} {F} (Along.go {ts = ts} {ss = ss} h hs) =
    let r = form-leads hs in
    record { count = suc r.count; toward = Toward.onward (step-of-part E F ts ss h) r.toward }
