-- Contraction is standard: what a term contracts to it contracts to toward the head first.
use Rattle.std.proofs.Common.{◌≡◌, ℕ, zero, suc, List, ◌∷◌, length, refl, sym, ◌∙◌, ap, Some}
use mathlib.Core.Path.{subst₂}
use Rattle.qtt_prims.specs.declared.lit.Lit.{Lit}
use Rattle.qtt_term.specs.Term.{Named, Form, binders, first, rest, Term, Terms, var, node, ε, ◌▸◌, size, skip}
use Rattle.qtt_term.specs.Substitution.{ren, sub, subs, lift, lifts, cons, push}
use Rattle.qtt_term.specs.Signature.{Env}
use Rattle.qtt_term.specs.Contraction.{BodiesClosed, chain, as_lit, literals, Step, Steps, Reduces}
use Rattle.qtt_term.specs.Question.{scrutinee_place}
use Rattle.qtt_term.proofs.Subst.{ren-is-sub}
use Rattle.qtt_term.proofs.Options.{none≢some, chain-some}
use Rattle.qtt_confluence.specs.Heads.{Toward}
use Rattle.qtt_confluence.specs.Standard.{Standard, Standards}
use Rattle.qtt_confluence.proofs.Root.{ScrutineeAt, BranchAt, Picks, Root, view, contracts}
use Rattle.qtt_confluence.proofs.Confluence.{ReducesParts, reduces-join, parts-join, in-node, in-cell, behind-cell}
use Rattle.qtt_confluence.proofs.HeadCount.{toward-reduces}
use Rattle.qtt_confluence.proofs.HeadSteps.{step-of-whole, toward-sub, Along, along-join, AlongPlace, AlongArguments, AlongForm, place-first, place-behind, arguments-first, arguments-behind, Leads, toward-join, form-leads}

-- ---- contractions toward the head before
pub toward-standard : {E : Env} {n : ℕ} {t s r : Term} → Toward E n t s → Standard E s r → Standard E t r
toward-standard w (Standard.at_variable k) = Standard.at_variable (toward-join w k).toward
toward-standard w (Standard.at_form k hs) = Standard.at_form (toward-join w k).toward hs

mutual
  pub standard-refl : (E : Env) (t : Term) → Standard E t t
  standard-refl E (var i) = Standard.at_variable Toward.here
  standard-refl E (node F ts) = Standard.at_form Toward.here (standards-refl E ts)

  pub standards-refl : (E : Env) (ts : Terms) → Standards E ts ts
  standards-refl E ε = Standards.none
  standards-refl E (t ▸ ts) = Standards.more (standard-refl E t) (standards-refl E ts)

pub standards-size : {E : Env} {ts ss : Terms} → Standards E ts ss → size ts ≡ size ss
standards-size Standards.none = refl
standards-size (Standards.more h hs) = ap suc (standards-size hs)

-- ---- under substitution
module _ (E : Env) (closed : BodiesClosed E) where
  mutual
    standard-at : (σ : ℕ → Term) {t s : Term} → Standard E t s → Standard E (sub σ t) (sub σ s)
    standard-at σ (Standard.at_variable {i = i} w) =
        toward-standard (toward-sub E closed σ w) (standard-refl E (σ i))
    standard-at σ (Standard.at_form {F = F} w hs) =
        Standard.at_form (toward-sub E closed σ w) (standards-at (binders F) σ hs)

    standards-at : (ns : List ℕ) (σ : ℕ → Term) {ts ss : Terms} → Standards E ts ss →
        Standards E (subs ns σ ts) (subs ns σ ss)
    standards-at ns σ Standards.none = Standards.none
    standards-at ns σ (Standards.more h hs) =
        Standards.more (standard-at (lifts (first ns) σ) h) (standards-at (rest ns) σ hs)

  standard-ren : (ρ : ℕ → ℕ) {t s : Term} → Standard E t s → Standard E (ren ρ t) (ren ρ s)
  standard-ren ρ {t} {s} h =
      subst₂ (Standard E) (sym (ren-is-sub ρ t)) (sym (ren-is-sub ρ s)) (standard-at (λ i. var (ρ i)) h)

  standard-lift : {σ τ : ℕ → Term} → ((i : ℕ) → Standard E (σ i) (τ i)) → (i : ℕ) → Standard E (lift σ i) (lift τ i)
  standard-lift h zero = standard-refl E (var 0)
  standard-lift h (suc i) = standard-ren suc (h i)

  standard-lifts : (n : ℕ) {σ τ : ℕ → Term} → ((i : ℕ) → Standard E (σ i) (τ i)) →
      (i : ℕ) → Standard E (lifts n σ i) (lifts n τ i)
  standard-lifts zero h = h
  standard-lifts (suc n) h = standard-lifts n (standard-lift h)

  mutual
    standard-sub : (σ τ : ℕ → Term) → ((i : ℕ) → Standard E (σ i) (τ i)) → {t s : Term} → Standard E t s →
        Standard E (sub σ t) (sub τ s)
    standard-sub σ τ g (Standard.at_variable {i = i} w) = toward-standard (toward-sub E closed σ w) (g i)
    standard-sub σ τ g (Standard.at_form {F = F} w hs) =
        Standard.at_form (toward-sub E closed σ w) (standards-sub (binders F) σ τ g hs)

    standards-sub : (ns : List ℕ) (σ τ : ℕ → Term) → ((i : ℕ) → Standard E (σ i) (τ i)) → {ts ss : Terms} →
        Standards E ts ss → Standards E (subs ns σ ts) (subs ns τ ss)
    standards-sub ns σ τ g Standards.none = Standards.none
    standards-sub ns σ τ g (Standards.more h hs) =
        Standards.more (standard-sub (lifts (first ns) σ) (lifts (first ns) τ) (standard-lifts (first ns) g) h)
        (standards-sub (rest ns) σ τ g hs)

standards-skip : {E : Env} {ts ss : Terms} (k : ℕ) → Standards E ts ss → Standards E (skip k ts) (skip k ss)
standards-skip zero h = h
standards-skip (suc k) Standards.none = Standards.none
standards-skip (suc k) (Standards.more h hs) = standards-skip k hs

standards-push : {E : Env} {ts ss : Terms} → Standards E ts ss → (σ τ : ℕ → Term) →
    ((i : ℕ) → Standard E (σ i) (τ i)) → (i : ℕ) → Standard E (push ts σ i) (push ss τ i)
standards-push Standards.none σ τ h = h
standards-push {E} (Standards.more {t = t} {s = s} k ks) σ τ h = standards-push ks (cons t σ) (cons s τ) go
  where
    go : (i : ℕ) → Standard E (cons t σ i) (cons s τ i)
    go zero = k
    go (suc i) = h i

-- ---- the component that a form asks for is brought to its form
scrutinee-brought : {E : Env} {ns : List ℕ} {ts ss xs : Terms} {F : Form} → ScrutineeAt ns ss (node F xs) →
    Standards E ts ss →
    (ys : Terms) × (rs : Terms) × Standards E ys xs × AlongPlace E (length ns) ts rs × ScrutineeAt ns rs (node F ys)
scrutinee-brought {F = F} ScrutineeAt.end (Standards.more (Standard.at_form {ts = ys} w hs) Standards.none) =
    (ys, node F ys ▸ ε, hs, place-first w, ScrutineeAt.end)
scrutinee-brought (ScrutineeAt.later h) (Standards.more {t = t} k ks) =
    let (ys, rs, hs, along, at) = scrutinee-brought h ks in
    (ys, t ▸ rs, hs, place-behind along, ScrutineeAt.later at)

record Brought (E : Env) (place : ℕ) (At : Terms → Term → Term → Type 0) (ts : Terms) (b : Term) (F : Form)
    (xs : Terms) : Type 0 where
  body : Term
  fields : Terms
  whole : Terms
  standard_body : Standard E body b
  standard_fields : Standards E fields xs
  along : AlongPlace E place ts whole
  at : At whole body (node F fields)

branch-brought : {E : Env} {c n : ℕ} {ns : List ℕ} {ts ss xs : Terms} {b : Term} {F : Form} →
    BranchAt c ns ss n b (node F xs) → Standards E ts ss →
    Brought E (length ns) (λ ts b s. BranchAt c ns ts n b s) ts b F xs
branch-brought (BranchAt.here h) (Standards.more {t = t} k ks) =
    let (ys, rs, hs, along, at) = scrutinee-brought h ks in
    record {
      body = t;
      fields = ys;
      whole = t ▸ rs;
      standard_body = k;
      standard_fields = hs;
      along = place-behind along;
      at = BranchAt.here at;
    }
branch-brought (BranchAt.later h) (Standards.more {t = t} k ks) =
    let r = branch-brought h ks in
    record {
      body = r.body;
      fields = r.fields;
      whole = t ▸ r.whole;
      standard_body = r.standard_body;
      standard_fields = r.standard_fields;
      along = place-behind r.along;
      at = BranchAt.later r.at;
    }

picks-brought : {E : Env} {c k n : ℕ} {ns : List ℕ} {ts ss xs : Terms} {b : Term} {F : Form} →
    Picks c k ns ss n b (node F xs) → Standards E ts ss →
    Brought E (scrutinee_place k ns) (λ ts b s. Picks c k ns ts n b s) ts b F xs
picks-brought (Picks.motive h) (Standards.more {t = t} k ks) =
    let r = branch-brought h ks in
    record {
      body = r.body;
      fields = r.fields;
      whole = t ▸ r.whole;
      standard_body = r.standard_body;
      standard_fields = r.standard_fields;
      along = place-behind r.along;
      at = Picks.motive r.at;
    }
picks-brought (Picks.param h) (Standards.more {t = t} k ks) =
    let r = picks-brought h ks in
    record {
      body = r.body;
      fields = r.fields;
      whole = t ▸ r.whole;
      standard_body = r.standard_body;
      standard_fields = r.standard_fields;
      along = place-behind r.along;
      at = Picks.param r.at;
    }

pub literal-reached : {E : Env} (t s : Term) (l : Lit) → as_lit s ≡ Some l → Standard E t s → Leads E t s
literal-reached t (node (Form.named (Named.lit k)) ε) l e (Standard.at_form {n = n} w Standards.none) =
    record { count = n; toward = w }
literal-reached t _ l e h = absurd (none≢some e)

literals-cell : (t : Term) (ts : Terms) (l : Lit) (ks ls : List Lit) → as_lit t ≡ Some l → literals ts ≡ Some ks →
    Some (l ∷ ks) ≡ Some ls → literals (t ▸ ts) ≡ Some ls
literals-cell t ts l ks ls d e g = rw (d, e) g

literals-brought : {E : Env} {ts : Terms} (ss : Terms) (ls : List Lit) → literals ss ≡ Some ls → Standards E ts ss →
    (rs : Terms) × AlongArguments E ts rs × (literals rs ≡ Some ls)
literals-brought ε ls e Standards.none = (ε, Along.stay, e)
literals-brought (s ▸ ss) ls e (Standards.more {t = t} k ks) =
    let r = chain-some (as_lit s) (λ l. chain (literals ss) (λ ls. Some (l ∷ ls))) ls e in
    let c = chain-some (literals ss) (λ ls. Some (r.0 ∷ ls)) ls r.2 in
    let (rs, along, g) = literals-brought ss c.0 c.1 ks in (
      s ▸ rs,
      along-join (arguments-first (literal-reached t s r.0 r.1 k).toward) (arguments-behind r.1 along),
      literals-cell s rs r.0 c.0 ls r.1 g c.2,
    )

-- ---- one contraction more
-- components lead to some that contract
then-whole : {E : Env} {F : Form} {ts rs : Terms} {t s : Term} → AlongForm E F ts rs → Root E F rs t →
    Standard E t s → Standard E (node F ts) s
then-whole {E} {F} {rs = rs} {t = t} along r h =
    toward-standard (form-leads along).toward
    (toward-standard (Toward.onward (step-of-whole E F rs t (contracts r)) Toward.here) h)

module _ (E : Env) (closed : BodiesClosed E) where
  root-standard : {F : Form} {ts ss : Terms} {t : Term} → Root E F ss t → Standards E ts ss →
      Standard E (node F ts) t
  root-standard (Root.by_beta {a = a})
      (Standards.more (Standard.at_form w (Standards.more hA (Standards.more hb Standards.none)))
      (Standards.more {t = c} ha Standards.none)) =
      then-whole (place-first w) Root.by_beta
      (standard-sub E closed (cons c var) (cons a var)
      (standards-push (Standards.more ha Standards.none) var var (λ i. standard-refl E (var i))) hb)
  root-standard (Root.by_iota {f = f} {l = l} {xs = xs} h e) hs =
      let r = picks-brought h hs in
      then-whole r.along
      (Root.by_iota r.at (standards-size (standards-skip l r.standard_fields) ∙ e))
      (standard-sub E closed (push (skip l r.fields) var) (push (skip l xs) var)
      (standards-push (standards-skip l r.standard_fields) var var (λ i. standard-refl E (var i))) r.standard_body)
  root-standard Root.by_deletion
      (Standards.more hA (Standards.more hs (Standards.more hP
      (Standards.more hb (Standards.more (Standard.at_form w ks) Standards.none))))) =
      then-whole (place-behind (place-behind (place-behind (place-behind (place-first w))))) Root.by_deletion hb
  root-standard (Root.by_delta {b = b} e) Standards.none =
      then-whole Along.stay (Root.by_delta e) (standard-refl E b)
  root-standard (Root.by_prim {ts = ss} {ls = ls} {t = t} d e) hs =
      let (rs, along, g) = literals-brought ss ls d hs in
      then-whole along (Root.by_prim g e) (standard-refl E t)

  mutual
    standard-step : {t s r : Term} → Standard E t s → Step E s r → Standard E t r
    standard-step (Standard.at_variable w) k = elim k [ ]
    standard-step (Standard.at_form {F = F} {ss = ss} w hs) (Step.here {t = r} e) =
        toward-standard w (root-standard (view E F ss r e) hs)
    standard-step (Standard.at_form w hs) (Step.inside k) = Standard.at_form w (standards-step hs k)

    standards-step : {ts ss rs : Terms} → Standards E ts ss → Steps E ss rs → Standards E ts rs
    standards-step Standards.none k = elim k [ ]
    standards-step (Standards.more h hs) (Steps.at k) = Standards.more (standard-step h k) hs
    standards-step (Standards.more h hs) (Steps.after k) = Standards.more h (standards-step hs k)

  standard-then : {t s r : Term} → Standard E t s → Reduces E s r → Standard E t r
  standard-then h Reduces.done = h
  standard-then h (Reduces.then k ks) = standard-then (standard-step h k) ks

  pub reduces-standard : {t s : Term} → Reduces E t s → Standard E t s
  reduces-standard {t} h = standard-then (standard-refl E t) h

-- ---- and back
mutual
  pub standard-reduces : {E : Env} {t s : Term} → Standard E t s → Reduces E t s
  standard-reduces (Standard.at_variable w) = toward-reduces w
  standard-reduces (Standard.at_form w hs) = reduces-join (toward-reduces w) (in-node (standards-reduce hs))

  standards-reduce : {E : Env} {ts ss : Terms} → Standards E ts ss → ReducesParts E ts ss
  standards-reduce Standards.none = ReducesParts.none_left
  standards-reduce (Standards.more h hs) =
      parts-join (in-cell (standard-reduces h)) (behind-cell (standards-reduce hs))
