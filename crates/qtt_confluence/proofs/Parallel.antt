-- Parallel contraction over any rule that is stable and coherent.
use Rattle.std.proofs.Common.{◌≡◌, ℕ, zero, suc, sym, subst, Option, Some, List}
use mathlib.Core.Path.{subst₂}
use Rattle.qtt_term.specs.Term.{Form, binders, first, rest, Term, Terms, var, node, ε, ◌▸◌}
use Rattle.qtt_term.specs.Substitution.{ren, lift, lifts, sub, subs}
use Rattle.qtt_term.proofs.Subst.{ren-is-sub}
use Rattle.qtt_term.proofs.Options.{same-some}

abbrev pub Rule : Type 0
Rule = Form → Terms → Option Term

-- the components first, and then perhaps the whole
mutual
  pub data Par (c : Rule) : Term → Term → Type 0 where
    pvar : {i : ℕ} → Par c (var i) (var i)
    pnode : {F : Form} {ts ss : Terms} → Pars c ts ss → Par c (node F ts) (node F ss)
    proot : {F : Form} {ts ss : Terms} {t : Term} → Pars c ts ss → c F ss ≡ Some t → Par c (node F ts) t

  pub data Pars (c : Rule) : Terms → Terms → Type 0 where
    pnil : Pars c ε ε
    pcell : {t s : Term} {ts ss : Terms} → Par c t s → Pars c ts ss → Pars c (t ▸ ts) (s ▸ ss)

-- contraction commutes with substitution
abbrev pub Stable : Rule → Type 0
Stable c = (σ : ℕ → Term) (F : Form) (ts : Terms) (t : Term) → c F ts ≡ Some t →
    c F (subs (binders F) σ ts) ≡ Some (sub σ t)

-- what contracts still contracts after its components are contracted
abbrev pub Coherent : Rule → Type 0
Coherent c = (F : Form) (ts ss : Terms) (t : Term) → c F ts ≡ Some t → Pars c ts ss →
    (s : Term) × (c F ss ≡ Some s) × Par c t s

mutual
  pub par-refl : (c : Rule) (t : Term) → Par c t t
  par-refl c (var i) = Par.pvar
  par-refl c (node F ts) = Par.pnode (pars-refl c ts)

  pub pars-refl : (c : Rule) (ts : Terms) → Pars c ts ts
  pars-refl c ε = Pars.pnil
  pars-refl c (t ▸ ts) = Pars.pcell (par-refl c t) (pars-refl c ts)

module _ (c : Rule) (stable : Stable c) where
  mutual
    par-at : (σ : ℕ → Term) {t s : Term} → Par c t s → Par c (sub σ t) (sub σ s)
    par-at σ (Par.pvar {i}) = par-refl c (σ i)
    par-at σ (Par.pnode {F} h) = Par.pnode (pars-at (binders F) σ h)
    par-at σ (Par.proot {F} {ts} {ss} {t} h e) = Par.proot (pars-at (binders F) σ h) (stable σ F ss t e)

    pars-at : (ns : List ℕ) (σ : ℕ → Term) {ts ss : Terms} → Pars c ts ss → Pars c (subs ns σ ts) (subs ns σ ss)
    pars-at ns σ Pars.pnil = Pars.pnil
    pars-at ns σ (Pars.pcell h hs) = Pars.pcell (par-at (lifts (first ns) σ) h) (pars-at (rest ns) σ hs)

  par-ren : (ρ : ℕ → ℕ) {t s : Term} → Par c t s → Par c (ren ρ t) (ren ρ s)
  par-ren ρ {t} {s} h = subst₂ (Par c) (sym (ren-is-sub ρ t)) (sym (ren-is-sub ρ s)) (par-at (λ i. var (ρ i)) h)

  par-lift : {σ τ : ℕ → Term} → ((i : ℕ) → Par c (σ i) (τ i)) → (i : ℕ) → Par c (lift σ i) (lift τ i)
  par-lift h zero = Par.pvar
  par-lift h (suc i) = par-ren suc (h i)

  par-lifts : (n : ℕ) {σ τ : ℕ → Term} → ((i : ℕ) → Par c (σ i) (τ i)) → (i : ℕ) → Par c (lifts n σ i) (lifts n τ i)
  par-lifts zero h = h
  par-lifts (suc n) h = par-lifts n (par-lift h)

  mutual
    pub par-sub : (σ τ : ℕ → Term) → ((i : ℕ) → Par c (σ i) (τ i)) → {t s : Term} → Par c t s →
        Par c (sub σ t) (sub τ s)
    par-sub σ τ hs (Par.pvar {i}) = hs i
    par-sub σ τ hs (Par.pnode {F} h) = Par.pnode (pars-sub (binders F) σ τ hs h)
    par-sub σ τ hs (Par.proot {F} {ts} {ss} {t} h e) = Par.proot (pars-sub (binders F) σ τ hs h) (stable τ F ss t e)

    pars-sub : (ns : List ℕ) (σ τ : ℕ → Term) → ((i : ℕ) → Par c (σ i) (τ i)) → {ts ss : Terms} → Pars c ts ss →
        Pars c (subs ns σ ts) (subs ns τ ss)
    pars-sub ns σ τ hs Pars.pnil = Pars.pnil
    pars-sub ns σ τ hs (Pars.pcell h ks) =
        Pars.pcell (par-sub (lifts (first ns) σ) (lifts (first ns) τ) (par-lifts (first ns) hs) h)
        (pars-sub (rest ns) σ τ hs ks)

-- many parallel contractions
pub data ParMany (c : Rule) : Term → Term → Type 0 where
  pdone : {t : Term} → ParMany c t t
  pthen : {t s r : Term} → Par c t s → ParMany c s r → ParMany c t r

pub par_many-join : {c : Rule} {t s r : Term} → ParMany c t s → ParMany c s r → ParMany c t r
par_many-join ParMany.pdone k = k
par_many-join (ParMany.pthen h hs) k = ParMany.pthen h (par_many-join hs k)

-- the diamond
abbrev pub Join : Rule → Term → Term → Type 0
Join c t s = (r : Term) × Par c t r × Par c s r

abbrev pub Joins : Rule → Terms → Terms → Type 0
Joins c ts ss = (rs : Terms) × Pars c ts rs × Pars c ss rs

module _ (c : Rule) (coherent : Coherent c) where
  one-root : (F : Form) (qs rs : Terms) (v : Term) → c F rs ≡ Some v → Joins c qs rs → Join c (node F qs) v
  one-root F qs rs v e j =
      let w = coherent F rs j.0 v e j.2 in
      (w.0, Par.proot j.1 w.1, w.2)

  two-roots : (F : Form) (qs rs : Terms) (u v : Term) → c F qs ≡ Some u → c F rs ≡ Some v → Joins c qs rs → Join c u v
  two-roots F qs rs u v d e j =
      let x = coherent F qs j.0 u d j.1 in
      let y = coherent F rs j.0 v e j.2 in
      (x.0, x.2, subst (Par c v) (same-some y.1 x.1) y.2)

  mutual
    pub diamond : (t u v : Term) → Par c t u → Par c t v → Join c u v
    diamond (var i) u v Par.pvar Par.pvar = (var i, Par.pvar, Par.pvar)
    diamond (node F ts) u v (Par.pnode {ss = qs} h) (Par.pnode {ss = rs} k) =
        let j = diamonds ts qs rs h k in (node F j.0, Par.pnode j.1, Par.pnode j.2)
    diamond (node F ts) u v (Par.pnode {ss = qs} h) (Par.proot {ss = rs} k e) =
        one-root F qs rs v e (diamonds ts qs rs h k)
    diamond (node F ts) u v (Par.proot {ss = qs} h d) (Par.pnode {ss = rs} k) =
        let j = diamonds ts qs rs h k in
        let r = one-root F rs qs u d (j.0, j.2, j.1) in
        (r.0, r.2, r.1)
    diamond (node F ts) u v (Par.proot {ss = qs} h d) (Par.proot {ss = rs} k e) =
        two-roots F qs rs u v d e (diamonds ts qs rs h k)

    pub diamonds : (ts qs rs : Terms) → Pars c ts qs → Pars c ts rs → Joins c qs rs
    diamonds ε qs rs Pars.pnil Pars.pnil = (ε, Pars.pnil, Pars.pnil)
    diamonds (t ▸ ts) qs rs (Pars.pcell {s = u} {ss = qs'} h hs) (Pars.pcell {s = v} {ss = rs'} k ks) =
        let j = diamond t u v h k in
        let js = diamonds ts qs' rs' hs ks in
        (j.0 ▸ js.0, Pars.pcell j.1 js.1, Pars.pcell j.2 js.2)

  strip : {t u v : Term} → Par c t u → ParMany c t v → (w : Term) × ParMany c u w × Par c v w
  strip {t} {u} h ParMany.pdone = (u, ParMany.pdone, h)
  strip {t} {u} h (ParMany.pthen {s = v} k ks) =
      let j = diamond t u v h k in
      let r = strip j.2 ks in
      (r.0, ParMany.pthen j.1 r.1, r.2)

  pub confluent : {t u v : Term} → ParMany c t u → ParMany c t v → (w : Term) × ParMany c u w × ParMany c v w
  confluent {v = v} ParMany.pdone ks = (v, ks, ParMany.pdone)
  confluent (ParMany.pthen h hs) ks =
      let s = strip h ks in
      let r = confluent hs s.1 in
      (r.0, r.1, ParMany.pthen s.2 r.2)
