-- What was seen of the opened binders, the terms that stand for them at a node, and their values.
-- R says of a solution and a value that the one is meant where the other stands.
use Rattle.std.proofs.Common.{◌≡◌, ℕ, zero, suc, List, [], ◌∷◌, length, Bool, true, false, ◌&&◌, cond, eqb, refl, sym, ◌∙◌, ap, subst, inl, inr}
use Rattle.std.proofs.lemmas.Bool.{eqb-true}
use mathlib.Core.Path.{ap₂, subst₂}
use Rattle.qtt_base.specs.declared.place.GlobalId.{GlobalId}
use Rattle.qtt_usage.specs.declared.mult.Mult.{Mult}
use Rattle.qtt_syntax.specs.Tree.{Shape, Shapes}
use Rattle.qtt_syntax.specs.Tree.Shape.{variable, wildcard, constructor, dot}
use Rattle.qtt_syntax.specs.Tree.Shapes.{no_shape, shape_and}
use Rattle.qtt_term.specs.declared.term.ConId.{ConId}
use Rattle.qtt_term.specs.Term.{Form, Term, Terms, var, node, ε, ◌▸◌, size, skip, ◌+++◌}
use Rattle.qtt_term.specs.Substitution.{ren, sub, subs, cons, push, shift, above, closed}
use Rattle.qtt_term.specs.Signature.{Tele, Env}
use Rattle.qtt_term.proofs.Subst.{ren-is-sub, cons-ren, push-shift}
use Rattle.qtt_confluence.proofs.Families.{newest-are}
use Rattle.qtt_term.specs.Entries.{Entries, env}
use Rattle.qtt_match.specs.Constructors.{names_constructor}
use Rattle.qtt_split.specs.Constructors.{fields_at}
use Rattle.qtt_match.specs.Match.{fits, all_fit}
use Rattle.qtt_split.specs.Seen.{Seen, Sights, seen_by, all_seen_by, seen_deeper}
use Rattle.qtt_term.specs.Forms.{front}
use Rattle.qtt_split.specs.Node.{Column, Settled, settle, settle_fields, settle_all}
use Rattle.qtt_split.specs.Branch.{put, put_all, rebound, bound_again, field_sights, solved_sights, seen_as, made, stands, raised}
use Rattle.qtt_split.specs.Laws.{Deep, AllDeep, Alike, AllAlike, Filled, AllFilled, Unsolved, with_reverted}
use Rattle.qtt_clause_laws.proofs.Columns.{skip-subs, and-false, settle-append, Reads, before-goes, cond-goes, AllStand, all-stand, Stands}

pub deep-skip : {E : Env} (k : ℕ) {ts : Terms} → AllDeep E ts → AllDeep E (skip k ts)
deep-skip zero d = d
deep-skip (suc k) AllDeep.none = AllDeep.none
deep-skip (suc k) (AllDeep.more d ds) = deep-skip k ds

pub deep-fields : {E : Env} {f : GlobalId} {c k : ℕ} {ts : Terms} → Deep E (node (Form.con f c k) ts) →
    AllDeep E (skip k ts)
deep-fields (Deep.whole v h) = h
deep-fields {f = f} {c = c} {k = k} {ts = ts} (Deep.plain v h) = absurd (h f c k ts refl)

pub data Pairs (R : Term → Term → Type 0) : Terms → Terms → Type 0 where
  none : Pairs R ε ε
  more : {t w : Term} {ts ws : Terms} → R t w → Pairs R ts ws → Pairs R (t ▸ ts) (w ▸ ws)

filled-size : {R : Term → Term → Type 0} {π : ℕ → Term} {ss : Sights} {vs ws : Terms} → AllFilled R π ss vs ws →
    size vs ≡ size ws
filled-size AllFilled.none = refl
filled-size (AllFilled.more h hs) = ap suc (filled-size hs)

no-terms : (ts : Terms) → size ε ≡ size ts → ts ≡ ε
no-terms ε e = refl
no-terms (t ▸ ts) e = absurd (cc e)

-- others in the place of what stands behind the first so many
front-kept : (k : ℕ) (vs ws : Terms) → size (skip k vs) ≡ size ws → skip k (front k vs +++ ws) ≡ ws
front-kept zero vs ws e = refl
front-kept (suc k) ε ws e = let n : ws ≡ ε = no-terms ws e in ap (skip (suc k)) n ∙ sym n
front-kept (suc k) (v ▸ vs) ws e = front-kept k vs ws e

module _ (K : Entries) (R : Term → Term → Type 0) where
  -- a term of the node's context against the value for which it stands, π giving the node's variables
  mutual
    pub data Faith (π : ℕ → Term) : Term → Term → Type 0 where
      exact : {i : ℕ} {v : Term} → π i ≡ v → Faith π (var i) v
      built : {f : GlobalId} {c k l : ℕ} {ts vs : Terms} → size (skip l vs) ≡ length (fields_at K f c) →
          AllFaith π (skip k ts) (skip l vs) →
          Faith π (node (Form.con f c k) ts) (node (Form.con f c l) vs)
      by_solution : {t v : Term} → R (sub π t) v → Faith π t v

    pub data AllFaith (π : ℕ → Term) : Terms → Terms → Type 0 where
      none : AllFaith π ε ε
      more : {t v : Term} {ts vs : Terms} → Faith π t v → AllFaith π ts vs → AllFaith π (t ▸ ts) (v ▸ vs)

  mutual
    pub data Shown (π : ℕ → Term) : Seen → Term → Term → Type 0 where
      live : {i : ℕ} {v : Term} → π i ≡ v → Shown π (Seen.open_at i) (var i) v
      solved : {u v : Term} → R (sub π u) v → Shown π (Seen.by_equation u) u v
      examined : {c : ConId} {k l : ℕ} {ss : Sights} {ts vs : Terms} →
          size (skip l vs) ≡ length (fields_at K c.family c.place) → AllShown π ss (skip k ts) (skip l vs) →
          Shown π (Seen.made_of c ss) (node (Form.con c.family c.place k) ts) (node (Form.con c.family c.place l) vs)

    pub data AllShown (π : ℕ → Term) : Sights → Terms → Terms → Type 0 where
      none : AllShown π Sights.no_sight ε ε
      more : {s : Seen} {ss : Sights} {t v : Term} {ts vs : Terms} → Shown π s t v → AllShown π ss ts vs →
          AllShown π (Sights.sight_and s ss) (t ▸ ts) (v ▸ vs)

  mutual
    pub shown-faith : {π : ℕ → Term} {s : Seen} {t v : Term} → Shown π s t v → Faith π t v
    shown-faith (Shown.live e) = Faith.exact e
    shown-faith (Shown.solved r) = Faith.by_solution r
    shown-faith (Shown.examined z h) = Faith.built z (all-shown-faith h)

    pub all-shown-faith : {π : ℕ → Term} {ss : Sights} {ts vs : Terms} → AllShown π ss ts vs → AllFaith π ts vs
    all-shown-faith AllShown.none = AllFaith.none
    all-shown-faith (AllShown.more h hs) = AllFaith.more (shown-faith h) (all-shown-faith hs)

  -- ---- fields
  -- a value where a constructor is meant
  pub record Opens (f : GlobalId) (c k : ℕ) (ts : Terms) (P : Terms → Terms → Type 0) (v : Term) : Type 0 where
    pub own : ℕ
    pub arguments : Terms
    pub is : v ≡ node (Form.con f c own) arguments
    pub sized : size (skip own arguments) ≡ length (fields_at K f c)
    pub fields : P (skip k ts) (skip own arguments)

  abbrev pub SolutionsOpen : Type 0
  SolutionsOpen = (f : GlobalId) (c k : ℕ) (ts : Terms) (v : Term) → R (node (Form.con f c k) ts) v → Deep (env K) v →
      Opens f c k ts (Pairs R) v

  pairs-faith : {π : ℕ → Term} (ts : Terms) {vs : Terms} → Pairs R (subs [] π ts) vs → AllFaith π ts vs
  pairs-faith ε Pairs.none = AllFaith.none
  pairs-faith (t ▸ ts) (Pairs.more r h) = AllFaith.more (Faith.by_solution r) (pairs-faith ts h)

  pub opens : SolutionsOpen → {π : ℕ → Term} (f : GlobalId) (c k : ℕ) (ts : Terms) (v : Term) →
      Faith π (node (Form.con f c k) ts) v → Deep (env K) v → Opens f c k ts (AllFaith π) v
  opens opening {π} f c k ts v (Faith.built {l = l} {vs = vs} z h) d =
      record { own = l; arguments = vs; is = refl; sized = z; fields = h }
  opens opening {π} f c k ts v (Faith.by_solution r) d =
      let o = opening f c k (subs [] π ts) v r d in
      record {
        own = o.own;
        arguments = o.arguments;
        is = o.is;
        sized = o.sized;
        fields = pairs-faith (skip k ts)
            (subst (λ ts. Pairs R ts (skip o.own o.arguments)) (skip-subs k ts π) o.fields);
      }

  all-faith-size : {π : ℕ → Term} {ts vs : Terms} → AllFaith π ts vs → size ts ≡ size vs
  all-faith-size AllFaith.none = refl
  all-faith-size (AllFaith.more h hs) = ap suc (all-faith-size hs)

  -- ---- a clause that goes does not fit
  module _ (opening : SolutionsOpen) (π : ℕ → Term) where
    mutual
      one-goes : (p : Shape) (t A v : Term) → settle K p t A ≡ Settled.goes → Faith π t v → Deep (env K) v →
          fits K.families p v ≡ false
      one-goes (variable m n s) t A v e h d = absurd (cc e)
      one-goes (wildcard m s) t A v e h d = absurd (cc e)
      one-goes (dot m x s) t A v e h d = absurd (cc e)
      one-goes (constructor m g ps s) (var i) A v e h d = absurd (cc e)
      one-goes (constructor m g ps s) (node (Form.con f c k) us) A v e h d =
          let o = opens opening f c k us v h d in
          let below : AllDeep (env K) (skip o.own o.arguments) = deep-fields (subst (Deep (env K)) o.is d) in
          subst (λ v. fits K.families (constructor m g ps s) v ≡ false) (sym o.is)
          (elim (cond-goes (names_constructor K.families g f c)
          (settle_fields K ps (push (front k us) closed) (fields_at K f c) (skip k us)) e) [
            | inl n ↦ ap (λ b. b && all_fit K.families ps (skip o.own o.arguments)) n
            | inr n ↦ ap (λ b. names_constructor K.families g f c && b)
                (fields-go ps (push (front k us) closed) (fields_at K f c) (skip k us) (skip o.own o.arguments) n
                (sym o.sized) o.fields below) ∙ and-false (names_constructor K.families g f c)
          ])
      one-goes (constructor m g ps s) (node F us) A v e h d = absurd (cc e)

      fields-go : (ps : Shapes) (σ : ℕ → Term) (Θ : Tele) (ts vs : Terms) → settle_fields K ps σ Θ ts ≡ Settled.goes →
          length Θ ≡ size vs → AllFaith π ts vs → AllDeep (env K) vs → all_fit K.families ps vs ≡ false
      fields-go no_shape σ [] ε vs e z h d = absurd (cc e)
      fields-go (shape_and p ps) σ (b ∷ Θ) (t ▸ ts) vs e z (AllFaith.more {v = v} {vs = ws} h hs) (AllDeep.more d ds) =
          elim (before-goes (settle K p t (sub σ b.1)) (settle_fields K ps (cons t σ) Θ ts) e) [
            | inl n ↦ ap (λ b. b && all_fit K.families ps ws) (one-goes p t (sub σ b.1) v n h d)
            | inr n ↦ ap (λ b. fits K.families p v && b) (fields-go ps (cons t σ) Θ ts ws n (cc z) hs ds)
                ∙ and-false (fits K.families p v)
          ]
      fields-go no_shape σ Θ ts (v ▸ vs) e z h d = refl
      fields-go (shape_and p ps) σ Θ ts ε e z h d = refl
      fields-go no_shape σ (b ∷ Θ) ts ε e z h d = absurd (cc z)
      fields-go no_shape σ [] (t ▸ ts) ε e z h d = elim h [ ]
      fields-go (shape_and p ps) σ [] ts (v ▸ vs) e z h d = absurd (cc z)
      fields-go (shape_and p ps) σ (b ∷ Θ) ε (v ▸ vs) e z h d = elim h [ ]

    pub goes-unfit : {ps : Shapes} {ts : Terms} {cs : List Column} → Reads K ps ts cs → {vs : Terms} →
        settle_all K cs ≡ Settled.goes → AllFaith π ts vs → AllDeep (env K) vs → all_fit K.families ps vs ≡ false
    goes-unfit Reads.none e h d = absurd (cc e)
    goes-unfit (Reads.beside {p = p} {t = t} {A = A} {ps = ps} {cs = cs} r) e (AllFaith.more {v = v} {vs = ws} h hs)
        (AllDeep.more d ds) =
        elim (before-goes (settle K p t A) (settle_all K cs) e) [
          | inl n ↦ ap (λ b. b && all_fit K.families ps ws) (one-goes p t A v n h d)
          | inr n ↦ ap (λ b. fits K.families p v && b) (goes-unfit r n hs ds) ∙ and-false (fits K.families p v)
        ]
    goes-unfit (Reads.within {m = m} {h = g} {s = s} {f = f} {c = c} {k = k} {ps = ps} {qs = qs} {us = us} {ds = xs}
        {cs = cs} n r q) e (AllFaith.more {v = v} {vs = ws} h hs) (AllDeep.more d ds) =
        let o = opens opening f c k us v h d in
        let below : AllDeep (env K) (skip o.own o.arguments) = deep-fields (subst (Deep (env K)) o.is d) in
        subst (λ v. fits K.families (constructor m g ps s) v && all_fit K.families qs ws ≡ false) (sym o.is)
        (elim (before-goes (settle_all K xs) (settle_all K cs) (sym (settle-append K xs cs) ∙ e)) [
          | inl n ↦ ap (λ b. (names_constructor K.families g f c && b) && all_fit K.families qs ws)
              (goes-unfit r n o.fields below) ∙ ap (λ b. b && all_fit K.families qs ws)
              (and-false (names_constructor K.families g f c))
          | inr n ↦ ap (λ b. (names_constructor K.families g f c && all_fit K.families ps (skip o.own o.arguments)) &&
              b) (goes-unfit q n hs ds) ∙ and-false (names_constructor K.families g f c && all_fit K.families ps
              (skip o.own o.arguments))
        ])

    -- ---- where no constructor pattern is left, it fits
    one-stands : (p : Shape) (v : Term) → Stands p → fits K.families p v ≡ true
    one-stands (variable m n s) v a = refl
    one-stands (wildcard m s) v a = refl
    one-stands (dot m x s) v a = refl
    one-stands (constructor m g ps s) v a = absurd a

    pub stands-fit : {ps : Shapes} {ts : Terms} {cs : List Column} → Reads K ps ts cs → AllStand cs → {vs : Terms} →
        AllFaith π ts vs → AllDeep (env K) vs → all_fit K.families ps vs ≡ true
    stands-fit Reads.none a AllFaith.none d = refl
    stands-fit (Reads.beside {p = p} r) a (AllFaith.more {v = v} h hs) (AllDeep.more d ds) =
        ap₂ ◌&&◌ (one-stands p v a.0) (stands-fit r a.1 hs ds)
    stands-fit (Reads.within {m = m} {h = g} {s = s} {f = f} {c = c} {k = k} {ps = ps} {qs = qs} {us = us} {ds = xs}
        {cs = cs} n r q) a (AllFaith.more {v = v} {vs = ws} h hs) (AllDeep.more d ds) =
        let o = opens opening f c k us v h d in
        let below : AllDeep (env K) (skip o.own o.arguments) = deep-fields (subst (Deep (env K)) o.is d) in
        let b = all-stand xs cs a in
        subst (λ v. fits K.families (constructor m g ps s) v && all_fit K.families qs ws ≡ true) (sym o.is)
        (ap₂ (λ b c. b && c) (ap₂ ◌&&◌ n (stands-fit r b.0 o.fields below)) (stands-fit q b.1 hs ds))

  -- ---- in a branch
  -- of each variable: what was seen, and what stands for it, in the branch, against its value
  abbrev pub Point : (π : ℕ → Term) (ρ : ℕ → Seen) (δ σ : ℕ → Term) → Type 0
  Point π ρ δ σ = (i : ℕ) → Shown π (ρ i) (δ i) (σ i)

  module _ (π σ : ℕ → Term) (ρ : ℕ → Seen) (δ : ℕ → Term) (point : Point π ρ δ σ)
      (move : (u v : Term) → R (sub σ u) v → R (sub π (sub δ u)) v) where
    mutual
      pub shown-moved : {s : Seen} {t v : Term} → Shown σ s t v → Shown π (seen_by ρ δ s) (sub δ t) v
      shown-moved (Shown.live {i = i} e) = subst (Shown π (ρ i) (δ i)) e (point i)
      shown-moved (Shown.solved {u = u} {v = v} r) = Shown.solved (move u v r)
      shown-moved (Shown.examined {k = k} {l = l} {ss = ss} {ts = ts} {vs = vs} z h) =
          Shown.examined z (subst (λ ts. AllShown π (all_seen_by ρ δ ss) ts (skip l vs)) (sym (skip-subs k ts δ))
          (all-shown-moved h))

      pub all-shown-moved : {ss : Sights} {ts vs : Terms} → AllShown σ ss ts vs →
          AllShown π (all_seen_by ρ δ ss) (subs [] δ ts) vs
      all-shown-moved AllShown.none = AllShown.none
      all-shown-moved (AllShown.more h hs) = AllShown.more (shown-moved h) (all-shown-moved hs)

  -- under one binder more
  shown-deeper : {π : ℕ → Term} (a : Term) {s : Seen} {t v : Term} → Shown π s t v →
      Shown (cons a π) (seen_deeper s) (ren suc t) v
  shown-deeper {π} a {s} {t} {v} h =
      subst (λ t. Shown (cons a π) (seen_deeper s) t v) (sym (ren-is-sub suc t))
      (shown-moved (cons a π) π (λ i. Seen.open_at (suc i)) (λ i. var (suc i)) (λ i. Shown.live refl)
      (λ u v r. subst (λ t. R t v) (sym (ap (sub (cons a π)) (sym (ren-is-sub suc u)) ∙ cons-ren π a u)) r) h)

  pub put-point : (π σ δ : ℕ → Term) (ρ : ℕ → Seen) (x : ℕ) (s : Seen) (t : Term) → Shown π s t (σ x) → Point π ρ δ σ →
      Point π (put x s ρ) (put x t δ) σ
  put-point π σ δ ρ x s t h k i = go (eqb i x) refl
    where
      go : (b : Bool) → eqb i x ≡ b → Shown π (cond b s (ρ i)) (cond b t (δ i)) (σ i)
      go true e = subst (λ j. Shown π s t (σ j)) (sym (eqb-true i x e)) h
      go false e = k i

  pub again-point : (rs : List (Mult × ℕ)) (π σ δ : ℕ → Term) (ρ : ℕ → Seen) → Point π ρ δ σ →
      Point (with_reverted σ rs π) (rebound (Seen.open_at 0) seen_deeper rs ρ) (bound_again rs δ) σ
  again-point [] π σ δ ρ h = h
  again-point (b ∷ rs) π σ δ ρ h =
      again-point rs (cons (σ b.1) π) σ (put b.1 (var 0) (λ i. ren suc (δ i)))
      (put b.1 (Seen.open_at 0) (λ i. seen_deeper (ρ i)))
      (put-point (cons (σ b.1) π) σ (λ i. ren suc (δ i)) (λ i. seen_deeper (ρ i)) b.1 (Seen.open_at 0) (var 0)
      (Shown.live refl) (λ i. shown-deeper (σ b.1) (h i)))

  -- the newest variables
  pub shown-fields : (π : ℕ → Term) (n : ℕ) → AllShown π (field_sights n) (above 0 n) (subs [] π (above 0 n))
  shown-fields π zero = AllShown.none
  shown-fields π (suc n) = AllShown.more (Shown.live refl) (shown-fields π n)

  -- every solution holds
  pub data Holds (σ π : ℕ → Term) : List (ℕ × Term) → Type 0 where
    none : Holds σ π []
    more : {i : ℕ} {u : Term} {s : List (ℕ × Term)} → R (sub π u) (σ i) → Holds σ π s → Holds σ π ((i, u) ∷ s)

  solved-point : (π σ δ : ℕ → Term) (ρ : ℕ → Seen) {s : List (ℕ × Term)} → Holds σ π s → Point π ρ δ σ →
      Point π (put_all (solved_sights s) ρ) (put_all s δ) σ
  solved-point π σ δ ρ Holds.none h = h
  solved-point π σ δ ρ (Holds.more {i = x} {u = u} {s = s} r g) h =
      put-point π σ (put_all s δ) (put_all (solved_sights s) ρ) x (Seen.by_equation u) u (Shown.solved r)
      (solved-point π σ δ ρ g h)

  raised-size : (n : ℕ) (ps : Terms) → size (raised n ps) ≡ size ps
  raised-size n ε = refl
  raised-size n (p ▸ ps) = ap suc (raised-size n ps)

  pub skip-append : (own fs : Terms) → skip (size own) (own +++ fs) ≡ fs
  skip-append ε fs = refl
  skip-append (t ▸ own) fs = skip-append own fs

  pub split-point : (c : ConId) (x k : ℕ) (ps xs : Terms) (s : List (ℕ × Term)) (σ : ℕ → Term) → (n : ℕ) →
      size (skip k xs) ≡ n → size (skip k xs) ≡ length (fields_at K c.family c.place) →
      σ x ≡ node (Form.con c.family c.place k) xs → Holds σ (push (skip k xs) σ) s →
      Point (push (skip k xs) σ) (seen_as x c s n) (stands x (made c ps n) s n) σ
  split-point c x k ps xs s σ n z y e h =
      put-point π σ (put_all s (λ i. var (shift n i))) (put_all (solved_sights s) (λ i. Seen.open_at (shift n i))) x
      (Seen.made_of c (field_sights n)) (made c ps n)
      (subst (Shown π (Seen.made_of c (field_sights n)) (made c ps n)) (sym e)
      (Shown.examined y (subst₂ (AllShown π (field_sights n)) (sym fields) (newest-are (skip k xs) σ n z)
      (shown-fields π n))))
      (solved-point π σ (λ i. var (shift n i)) (λ i. Seen.open_at (shift n i)) h
      (λ i. Shown.live (ap (λ n. push (skip k xs) σ (shift n i)) (sym z) ∙ push-shift (skip k xs) σ i)))
    where
      π : ℕ → Term
      π = push (skip k xs) σ

      fields : skip (size ps) (raised n ps +++ above 0 n) ≡ above 0 n
      fields = ap (λ m. skip m (raised n ps +++ above 0 n)) (sym (raised-size n ps))
          ∙ skip-append (raised n ps) (above 0 n)

  pub split-point-at : (c : ConId) (x k : ℕ) (ps own fs : Terms) (s : List (ℕ × Term)) (σ : ℕ → Term) → (n : ℕ) →
      size own ≡ k → size fs ≡ n → size fs ≡ length (fields_at K c.family c.place) →
      σ x ≡ node (Form.con c.family c.place k) (own +++ fs) → Holds σ (push fs σ) s →
      Point (push fs σ) (seen_as x c s n) (stands x (made c ps n) s n) σ
  split-point-at c x k ps own fs s σ n w z y e h =
      subst (λ gs. size gs ≡ n → size gs ≡ length (fields_at K c.family c.place) → Holds σ (push gs σ) s →
      Point (push gs σ) (seen_as x c s n) (stands x (made c ps n) s n) σ)
      (ap (λ k. skip k (own +++ fs)) (sym w) ∙ skip-append own fs)
      (λ z y h. split-point c x k ps (own +++ fs) s σ n z y e h) z y h

  -- ---- the values that are meant
  pub record Meant (π : ℕ → Term) (s : Seen) (t v : Term) : Type 0 where
    pub meant : Term
    pub filled : Filled R π s v meant
    pub alike : Alike (sub π t) meant

  pub record AllMeant (π : ℕ → Term) (ss : Sights) (ts vs : Terms) : Type 0 where
    pub meant : Terms
    pub filled : AllFilled R π ss vs meant
    pub alike : AllAlike (subs [] π ts) meant

  mutual
    alike-same : (t : Term) → Alike t t
    alike-same (var i) = Alike.at_variable
    alike-same (node F ts) = Alike.inside (all-same ts)

    all-same : (ts : Terms) → AllAlike ts ts
    all-same ε = AllAlike.none
    all-same (t ▸ ts) = AllAlike.more (alike-same t) (all-same ts)

  mutual
    is-meant : {π : ℕ → Term} {s : Seen} {t v : Term} → Shown π s t v → Meant π s t v
    is-meant (Shown.live {v = v} e) = record {
      meant = v;
      filled = Filled.live e;
      alike = subst (λ t. Alike t v)
          (sym e) (alike-same v);
    }
    is-meant {π} (Shown.solved {u = u} r) = record {
      meant = sub π u;
      filled = Filled.solved r;
      alike = alike-same
          (sub π u);
    }
    is-meant {π} (Shown.examined {c = c} {k = k} {l = l} {ss = ss} {ts = ts} {vs = vs} z h) =
        let m = are-meant h in
        let at : m.meant ≡ skip l (front l vs +++ m.meant) = sym (front-kept l vs m.meant (filled-size m.filled)) in
        record {
          meant = node (Form.con c.family c.place l) (front l vs +++ m.meant);
          filled = Filled.examined m.filled;
          alike = Alike.made (subst₂ AllAlike (sym (skip-subs k ts π)) at m.alike);
        }

    pub are-meant : {π : ℕ → Term} {ss : Sights} {ts vs : Terms} → AllShown π ss ts vs → AllMeant π ss ts vs
    are-meant AllShown.none = record { meant = ε; filled = AllFilled.none; alike = AllAlike.none }
    are-meant (AllShown.more h hs) =
        let m = is-meant h in
        let ms = are-meant hs in
        record {
          meant = m.meant ▸ ms.meant;
          filled = AllFilled.more m.filled ms.filled;
          alike = AllAlike.more m.alike
              ms.alike;
        }

-- solutions that are the same in one way are so in another
mutual
  filled-as : {R S : Term → Term → Type 0} → ((t v : Term) → R t v → S t v) → {π : ℕ → Term} {s : Seen} {v w : Term} →
      Filled R π s v w → Filled S π s v w
  filled-as h (Filled.live e) = Filled.live e
  filled-as h {π} (Filled.solved {u = u} {v = v} r) = Filled.solved (h (sub π u) v r)
  filled-as h (Filled.examined k) = Filled.examined (all-filled-as h k)

  pub all-filled-as : {R S : Term → Term → Type 0} → ((t v : Term) → R t v → S t v) → {π : ℕ → Term} {ss : Sights}
      {vs ws : Terms} → AllFilled R π ss vs ws → AllFilled S π ss vs ws
  all-filled-as h AllFilled.none = AllFilled.none
  all-filled-as h (AllFilled.more k ks) = AllFilled.more (filled-as h k) (all-filled-as h ks)

-- where no place is solved, the values that are meant are those that are given
pub front-skip : (k : ℕ) (ts : Terms) → front k ts +++ skip k ts ≡ ts
front-skip zero ts = refl
front-skip (suc k) ε = refl
front-skip (suc k) (t ▸ ts) = ap (λ ts. t ▸ ts) (front-skip k ts)

mutual
  value-stays : {π : ℕ → Term} {s : Seen} {v w : Term} → Filled Unsolved π s v w → w ≡ v
  value-stays (Filled.live e) = refl
  value-stays (Filled.solved r) = absurd r
  value-stays (Filled.examined {c = c} {k = k} {ts = ts} h) =
      ap (λ ws. node (Form.con c.family c.place k) (front k ts +++ ws)) (values-stay h)
      ∙ ap (node (Form.con c.family c.place k)) (front-skip k ts)

  pub values-stay : {π : ℕ → Term} {ss : Sights} {vs ws : Terms} → AllFilled Unsolved π ss vs ws → ws ≡ vs
  values-stay AllFilled.none = refl
  values-stay (AllFilled.more h hs) = ap₂ ◌▸◌ (value-stays h) (values-stay hs)
