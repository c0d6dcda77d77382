-- A constructor whose result is convertible to its family at some indices: parameters and indices are
-- convertible.
use Rattle.std.proofs.Common.{◌≡◌, ℕ, zero, suc, ◌+◌, List, [], ◌∷◌, length, ◌++◌, refl, sym, ◌∙◌, ap, subst, arith}
use mathlib.Core.Path.{ap₂, subst₂}
use Rattle.qtt_base.specs.declared.place.GlobalId.{GlobalId}
use Rattle.qtt_usage.specs.declared.mult.Mult.{Mult}
use Rattle.qtt_term.specs.Term.{Form, Term, Terms, var, node, ε, ◌▸◌, size, ◌+++◌}
use Rattle.qtt_term.specs.Substitution.{sub, subs, cons, push, shift, above, closed}
use Rattle.qtt_term.specs.Signature.{Tele, Constructor, ConSig, Env, family_at, con_sig, con_sigs, index_binders, self_of, fam_at}
use Rattle.qtt_term.specs.Contraction.{BodiesClosed, Conv}
use Rattle.qtt_term.specs.Judgement.{IsCon}
use Rattle.qtt_term.proofs.Subst.{push-shift, subs-append}
use Rattle.qtt_confluence.specs.Injective.{Convs}
use Rattle.qtt_confluence.proofs.Confluence.{convs-same, push-conv}
use Rattle.qtt_confluence.proofs.Injective.{fam_injective}

-- parameters, the substitution of them, and what follows
pub data Split : Tele → (ℕ → Term) → Terms → (ℕ → Term) → Terms → Type 0 where
  done : {σ : ℕ → Term} {ts : Terms} → Split [] σ ts σ ts
  skip : {b : Mult × Term} {Θ : Tele} {σ τ : ℕ → Term} {a : Term} {ts rs : Terms} → Split Θ (cons a σ) ts τ rs →
      Split (b ∷ Θ) σ (a ▸ ts) τ rs

-- a constructor's Con of parameters and fields, whose result is the family at these parameters, has convertible
-- parameters, and what the motive is taken at is convertible to indices and Con
abbrev pub FamilyInjective : Env → Type 0
FamilyInjective E =
    (f : GlobalId) (c : ℕ) (k : ConSig) → IsCon (fam_at E f).constructors c k →
    (xs fs : Terms) (τ : ℕ → Term) → Split (fam_at E f).params closed xs τ fs →
    (ts rs : Terms) (π : ℕ → Term) → Split (fam_at E f).params closed ts π rs →
    size fs ≡ length k.fields →
    (is : Terms) → size (is +++ (node (Form.con f c (length (fam_at E f).params)) xs ▸ ε)) ≡ length
    (fam_at E f).motive →
    Conv E (sub (push fs τ) k.result) (sub (push is π) (fam_at E f).self) →
    ((i : ℕ) → Conv E (τ i) (π i))
    × ((i : ℕ) → Conv E (push (subs [] (push fs τ) k.targets) var i)
    (push (is +++ (node (Form.con f c (length (fam_at E f).params)) xs ▸ ε)) var i))

-- a substitution's terms for the newest variables, the outermost first
abbrev listing : (ℕ → Term) → ℕ → ℕ → Terms
listing σ m zero = ε
listing σ m (suc k) = σ (shift m k) ▸ listing σ m k

above-sub : (σ : ℕ → Term) (m k : ℕ) → subs [] σ (above m k) ≡ listing σ m k
above-sub σ m zero = refl
above-sub σ m (suc k) = ap (λ ts. σ (shift m k) ▸ ts) (above-sub σ m k)

shift-zero : (n : ℕ) → shift n 0 ≡ n
shift-zero zero = refl
shift-zero (suc n) = ap suc (shift-zero n)

listing-ext : (σ τ : ℕ → Term) (m n k : ℕ) → ((i : ℕ) → σ (shift m i) ≡ τ (shift n i)) → listing σ m k ≡ listing τ n k
listing-ext σ τ m n zero h = refl
listing-ext σ τ m n (suc k) h = ap₂ ◌▸◌ (h k) (listing-ext σ τ m n k h)

-- the terms that were pushed
listing-push : (ts : Terms) (σ : ℕ → Term) → listing (push ts σ) 0 (size ts) ≡ ts
listing-push ε σ = refl
listing-push (t ▸ ts) σ =
    ap₂ ◌▸◌ (ap (push ts (cons t σ)) (sym (shift-zero (size ts))) ∙ push-shift ts (cons t σ) 0)
    (listing-push ts (cons t σ))

listing-below : (ts : Terms) (σ : ℕ → Term) (k : ℕ) → listing (push ts σ) (size ts) k ≡ listing σ 0 k
listing-below ts σ k = listing-ext (push ts σ) σ (size ts) 0 k (λ i. push-shift ts σ i)

-- what the substitution of parameters consists of
pub record Splits (Θ : Tele) (σ : ℕ → Term) (ts : Terms) (τ : ℕ → Term) (rs : Terms) : Type 0 where
  pub taken : Terms
  pub is : τ ≡ push taken σ
  pub sized : size taken ≡ length Θ
  pub whole : ts ≡ taken +++ rs

pub split-is : {Θ : Tele} {σ τ : ℕ → Term} {ts rs : Terms} → Split Θ σ ts τ rs → Splits Θ σ ts τ rs
split-is Split.done = record { taken = ε; is = refl; sized = refl; whole = refl }
split-is (Split.skip {a = a} h) =
    let r = split-is h in record
    { taken = a ▸ r.taken; is = r.is; sized = ap suc r.sized; whole = ap (λ ts. a ▸ ts) r.whole }

pub convs-split : {E : Env} (ts ss : Terms) {rs qs : Terms} → size ts ≡ size ss →
    Convs E (ts +++ rs) (ss +++ qs) → Convs E ts ss × Convs E rs qs
convs-split ε ε e h = (Convs.none, h)
convs-split ε (s ▸ ss) e h = absurd (cc e)
convs-split (t ▸ ts) ε e h = absurd (cc e)
convs-split (t ▸ ts) (s ▸ ss) e (Convs.more h hs) =
    let r = convs-split ts ss (cc e) hs in (Convs.more h r.0, r.1)

convs-append : {E : Env} {ts ss rs qs : Terms} → Convs E ts ss → Convs E rs qs → Convs E (ts +++ rs) (ss +++ qs)
convs-append Convs.none k = k
convs-append (Convs.more h hs) k = Convs.more h (convs-append hs k)

pub size-append : (ts ss : Terms) → size (ts +++ ss) ≡ size ts + size ss
size-append ε ss = omega arith
size-append (t ▸ ts) ss = let e : size (ts +++ ss) ≡ size ts + size ss = size-append ts ss in omega arith

length-append : (Θ Ξ : Tele) → length (Θ ++ Ξ) ≡ length Θ + length Ξ
length-append [] Ξ = omega arith
length-append (b ∷ Θ) Ξ = let e : length (Θ ++ Ξ) ≡ length Θ + length Ξ = length-append Θ Ξ in omega arith

-- a constructor of a family has its signature
pub is_con-sig : (f : GlobalId) (k : ℕ) (ds : List Constructor) (n c : ℕ) (s : ConSig) → IsCon (con_sigs f k n ds) c s →
    (d : Constructor) × (s ≡ con_sig f k (n + c) d)
is_con-sig f k [] n c s h = elim h [ ]
is_con-sig f k (d ∷ ds) n c s IsCon.here = (d, ap (λ m. con_sig f k m d) (omega arith))
is_con-sig f k (d ∷ ds) n c s (IsCon.there {n = e} h) =
    let r = is_con-sig f k ds (suc n) e s h in (r.0, r.1 ∙ ap (λ m. con_sig f k m r.0) (omega arith))

pub params-are : {Θ : Tele} {ts rs : Terms} {τ : ℕ → Term} (r : Splits Θ closed ts τ rs) (fs : Terms) (n : ℕ) →
    size fs ≡ n →
    subs [] (push fs τ) (above n (length Θ)) ≡ r.taken
params-are {Θ} {τ = τ} r fs n z =
    above-sub (push fs τ) n (length Θ) ∙ ap (λ m. listing (push fs τ) m (length Θ)) (sym z) ∙ listing-below fs τ
    (length Θ)
    ∙ ap (λ σ. listing σ 0 (length Θ)) r.is ∙ ap (listing (push r.taken closed) 0) (sym r.sized) ∙
    listing-push r.taken closed

pub newest-are : (fs : Terms) (τ : ℕ → Term) (n : ℕ) → size fs ≡ n → subs [] (push fs τ) (above 0 n) ≡ fs
newest-are fs τ n z = above-sub (push fs τ) 0 n ∙ ap (listing (push fs τ) 0) (sym z) ∙ listing-push fs τ

abbrev Same : Env → GlobalId → ℕ → ConSig → (ℕ → Term) → (ℕ → Term) → Terms → Terms → Terms → Type 0
Same E f c k τ π xs fs is =
    ((i : ℕ) → Conv E (τ i) (π i))
    × ((i : ℕ) → Conv E (push (subs [] (push fs τ) k.targets) var i)
    (push (is +++ (node (Form.con f c (length (fam_at E f).params)) xs ▸ ε)) var i))

families_at : (E : Env) → BodiesClosed E → (f : GlobalId) (c : ℕ) (d : Constructor) (xs fs : Terms) (τ : ℕ → Term) →
    Splits (family_at E f).params closed xs τ fs →
    (ts rs : Terms) (π : ℕ → Term) → Splits (family_at E f).params closed ts π rs → size fs ≡ length d.fields →
    (is : Terms) → size is ≡ length (family_at E f).indices →
    Conv E (sub (push fs τ) (con_sig f (length (family_at E f).params) c d).result)
    (sub (push is π) (self_of f (family_at E f))) →
    Same E f c (con_sig f (length (family_at E f).params) c d) τ π xs fs is
families_at E bodies f c d xs fs τ a ts rs π b z is y h = (first_part, second_part)
  where
    k : ℕ
    k = length (family_at E f).params

    n : ℕ
    n = length d.fields

    x : ℕ
    x = length (family_at E f).indices

    R : Terms
    R = subs [] (push fs τ) d.results

    left : subs [] (push fs τ) (above n k +++ d.results) ≡ a.taken +++ R
    left = subs-append (above n k) d.results (push fs τ) ∙ ap (λ ts. ts +++ R) (params-are a fs n z)

    right : subs [] (push is π) (above x k +++ above 0 x) ≡ b.taken +++ is
    right = subs-append (above x k) (above 0 x) (push is π) ∙ ap₂ ◌+++◌ (params-are b is x y) (newest-are is π x y)

    parts : Convs E a.taken b.taken × Convs E R is
    parts = convs-split a.taken b.taken (a.sized ∙ sym b.sized)
        (subst₂ (Convs E) left right (fam_injective E bodies f f _ _ h).1)

    first_part : (i : ℕ) → Conv E (τ i) (π i)
    first_part i = subst₂ (λ σ ρ. Conv E (σ i) (ρ i)) (sym a.is) (sym b.is)
        (push-conv parts.0 closed closed (λ i. Conv.same) i)

    made : subs [] (push fs τ) (above n k +++ above 0 n) ≡ xs
    made = subs-append (above n k) (above 0 n) (push fs τ) ∙ ap₂ ◌+++◌ (params-are a fs n z)
        (newest-are fs τ n z) ∙ sym a.whole

    targets : subs [] (push fs τ) (con_sig f k c d).targets ≡ R +++ (node (Form.con f c k) xs ▸ ε)
    targets = subs-append d.results _ (push fs τ) ∙ ap (λ ts. R +++ (node (Form.con f c k) ts ▸ ε)) made

    second_part : (i : ℕ) →
        Conv E (push (subs [] (push fs τ) (con_sig f k c d).targets) var i)
        (push (is +++ (node (Form.con f c k) xs ▸ ε)) var i)
    second_part i = subst (λ ts. Conv E (push ts var i) (push (is +++ (node (Form.con f c k) xs ▸ ε)) var i))
        (sym targets)
        (push-conv (convs-append parts.1 (convs-same (node (Form.con f c k) xs ▸ ε))) var var (λ i. Conv.same) i)

size-indices : (is : Terms) (s : Term) (Ξ : Tele) (b : Mult × Term) →
    size (is +++ (s ▸ ε)) ≡ length (Ξ ++ b ∷ []) → size is ≡ length Ξ
size-indices is s Ξ b e =
    let d : size (is +++ (s ▸ ε)) ≡ size is + size (s ▸ ε) = size-append is (s ▸ ε) in
    let g : length (Ξ ++ b ∷ []) ≡ length Ξ + length (b ∷ []) = length-append Ξ (b ∷ []) in
    omega arith

length-index_binders : (n : ℕ) (Ts : List Term) → length (index_binders n Ts) ≡ length Ts
length-index_binders n [] = refl
length-index_binders n (T ∷ Ts) = ap suc (length-index_binders (suc n) Ts)

pub family_injective : (E : Env) → BodiesClosed E → FamilyInjective E
family_injective E bodies f c k i xs fs τ a ts rs π b z is y h =
    let r = is_con-sig f (length (family_at E f).params) (family_at E f).constructors 0 c k i in
    let e : k ≡ con_sig f (length (family_at E f).params) c r.0 =
    r.1 ∙ ap (λ m. con_sig f (length (family_at E f).params) m r.0) (omega arith) in
    subst (λ k. Same E f c k τ π xs fs is) (sym e)
    (families_at E bodies f c r.0 xs fs τ (split-is a) ts rs π (split-is b) (z ∙ ap (λ k. length k.fields) e) is
    (size-indices is _ _ _ y ∙ length-index_binders 0 (family_at E f).indices)
    (subst (λ k. Conv E (sub (push fs τ) k.result) (sub (push is π) (self_of f (family_at E f)))) e h))
