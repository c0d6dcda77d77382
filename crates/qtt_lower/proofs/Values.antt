-- Values as flat terms, and among what a frame has pushed.
use Rattle.std.proofs.Common.{◌≡◌, ℕ, zero, suc, ◌+◌, ◌-◌, ◌<◌, ◌≤◌, List, [], ◌∷◌, ◌++◌, length, inl, inr, Some, refl, sym, ◌∙◌, ap, arith}
use Rattle.std.proofs.lemmas.Bool.{cases_lt}
use Rattle.std.specs.List.{slice_get}
use mathlib.Core.Path.{fun_ext}
use Rattle.qtt_term.specs.Substitution.{shift}
use Rattle.qtt_erase.specs.Binding.{Tree, Trees, ∅, ◌◂◌, ◌◂◂◌, size, cons, push, lift, lifts, sub}
use Rattle.qtt_erase.specs.Operator.{Operator}
use Rattle.qtt_erase.specs.Step.{Bodies, Outcome, behind, before, finish, nexts}
use Rattle.qtt_erase.proofs.Bindings.{sub-ren, sub-sub, sub-var, push-append, push-behind}
use Rattle.qtt_closure.specs.Flat.{Closure, FlatTerm, FlatTerms, Program, binders, closures, flat_step}
use Rattle.qtt_code.specs.Value.{Value, Values, ◌▹◌, listed}
use Rattle.qtt_code.specs.Machine.{taken}
use Rattle.qtt_lower.specs.Represents.{flat_value, flat_values, flats, count, onto}

-- one more value behind others
infixr 50 ◌▹▹◌
abbrev pub ◌▹▹◌ : Values → Values → Values
Values.none ▹▹ ws = ws
(v ▹ vs) ▹▹ ws = v ▹ (vs ▹▹ ws)

-- ---- lists
pub append-none : {O : Type 0} (ts : Trees O) → ts ◂◂ ∅ ≡ ts
append-none ∅ = refl
append-none (t ◂ ts) = ap (λ us. t ◂ us) (append-none ts)

pub append-assoc : {O : Type 0} (ts us vs : Trees O) → (ts ◂◂ us) ◂◂ vs ≡ ts ◂◂ (us ◂◂ vs)
append-assoc ∅ us vs = refl
append-assoc (t ◂ ts) us vs = ap (λ ws. t ◂ ws) (append-assoc ts us vs)

pub flats-append : (xs ys : List Value) → flats (xs ++ ys) ≡ flats xs ◂◂ flats ys
flats-append [] ys = refl
flats-append (x ∷ xs) ys = ap (λ ts. flat_value x ◂ ts) (flats-append xs ys)

pub flats-listed : (vs : Values) → flats (listed vs) ≡ flat_values vs
flats-listed Values.none = refl
flats-listed (v ▹ vs) = ap (λ ts. flat_value v ◂ ts) (flats-listed vs)

pub flats-size : (xs : List Value) → size (flats xs) ≡ length xs
flats-size [] = refl
flats-size (x ∷ xs) = ap suc (flats-size xs)

pub values-size : (vs : Values) → size (flat_values vs) ≡ count vs
values-size Values.none = refl
values-size (v ▹ vs) = ap suc (values-size vs)

pub listed-length : (vs : Values) → length (listed vs) ≡ count vs
listed-length Values.none = refl
listed-length (v ▹ vs) = ap suc (listed-length vs)

pub values-append : (vs ws : Values) → flat_values (vs ▹▹ ws) ≡ flat_values vs ◂◂ flat_values ws
values-append Values.none ws = refl
values-append (v ▹ vs) ws = ap (λ ts. flat_value v ◂ ts) (values-append vs ws)

pub count-append : (vs : Values) (v : Value) → count (vs ▹▹ v ▹ Values.none) ≡ suc (count vs)
count-append Values.none v = refl
count-append (w ▹ vs) v = ap suc (count-append vs v)

pub onto-append : (vs : Values) (v : Value) (below : List Value) →
    onto (vs ▹▹ v ▹ Values.none) below ≡ v ∷ onto vs below
onto-append Values.none v below = refl
onto-append (w ▹ vs) v below = onto-append vs v (w ∷ below)

▹▹-none : (vs : Values) → vs ▹▹ Values.none ≡ vs
▹▹-none Values.none = refl
▹▹-none (v ▹ vs) = ap (λ ws. v ▹ ws) (▹▹-none vs)

-- ---- what was pushed is taken
taken-more : (vs : Values) (j : ℕ) (ws : Values) (below : List Value) →
    taken (count vs + j) ws (onto vs below) ≡ taken j (vs ▹▹ ws) below
taken-more Values.none j ws below = ap (λ n. taken n ws below) (let e : 0 + j ≡ j = omega arith in e)
taken-more (v ▹ vs) j ws below =
    ap (λ n. taken n ws (onto vs (v ∷ below))) (let e : suc (count vs) + j ≡ count vs + suc j = omega arith in e)
    ∙ taken-more vs (suc j) ws (v ∷ below)

pub taken-pushed : (vs : Values) (n : ℕ) (below : List Value) → n ≡ count vs →
    taken n Values.none (onto vs below) ≡ Some (record { values = vs; left = below })
taken-pushed vs n below e =
    ap (λ m. taken m Values.none (onto vs below)) (let f : n ≡ count vs + 0 = omega arith in f) ∙
    taken-more vs 0 Values.none below
    ∙ ap (λ ws. Some (record { values = ws; left = below })) (▹▹-none vs)

-- ---- values are values, and have no free variable
waits-all : (P : Program) (D : Bodies Closure) (ts : FlatTerms) → nexts (closures P) D (size ts) ts ≡ Outcome.value
waits-all P D ∅ = refl
waits-all P D (t ◂ ts) = ap (behind t) (waits-all P D ts)

module _ (P : Program) (D : Bodies Closure) where
  mutual
    pub value-stays : (v : Value) → flat_step P D (flat_value v) ≡ Outcome.value
    value-stays (Value.literal l) = refl
    value-stays (Value.con c vs) = ap (finish (closures P) D (Operator.con c) (flat_values vs)) (values-stay vs)
    value-stays (Value.closure b vs) =
        ap (finish (closures P) D (Operator.function (record { number = b; captured = size (flat_values vs) }))
        (flat_values vs)) (waits-all P D (flat_values vs))
    value-stays (Value.action a vs) = ap (finish (closures P) D (Operator.act a) (flat_values vs)) (values-stay vs)
    value-stays (Value.tape n) = refl
    value-stays Value.type = refl

    pub values-stay : (vs : Values) → nexts (closures P) D 0 (flat_values vs) ≡ Outcome.value
    values-stay Values.none = refl
    values-stay (v ▹ vs) =
        ap (λ o. before o (flat_value v) (flat_values vs) (nexts (closures P) D 0 (flat_values vs))) (value-stays v)
        ∙ ap (behind (flat_value v)) (values-stay vs)

-- ---- branches: fields put into a branch into which a frame's variables were put
lifted-once : (t : FlatTerm) (σ τ : ℕ → FlatTerm) →
    (λ i. sub binders (cons t τ) (lift binders σ i)) ≡ cons t (λ i. sub binders τ (σ i))
lifted-once t σ τ = fun_ext go
  where
    go : (i : ℕ) → sub binders (cons t τ) (lift binders σ i) ≡ cons t (λ j. sub binders τ (σ j)) i
    go zero = refl
    go (suc i) = sub-ren binders (σ i) (cons t τ) suc

lifted-pushed : (ts : FlatTerms) (σ τ : ℕ → FlatTerm) →
    (λ i. sub binders (push ts τ) (lifts binders (size ts) σ i)) ≡ push ts (λ i. sub binders τ (σ i))
lifted-pushed ∅ σ τ = refl
lifted-pushed (t ◂ ts) σ τ = lifted-pushed ts (lift binders σ) (cons t τ) ∙ ap (push ts) (lifted-once t σ τ)

pub branch-filled : (ts us : FlatTerms) (n : ℕ) (b : FlatTerm) → size us ≡ n →
    sub binders (push us Tree.var) (sub binders (lifts binders n (push ts Tree.var)) b) ≡ sub binders
    (push (ts ◂◂ us) Tree.var) b
branch-filled ts us n b e =
    ap (λ m. sub binders (push us Tree.var) (sub binders (lifts binders m (push ts Tree.var)) b)) (sym e)
    ∙ sub-sub binders b (push us Tree.var) (lifts binders (size us) (push ts Tree.var))
    ∙ ap (λ σ. sub binders σ b)
    (lifted-pushed us (push ts Tree.var) Tree.var ∙ ap (push us)
    (fun_ext (λ i. sub-var binders (push ts Tree.var i))) ∙ sym (push-append ts us Tree.var))

-- ---- a frame's variables
shift-none : (n : ℕ) → shift n 0 ≡ n
shift-none zero = refl
shift-none (suc n) = ap suc (shift-none n)

-- the value of a variable, and where it stands
pub record Found (ρ : List Value) (σ : ℕ → FlatTerm) (i : ℕ) : Type 0 where
  pub value : Value
  pub put : σ i ≡ flat_value value
  pub stands : slice_get ρ (length ρ - suc i) ≡ Some value

found-older : (v : Value) (ρ : List Value) (τ : ℕ → FlatTerm) (i : ℕ) → i < length ρ →
    Found ρ (push (flats ρ) (cons (flat_value v) τ)) i →
    Found (v ∷ ρ) (push (flats (v ∷ ρ)) τ) i
found-older v ρ τ i p w = record {
  value = w.value;
  put = w.put;
  stands = ap (slice_get (v ∷ ρ))
      (let e : suc (length ρ) - suc i ≡ suc (length ρ - suc i) = omega (arith, p) in e) ∙ w.stands;
}

found-newest : (v : Value) (ρ : List Value) (τ : ℕ → FlatTerm) (i : ℕ) → i ≡ length ρ →
    Found (v ∷ ρ) (push (flats (v ∷ ρ)) τ) i
found-newest v ρ τ i e = record {
  value = v;
  put =
      ap (push (flats ρ) (cons (flat_value v) τ)) (e ∙ sym (shift-none (size (flats ρ)) ∙ flats-size ρ))
      ∙ push-behind (flats ρ) (cons (flat_value v) τ) 0;
  stands = ap (slice_get (v ∷ ρ)) (let z : suc (length ρ) - suc i ≡ 0 = omega (arith, e) in z);
}

pub found : (ρ : List Value) (τ : ℕ → FlatTerm) (i : ℕ) → i < length ρ → Found ρ (push (flats ρ) τ) i
found [] τ i h = absurd (omega (arith, h))
found (v ∷ ρ) τ i h = elim (cases_lt i (length ρ)) [
  | inl p ↦ found-older v ρ τ i p (found ρ (cons (flat_value v) τ) i p)
  | inr q ↦ found-newest v ρ τ i (omega (arith, h, q))
]

-- an element of one list or of the other
pub in-first : {A : Type 0} (xs ys : List A) (k : ℕ) → k < length xs → slice_get (xs ++ ys) k ≡ slice_get xs k
in-first [] ys k h = absurd (omega (arith, h))
in-first (x ∷ xs) ys zero h = refl
in-first (x ∷ xs) ys (suc k) h = in-first xs ys k (omega (arith, h))

pub in-second : {A : Type 0} (xs ys : List A) (k : ℕ) → length xs ≤ k →
    slice_get (xs ++ ys) k ≡ slice_get ys (k - length xs)
in-second [] ys k h = ap (slice_get ys) (let e : k ≡ k - 0 = omega arith in e)
in-second (x ∷ xs) ys zero h = absurd (omega (arith, h))
in-second (x ∷ xs) ys (suc k) h =
    in-second xs ys k (omega (arith, h)) ∙ ap (slice_get ys)
    (let e : k - length xs ≡ suc k - suc (length xs) = omega arith in e)
