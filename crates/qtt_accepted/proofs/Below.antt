-- Terms under n variables: what substitutions, contractions and lists of terms keep.
use Rattle.std.proofs.Common.{◌≡◌, ℕ, zero, suc, ◌+◌, ◌<◌, List, [], subst, arith}
use Rattle.qtt_usage.specs.declared.mult.Mult.{Mult}
use Rattle.qtt_term.specs.Term.{binders, first, rest, Term, Terms, var, node, ε, ◌▸◌, ◌+++◌, skip, Pi, Lam, App}
use Rattle.qtt_term.specs.Substitution.{ren, lift, lifts, sub, subs, cons, push, inst, closed, Below, AllBelow}
use Rattle.qtt_term.specs.Signature.{Env}
use Rattle.qtt_term.specs.Contraction.{Reduces, BodiesClosed}
use Rattle.qtt_term.specs.Ask.{HeadIs}
use Rattle.qtt_term.specs.Forms.{front}
use Rattle.qtt_term.proofs.Scope.{ren-below, sub-below, step-below}
use Rattle.qtt_confluence.proofs.Facts.{head_is_exact}

pub as-below : {n m : ℕ} (t : Term) → n ≡ m → Below n t → Below m t
as-below t e b = subst (λ k. Below k t) e b

pub raised : (n : ℕ) (t : Term) → Below n t → Below (suc n) (ren suc t)
raised n t b = ren-below t n (suc n) suc (λ i p. omega arith) b

-- ---- components under no binder
abbrev pub In : ℕ → Terms → Type 0
In n ts = AllBelow [] n ts

pub more : (n : ℕ) (t : Term) (ts : Terms) → Below n t → In n ts → In n (t ▸ ts)
more n t ts b bs = (as-below t (omega arith) b, bs)

pub of-first : (n : ℕ) (t : Term) (ts : Terms) → In n (t ▸ ts) → Below n t
of-first n t ts b = as-below t (omega arith) b.0

pub of-rest : (n : ℕ) (t : Term) (ts : Terms) → In n (t ▸ ts) → In n ts
of-rest n t ts b = b.1

pub joined : (n : ℕ) (ts ss : Terms) → In n ts → In n ss → In n (ts +++ ss)
joined n ε ss h k = k
joined n (t ▸ ts) ss h k = (h.0, joined n ts ss h.1 k)

pub front-below : (n : ℕ) (k : ℕ) (ts : Terms) → In n ts → In n (front k ts)
front-below n zero ts h = tt
front-below n (suc k) ε h = tt
front-below n (suc k) (t ▸ ts) h = (h.0, front-below n k ts h.1)

pub skip-below : (n : ℕ) (k : ℕ) (ts : Terms) → In n ts → In n (skip k ts)
skip-below n zero ts h = h
skip-below n (suc k) ε h = tt
skip-below n (suc k) (t ▸ ts) h = skip-below n k ts h.1

-- ---- components under binders
pub pi-parts : (n : ℕ) (q : Mult) (A B : Term) → Below n (Pi q A B) → Below n A × Below (suc n) B
pi-parts n q A B h = (as-below A (omega arith) h.0, as-below B (omega arith) h.1.0)

pub pi-below : (n : ℕ) (q : Mult) (A B : Term) → Below n A → Below (suc n) B → Below n (Pi q A B)
pi-below n q A B a b = (as-below A (omega arith) a, (as-below B (omega arith) b, tt))

pub lam-below : (n : ℕ) (q : Mult) (A b : Term) → Below n A → Below (suc n) b → Below n (Lam q A b)
lam-below n q A b h k = (as-below A (omega arith) h, (as-below b (omega arith) k, tt))

pub app-below : (n : ℕ) (q : Mult) (f a : Term) → Below n f → Below n a → Below n (App q f a)
app-below n q f a h k = (as-below f (omega arith) h, (as-below a (omega arith) k, tt))

-- ---- substitutions whose terms stand under n variables, whatever they are put into
abbrev pub All : ℕ → (ℕ → Term) → Type 0
All n σ = (i : ℕ) → Below n (σ i)

lift-all : (n : ℕ) (σ : ℕ → Term) → All n σ → All (suc n) (lift σ)
lift-all n σ h zero = omega arith
lift-all n σ h (suc i) = raised n (σ i) (h i)

lifts-all : (n : ℕ) (k : ℕ) (σ : ℕ → Term) → All n σ → All (k + n) (lifts k σ)
lifts-all n zero σ h i = as-below (σ i) (omega arith) (h i)
lifts-all n (suc k) σ h i =
    as-below (lifts (suc k) σ i) (omega arith) (lifts-all (suc n) k (lift σ) (lift-all n σ h) i)

mutual
  pub substituted : (n : ℕ) (t : Term) (σ : ℕ → Term) → All n σ → Below n (sub σ t)
  substituted n (var i) σ h = h i
  substituted n (node F ts) σ h = all-substituted n ts (binders F) σ h

  all-substituted : (n : ℕ) (ts : Terms) (ns : List ℕ) (σ : ℕ → Term) → All n σ → AllBelow ns n (subs ns σ ts)
  all-substituted n ε ns σ h = tt
  all-substituted n (t ▸ ts) ns σ h = (
    substituted (first ns + n) t (lifts (first ns) σ) (lifts-all n (first ns) σ h),
    all-substituted n ts (rest ns) σ h,
  )

pub closed-all : (n : ℕ) → All n closed
closed-all n i = tt

pub cons-all : (n : ℕ) (a : Term) (σ : ℕ → Term) → Below n a → All n σ → All n (cons a σ)
cons-all n a σ b h zero = b
cons-all n a σ b h (suc i) = h i

pub push-all : (n : ℕ) (ts : Terms) (σ : ℕ → Term) → In n ts → All n σ → All n (push ts σ)
push-all n ε σ b h = h
push-all n (t ▸ ts) σ b h = push-all n ts (cons t σ) b.1 (cons-all n t σ (of-first n t ts b) h)

pub inst-below : (n : ℕ) (b a : Term) → Below (suc n) b → Below n a → Below n (inst b a)
inst-below n b a h k = sub-below b (suc n) n (cons a var) values h
  where
    values : (i : ℕ) → i < suc n → Below n (cons a var i)
    values zero p = k
    values (suc i) p = omega arith

-- ---- contraction
reduced : {E : Env} → BodiesClosed E → (n : ℕ) {t s : Term} → Reduces E t s → Below n t → Below n s
reduced bodies n Reduces.done b = b
reduced bodies n (Reduces.then x r) b = reduced bodies n r (step-below bodies x n b)

pub head-below : {E : Env} → BodiesClosed E → (n : ℕ) (t h : Term) → HeadIs E t h → Below n t → Below n h
head-below {E} bodies n t h x b = reduced bodies n (head_is_exact.reduces E x.bound x.made t h x.is) b
