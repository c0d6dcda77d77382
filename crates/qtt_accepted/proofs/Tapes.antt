-- No Tape comes from a substitution or a contraction.
use Rattle.std.proofs.Common.{◌≡◌, ℕ, zero, suc, Bool, true, false, List, Some, subst}
use Rattle.qtt_prims.specs.declared.answer.PrimAnswer.{PrimAnswer}
use Rattle.qtt_prims.specs.Apply.{apply}
use Rattle.qtt_term.specs.Term.{Form, binders, first, rest, Term, Terms, var, node, ε, ◌▸◌, ◌+++◌, skip, Lam}
use Rattle.qtt_term.specs.Substitution.{ren, rens, lift, lifts, sub, subs, cons, push, inst, above, closed}
use Rattle.qtt_term.specs.Signature.{Env, eq_id, truth}
use Rattle.qtt_term.specs.Contraction.{Step, Steps, Reduces, answer_term}
use Rattle.qtt_term.specs.Environment.{NoTape, NoTapes}
use Rattle.qtt_term.specs.Ask.{HeadIs}
use Rattle.qtt_term.proofs.Options.{none≢some, some-injective}
use Rattle.qtt_term.specs.Forms.{front}
use Rattle.qtt_confluence.proofs.Root.{ScrutineeAt, BranchAt, Picks, Root, view}
use Rattle.qtt_confluence.proofs.Facts.{head_is_exact}
use Rattle.qtt_accepted.specs.Tapeless.{Tapeless}
use Rattle.qtt_prims.specs.declared.answer.PrimAnswer.TheVariants as answer

pub parts-of : (F : Form) (ts : Terms) → NoTape (node F ts) → NoTapes ts
parts-of F ts h = h.1

pub of-first : (t : Term) (ts : Terms) → NoTapes (t ▸ ts) → NoTape t
of-first t ts h = h.0

pub of-rest : (t : Term) (ts : Terms) → NoTapes (t ▸ ts) → NoTapes ts
of-rest t ts h = h.1

mutual
  pub renamed : (t : Term) (ρ : ℕ → ℕ) → NoTape t → NoTape (ren ρ t)
  renamed (var i) ρ h = tt
  renamed (node F ts) ρ h = (h.0, all-renamed ts (binders F) ρ h.1)

  pub all-renamed : (ts : Terms) (ns : List ℕ) (ρ : ℕ → ℕ) → NoTapes ts → NoTapes (rens ns ρ ts)
  all-renamed ε ns ρ h = tt
  all-renamed (t ▸ ts) ns ρ h = (renamed t _ h.0, all-renamed ts (rest ns) ρ h.1)

abbrev pub Clean : (ℕ → Term) → Type 0
Clean σ = (i : ℕ) → NoTape (σ i)

lift-clean : (σ : ℕ → Term) → Clean σ → Clean (lift σ)
lift-clean σ h zero = tt
lift-clean σ h (suc i) = renamed (σ i) suc (h i)

pub lifts-clean : (n : ℕ) (σ : ℕ → Term) → Clean σ → Clean (lifts n σ)
lifts-clean zero σ h = h
lifts-clean (suc n) σ h = lifts-clean n (lift σ) (lift-clean σ h)

mutual
  pub substituted : (t : Term) (σ : ℕ → Term) → Clean σ → NoTape t → NoTape (sub σ t)
  substituted (var i) σ c h = c i
  substituted (node F ts) σ c h = (h.0, all-substituted ts (binders F) σ c h.1)

  pub all-substituted : (ts : Terms) (ns : List ℕ) (σ : ℕ → Term) → Clean σ → NoTapes ts → NoTapes (subs ns σ ts)
  all-substituted ε ns σ c h = tt
  all-substituted (t ▸ ts) ns σ c h = (
    substituted t _ (lifts-clean (first ns) σ c) h.0,
    all-substituted ts (rest ns) σ
        c h.1,
  )

pub cons-clean : (a : Term) (σ : ℕ → Term) → NoTape a → Clean σ → Clean (cons a σ)
cons-clean a σ h c zero = h
cons-clean a σ h c (suc i) = c i

pub push-clean : (ts : Terms) (σ : ℕ → Term) → NoTapes ts → Clean σ → Clean (push ts σ)
push-clean ε σ h c = c
push-clean (a ▸ ts) σ h c = push-clean ts (cons a σ) h.1 (cons-clean a σ h.0 c)

pub vars-clean : Clean var
vars-clean i = tt

pub closed-clean : Clean closed
closed-clean i = (λ x. x, tt)

pub inst-clean : (b a : Term) → NoTape b → NoTape a → NoTape (inst b a)
inst-clean b a h k = substituted b (cons a var) (cons-clean a var k vars-clean) h

pub joined : (ts ss : Terms) → NoTapes ts → NoTapes ss → NoTapes (ts +++ ss)
joined ε ss h k = k
joined (t ▸ ts) ss h k = (h.0, joined ts ss h.1 k)

pub front-clean : (n : ℕ) (ts : Terms) → NoTapes ts → NoTapes (front n ts)
front-clean zero ts h = tt
front-clean (suc n) ε h = tt
front-clean (suc n) (t ▸ ts) h = (h.0, front-clean n ts h.1)

pub skip-clean : (n : ℕ) (ts : Terms) → NoTapes ts → NoTapes (skip n ts)
skip-clean zero ts h = h
skip-clean (suc n) ε h = tt
skip-clean (suc n) (t ▸ ts) h = skip-clean n ts h.1

pub above-clean : (m k : ℕ) → NoTapes (above m k)
above-clean m zero = tt
above-clean m (suc k) = (tt, above-clean m k)

-- ---- contraction
scrutinee-clean : {ns : List ℕ} {ts : Terms} {s : Term} → ScrutineeAt ns ts s → NoTapes ts → NoTape s
scrutinee-clean (ScrutineeAt.end {s = s}) h = of-first s ε h
scrutinee-clean (ScrutineeAt.later {b = b} {ts = ts} x) h = scrutinee-clean x (of-rest b ts h)

record Both (b s : Term) : Type 0 where
  branch : NoTape b
  scrutinee : NoTape s

branch-clean : {c n : ℕ} {ns : List ℕ} {ts : Terms} {b s : Term} → BranchAt c ns ts n b s → NoTapes ts → Both b s
branch-clean (BranchAt.here {b = b} {ts = ts} x) h = record {
  branch = of-first b ts h;
  scrutinee = scrutinee-clean x
      (of-rest b ts h);
}
branch-clean (BranchAt.later {d = d} {ts = ts} x) h = branch-clean x (of-rest d ts h)

picked-clean : {c k n : ℕ} {ns : List ℕ} {ts : Terms} {b s : Term} → Picks c k ns ts n b s → NoTapes ts → Both b s
picked-clean (Picks.motive {P = P} {ts = ts} x) h = branch-clean x (of-rest P ts h)
picked-clean (Picks.param {a = a} {ts = ts} x) h = picked-clean x (of-rest a ts h)

truth-clean : (b : Bool) → NoTape (truth b)
truth-clean true = (λ x. x, tt)
truth-clean false = (λ x. x, tt)

answer-clean : (a : PrimAnswer) (t : Term) → answer_term a ≡ Some t → NoTape t
answer-clean (answer.Value l) t e = subst NoTape (some-injective e) (λ x. x, tt)
answer-clean (answer.Truth b) t e = subst NoTape (some-injective e) (truth-clean b)
answer-clean answer.DivisionByZero t e = absurd (none≢some e)
answer-clean answer.IllTyped t e = absurd (none≢some e)

module _ (E : Env) (clean : Tapeless E) where
  root-clean : {F : Form} {ts : Terms} {t : Term} → Root E F ts t → NoTapes ts → NoTape t
  root-clean (Root.by_beta {q = q} {A = A} {b = b} {a = a}) h =
      let f = parts-of (Form.lam q) (A ▸ b ▸ ε) (of-first (Lam q A b) (a ▸ ε) h) in
      inst-clean b a (of-first b ε (of-rest A (b ▸ ε) f)) (of-first a ε (of-rest (Lam q A b) (a ▸ ε) h))
  root-clean (Root.by_iota {f = f} {c = c} {l = l} {xs = xs} {b = b} p e) h =
      let r = picked-clean p h in
      substituted b _ (push-clean (skip l xs) var (skip-clean l xs (parts-of (Form.con f c l) xs r.scrutinee))
      vars-clean) r.branch
  root-clean (Root.by_deletion {A = A} {s = s} {P = P} {b = b} {l = l} {xs = xs}) h =
      let e = node (Form.con eq_id zero l) xs in of-first b (e ▸ ε)
      (of-rest P (b ▸ e ▸ ε) (of-rest s (P ▸ b ▸ e ▸ ε) (of-rest A (s ▸ P ▸ b ▸ e ▸ ε) h)))
  root-clean (Root.by_delta {d = d} {b = b} e) h = clean.bodies d b e
  root-clean (Root.by_prim {p = p} {ls = ls} {t = t} d e) h = answer-clean (apply p ls) t e

  mutual
    step-clean : {t s : Term} → Step E t s → NoTape t → NoTape s
    step-clean (Step.here {F = F} {ts = ts} {t = t} e) h = root-clean (view E F ts t e) (parts-of F ts h)
    step-clean (Step.inside x) h = (h.0, steps-clean x h.1)

    steps-clean : {ts ss : Terms} → Steps E ts ss → NoTapes ts → NoTapes ss
    steps-clean (Steps.at x) h = (step-clean x h.0, h.1)
    steps-clean (Steps.after x) h = (h.0, steps-clean x h.1)

  pub reduced-clean : {t s : Term} → Reduces E t s → NoTape t → NoTape s
  reduced-clean Reduces.done h = h
  reduced-clean (Reduces.then x r) h = reduced-clean r (step-clean x h)

  pub head-clean : (t h : Term) → HeadIs E t h → NoTape t → NoTape h
  head-clean t h x c = reduced-clean (head_is_exact.reduces E x.bound x.made t h x.is) c
