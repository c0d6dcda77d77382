-- A contraction brings no variable into a term.
use Rattle.std.proofs.Common.{◌≡◌, ℕ, zero, suc, ◌+◌, ◌<◌, ◌&&◌, List, [], ◌∷◌, true, false, eqb, Some, sym, ap, subst, arith}
use Rattle.std.proofs.lemmas.Bool.{eqb-true}
use Rattle.qtt_base.specs.declared.place.GlobalId.{GlobalId}
use Rattle.qtt_usage.specs.declared.mult.Mult.{Mult}
use Rattle.qtt_usage.specs.Mult.{same_mult}
use Rattle.qtt_prims.specs.declared.answer.PrimAnswer.{PrimAnswer}
use Rattle.qtt_prims.specs.declared.answer.PrimAnswer.TheVariants as answer
use Rattle.qtt_prims.specs.Apply.{apply}
use Rattle.qtt_term.specs.Term.{Named, Form, zeros, binders, first, rest, Term, Terms, var, node, ε, ◌▸◌, size, skip, same_id}
use Rattle.qtt_term.specs.Substitution.{lift_ren, lifts_ren, ren, rens, lift, lifts, sub, subs, cons, push, inst, Below, AllBelow, Closed}
use Rattle.qtt_term.specs.Signature.{Env, eq_id}
use Rattle.qtt_term.specs.Contraction.{chain, Function, as_lam, call, Made, as_con, scrutinee, branch_at, select, iota, when_refl, literals, answer_term, computed, contract, Step, Steps, BodiesClosed}
use Rattle.qtt_term.proofs.Options.{none≢some, some-injective, chain-some, cond-some}

-- ---- renaming and substitution
-- the variables below n stand for variables below m
abbrev pub RenBelow : ℕ → ℕ → (ℕ → ℕ) → Type 0
RenBelow n m ρ = (i : ℕ) → i < n → ρ i < m

abbrev pub SubBelow : ℕ → ℕ → (ℕ → Term) → Type 0
SubBelow n m σ = (i : ℕ) → i < n → Below m (σ i)

below-as : {n m : ℕ} (t : Term) → n ≡ m → Below n t → Below m t
below-as t e b = subst (λ k. Below k t) e b

lift_ren-below : (n m : ℕ) (ρ : ℕ → ℕ) → RenBelow n m ρ → RenBelow (suc n) (suc m) (lift_ren ρ)
lift_ren-below n m ρ h zero p = omega arith
lift_ren-below n m ρ h (suc i) p = let q : ρ i < m = h i (omega arith) in omega arith

lifts_ren-below : (k n m : ℕ) (ρ : ℕ → ℕ) → RenBelow n m ρ → RenBelow (k + n) (k + m) (lifts_ren k ρ)
lifts_ren-below zero n m ρ h i p = let q : ρ i < m = h i (omega arith) in omega arith
lifts_ren-below (suc k) n m ρ h i p =
    let q : lifts_ren k (lift_ren ρ) i < k + suc m =
    lifts_ren-below k (suc n) (suc m) (lift_ren ρ) (lift_ren-below n m ρ h) i (omega arith) in omega arith

mutual
  pub ren-below : (t : Term) (n m : ℕ) (ρ : ℕ → ℕ) → RenBelow n m ρ → Below n t → Below m (ren ρ t)
  ren-below (var i) n m ρ h b = h i b
  ren-below (node F ts) n m ρ h b = rens-below ts (binders F) n m ρ h b

  rens-below : (ts : Terms) (ns : List ℕ) (n m : ℕ) (ρ : ℕ → ℕ) → RenBelow n m ρ → AllBelow ns n ts →
      AllBelow ns m (rens ns ρ ts)
  rens-below ε ns n m ρ h b = tt
  rens-below (t ▸ ts) ns n m ρ h b = (
    ren-below t (first ns + n) (first ns + m) (lifts_ren (first ns) ρ) (lifts_ren-below (first ns) n m ρ h)
        b.0,
    rens-below ts (rest ns) n m ρ h b.1,
  )

lift-below : (n m : ℕ) (σ : ℕ → Term) → SubBelow n m σ → SubBelow (suc n) (suc m) (lift σ)
lift-below n m σ h zero p = omega arith
lift-below n m σ h (suc i) p = ren-below (σ i) m (suc m) suc (λ j q. omega arith) (h i (omega arith))

lifts-below : (k n m : ℕ) (σ : ℕ → Term) → SubBelow n m σ → SubBelow (k + n) (k + m) (lifts k σ)
lifts-below zero n m σ h i p = below-as (σ i) (omega arith) (h i (omega arith))
lifts-below (suc k) n m σ h i p =
    below-as (lifts (suc k) σ i) (omega arith)
    (lifts-below k (suc n) (suc m) (lift σ) (lift-below n m σ h) i (omega arith))

mutual
  pub sub-below : (t : Term) (n m : ℕ) (σ : ℕ → Term) → SubBelow n m σ → Below n t → Below m (sub σ t)
  sub-below (var i) n m σ h b = h i b
  sub-below (node F ts) n m σ h b = subs-below ts (binders F) n m σ h b

  pub subs-below : (ts : Terms) (ns : List ℕ) (n m : ℕ) (σ : ℕ → Term) → SubBelow n m σ → AllBelow ns n ts →
      AllBelow ns m (subs ns σ ts)
  subs-below ε ns n m σ h b = tt
  subs-below (t ▸ ts) ns n m σ h b = (
    sub-below t (first ns + n) (first ns + m) (lifts (first ns) σ) (lifts-below (first ns) n m σ h) b.0,
    subs-below ts (rest ns) n m σ h b.1,
  )

mutual
  -- in more variables
  pub below-more : (t : Term) (n m : ℕ) → ((i : ℕ) → i < n → i < m) → Below n t → Below m t
  below-more (var i) n m h b = h i b
  below-more (node F ts) n m h b = all-below-more ts (binders F) n m h b

  all-below-more : (ts : Terms) (ns : List ℕ) (n m : ℕ) → ((i : ℕ) → i < n → i < m) → AllBelow ns n ts →
      AllBelow ns m ts
  all-below-more ε ns n m h b = tt
  all-below-more (t ▸ ts) ns n m h b = (
    below-more t (first ns + n) (first ns + m) (under (first ns) n m h) b.0,
    all-below-more ts (rest ns) n m h b.1,
  )
    where
      under : (k n m : ℕ) → ((i : ℕ) → i < n → i < m) → (i : ℕ) → i < k + n → i < k + m
      under zero n m h i p = let q : i < m = h i (omega arith) in omega arith
      under (suc k) n m h zero p = omega arith
      under (suc k) n m h (suc i) p = let q : i < k + m = under k n m h i (omega arith) in omega arith

-- a closed term, in any number of variables
pub closed-below : (t : Term) (n : ℕ) → Closed t → Below n t
closed-below t n c = below-more t 0 n (λ i p. absurd (omega arith)) c

cons-below : (n m : ℕ) (a : Term) (σ : ℕ → Term) → Below m a → SubBelow n m σ → SubBelow (suc n) m (cons a σ)
cons-below n m a σ b h zero p = b
cons-below n m a σ b h (suc i) p = h i (omega arith)

var-below : (n : ℕ) → SubBelow n n var
var-below n i p = p

push-below : (fs : Terms) (n m : ℕ) (σ : ℕ → Term) → AllBelow [] m fs → SubBelow n m σ →
    SubBelow (size fs + n) m (push fs σ)
push-below ε n m σ b h i p = h i (omega arith)
push-below (f ▸ fs) n m σ b h i p =
    push-below fs (suc n) m (cons f σ) b.1 (cons-below n m f σ (below-as f (omega arith) b.0) h) i (omega arith)

-- ---- what contracts
skip-below : (k : ℕ) (ns : List ℕ) (n : ℕ) (ts : Terms) → AllBelow (zeros k ns) n ts → AllBelow ns n (skip k ts)
skip-below zero ns n ts b = b
skip-below (suc k) ns n ε b = tt
skip-below (suc k) ns n (t ▸ ts) b = skip-below k ns n ts b.1

-- the fields behind parameters
fields-below : (k n : ℕ) (ts : Terms) → AllBelow [] n ts → AllBelow [] n (skip k ts)
fields-below zero n ts b = b
fields-below (suc k) n ε b = tt
fields-below (suc k) n (t ▸ ts) b = fields-below k n ts b.1

scrutinee-below : (ns : List ℕ) (n : ℕ) (ts : Terms) (s : Term) → AllBelow ns n ts → scrutinee ns ts ≡ Some s →
    Below n s
scrutinee-below [] n (t ▸ ε) s b e = subst (Below n) (some-injective e) (below-as t (omega arith) b.0)
scrutinee-below (k ∷ ns) n (t ▸ ts) s b e = scrutinee-below ns n ts s b.1 e
scrutinee-below [] n ε s b e = absurd (none≢some e)
scrutinee-below [] n (t ▸ r ▸ ts) s b e = absurd (none≢some e)
scrutinee-below (k ∷ ns) n ε s b e = absurd (none≢some e)

abbrev MadeBelow : ℕ → Made → Type 0
MadeBelow n (Made.made f c fs) = AllBelow [] n fs

con-below : (n : ℕ) (s : Term) (m : Made) → Below n s → as_con s ≡ Some m → MadeBelow n m
con-below n (node (Form.con f c k) ts) m b e = subst (MadeBelow n) (some-injective e) (fields-below k n ts b)
con-below n _ m b e = absurd (none≢some e)

branch-below : (c : ℕ) (ns : List ℕ) (n : ℕ) (ts fs : Terms) (t : Term) → AllBelow ns n ts → AllBelow [] n fs →
    branch_at c ns ts fs ≡ Some t → Below n t
branch-below zero (k ∷ ns) n (r ▸ ts) fs t b d e =
    let w = cond-some (eqb (size fs) k) (Some (sub (push fs var) r)) t e in
    subst (Below n) (some-injective w.1)
    (sub-below r (size fs + n) n (push fs var) (push-below fs n n var d (var-below n))
    (below-as r (ap (λ j. j + n) (sym (eqb-true (size fs) k w.0))) b.0))
branch-below (suc c) (k ∷ ns) n (r ▸ ts) fs t b d e = branch-below c ns n ts fs t b.1 d e
branch-below zero [] n ts fs t b d e = absurd (none≢some e)
branch-below (suc c) [] n ts fs t b d e = absurd (none≢some e)
branch-below zero (k ∷ ns) n ε fs t b d e = absurd (none≢some e)
branch-below (suc c) (k ∷ ns) n ε fs t b d e = absurd (none≢some e)

select-below : (f : GlobalId) (ns : List ℕ) (n : ℕ) (ts : Terms) (m : Made) (t : Term) → AllBelow ns n ts →
    MadeBelow n m → select f ns ts m ≡ Some t → Below n t
select-below f ns n ts (Made.made g c fs) t b d e =
    let w = cond-some (same_id f g) (branch_at c ns ts fs) t e in branch-below c ns n ts fs t b d w.1

iota-below : (f : GlobalId) (m : ℕ) (ns : List ℕ) (n : ℕ) (ts : Terms) (t : Term) → AllBelow (m ∷ ns) n ts →
    iota f ns ts ≡ Some t → Below n t
iota-below f m ns n ε t b e = absurd (none≢some e)
iota-below f m ns n (P ▸ ts) t b e =
    let r = chain-some (scrutinee ns ts) (λ s. chain (as_con s) (select f ns ts)) t e in
    let w = chain-some (as_con r.0) (select f ns ts) t r.2 in
    select-below f ns n ts w.0 t b.1 (con-below n r.0 w.0 (scrutinee-below ns n ts r.0 b.1 r.1) w.1) w.2

abbrev FunctionBelow : ℕ → Function → Type 0
FunctionBelow n (Function.function q b) = Below (suc n) b

lam-below : (n : ℕ) (g : Term) (f : Function) → Below n g → as_lam g ≡ Some f → FunctionBelow n f
lam-below n (node (Form.lam q) (A ▸ b ▸ ε)) f d e =
    subst (FunctionBelow n) (some-injective e) (below-as b (omega arith) d.1.0)
lam-below n _ f d e = absurd (none≢some e)

call-below : (n : ℕ) (p : Mult) (a : Term) (f : Function) (t : Term) → Below n a → FunctionBelow n f →
    call p a f ≡ Some t → Below n t
call-below n p a (Function.function q b) t d h e =
    let w = cond-some (same_mult p q) (Some (inst b a)) t e in
    subst (Below n) (some-injective w.1) (sub-below b (suc n) n (cons a var) (cons-below n n a var d (var-below n)) h)

refl-below : (n : ℕ) (b t : Term) (m : Made) → Below n b → when_refl b m ≡ Some t → Below n t
refl-below n b t (Made.made f c fs) d e =
    let w = cond-some (same_id f eq_id && eqb c 0) (Some b) t e in subst (Below n) (some-injective w.1) d

answer-below : (n : ℕ) (a : PrimAnswer) (t : Term) → answer_term a ≡ Some t → Below n t
answer-below n (answer.Value l) t e = subst (Below n) (some-injective e) tt
answer-below n (answer.Truth true) t e = subst (Below n) (some-injective e) tt
answer-below n (answer.Truth false) t e = subst (Below n) (some-injective e) tt
answer-below n answer.DivisionByZero t e = absurd (none≢some e)
answer-below n answer.IllTyped t e = absurd (none≢some e)

contract-below : (E : Env) → BodiesClosed E → (F : Form) (ts : Terms) (t : Term) (n : ℕ) →
    contract E F ts ≡ Some t → AllBelow (binders F) n ts → Below n t
unfolding contract
contract-below E bodies (Form.app q) (g ▸ a ▸ ε) t n e b =
    let w = chain-some (as_lam g) (call q a) t e in
    call-below n q a w.0 t (below-as a (omega arith) b.1.0) (lam-below n g w.0 (below-as g (omega arith) b.0) w.1) w.2
contract-below E bodies (Form.case q f k m ns) ts t n e b =
    iota-below f m ns n (skip k ts) t (skip-below k (m ∷ ns) n ts b) e
contract-below E bodies (Form.delete q) (A ▸ s ▸ P ▸ d ▸ p ▸ ε) t n e b =
    let w = chain-some (as_con p) (when_refl d) t e in refl-below n d t w.0 (below-as d (omega arith) b.1.1.1.0) w.2
contract-below E bodies (Form.named (Named.def d)) ε t n e b = closed-below t n (bodies d t e)
contract-below E bodies (Form.named (Named.prim p)) ts t n e b =
    let w = chain-some (literals ts) (computed p) t e in answer-below n (apply p w.0) t w.2
contract-below E bodies _ ts t n e b = absurd (none≢some e)

mutual
  pub step-below : {E : Env} → BodiesClosed E → {t s : Term} → Step E t s → (n : ℕ) → Below n t → Below n s
  step-below {E} bodies (Step.here {F = F} {ts = ts} {t = t} e) n b = contract-below E bodies F ts t n e b
  step-below bodies (Step.inside {F = F} h) n b = steps-below bodies h (binders F) n b

  steps-below : {E : Env} → BodiesClosed E → {ts ss : Terms} → Steps E ts ss →
      (ns : List ℕ) (n : ℕ) → AllBelow ns n ts → AllBelow ns n ss
  steps-below bodies (Steps.at h) ns n b = (step-below bodies h (first ns + n) b.0, b.1)
  steps-below bodies (Steps.after h) ns n b = (b.0, steps-below bodies h (rest ns) n b.1)
