-- What holds of each form in a term is kept by renaming, substitution and contraction.
use Rattle.std.proofs.Common.{◌≡◌, ℕ, zero, suc, List, [], ◌∷◌, Bool, ◌&&◌, eqb, Some, refl, sym, ap, subst}
use Rattle.std.specs.Bool.{Decides}
use Rattle.std.proofs.lemmas.Bool.Decides.{Decides-and}
use Rattle.qtt_base.specs.declared.place.GlobalId.{GlobalId}
use Rattle.qtt_usage.specs.declared.mult.Mult.{Mult}
use Rattle.qtt_usage.specs.Mult.{same_mult}
use Rattle.qtt_prims.specs.declared.prim.Primitive.{Primitive}
use Rattle.qtt_prims.specs.declared.lit.Lit.{Lit}
use Rattle.qtt_term.specs.Term.{Named, Form, first, rest, binders, Term, Terms, var, node, ε, ◌▸◌, size, skip, same_id}
use Rattle.qtt_term.specs.Substitution.{lifts_ren, ren, rens, lift, lifts, sub, subs, cons, push, inst}
use Rattle.qtt_term.specs.Signature.{Env, definition_at, eq_id}
use Rattle.qtt_term.specs.Contraction.{chain, Function, as_lam, call, Made, as_con, scrutinee, branch_at, select, iota, when_refl, literals, computed, contract, Step, Steps}
use Rattle.qtt_term.specs.Each.{Each, EachIn, each, each_in}
use Rattle.qtt_term.proofs.Options.{none≢some, some-injective, chain-some, cond-some}

pub size-rens : (ts : Terms) (ns : List ℕ) (ρ : ℕ → ℕ) → size (rens ns ρ ts) ≡ size ts
size-rens ε ns ρ = refl
size-rens (t ▸ ts) ns ρ = ap suc (size-rens ts (rest ns) ρ)

pub size-subs : (ts : Terms) (ns : List ℕ) (σ : ℕ → Term) → size (subs ns σ ts) ≡ size ts
size-subs ε ns σ = refl
size-subs (t ▸ ts) ns σ = ap suc (size-subs ts (rest ns) σ)

steps-size : {E : Env} {ts ss : Terms} → Steps E ts ss → size ss ≡ size ts
steps-size (Steps.at d) = refl
steps-size (Steps.after d) = ap suc (steps-size d)

-- ---- from one to another
module _ (P Q : Form → ℕ → Type 0) (to : (F : Form) (n : ℕ) → P F n → Q F n) where
  mutual
    pub each-to : (t : Term) → Each P t → Each Q t
    each-to (var i) h = tt
    each-to (node F ts) h = (to F (size ts) h.0, each_in-to ts h.1)

    pub each_in-to : (ts : Terms) → EachIn P ts → EachIn Q ts
    each_in-to ε h = tt
    each_in-to (t ▸ ts) h = (each-to t h.0, each_in-to ts h.1)

-- ---- tests
module _ (p : Form → ℕ → Bool) (P : Form → ℕ → Type 0) (decided : (F : Form) (n : ℕ) → Decides (p F n) (P F n)) where
  mutual
    pub each-decided : (t : Term) → Decides (each p t) (Each P t)
    each-decided (var i) = (λ e. tt, λ h. refl)
    each-decided (node F ts) = Decides-and (p F (size ts)) (each_in p ts) (decided F (size ts)) (each_in-decided ts)

    pub each_in-decided : (ts : Terms) → Decides (each_in p ts) (EachIn P ts)
    each_in-decided ε = (λ e. tt, λ h. refl)
    each_in-decided (t ▸ ts) = Decides-and (each p t) (each_in p ts) (each-decided t) (each_in-decided ts)

module _ (P : Form → ℕ → Type 0) where
  -- ---- renaming and substitution
  mutual
    pub ren-each : (t : Term) (ρ : ℕ → ℕ) → Each P t → Each P (ren ρ t)
    ren-each (var i) ρ h = tt
    ren-each (node F ts) ρ h = (subst (P F) (sym (size-rens ts (binders F) ρ)) h.0, rens-each ts (binders F) ρ h.1)

    rens-each : (ts : Terms) (ns : List ℕ) (ρ : ℕ → ℕ) → EachIn P ts → EachIn P (rens ns ρ ts)
    rens-each ε ns ρ h = tt
    rens-each (t ▸ ts) ns ρ h = (ren-each t (lifts_ren (first ns) ρ) h.0, rens-each ts (rest ns) ρ h.1)

  abbrev Values : (ℕ → Term) → Type 0
  Values σ = (i : ℕ) → Each P (σ i)

  lift-each : (σ : ℕ → Term) → Values σ → Values (lift σ)
  lift-each σ h zero = tt
  lift-each σ h (suc i) = ren-each (σ i) suc (h i)

  lifts-each : (k : ℕ) (σ : ℕ → Term) → Values σ → Values (lifts k σ)
  lifts-each zero σ h = h
  lifts-each (suc k) σ h = lifts-each k (lift σ) (lift-each σ h)

  mutual
    pub sub-each : (t : Term) (σ : ℕ → Term) → Values σ → Each P t → Each P (sub σ t)
    sub-each (var i) σ v h = v i
    sub-each (node F ts) σ v h = (subst (P F) (sym (size-subs ts (binders F) σ)) h.0, subs-each ts (binders F) σ v h.1)

    subs-each : (ts : Terms) (ns : List ℕ) (σ : ℕ → Term) → Values σ → EachIn P ts → EachIn P (subs ns σ ts)
    subs-each ε ns σ v h = tt
    subs-each (t ▸ ts) ns σ v h =
        (sub-each t (lifts (first ns) σ) (lifts-each (first ns) σ v) h.0, subs-each ts (rest ns) σ v h.1)

  cons-each : (a : Term) (σ : ℕ → Term) → Each P a → Values σ → Values (cons a σ)
  cons-each a σ h v zero = h
  cons-each a σ h v (suc i) = v i

  push-each : (fs : Terms) (σ : ℕ → Term) → EachIn P fs → Values σ → Values (push fs σ)
  push-each ε σ h v = v
  push-each (f ▸ fs) σ h v = push-each fs (cons f σ) h.1 (cons-each f σ h.0 v)

  -- ---- what contracts
  pub skip-each : (k : ℕ) (ts : Terms) → EachIn P ts → EachIn P (skip k ts)
  skip-each zero ts h = h
  skip-each (suc k) ε h = tt
  skip-each (suc k) (t ▸ ts) h = skip-each k ts h.1

  pub scrutinee-each : (ns : List ℕ) (ts : Terms) (s : Term) → EachIn P ts → scrutinee ns ts ≡ Some s → Each P s
  scrutinee-each [] (t ▸ ε) s h e = subst (Each P) (some-injective e) h.0
  scrutinee-each (k ∷ ns) (t ▸ ts) s h e = scrutinee-each ns ts s h.1 e
  scrutinee-each [] ε s h e = absurd (none≢some e)
  scrutinee-each [] (t ▸ r ▸ ts) s h e = absurd (none≢some e)
  scrutinee-each (k ∷ ns) ε s h e = absurd (none≢some e)

  abbrev MadeEach : Made → Type 0
  MadeEach (Made.made f c fs) = EachIn P fs

  con-each : (s : Term) (m : Made) → Each P s → as_con s ≡ Some m → MadeEach m
  con-each (node (Form.con f c k) ts) m h e = subst MadeEach (some-injective e) (skip-each k ts h.1)
  con-each _ m h e = absurd (none≢some e)

  branch-each : (c : ℕ) (ns : List ℕ) (ts fs : Terms) (t : Term) → EachIn P ts → EachIn P fs →
      branch_at c ns ts fs ≡ Some t → Each P t
  branch-each zero (k ∷ ns) (r ▸ ts) fs t h d e =
      let w = cond-some (eqb (size fs) k) (Some (sub (push fs var) r)) t e in
      subst (Each P) (some-injective w.1) (sub-each r (push fs var) (push-each fs var d (λ i. tt)) h.0)
  branch-each (suc c) (k ∷ ns) (r ▸ ts) fs t h d e = branch-each c ns ts fs t h.1 d e
  branch-each zero [] ts fs t h d e = absurd (none≢some e)
  branch-each (suc c) [] ts fs t h d e = absurd (none≢some e)
  branch-each zero (k ∷ ns) ε fs t h d e = absurd (none≢some e)
  branch-each (suc c) (k ∷ ns) ε fs t h d e = absurd (none≢some e)

  select-each : (f : GlobalId) (ns : List ℕ) (ts : Terms) (m : Made) (t : Term) → EachIn P ts → MadeEach m →
      select f ns ts m ≡ Some t → Each P t
  select-each f ns ts (Made.made g c fs) t h d e =
      let w = cond-some (same_id f g) (branch_at c ns ts fs) t e in branch-each c ns ts fs t h d w.1

  iota-each : (f : GlobalId) (ns : List ℕ) (ts : Terms) (t : Term) → EachIn P ts → iota f ns ts ≡ Some t → Each P t
  iota-each f ns ε t h e = absurd (none≢some e)
  iota-each f ns (M ▸ ts) t h e =
      let r = chain-some (scrutinee ns ts) (λ s. chain (as_con s) (select f ns ts)) t e in
      let w = chain-some (as_con r.0) (select f ns ts) t r.2 in
      select-each f ns ts w.0 t h.1 (con-each r.0 w.0 (scrutinee-each ns ts r.0 h.1 r.1) w.1) w.2

  abbrev FunctionEach : Function → Type 0
  FunctionEach (Function.function q b) = Each P b

  lam-each : (g : Term) (f : Function) → Each P g → as_lam g ≡ Some f → FunctionEach f
  lam-each (node (Form.lam q) (A ▸ b ▸ ε)) f h e = subst FunctionEach (some-injective e) h.1.1.0
  lam-each _ f h e = absurd (none≢some e)

  call-each : (p : Mult) (a : Term) (f : Function) (t : Term) → Each P a → FunctionEach f → call p a f ≡ Some t →
      Each P t
  call-each p a (Function.function q b) t h d e =
      let w = cond-some (same_mult p q) (Some (inst b a)) t e in
      subst (Each P) (some-injective w.1) (sub-each b (cons a var) (cons-each a var h (λ i. tt)) d)

  refl-each : (b t : Term) (m : Made) → Each P b → when_refl b m ≡ Some t → Each P t
  refl-each b t (Made.made f c fs) h e =
      let w = cond-some (same_id f eq_id && eqb c 0) (Some b) t e in subst (Each P) (some-injective w.1) h

  -- ---- contraction, where it holds of bodies and of what primitives answer
  abbrev InBodies : Env → Type 0
  InBodies E = (d : GlobalId) (b : Term) → (definition_at E d).body ≡ Some b → Each P b

  abbrev InAnswers : Type 0
  InAnswers = (p : Primitive) (ts : Terms) (ls : List Lit) (t : Term) → EachIn P ts → literals ts ≡ Some ls →
      computed p ls ≡ Some t → Each P t

  module _ (E : Env) (bodies : InBodies E) (answers : InAnswers) where
    contract-each : (F : Form) (ts : Terms) (t : Term) → contract E F ts ≡ Some t → EachIn P ts → Each P t
    unfolding contract
    contract-each (Form.app q) (g ▸ a ▸ ε) t e h =
        let w = chain-some (as_lam g) (call q a) t e in call-each q a w.0 t h.1.0 (lam-each g w.0 h.0 w.1) w.2
    contract-each (Form.case q f k m ns) ts t e h = iota-each f ns (skip k ts) t (skip-each k ts h) e
    contract-each (Form.delete q) (A ▸ s ▸ M ▸ d ▸ p ▸ ε) t e h =
        let w = chain-some (as_con p) (when_refl d) t e in refl-each d t w.0 h.1.1.1.0 w.2
    contract-each (Form.named (Named.def d)) ε t e h = bodies d t e
    contract-each (Form.named (Named.prim p)) ts t e h =
        let w = chain-some (literals ts) (computed p) t e in answers p ts w.0 t h w.1 w.2
    contract-each _ ts t e h = absurd (none≢some e)

    mutual
      pub step-each : {t s : Term} → Step E t s → Each P t → Each P s
      step-each (Step.here {F = F} {ts = ts} {t = t} e) h = contract-each F ts t e h.1
      step-each (Step.inside {F = F} d) h = (subst (P F) (sym (steps-size d)) h.0, steps-each d h.1)

      steps-each : {ts ss : Terms} → Steps E ts ss → EachIn P ts → EachIn P ss
      steps-each (Steps.at d) h = (step-each d h.0, h.1)
      steps-each (Steps.after d) h = (h.0, steps-each d h.1)
