-- Arguments of a definition's argument types are of the opened binders' types.
use Rattle.std.proofs.Common.{◌≡◌, ℕ, zero, suc, List, [], ◌∷◌, length, refl, ◌∙◌, ap, subst}
use mathlib.Core.Path.{fun_ext}
use Rattle.qtt_usage.specs.declared.mult.Mult.{Mult}
use Rattle.qtt_usage.specs.Uses.{Use}
use Rattle.qtt_base.specs.declared.place.GlobalId.{GlobalId}
use Rattle.qtt_term.specs.Term.{Term, Terms, var, ε, ◌▸◌, size, Pi, App, Def}
use Rattle.qtt_term.specs.Substitution.{sub, lift, cons, inst, closed}
use Rattle.qtt_term.specs.Signature.{Tele, Env, definition_at}
use Rattle.qtt_term.specs.Contraction.{BodiesClosed, Conv}
use Rattle.qtt_term.specs.Judgement.{Part, under, InRun, Judged, judged, Args, Typed, TypedAll}
use Rattle.qtt_term.proofs.Subst.{sub-sub, inst-ren}
use Rattle.qtt_confluence.proofs.Confluence.{conv-sub}
use Rattle.qtt_confluence.proofs.Injective.{pi_injective}
use Rattle.qtt_preserve.proofs.Inverted.{inverted}
use Rattle.qtt_split.specs.Motive.{pis}
use Rattle.qtt_split.specs.Laws.{applied_to}
use Rattle.qtt_clause_laws.specs.Accepted.{Takes}

pub record Taken (E : Env) (Θ : Tele) (σ : ℕ → Term) (vs : Terms) : Type 0 where
  pub asked : List Judged
  pub args : Args Θ σ vs asked
  pub typed : TypedAll E Part.run [] [] vs asked

no-binders : (p : Part) → InRun p (Unit {0})
no-binders Part.run = tt
no-binders Part.erased = tt

inst-lifted : (σ : ℕ → Term) (t v : Term) → inst (sub (lift σ) t) v ≡ sub (cons v σ) t
inst-lifted σ t v = sub-sub (cons v var) (lift σ) t ∙ ap (λ ρ. sub ρ t) (fun_ext go)
  where
    go : (i : ℕ) → sub (cons v var) (lift σ i) ≡ cons v σ i
    go zero = refl
    go (suc i) = inst-ren v (σ i)

pub taken : {E : Env} → BodiesClosed E → (Θ : Tele) (G : Term) (σ : ℕ → Term) {A : Term} {vs : Terms} → Takes E A vs →
    Conv E A (sub σ (pis Θ G)) → size vs ≡ length Θ → Taken E Θ σ vs
taken bodies [] G σ Takes.none c z = record { asked = []; args = Args.none; typed = TypedAll.none }
taken bodies [] G σ (Takes.more d h hs) c z = absurd (cc z)
taken bodies (b ∷ Θ) G σ Takes.none c z = absurd (cc z)
taken {E} bodies ((q, T) ∷ Θ) G σ (Takes.more {B = B} {C = C} {v = v} {q = r} {u = u} d h hs) c z =
    let i = pi_injective E bodies r q B C (sub σ T) (sub (lift σ) (pis Θ G)) (Conv.thence (Conv.back d) c) in
    let k = taken bodies Θ G (cons v σ) hs
    (subst (Conv E (inst C v)) (inst-lifted σ (pis Θ G) v) (conv-sub bodies i.2 (cons v var))) (cc z) in
    record {
      asked = judged [] (sub σ T) q u ∷ k.asked;
      args = Args.more k.args;
      typed = TypedAll.more refl
          (Typed.conversion (subst (λ q. Typed E (under Part.run q) [] v B u) i.0 h) i.1)
          (no-binders (under Part.run q)) k.typed;
    }

-- ---- a typed application
takes-as : {E : Env} {A B : Term} {vs : Terms} → Conv E B A → Takes E A vs → Takes E B vs
takes-as c Takes.none = Takes.none
takes-as c (Takes.more d h hs) = Takes.more (Conv.thence c d) h hs

-- of a type's argument types these have these multiplicities
data Passes (E : Env) : Term → Tele → Terms → Type 0 where
  none : {A : Term} → Passes E A [] ε
  more : {A B C v : Term} {vs : Terms} {b : Mult × Term} {Θ : Tele} → Conv E A (Pi b.0 B C) →
      Passes E (inst C v) Θ vs →
      Passes E A (b ∷ Θ) (v ▸ vs)

passes-as : {E : Env} {A B : Term} {Θ : Tele} {vs : Terms} → Conv E B A → Passes E A Θ vs → Passes E B Θ vs
passes-as c Passes.none = Passes.none
passes-as c (Passes.more d hs) = Passes.more (Conv.thence c d) hs

-- what is applied has a type, whose argument types the arguments have, at these multiplicities
record Applied (E : Env) (t : Term) (Θ : Tele) (vs : Terms) : Type 0 where
  type : Term
  use_of_term : Use
  typed : Typed E Part.run [] t type use_of_term
  takes : Takes E type vs
  passes : Passes E type Θ vs

applied : {E : Env} (Θ : Tele) (vs : Terms) (t C : Term) (u : Use) → size vs ≡ length Θ →
    Typed E Part.run [] (applied_to t Θ vs) C u → Applied E t Θ vs
applied [] ε t C u z h = record {
  type = C;
  use_of_term = u;
  typed = h;
  takes = Takes.none;
  passes = Passes.none;
}
applied [] (v ▸ vs) t C u z h = absurd (cc z)
applied (b ∷ Θ) ε t C u z h = absurd (cc z)
applied {E} (b ∷ Θ) (v ▸ vs) t C u z h =
    let r = applied Θ vs (App b.0 t v) C u (cc z) h in
    let i = (inverted E Part.run []).app b.0 t v r.type r.use_of_term r.typed in
    record {
      type = Pi b.0 i.0 i.1;
      use_of_term = i.2;
      typed = i.4;
      takes = Takes.more Conv.same i.5 (takes-as i.6 r.takes);
      passes = Passes.more Conv.same (passes-as i.6 r.passes);
    }

-- so an application has the multiplicities of the type's own binders
same-applied : {E : Env} → BodiesClosed E → (Θ : Tele) (G : Term) (σ : ℕ → Term) {A : Term} {Ξ : Tele} {vs : Terms} →
    Passes E A Ξ vs → Conv E A (sub σ (pis Θ G)) → size vs ≡ length Θ → (t : Term) →
    applied_to t Ξ vs ≡ applied_to t Θ vs
same-applied bodies [] G σ Passes.none c z t = refl
same-applied bodies [] G σ (Passes.more d hs) c z t = absurd (cc z)
same-applied bodies (b ∷ Θ) G σ Passes.none c z t = absurd (cc z)
same-applied {E} bodies ((q, T) ∷ Θ) G σ (Passes.more {B = B} {C = C} {v = v} {vs = vs} {b = b} {Θ = Ξ} d hs) c z t =
    let i = pi_injective E bodies b.0 q B C (sub σ T) (sub (lift σ) (pis Θ G)) (Conv.thence (Conv.back d) c) in
    ap (λ q. applied_to (App q t v) Ξ vs) i.0
    ∙ same-applied bodies Θ G (cons v σ) hs
    (subst (Conv E (inst C v)) (inst-lifted σ (pis Θ G) v) (conv-sub bodies i.2 (cons v var))) (cc z) (App q t v)

pub record AppliedTo (E : Env) (d : GlobalId) (Θ Ξ : Tele) (vs : Terms) : Type 0 where
  pub takes : Takes E (sub closed (definition_at E d).type) vs
  pub same : applied_to (Def d) Ξ vs ≡ applied_to (Def d) Θ vs

pub applied-takes : {E : Env} → BodiesClosed E → (Θ : Tele) (G : Term) (Ξ : Tele) (vs : Terms) (d : GlobalId)
    (C : Term)
    (u : Use) → Conv E (sub closed (definition_at E d).type) (sub closed (pis Θ G)) → size vs ≡ length Θ →
    size vs ≡ length Ξ → Typed E Part.run [] (applied_to (Def d) Ξ vs) C u → AppliedTo E d Θ Ξ vs
applied-takes {E} bodies Θ G Ξ vs d C u c y z h =
    let r = applied Ξ vs (Def d) C u z h in
    let k = ((inverted E Part.run []).definition d r.type r.use_of_term r.typed).2 in
    record { takes = takes-as k r.takes; same = same-applied bodies Θ G closed (passes-as k r.passes) c y (Def d) }
