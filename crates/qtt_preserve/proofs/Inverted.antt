-- What a derivation of each form gives back.
use Rattle.std.proofs.Common.{◌≡◌, ℕ, suc, List, [], ◌∷◌, max, length, refl, ◌∙◌, ap}
use Rattle.qtt_base.specs.declared.place.GlobalId.{GlobalId}
use Rattle.qtt_usage.specs.declared.mult.Mult.{Mult}
use Rattle.qtt_usage.specs.Mult.{𝟘, ◌⊕◌, ◌⊙◌, ◌≼◌}
use Rattle.qtt_usage.specs.Uses.{Key, Use, zero_use, unit, out}
use Rattle.qtt_usage.proofs.Mults.{⊕-zero}
use Rattle.qtt_prims.specs.declared.lit.Lit.{Lit}
use Rattle.qtt_prims.specs.declared.lit.Lit.TheVariants as literal
use Rattle.qtt_term.specs.Term.{Named, Form, zeros, binders, Term, Terms, var, node, ε, ◌▸◌, Sort, Pi}
use Rattle.qtt_term.specs.Substitution.{sub, push, inst, closed}
use Rattle.qtt_term.specs.Signature.{Tele, ConSig, Env, There, NamedThere, signature, definition_at, fam_at, EqTy, Refl, HandleTy}
use Rattle.qtt_term.specs.Contraction.{Conv}
use Rattle.qtt_term.specs.Judgement.{Ctx, InScope, mult_at, type_at, IsCon, Part, under, InRun, Usable, UseIs, Judged, sum_of, join_of, total, scale, erase_binds, Args, ParamsThenArgs, Cases, Rule, Typed, TypedAll}
use Rattle.qtt_preserve.specs.Inversion.{Inversion}
use Rattle.qtt_preserve.proofs.Travel.{in_run}
use Rattle.qtt_preserve.proofs.Iota.{no_branch, no_branches}

use_as : (p : Part) (Γ : Ctx) (w z u : Use) → ((x : Key) → w x ≡ z x) → UseIs p Γ w u → UseIs p Γ z u
use_as Part.run Γ w z u e h = λ x s. h x s ∙ e x
use_as Part.erased Γ w z u e h = h

-- erased arguments use nothing
erased-args : (Ξ : Tele) {σ : ℕ → Term} {ts : Terms} {js : List Judged} → Args (scale 𝟘 Ξ) σ ts js →
    (x : Key) → sum_of js x ≡ 𝟘
erased-args [] Args.none x = refl
erased-args (b ∷ Ξ) (Args.more a) x = erased-args Ξ a x

erased-params : (Ξ : Tele) {Θ : Tele} {σ : ℕ → Term} {ts : Terms} {js : List Judged} {S R : Term} →
    ParamsThenArgs (scale 𝟘 Ξ) Θ σ ts js S R → (x : Key) → sum_of js x ≡ 𝟘
erased-params Ξ (ParamsThenArgs.param a) x = erased-params Ξ a x
erased-params Ξ (ParamsThenArgs.done a) x = erased-args Ξ a x

-- the rule by which a derivation ends
abbrev Formed : Env → Part → Ctx → Form → Terms → Term → Use → Type 0
Formed E p Γ F ts C u =
    (js : List Judged) × (R : Term) × (own : Use) × Rule E p F ts js R own × TypedAll E p Γ (binders F) ts js ×
    Conv E R C × UseIs p Γ (total own js) u

module _ {E : Env} {p : Part} {Γ : Ctx} where
  of-variable : {i : ℕ} {C : Term} {u : Use} → Typed E p Γ (var i) C u →
      InScope Γ i × Usable p (mult_at Γ i) × Conv E (type_at Γ i) C × UseIs p Γ (unit (Key.v i)) u
  of-variable (Typed.variable s m e) = (s, m, Conv.same, e)
  of-variable (Typed.conversion h c) = let r = of-variable h in (r.0, r.1, Conv.thence r.2 c, r.3)

  of-form : {F : Form} {ts : Terms} {C : Term} {u : Use} → Typed E p Γ (node F ts) C u → Formed E p Γ F ts C u
  of-form (Typed.by_rule {js = js} {R = R} {own = own} r hs e) = (js, R, own, r, hs, Conv.same, e)
  of-form (Typed.conversion h c) = let f = of-form h in (f.0, f.1, f.2, f.3, f.4, Conv.thence f.5 c, f.6)

  of-sort : (u : Use) {l : ℕ} {C : Term} → Formed E p Γ (Form.sort l) ε C u →
      Conv E (Sort (suc l)) C × UseIs p Γ zero_use u
  of-sort u (js, R, own, Rule.sort, hs, c, e) = (c, e)

  of-pi : (u : Use) {q : Mult} {A B C : Term} → Formed E p Γ (Form.pi q) (A ▸ B ▸ ε) C u →
      (i : ℕ) × (j : ℕ) × (w : Use) × (z : Use) × Typed E Part.erased Γ A (Sort i) w × Typed E Part.erased
      ((q, A) ∷ Γ) B (Sort j) z
      × Conv E (Sort (max i j)) C × UseIs p Γ zero_use u
  of-pi u (
    js,
    R,
    own,
    Rule.pi {i = i} {j = j} {u = w} {w = z},
    TypedAll.more d hA f (TypedAll.more g hB k TypedAll.none),
    c,
    e,
  ) = (i, j, w, z, hA, hB, c, e)

  of-lam : (u : Use) {q : Mult} {A b C : Term} → Formed E p Γ (Form.lam q) (A ▸ b ▸ ε) C u →
      (i : ℕ) × (B : Term) × (w : Use) × (z : Use) × Typed E Part.erased Γ A (Sort i) w × Typed E p ((q, A) ∷ Γ) b B z
      × InRun p (z (Key.v 0) ≼ q) × Conv E (Pi q A B) C × UseIs p Γ (out z) u
  of-lam u (
    js,
    R,
    own,
    Rule.lam {B = B} {i = i} {u = w} {w = z},
    TypedAll.more d hA f (TypedAll.more g hb k TypedAll.none),
    c,
    e,
  ) =
      (i, B, w, z, hA, hb, in_run p (λ r. r.0) k, c, use_as p Γ _ (out z) u (λ x. ⊕-zero _ ∙ ⊕-zero (out z x)) e)

  of-app : (u : Use) {q : Mult} {f a C : Term} → Formed E p Γ (Form.app q) (f ▸ a ▸ ε) C u →
      (A : Term) × (B : Term) × (w : Use) × (z : Use) × Typed E p Γ f (Pi q A B) w × Typed E (under p q) Γ a A z
      × Conv E (inst B a) C × UseIs p Γ (λ x. w x ⊕ q ⊙ z x) u
  of-app u {q} (
    js,
    R,
    own,
    Rule.app {A = A} {B = B} {u = w} {w = z},
    TypedAll.more d hf f (TypedAll.more g ha k TypedAll.none),
    c,
    e,
  ) = (
    A,
    B,
    w,
    z,
    hf,
    ha,
    c,
    use_as p Γ _ (λ x. w x ⊕ q ⊙ z x) u
        (λ x. ⊕-zero _ ∙ ap (λ n. w x ⊕ n) (⊕-zero (q ⊙ z x))) e,
  )

  of-family : (u : Use) {f : GlobalId} {ts : Terms} {C : Term} → Formed E p Γ (Form.fam f) ts C u →
      (js : List Judged) × (R : Term) × There (E.family f)
      × ParamsThenArgs (erase_binds (fam_at E f).indices) (fam_at E f).params closed ts js
      (Sort (fam_at E f).level) R × TypedAll E p Γ [] ts js
      × Conv E R C × UseIs p Γ zero_use u
  of-family u {f} (js, R, own, Rule.fam there a, hs, c, e) = (
    js,
    R,
    there,
    a,
    hs,
    c,
    use_as p Γ _ zero_use u
        (λ x. ap (λ n. n ⊕ join_of js x) (erased-params (fam_at E f).indices a x) ∙ no_branches a x) e,
  )

  of-constructor : (u : Use) {f : GlobalId} {n k : ℕ} {ts : Terms} {C : Term} → Formed E p Γ (Form.con f n k) ts C u →
      (c : ConSig) × (js : List Judged) × (R : Term) × IsCon (fam_at E f).constructors n c ×
      (k ≡ length (fam_at E f).params)
      × ParamsThenArgs c.fields (fam_at E f).params closed ts js c.result R × TypedAll E p Γ [] ts js ×
      Conv E R C × UseIs p Γ (sum_of js) u
  of-constructor u (js, R, own, Rule.con {c = d} i a, hs, c, e) = (
    d,
    js,
    R,
    i,
    refl,
    a,
    hs,
    c,
    use_as p Γ _ (sum_of js) u (λ x. ap (λ n. sum_of js x ⊕ n) (no_branches a x) ∙ ⊕-zero (sum_of js x)) e,
  )

  of-case : (u : Use) {q : Mult} {f : GlobalId} {k m : ℕ} {ns : List ℕ} {ts : Terms} {C : Term} →
      Formed E p Γ (Form.case q f k m ns) ts C u →
      (js : List Judged) × (R : Term) × There (E.family f) × Usable p q × Cases (fam_at E f) q
      (fam_at E f).params closed k m ns ts js R
      × TypedAll E p Γ (zeros k (m ∷ ns)) ts js × Conv E R C × UseIs p Γ (λ x. sum_of js x ⊕ join_of js x) u
  of-case u (js, R, own, Rule.case there m a, hs, c, e) = (js, R, there, m, a, hs, c, e)

  of-delete : (u : Use) {q : Mult} {A s P b d C : Term} → Formed E p Γ (Form.delete q) (A ▸ s ▸ P ▸ b ▸ d ▸ ε) C u →
      (l : ℕ) × (u₁ : Use) × (u₂ : Use) × (u₃ : Use) × (w : Use) ×
      (z : Use) × Usable p q × Typed E Part.erased Γ A (Sort 0) u₁ × Typed E Part.erased Γ s A u₂
      × Typed E Part.erased ((q, EqTy A s s) ∷ Γ) P (Sort l) u₃ × Typed E p Γ b (inst P (Refl A s)) w ×
      Typed E (under p q) Γ d (EqTy A s s) z
      × Conv E (inst P d) C × UseIs p Γ (λ x. w x ⊕ q ⊙ z x) u
  of-delete u {q} (
    js,
    R,
    own,
    Rule.delete {l = l} {u₁ = u₁} {u₂ = u₂} {u₃ = u₃} {u₄ = w} {u₅ = z} m,
    TypedAll.more e₁ h₁ f₁ (TypedAll.more e₂ h₂ f₂
        (TypedAll.more e₃ h₃ f₃ (TypedAll.more e₄ h₄ f₄ (TypedAll.more e₅ h₅ f₅ TypedAll.none)))),
    c,
    e,
  ) = (
    l,
    u₁,
    u₂,
    u₃,
    w,
    z,
    m,
    h₁,
    h₂,
    h₃,
    h₄,
    h₅,
    c,
    use_as p Γ _ (λ x. w x ⊕ q ⊙ z x) u (λ x. ⊕-zero _ ∙ ap (λ n. w x ⊕ n) (⊕-zero (q ⊙ z x))) e,
  )

  of-named : (u : Use) {n : Named} {ts : Terms} {C : Term} → Formed E p Γ (Form.named n) ts C u →
      (js : List Judged) × NamedThere E n × Usable p (signature E n).mult ×
      Args (signature E n).arguments closed ts js × TypedAll E p Γ [] ts js
      × Conv E (sub (push ts closed) (signature E n).type) C × UseIs p Γ (sum_of js) u
  of-named u (js, R, own, Rule.named there m a, hs, c, e) = (
    js,
    there,
    m,
    a,
    hs,
    c,
    use_as p Γ _ (sum_of js) u
        (λ x. ap (λ n. sum_of js x ⊕ n) (no_branch a x) ∙ ⊕-zero (sum_of js x)) e,
  )

  of-definition : (u : Use) {d : GlobalId} {C : Term} → Formed E p Γ (Form.named (Named.def d)) ε C u →
      There (E.definition d) × Usable p (definition_at E d).mult ×
      Conv E (sub closed (definition_at E d).type) C × UseIs p Γ zero_use u
  of-definition u (js, R, own, Rule.named there m Args.none, hs, c, e) = (there, m, c, e)

  of-literal : (u : Use) (l : Lit) {C : Term} → Formed E p Γ (Form.named (Named.lit l)) ε C u →
      Conv E (signature E (Named.lit l)).type C × UseIs p Γ zero_use u
  of-literal u (literal.Int z) (js, R, own, Rule.named there m Args.none, hs, c, e) = (c, e)
  of-literal u (literal.Text s) (js, R, own, Rule.named there m Args.none, hs, c, e) = (c, e)

  of-trap : (u : Use) {A C : Term} → Formed E p Γ Form.trap (A ▸ ε) C u →
      (i : ℕ) × (w : Use) × Typed E Part.erased Γ A (Sort i) w × Conv E A C
  of-trap u (js, R, own, Rule.trap {i = i} {u = w}, TypedAll.more d h f TypedAll.none, c, e) = (i, w, h, c)

  of-tape : (u : Use) {h : ℕ} {C : Term} → Formed E p Γ (Form.tape h) ε C u →
      Conv E HandleTy C × UseIs p Γ (unit (Key.h h)) u
  of-tape u {h} (js, R, own, Rule.tape, hs, c, e) =
      (c, use_as p Γ _ (unit (Key.h h)) u (λ x. ⊕-zero (unit (Key.h h) x)) e)

pub inverted : (E : Env) (p : Part) (Γ : Ctx) → Inversion E p Γ
inverted E p Γ = record {
  variable = λ i C u h. of-variable h;
  form = λ F ts C u h. of-form h;
  sort = λ l C u h. of-sort u (of-form h);
  pi = λ q A B C u h. of-pi u (of-form h);
  lam = λ q A b C u h. of-lam u (of-form h);
  app = λ q f a C u h. of-app u (of-form h);
  family = λ f ts C u h. of-family u (of-form h);
  constructor = λ f n k ts C u h. of-constructor u (of-form h);
  case = λ q f k m ns ts C u h. of-case u (of-form h);
  delete = λ q A s P b e C u h. of-delete u (of-form h);
  named = λ n ts C u h. of-named u (of-form h);
  definition = λ d C u h. of-definition u (of-form h);
  literal = λ l C u h. of-literal u l (of-form h);
  trap = λ A C u h. of-trap u (of-form h);
  tape = λ h C u d. of-tape u (of-form d);
}
