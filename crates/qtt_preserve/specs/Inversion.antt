-- What a derivation of each form gives back: the rule by which it ends, but for conversion.
use Rattle.std.specs.Prelude.{◌≡◌, ℕ, suc, max, List, [], ◌∷◌, length}
use Rattle.qtt_base.specs.declared.place.GlobalId.{GlobalId}
use Rattle.qtt_usage.specs.declared.mult.Mult.{Mult}
use Rattle.qtt_usage.specs.Mult.{◌⊕◌, ◌⊙◌, ◌≼◌}
use Rattle.qtt_usage.specs.Uses.{Key, Use, zero_use, unit, out}
use Rattle.qtt_prims.specs.declared.lit.Lit.{Lit}
use Rattle.qtt_term.specs.Term.{Named, Form, zeros, binders, Term, Terms, var, node, Sort, Pi, Lam, App, Fam, Delete, Def, Trap, Tape}
use Rattle.qtt_term.specs.Substitution.{sub, push, inst, closed}
use Rattle.qtt_term.specs.Signature.{ConSig, Env, There, NamedThere, signature, definition_at, fam_at, EqTy, Refl, HandleTy}
use Rattle.qtt_term.specs.Contraction.{Conv, literal_term}
use Rattle.qtt_term.specs.Judgement.{Ctx, InScope, mult_at, type_at, IsCon, Part, under, InRun, Usable, UseIs, Judged, sum_of, join_of, total, erase_binds, Args, ParamsThenArgs, Cases, Rule, Typed, TypedAll}

-- in one environment, part and context
pub record Inversion (E : Env) (p : Part) (Γ : Ctx) : Type 0 where
  pub variable : (i : ℕ) (C : Term) (u : Use) → Typed E p Γ (var i) C u →
      InScope Γ i × Usable p (mult_at Γ i) × Conv E (type_at Γ i) C × UseIs p Γ (unit (Key.v i)) u
  -- of every form: its rule, whose components are judged, whose type is convertible to the given one, and whose
  -- use is the given one
  pub form : (F : Form) (ts : Terms) (C : Term) (u : Use) → Typed E p Γ (node F ts) C u →
      (js : List Judged) × (R : Term) × (own : Use) × Rule E p F ts js R own × TypedAll E p Γ (binders F) ts js ×
      Conv E R C × UseIs p Γ (total own js) u
  -- and of each
  pub sort : (l : ℕ) (C : Term) (u : Use) → Typed E p Γ (Sort l) C u → Conv E (Sort (suc l)) C × UseIs p Γ zero_use u
  pub pi : (q : Mult) (A B C : Term) (u : Use) → Typed E p Γ (Pi q A B) C u →
      (i : ℕ) × (j : ℕ) × (w : Use) × (z : Use) × Typed E Part.erased Γ A (Sort i) w × Typed E Part.erased
      ((q, A) ∷ Γ) B (Sort j) z
      × Conv E (Sort (max i j)) C × UseIs p Γ zero_use u
  pub lam : (q : Mult) (A b C : Term) (u : Use) → Typed E p Γ (Lam q A b) C u →
      (i : ℕ) × (B : Term) × (w : Use) × (z : Use) × Typed E Part.erased Γ A (Sort i) w × Typed E p ((q, A) ∷ Γ) b B z
      × InRun p (z (Key.v 0) ≼ q) × Conv E (Pi q A B) C × UseIs p Γ (out z) u
  pub app : (q : Mult) (f a C : Term) (u : Use) → Typed E p Γ (App q f a) C u →
      (A : Term) × (B : Term) × (w : Use) × (z : Use) × Typed E p Γ f (Pi q A B) w × Typed E (under p q) Γ a A z
      × Conv E (inst B a) C × UseIs p Γ (λ x. w x ⊕ q ⊙ z x) u
  pub family : (f : GlobalId) (ts : Terms) (C : Term) (u : Use) → Typed E p Γ (Fam f ts) C u →
      (js : List Judged) × (R : Term) × There (E.family f)
      × ParamsThenArgs (erase_binds (fam_at E f).indices) (fam_at E f).params closed ts js
      (Sort (fam_at E f).level) R × TypedAll E p Γ [] ts js
      × Conv E R C × UseIs p Γ zero_use u
  pub constructor : (f : GlobalId) (n k : ℕ) (ts : Terms) (C : Term) (u : Use) →
      Typed E p Γ (node (Form.con f n k) ts) C u →
      (c : ConSig) × (js : List Judged) × (R : Term) × IsCon (fam_at E f).constructors n c ×
      (k ≡ length (fam_at E f).params)
      × ParamsThenArgs c.fields (fam_at E f).params closed ts js c.result R × TypedAll E p Γ [] ts js ×
      Conv E R C × UseIs p Γ (sum_of js) u
  pub case : (q : Mult) (f : GlobalId) (k m : ℕ) (ns : List ℕ) (ts : Terms) (C : Term) (u : Use) →
      Typed E p Γ (node (Form.case q f k m ns) ts) C u →
      (js : List Judged) × (R : Term) × There (E.family f) × Usable p q × Cases (fam_at E f) q
      (fam_at E f).params closed k m ns ts js R
      × TypedAll E p Γ (zeros k (m ∷ ns)) ts js × Conv E R C × UseIs p Γ (λ x. sum_of js x ⊕ join_of js x) u
  pub delete : (q : Mult) (A s P b e C : Term) (u : Use) → Typed E p Γ (Delete q A s P b e) C u →
      (l : ℕ) × (u₁ : Use) × (u₂ : Use) × (u₃ : Use) × (w : Use) ×
      (z : Use) × Usable p q × Typed E Part.erased Γ A (Sort 0) u₁ × Typed E Part.erased Γ s A u₂
      × Typed E Part.erased ((q, EqTy A s s) ∷ Γ) P (Sort l) u₃ × Typed E p Γ b (inst P (Refl A s)) w ×
      Typed E (under p q) Γ e (EqTy A s s) z
      × Conv E (inst P e) C × UseIs p Γ (λ x. w x ⊕ q ⊙ z x) u
  -- a definition, a literal, a primitive type, a primitive or an action, with its arguments
  pub named : (n : Named) (ts : Terms) (C : Term) (u : Use) → Typed E p Γ (node (Form.named n) ts) C u →
      (js : List Judged) × NamedThere E n × Usable p (signature E n).mult ×
      Args (signature E n).arguments closed ts js × TypedAll E p Γ [] ts js
      × Conv E (sub (push ts closed) (signature E n).type) C × UseIs p Γ (sum_of js) u
  pub definition : (d : GlobalId) (C : Term) (u : Use) → Typed E p Γ (Def d) C u →
      There (E.definition d) × Usable p (definition_at E d).mult ×
      Conv E (sub closed (definition_at E d).type) C × UseIs p Γ zero_use u
  pub literal : (l : Lit) (C : Term) (u : Use) → Typed E p Γ (literal_term l) C u →
      Conv E (signature E (Named.lit l)).type C × UseIs p Γ zero_use u
  -- a Trap has any use
  pub trap : (A C : Term) (u : Use) → Typed E p Γ (Trap A) C u →
      (i : ℕ) × (w : Use) × Typed E Part.erased Γ A (Sort i) w × Conv E A C
  pub tape : (h : ℕ) (C : Term) (u : Use) → Typed E p Γ (Tape h) C u → Conv E HandleTy C × UseIs p Γ (unit (Key.h h)) u
