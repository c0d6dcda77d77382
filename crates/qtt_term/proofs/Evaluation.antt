-- Values are the terms that full evaluation keeps, and a full step is a contraction in the place of evaluation.
use Rattle.std.proofs.Common.{◌≡◌, List, [], ◌∷◌, Option, Some, None, refl, sym, ◌∙◌, ap, subst, ◌⊎◌, inl, inr}
use Rattle.qtt_usage.specs.declared.mult.Mult.{Mult}
use Rattle.qtt_usage.specs.Mult.{𝟘, 𝟙, ω}
use Rattle.qtt_prims.specs.declared.prim.Primitive.{Primitive}
use Rattle.qtt_prims.specs.declared.lit.Lit.{Lit}
use Rattle.qtt_prims.specs.declared.lit.Lit.TheVariants as literal
use Rattle.qtt_prims.specs.declared.answer.PrimAnswer.{PrimAnswer}
use Rattle.qtt_prims.specs.declared.answer.PrimAnswer.TheVariants as answer
use Rattle.qtt_prims.specs.Apply.{apply}
use Rattle.qtt_term.specs.Term.{PrimTy, Named, Form, Term, Terms, var, node, ε, ◌▸◌}
use Rattle.qtt_term.specs.Signature.{Env}
use Rattle.qtt_term.specs.Contraction.{chain, literals, answer_term, computed, contract, Step, Steps}
use Rattle.qtt_term.specs.Value.{demanded, Value, Values}
use Rattle.qtt_term.specs.FullStep.{Outcome, Outcomes, behind, before, component, contracts_to, answers, primitive, itself, finish, full_step, full_steps}
use Rattle.qtt_term.specs.Judgement.{Part, Usable}

-- ---- what gives a value
pub contracts-value : (o : Option Term) → contracts_to o ≡ Outcome.value → ⊥
contracts-value (Some t) e = cc e
contracts-value None e = cc e

answers-value : (a : PrimAnswer) → answers a ≡ Outcome.value → ⊥
answers-value (answer.Value l) e = cc e
answers-value (answer.Truth b) e = cc e
answers-value answer.DivisionByZero e = cc e
answers-value answer.IllTyped e = cc e

pub primitive-value : (p : Primitive) (o : Option (List Lit)) → primitive p o ≡ Outcome.value → ⊥
primitive-value p None e = cc e
primitive-value p (Some ls) e = answers-value (apply p ls) e

pub behind-values : (t : Term) (r : Outcomes) → behind t r ≡ Outcomes.values → r ≡ Outcomes.values
behind-values t Outcomes.values e = refl
behind-values t (Outcomes.steps ss) e = absurd (cc e)
behind-values t (Outcomes.traps k) e = absurd (cc e)
behind-values t Outcomes.sticks e = absurd (cc e)

pub before-values : (o : Outcome) (t : Term) (ts : Terms) (r : Outcomes) → before o t ts r ≡ Outcomes.values →
    (o ≡ Outcome.value) × (r ≡ Outcomes.values)
before-values Outcome.value t ts r e = (refl, behind-values t r e)
before-values (Outcome.step s) t ts r e = absurd (cc e)
before-values (Outcome.trap k) t ts r e = absurd (cc e)
before-values Outcome.stuck t ts r e = absurd (cc e)

pub finish-values : (E : Env) (F : Form) (ts : Terms) (o : Outcomes) → finish E F ts o ≡ Outcome.value →
    (o ≡ Outcomes.values) × (itself E F ts ≡ Outcome.value)
finish-values E F ts Outcomes.values e = (refl, e)
finish-values E F ts (Outcomes.steps ss) e = absurd (cc e)
finish-values E F ts (Outcomes.traps k) e = absurd (cc e)
finish-values E F ts Outcomes.sticks e = absurd (cc e)

-- ---- a value is kept
nothing-asked : (E : Env) (ts : Terms) → full_steps E [] ts ≡ Outcomes.values
nothing-asked E ε = refl
nothing-asked E (t ▸ ts) = refl

nothing-left : (E : Env) (ms : List Mult) → full_steps E ms ε ≡ Outcomes.values
nothing-left E [] = refl
nothing-left E (m ∷ ms) = refl

one-kept : (E : Env) (ts : Terms) → full_steps E (𝟘 ∷ []) ts ≡ Outcomes.values
one-kept E ε = refl
one-kept E (t ▸ ts) = rw (nothing-asked E ts) refl

node-is : (E : Env) (F : Form) (ts : Terms) → full_steps E (demanded E F) ts ≡ Outcomes.values →
    itself E F ts ≡ Outcome.value → full_step E (node F ts) ≡ Outcome.value
node-is E F ts h e = ap (finish E F ts) h ∙ e

type-kept : (E : Env) (p : PrimTy) (ts : Terms) → full_step E (node (Form.named (Named.prim_ty p)) ts) ≡ Outcome.value
type-kept E PrimTy.int ts = node-is E (Form.named (Named.prim_ty PrimTy.int)) ts (nothing-asked E ts) refl
type-kept E PrimTy.string ts = node-is E (Form.named (Named.prim_ty PrimTy.string)) ts (nothing-asked E ts) refl
type-kept E PrimTy.handle ts = node-is E (Form.named (Named.prim_ty PrimTy.handle)) ts (nothing-asked E ts) refl
type-kept E (PrimTy.io_of m) ts = node-is E (Form.named (Named.prim_ty (PrimTy.io_of m))) ts (one-kept E ts) refl

lit-kept : (E : Env) (l : Lit) (ts : Terms) → full_step E (node (Form.named (Named.lit l)) ts) ≡ Outcome.value
lit-kept E (literal.Int z) ts = node-is E (Form.named (Named.lit (literal.Int z))) ts (nothing-asked E ts) refl
lit-kept E (literal.Text s) ts = node-is E (Form.named (Named.lit (literal.Text s))) ts (nothing-asked E ts) refl

module _ {E : Env} where
  mutual
    pub value-kept : {t : Term} → Value E t → full_step E t ≡ Outcome.value
    value-kept (Value.sort {l = l} {ts = ts}) = node-is E (Form.sort l) ts (nothing-asked E ts) refl
    value-kept (Value.pi {q = q} {ts = ts}) = node-is E (Form.pi q) ts (nothing-asked E ts) refl
    value-kept (Value.fam {f = f} {ts = ts}) = node-is E (Form.fam f) ts (nothing-asked E ts) refl
    value-kept (Value.prim_ty {p = p} {ts = ts}) = type-kept E p ts
    value-kept (Value.lam {q = q} {ts = ts}) = node-is E (Form.lam q) ts (nothing-asked E ts) refl
    value-kept (Value.lit {l = l} {ts = ts}) = lit-kept E l ts
    value-kept (Value.tape {n = n} {ts = ts}) = node-is E (Form.tape n) ts (nothing-asked E ts) refl
    value-kept (Value.con {f = f} {c = c} {k = k} {ts = ts} h) = node-is E (Form.con f c k) ts (values-kept h) refl
    value-kept (Value.act {a = a} {k = k} {ts = ts} h) = node-is E (Form.named (Named.act a k)) ts (values-kept h) refl

    values-kept : {ms : List Mult} {ts : Terms} → Values E ms ts → full_steps E ms ts ≡ Outcomes.values
    values-kept (Values.none {ts = ts}) = nothing-asked E ts
    values-kept (Values.no_more {ms = ms}) = nothing-left E ms
    values-kept (Values.kept_one h) = rw (values-kept h) refl
    values-kept (Values.one v h) = rw (value-kept v, values-kept h) refl
    values-kept (Values.many v h) = rw (value-kept v, values-kept h) refl

-- ---- what is kept is a value
node-value : (E : Env) (F : Form) (ts : Terms) → itself E F ts ≡ Outcome.value → Values E (demanded E F) ts →
    Value E (node F ts)
node-value E (Form.sort l) ts e h = Value.sort
node-value E (Form.pi q) ts e h = Value.pi
node-value E (Form.lam q) ts e h = Value.lam
node-value E (Form.fam f) ts e h = Value.fam
node-value E (Form.con f c k) ts e h = Value.con h
node-value E (Form.tape n) ts e h = Value.tape
node-value E (Form.named (Named.lit l)) ts e h = Value.lit
node-value E (Form.named (Named.prim_ty p)) ts e h = Value.prim_ty
node-value E (Form.named (Named.act a k)) ts e h = Value.act h
node-value E (Form.named (Named.def d)) ts e h = absurd (contracts-value _ e)
node-value E (Form.named (Named.prim p)) ts e h = absurd (primitive-value p _ e)
node-value E (Form.app q) ts e h = absurd (contracts-value _ e)
node-value E (Form.case q f k m ns) ts e h = absurd (contracts-value _ e)
node-value E (Form.delete q) ts e h = absurd (contracts-value _ e)
node-value E Form.trap ts e h = absurd (cc e)

mutual
  pub kept-value : (E : Env) (t : Term) → full_step E t ≡ Outcome.value → Value E t
  kept-value E (var i) e = absurd (cc e)
  kept-value E (node F ts) e =
      let r = finish-values E F ts (full_steps E (demanded E F) ts) e in
      node-value E F ts r.1 (kept-values E (demanded E F) ts r.0)

  kept-values : (E : Env) (ms : List Mult) (ts : Terms) → full_steps E ms ts ≡ Outcomes.values → Values E ms ts
  kept-values E [] ts e = Values.none
  kept-values E (m ∷ ms) ε e = Values.no_more
  kept-values E (𝟘 ∷ ms) (t ▸ ts) e = Values.kept_one (kept-values E ms ts (behind-values t _ e))
  kept-values E (𝟙 ∷ ms) (t ▸ ts) e =
      let b = before-values (full_step E t) t ts (full_steps E ms ts) e in Values.one (kept-value E t b.0)
      (kept-values E ms ts b.1)
  kept-values E (ω ∷ ms) (t ▸ ts) e =
      let b = before-values (full_step E t) t ts (full_steps E ms ts) e in Values.many (kept-value E t b.0)
      (kept-values E ms ts b.1)

-- ---- a contraction in the place of evaluation: inside, in a component that is not at 0
mutual
  pub data Move (E : Env) : Term → Term → Type 0 where
    here : {F : Form} {ts : Terms} {t : Term} → contract E F ts ≡ Some t → Move E (node F ts) t
    inside : {F : Form} {ts ss : Terms} → Moves E (demanded E F) ts ss → Move E (node F ts) (node F ss)

  pub data Moves (E : Env) : List Mult → Terms → Terms → Type 0 where
    at : {m : Mult} {ms : List Mult} {t s : Term} {ts : Terms} → Usable Part.run m → Move E t s →
        Moves E (m ∷ ms) (t ▸ ts) (s ▸ ts)
    after : {m : Mult} {ms : List Mult} {t : Term} {ts ss : Terms} → Moves E ms ts ss →
        Moves E (m ∷ ms) (t ▸ ts) (t ▸ ss)

module _ {E : Env} where
  mutual
    pub move-step : {t s : Term} → Move E t s → Step E t s
    move-step (Move.here e) = Step.here e
    move-step (Move.inside h) = Step.inside (moves-steps h)

    moves-steps : {ms : List Mult} {ts ss : Terms} → Moves E ms ts ss → Steps E ts ss
    moves-steps (Moves.at m h) = Steps.at (move-step h)
    moves-steps (Moves.after h) = Steps.after (moves-steps h)

step-of : {t s : Term} → Outcome.step t ≡ Outcome.step s → t ≡ s
step-of e = cc e

steps-of : {ts ss : Terms} → Outcomes.steps ts ≡ Outcomes.steps ss → ts ≡ ss
steps-of e = cc e

contracts-step : (o : Option Term) (s : Term) → contracts_to o ≡ Outcome.step s → o ≡ Some s
contracts-step (Some t) s e = ap Some (step-of e)
contracts-step None s e = absurd (cc e)

answers-step : (a : PrimAnswer) (s : Term) → answers a ≡ Outcome.step s → answer_term a ≡ Some s
answers-step (answer.Value l) s e = contracts-step _ s e
answers-step (answer.Truth b) s e = contracts-step _ s e
answers-step answer.DivisionByZero s e = absurd (cc e)
answers-step answer.IllTyped s e = absurd (cc e)

primitive-step : (p : Primitive) (o : Option (List Lit)) (s : Term) → primitive p o ≡ Outcome.step s →
    chain o (computed p) ≡ Some s
primitive-step p None s e = absurd (cc e)
primitive-step p (Some ls) s e = answers-step (apply p ls) s e

itself-step : (E : Env) (F : Form) (ts : Terms) (s : Term) → itself E F ts ≡ Outcome.step s → contract E F ts ≡ Some s
unfolding contract
itself-step E (Form.app q) ts s e = contracts-step _ s e
itself-step E (Form.case q f k m ns) ts s e = contracts-step _ s e
itself-step E (Form.delete q) ts s e = contracts-step _ s e
itself-step E (Form.named (Named.def d)) ts s e = contracts-step _ s e
itself-step E (Form.named (Named.prim p)) ts s e = primitive-step p (literals ts) s e
itself-step E _ ts s e = absurd (cc e)

abbrev Later : Term → Outcomes → Terms → Type 0
Later t r ss = (rs : Terms) × (r ≡ Outcomes.steps rs) × (ss ≡ t ▸ rs)

abbrev Now : Outcome → Terms → Terms → Type 0
Now o ts ss = (s : Term) × (o ≡ Outcome.step s) × (ss ≡ s ▸ ts)

behind-steps : (t : Term) (r : Outcomes) (ss : Terms) → behind t r ≡ Outcomes.steps ss → Later t r ss
behind-steps t Outcomes.values ss e = absurd (cc e)
behind-steps t (Outcomes.steps rs) ss e = (rs, refl, sym (steps-of e))
behind-steps t (Outcomes.traps k) ss e = absurd (cc e)
behind-steps t Outcomes.sticks ss e = absurd (cc e)

before-steps : (o : Outcome) (t : Term) (ts : Terms) (r : Outcomes) (ss : Terms) →
    before o t ts r ≡ Outcomes.steps ss → Now o ts ss ⊎ Later t r ss
before-steps Outcome.value t ts r ss e = inr (behind-steps t r ss e)
before-steps (Outcome.step s) t ts r ss e = inl (s, refl, sym (steps-of e))
before-steps (Outcome.trap k) t ts r ss e = absurd (cc e)
before-steps Outcome.stuck t ts r ss e = absurd (cc e)

component-steps : (m : Mult) (o : Outcome) (t : Term) (ts : Terms) (r : Outcomes) (ss : Terms) →
    component m o t ts r ≡ Outcomes.steps ss →
    (Usable Part.run m × Now o ts ss) ⊎ Later t r ss
component-steps 𝟘 o t ts r ss e = inr (behind-steps t r ss e)
component-steps 𝟙 o t ts r ss e = elim (before-steps o t ts r ss e) [ inl n ↦ inl (tt, n) | inr l ↦ inr l ]
component-steps ω o t ts r ss e = elim (before-steps o t ts r ss e) [ inl n ↦ inl (tt, n) | inr l ↦ inr l ]

finish-step : (E : Env) (F : Form) (ts : Terms) (o : Outcomes) (s : Term) → finish E F ts o ≡ Outcome.step s →
    ((ss : Terms) × (o ≡ Outcomes.steps ss) × (s ≡ node F ss)) ⊎ (itself E F ts ≡ Outcome.step s)
finish-step E F ts Outcomes.values s e = inr e
finish-step E F ts (Outcomes.steps ss) s e = inl (ss, refl, sym (step-of e))
finish-step E F ts (Outcomes.traps k) s e = absurd (cc e)
finish-step E F ts Outcomes.sticks s e = absurd (cc e)

mutual
  pub full-move : (E : Env) (t s : Term) → full_step E t ≡ Outcome.step s → Move E t s
  full-move E (var i) s e = absurd (cc e)
  full-move E (node F ts) s e =
      elim (finish-step E F ts (full_steps E (demanded E F) ts) s e) [
        | inl r ↦ subst (Move E (node F ts)) (sym r.2) (Move.inside (full-moves E (demanded E F) ts r.0 r.1))
        | inr r ↦ Move.here (itself-step E F ts s r)
      ]

  full-moves : (E : Env) (ms : List Mult) (ts ss : Terms) → full_steps E ms ts ≡ Outcomes.steps ss → Moves E ms ts ss
  full-moves E [] ε ss e = absurd (cc e)
  full-moves E [] (t ▸ ts) ss e = absurd (cc e)
  full-moves E (m ∷ ms) ε ss e = absurd (cc e)
  full-moves E (m ∷ ms) (t ▸ ts) ss e =
      elim (component-steps m (full_step E t) t ts (full_steps E ms ts) ss e) [
        | inl r ↦ subst (Moves E (m ∷ ms) (t ▸ ts)) (sym r.1.2) (Moves.at r.0 (full-move E t r.1.0 r.1.1))
        | inr r ↦ subst (Moves E (m ∷ ms) (t ▸ ts)) (sym r.2) (Moves.after (full-moves E ms ts r.0 r.1))
      ]
