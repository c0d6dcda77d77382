-- Erased terms run in step with their terms.
use Rattle.std.proofs.Common.{◌≡◌, ◌≢◌, ℕ, zero, suc, List, [], ◌∷◌, length, Option, Some, None, refl, sym, ◌∙◌, ap, subst, ◌⊎◌, inl, inr}
use Rattle.qtt_base.specs.declared.place.GlobalId.{GlobalId}
use Rattle.qtt_usage.specs.declared.mult.Mult.{Mult}
use Rattle.qtt_usage.specs.Mult.{𝟘, 𝟙, ω}
use Rattle.qtt_prims.specs.declared.prim.Primitive.{Primitive}
use Rattle.qtt_prims.specs.declared.prim.Primitive.TheVariants as prim
use Rattle.qtt_prims.specs.declared.lit.Lit.{Lit}
use Rattle.qtt_prims.specs.declared.lit.Lit.TheVariants as literal
use Rattle.qtt_prims.specs.declared.answer.PrimAnswer.{PrimAnswer}
use Rattle.qtt_prims.specs.declared.answer.PrimAnswer.TheVariants as answer
use Rattle.qtt_prims.specs.Apply.{of_numbers, of_number, of_texts, apply}
use Rattle.std.specs.Prelude.{ℤ, true, false}
use Rattle.qtt_term.specs.Term.{PrimTy, Named, Form, Term, Terms, var, node, ε, ◌▸◌, skip, Lam}
use Rattle.qtt_term.specs.Substitution.{inst}
use Rattle.qtt_term.specs.Signature.{Constructor, Env, definition_at, family_at, signature}
use Rattle.qtt_term.specs.Value.{mults, field_mults, kept, demanded}
use Rattle.qtt_term.specs.Contraction as whole
use Rattle.qtt_term.specs.Contraction.{chain, contract}
use Rattle.qtt_term.specs.FullStep as full
use Rattle.qtt_term.specs.Judgement.{Part, Usable}
use Rattle.qtt_term.proofs.Options.{none≢some, some-injective, chain-some}
use Rattle.qtt_erase.specs.Lean as lean
use Rattle.qtt_erase.specs.Binding.{∅, ◌◂◌}
use Rattle.qtt_erase.specs.Operator.{waiting_of}
use Rattle.qtt_erase.specs.Step as step
use Rattle.qtt_erase.specs.Step.{Outcome, nexts}
use Rattle.qtt_erase.specs.Lean.{Abstraction, Lean, Leans, abstractions}
use Rattle.qtt_erase.specs.Erasure.{Slot, Fate, arguments, without, branches, fates, kept_binders, operator, extend, erase, erases, erased_body, erased_bodies}
use Rattle.qtt_erase.specs.ErasedUse.{NamesNoZero, NoErasedUse, NoErasedUses, Erasable}
use Rattle.qtt_erase.specs.Laws.{erased_step, ErasedTermsRunInStep}
use Rattle.qtt_erase.proofs.Contracting.{as_lam-is, as_lit-is, beta-filled, beta-gone, iota-erased, deletion-erased, nothing-erased, erases-without, cleans-without}

-- ---- what is evaluated of a form is what is evaluated of its operator
-- multiplicities of components, their fates, and how many of those that are left wait
abbrev pub Evaluated : List Mult → List Fate → ℕ → Type 0
Evaluated [] [] n = Unit {0}
Evaluated [] (None ∷ fs) n = Evaluated [] fs n
Evaluated [] (Some ss ∷ fs) zero = ⊥
Evaluated [] (Some ss ∷ fs) (suc n) = Evaluated [] fs n
Evaluated (𝟘 ∷ ms) [] n = Evaluated ms [] n
Evaluated (𝟘 ∷ ms) (None ∷ fs) n = Evaluated ms fs n
Evaluated (𝟘 ∷ ms) (Some ss ∷ fs) zero = ⊥
Evaluated (𝟘 ∷ ms) (Some ss ∷ fs) (suc n) = Evaluated ms fs n
Evaluated (𝟙 ∷ ms) (Some [] ∷ fs) zero = Evaluated ms fs zero
Evaluated (𝟙 ∷ ms) (Some [] ∷ fs) (suc n) = ⊥
Evaluated (𝟙 ∷ ms) (Some (s ∷ ss) ∷ fs) n = ⊥
Evaluated (𝟙 ∷ ms) (None ∷ fs) n = ⊥
Evaluated (𝟙 ∷ ms) [] n = ⊥
Evaluated (ω ∷ ms) (Some [] ∷ fs) zero = Evaluated ms fs zero
Evaluated (ω ∷ ms) (Some [] ∷ fs) (suc n) = ⊥
Evaluated (ω ∷ ms) (Some (s ∷ ss) ∷ fs) n = ⊥
Evaluated (ω ∷ ms) (None ∷ fs) n = ⊥
Evaluated (ω ∷ ms) [] n = ⊥

arguments-evaluated : (ms : List Mult) → Evaluated ms (arguments ms) zero
arguments-evaluated [] = tt
arguments-evaluated (𝟘 ∷ ms) = arguments-evaluated ms
arguments-evaluated (𝟙 ∷ ms) = arguments-evaluated ms
arguments-evaluated (ω ∷ ms) = arguments-evaluated ms

without-kept : (k : ℕ) (ms : List Mult) (fs : List Fate) (n : ℕ) → Evaluated ms fs n →
    Evaluated (kept k ms) (without k fs) n
without-kept zero ms fs n h = h
without-kept (suc k) ms fs n h = without-kept k ms fs n h

branches-wait : (q : Mult) (cs : List Constructor) (ns : List ℕ) →
    Evaluated (kept (length ns) (𝟙 ∷ [])) (branches q cs ns) (length (kept_binders q cs ns))
branches-wait q cs [] = tt
branches-wait q [] (n ∷ ns) = branches-wait q [] ns
branches-wait q (c ∷ cs) (n ∷ ns) = branches-wait q cs ns

form-evaluated : (E : Env) (F : Form) →
    Evaluated (demanded E F) (fates E F) (waiting_of abstractions.waiting (operator E F))
form-evaluated E (Form.lam 𝟘) = tt
form-evaluated E (Form.lam 𝟙) = tt
form-evaluated E (Form.lam ω) = tt
form-evaluated E (Form.app 𝟘) = tt
form-evaluated E (Form.app 𝟙) = tt
form-evaluated E (Form.app ω) = tt
form-evaluated E (Form.con f c k) =
    without-kept k _ _ _ (arguments-evaluated (field_mults (family_at E f).constructors c))
form-evaluated E (Form.case q f k m ns) = without-kept k _ _ _ (branches-wait q (family_at E f).constructors ns)
form-evaluated E (Form.delete q) = tt
form-evaluated E (Form.named (Named.prim p)) = arguments-evaluated (mults (signature E (Named.prim p)).arguments)
form-evaluated E (Form.named (Named.act a k)) = arguments-evaluated (mults (signature E (Named.act a k)).arguments)
form-evaluated E (Form.named (Named.def d)) = tt
form-evaluated E (Form.named (Named.lit (literal.Int z))) = tt
form-evaluated E (Form.named (Named.lit (literal.Text s))) = tt
form-evaluated E (Form.named (Named.prim_ty PrimTy.int)) = tt
form-evaluated E (Form.named (Named.prim_ty PrimTy.string)) = tt
form-evaluated E (Form.named (Named.prim_ty PrimTy.handle)) = tt
form-evaluated E (Form.named (Named.prim_ty (PrimTy.io_of m))) = tt
form-evaluated E (Form.sort l) = tt
form-evaluated E (Form.pi q) = tt
form-evaluated E (Form.fam f) = tt
form-evaluated E Form.trap = tt
form-evaluated E (Form.tape n) = tt

-- ---- answers in step
contracts-no_value : (o : Option Lean) → step.contracts_to o ≢ Outcome.value
contracts-no_value None e = cc e
contracts-no_value (Some t) e = cc e

answers-no_value : (a : PrimAnswer) → step.answers {A = Abstraction} a ≢ Outcome.value
answers-no_value (answer.Value l) e = cc e
answers-no_value (answer.Truth b) e = cc e
answers-no_value answer.DivisionByZero e = cc e
answers-no_value answer.IllTyped e = cc e

primitive-no_value : (p : Primitive) (o : Option (List Lit)) → step.primitive {A = Abstraction} p o ≢ Outcome.value
primitive-no_value p None e = cc e
primitive-no_value p (Some ls) e = answers-no_value (apply p ls) e

module _ (E : Env) where
  abbrev pub Agrees : full.Outcome → Outcome Lean → Type 0
  Agrees full.Outcome.value o = o ≡ Outcome.value
  Agrees (full.Outcome.step s) o = (o ≡ Outcome.step (erase E [] s)) × NoErasedUse E [] s
  Agrees (full.Outcome.trap k) o = o ≡ Outcome.trap k
  Agrees full.Outcome.stuck o = o ≢ Outcome.value

  abbrev AllAgree : List Fate → full.Outcomes → Outcome Leans → Type 0
  AllAgree fs full.Outcomes.values o = o ≡ Outcome.value
  AllAgree fs (full.Outcomes.steps ss) o = (o ≡ Outcome.step (erases E [] fs ss)) × NoErasedUses E [] fs ss
  AllAgree fs (full.Outcomes.traps k) o = o ≡ Outcome.trap k
  AllAgree fs full.Outcomes.sticks o = o ≢ Outcome.value

  -- ---- a form whose evaluated components are values
  contracts-agree : (o : Option Term) (l : Option Lean) →
      ((r : Term) → o ≡ Some r → (l ≡ Some (erase E [] r)) × NoErasedUse E [] r) →
      Agrees (full.contracts_to o) (step.contracts_to l)
  contracts-agree None l h = contracts-no_value l
  contracts-agree (Some r) l h = let p = h r refl in (ap step.contracts_to p.0, p.1)

  -- ---- beta
  thunk-called : (g a : Term) (m : whole.Function) (r : Term) → whole.as_lam g ≡ Some m →
      whole.call 𝟘 a m ≡ Some r → NoErasedUse E [] g →
      (step.forcing abstractions (erase E [] g ◂ ∅) ≡ Some (erase E [] r)) × NoErasedUse E [] r
  thunk-called g a (whole.Function.function 𝟘 b) r eg e u =
      let l = as_lam-is g 𝟘 b eg in
      let w = beta-gone E b a (let v : NoErasedUse E [] (Lam 𝟘 l.0 b) = subst (NoErasedUse E []) l.1 u in v.1.0) in
      let h : inst b a ≡ r = some-injective e in (
        ap (λ x. step.forcing abstractions (erase E [] x ◂ ∅)) l.1 ∙ ap Some (w.0 ∙ ap (erase E []) h),
        subst (NoErasedUse E []) h w.1,
      )
  thunk-called g a (whole.Function.function 𝟙 b) r eg e u = absurd (none≢some e)
  thunk-called g a (whole.Function.function ω b) r eg e u = absurd (none≢some e)

  applied : (g a b r : Term) → erase E [] g ≡ lean.Fun (erase E (Slot.filled ∷ []) b) →
      NoErasedUse E (Slot.filled ∷ []) b → NoErasedUse E [] a → inst b a ≡ r →
      (step.beta abstractions (erase E [] g ◂ erase E [] a ◂ ∅) ≡ Some (erase E [] r)) × NoErasedUse E [] r
  applied g a b r eg u v h =
      let w = beta-filled E b a u v in (
        ap (λ x. step.beta abstractions (x ◂ erase E [] a ◂ ∅)) eg ∙ ap Some (w.0 ∙ ap (erase E []) h),
        subst (NoErasedUse E []) h w.1,
      )

  fun-called : (q : Mult) (g a : Term) (m : whole.Function) (r : Term) → Usable Part.run q →
      whole.as_lam g ≡ Some m → whole.call q a m ≡ Some r →
      NoErasedUse E [] g → NoErasedUse E [] a →
      (step.beta abstractions (erase E [] g ◂ erase E [] a ◂ ∅) ≡ Some (erase E [] r)) × NoErasedUse E [] r
  fun-called 𝟘 g a m r used eg e u v = absurd used
  fun-called 𝟙 g a (whole.Function.function 𝟙 b) r used eg e u v =
      let l = as_lam-is g 𝟙 b eg in
      let w : NoErasedUse E [] (Lam 𝟙 l.0 b) = subst (NoErasedUse E []) l.1 u in
      applied g a b r (ap (erase E []) l.1) w.1.0 v (some-injective e)
  fun-called ω g a (whole.Function.function ω b) r used eg e u v =
      let l = as_lam-is g ω b eg in
      let w : NoErasedUse E [] (Lam ω l.0 b) = subst (NoErasedUse E []) l.1 u in
      applied g a b r (ap (erase E []) l.1) w.1.0 v (some-injective e)
  fun-called 𝟙 g a (whole.Function.function 𝟘 b) r used eg e u v = absurd (none≢some e)
  fun-called 𝟙 g a (whole.Function.function ω b) r used eg e u v = absurd (none≢some e)
  fun-called ω g a (whole.Function.function 𝟘 b) r used eg e u v = absurd (none≢some e)
  fun-called ω g a (whole.Function.function 𝟙 b) r used eg e u v = absurd (none≢some e)

  forced-agrees : (ts : Terms) (r : Term) → whole.beta 𝟘 ts ≡ Some r → NoErasedUses E [] (Some [] ∷ None ∷ []) ts →
      (step.forcing abstractions (erases E [] (Some [] ∷ None ∷ []) ts) ≡ Some (erase E [] r)) × NoErasedUse E [] r
  forced-agrees (g ▸ a ▸ ε) r e u =
      let m = chain-some (whole.as_lam g) (whole.call 𝟘 a) r e in
      thunk-called g a m.0 r m.1 m.2 u.0
  forced-agrees _ r e u = absurd (none≢some e)

  beta-agrees : (q : Mult) → Usable Part.run q → (ts : Terms) (r : Term) → whole.beta q ts ≡ Some r →
      NoErasedUses E [] (Some [] ∷ Some [] ∷ []) ts →
      (step.beta abstractions (erases E [] (Some [] ∷ Some [] ∷ []) ts) ≡ Some (erase E [] r)) × NoErasedUse E [] r
  beta-agrees q used (g ▸ a ▸ ε) r e u =
      let m = chain-some (whole.as_lam g) (whole.call q a) r e in
      fun-called q g a m.0 r used m.1 m.2 u.0 u.1.0
  beta-agrees q used _ r e u = absurd (none≢some e)

  -- ---- delta
  body-erased : (m : Mult) (o : Option Term) (r : Term) → Usable Part.run m → o ≡ Some r →
      erased_body E m o ≡ Some (erase E [] r)
  body-erased 𝟘 o r used e = absurd used
  body-erased 𝟙 None r used e = absurd (none≢some e)
  body-erased 𝟙 (Some b) r used e = ap (λ x. Some (erase E [] x)) (some-injective e)
  body-erased ω None r used e = absurd (none≢some e)
  body-erased ω (Some b) r used e = ap (λ x. Some (erase E [] x)) (some-injective e)

  delta-agrees : Erasable E → (d : GlobalId) → Usable Part.run (definition_at E d).mult →
      (ts : Terms) (r : Term) → whole.delta E d ts ≡ Some r →
      (erased_bodies E d ≡ Some (erase E [] r)) × NoErasedUse E [] r
  delta-agrees h d used ε r e =
      (body-erased (definition_at E d).mult (definition_at E d).body r used e, h.bodies d r used e)
  delta-agrees h d used (t ▸ ts) r e = absurd (none≢some e)

  -- ---- primitives
  literals-cons : (t : Term) (ts : Terms) (ls : List Lit) → whole.literals (t ▸ ts) ≡ Some ls →
      (l : Lit) × (ks : List Lit) × (whole.as_lit t ≡ Some l) × (whole.literals ts ≡ Some ks) × (ls ≡ l ∷ ks)
  literals-cons t ts ls e =
      let p = chain-some (whole.as_lit t) (λ l. chain (whole.literals ts) (λ ks. Some (l ∷ ks))) ls e in
      let q = chain-some (whole.literals ts) (λ ks. Some (p.0 ∷ ks)) ls p.2 in
      (p.0, q.0, p.1, q.1, sym (some-injective q.2))

  literal-left : (t : Term) (l : Lit) → whole.as_lit t ≡ Some l → step.as_lit (erase E [] t) ≡ Some l
  literal-left t l e = ap (λ x. step.as_lit (erase E [] x)) (as_lit-is t l e)

  one-left : (ts : Terms) (a : Lit) → whole.literals ts ≡ Some (a ∷ []) →
      step.literals (erases E [] (Some [] ∷ []) ts) ≡ Some (a ∷ [])
  one-left ε a e = absurd (cc (some-injective e))
  one-left (t ▸ ts) a e =
      let p = literals-cons t ts (a ∷ []) e in
      let l : p.0 ≡ a = cc (p.4) in
      ap (λ ls. step.literals (erase E [] t ◂ ls)) (nothing-erased E [] ts)
      ∙ ap (λ o. chain o (λ x. Some (x ∷ []))) (literal-left t p.0 p.2 ∙ ap Some l)

  two-left : (ts : Terms) (a b : Lit) → whole.literals ts ≡ Some (a ∷ b ∷ []) →
      step.literals (erases E [] (Some [] ∷ Some [] ∷ []) ts) ≡ Some (a ∷ b ∷ [])
  two-left ε a b e = absurd (cc (some-injective e))
  two-left (t ▸ ts) a b e =
      let p = literals-cons t ts (a ∷ b ∷ []) e in
      let l : p.0 ≡ a = cc (p.4) in
      let k : p.1 ≡ b ∷ [] = cc (p.4) in
      ap (λ o. chain o (λ x. chain (step.literals (erases E [] (Some [] ∷ []) ts)) (λ xs. Some (x ∷ xs))))
      (literal-left t p.0 p.2 ∙ ap Some l)
      ∙ ap (λ o. chain o (λ xs. Some (a ∷ xs))) (one-left ts b (p.3 ∙ ap Some k))

  answers-agree : (a : PrimAnswer) → Agrees (full.answers a) (step.answers a)
  answers-agree (answer.Value l) = (refl, (tt, tt))
  answers-agree (answer.Truth false) = (refl, (tt, tt))
  answers-agree (answer.Truth true) = (refl, (tt, tt))
  answers-agree answer.DivisionByZero = refl
  answers-agree answer.IllTyped = λ e. cc e

  -- literals on which a primitive has an answer are all left
  numbers-left : (f : ℤ → ℤ → PrimAnswer) (ts : Terms) (ls : List Lit) → whole.literals ts ≡ Some ls →
      (of_numbers f ls ≡ answer.IllTyped) ⊎ (step.literals (erases E [] (Some [] ∷ Some [] ∷ []) ts) ≡ Some ls)
  numbers-left f ts [] e = inl refl
  numbers-left f ts (literal.Int x ∷ []) e = inl refl
  numbers-left f ts (literal.Text s ∷ []) e = inl refl
  numbers-left f ts (a ∷ b ∷ []) e = inr (two-left ts a b e)
  numbers-left f ts (literal.Int x ∷ literal.Int y ∷ c ∷ ls) e = inl refl
  numbers-left f ts (literal.Int x ∷ literal.Text s ∷ c ∷ ls) e = inl refl
  numbers-left f ts (literal.Text s ∷ b ∷ c ∷ ls) e = inl refl

  texts-left : (f : List ℕ → List ℕ → PrimAnswer) (ts : Terms) (ls : List Lit) → whole.literals ts ≡ Some ls →
      (of_texts f ls ≡ answer.IllTyped) ⊎ (step.literals (erases E [] (Some [] ∷ Some [] ∷ []) ts) ≡ Some ls)
  texts-left f ts [] e = inl refl
  texts-left f ts (literal.Int x ∷ []) e = inl refl
  texts-left f ts (literal.Text s ∷ []) e = inl refl
  texts-left f ts (a ∷ b ∷ []) e = inr (two-left ts a b e)
  texts-left f ts (literal.Text s ∷ literal.Text t ∷ c ∷ ls) e = inl refl
  texts-left f ts (literal.Text s ∷ literal.Int y ∷ c ∷ ls) e = inl refl
  texts-left f ts (literal.Int x ∷ b ∷ c ∷ ls) e = inl refl

  number-left : (f : ℤ → PrimAnswer) (ts : Terms) (ls : List Lit) → whole.literals ts ≡ Some ls →
      (of_number f ls ≡ answer.IllTyped) ⊎ (step.literals (erases E [] (Some [] ∷ []) ts) ≡ Some ls)
  number-left f ts [] e = inl refl
  number-left f ts (a ∷ []) e = inr (one-left ts a e)
  number-left f ts (literal.Int x ∷ b ∷ ls) e = inl refl
  number-left f ts (literal.Text s ∷ b ∷ ls) e = inl refl

  literals-left : (p : Primitive) (ts : Terms) (ls : List Lit) → whole.literals ts ≡ Some ls →
      (apply p ls ≡ answer.IllTyped) ⊎ (step.literals (erases E [] (fates E (Form.named (Named.prim p))) ts) ≡ Some ls)
  literals-left prim.AddInt ts ls e = numbers-left _ ts ls e
  literals-left prim.SubInt ts ls e = numbers-left _ ts ls e
  literals-left prim.MulInt ts ls e = numbers-left _ ts ls e
  literals-left prim.DivInt ts ls e = numbers-left _ ts ls e
  literals-left prim.ModInt ts ls e = numbers-left _ ts ls e
  literals-left prim.EqInt ts ls e = numbers-left _ ts ls e
  literals-left prim.LtInt ts ls e = numbers-left _ ts ls e
  literals-left prim.AppendString ts ls e = texts-left _ ts ls e
  literals-left prim.EqString ts ls e = texts-left _ ts ls e
  literals-left prim.ShowInt ts ls e = number-left _ ts ls e

  primitive-agrees : (p : Primitive) (ts : Terms) (o : Option (List Lit)) → whole.literals ts ≡ o →
      Agrees (full.primitive p o)
      (step.primitive p (step.literals (erases E [] (fates E (Form.named (Named.prim p))) ts)))
  primitive-agrees p ts None e = primitive-no_value p _
  primitive-agrees p ts (Some ls) e =
      elim (literals-left p ts ls e) [
        | inl ill ↦ subst (λ a. Agrees (full.answers a)
            (step.primitive p (step.literals (erases E [] (fates E (Form.named (Named.prim p))) ts))))
            (sym ill) (primitive-no_value p _)
        | inr left ↦ subst (λ o. Agrees (full.answers (apply p ls)) (step.primitive p o)) (sym left)
            (answers-agree (apply p ls))
      ]

  -- ---- each form
  itself-agrees : Erasable E → (F : Form) (ts : Terms) → NamesNoZero E F → NoErasedUses E [] (fates E F) ts →
      Agrees (full.itself E F ts)
      (step.itself abstractions (erased_bodies E) (operator E F) (erases E [] (fates E F) ts))
  unfolding contract
  itself-agrees h (Form.app 𝟘) ts n u = contracts-agree _ _ (λ r e. forced-agrees ts r e u)
  itself-agrees h (Form.app 𝟙) ts n u = contracts-agree _ _ (λ r e. beta-agrees 𝟙 tt ts r e u)
  itself-agrees h (Form.app ω) ts n u = contracts-agree _ _ (λ r e. beta-agrees ω tt ts r e u)
  itself-agrees h (Form.lam 𝟘) ts n u = refl
  itself-agrees h (Form.lam 𝟙) ts n u = refl
  itself-agrees h (Form.lam ω) ts n u = refl
  itself-agrees h (Form.case q f k m ns) ts n u =
      contracts-agree (whole.iota f ns (skip k ts)) _ (λ r e.
      let fs : List Fate = None ∷ branches q (family_at E f).constructors ns in
      let w = iota-erased E q f ns (skip k ts) r e (cleans-without E k fs ts u) in (
        ap (step.iota abstractions (kept_binders q (family_at E f).constructors ns)) (erases-without E k fs ts) ∙
            w.0,
        w.1,
      ))
  itself-agrees h (Form.delete q) ts n u = contracts-agree _ _ (λ r e. deletion-erased E h ts r e u)
  itself-agrees h (Form.named (Named.def d)) ts n u = contracts-agree _ _ (λ r e. delta-agrees h d n ts r e)
  itself-agrees h (Form.named (Named.prim p)) ts n u = primitive-agrees p ts (whole.literals ts) refl
  itself-agrees h (Form.named (Named.lit l)) ts n u = refl
  itself-agrees h (Form.named (Named.prim_ty p)) ts n u = refl
  itself-agrees h (Form.named (Named.act a k)) ts n u = refl
  itself-agrees h (Form.con f c k) ts n u = refl
  itself-agrees h (Form.sort l) ts n u = refl
  itself-agrees h (Form.pi q) ts n u = refl
  itself-agrees h (Form.fam f) ts n u = refl
  itself-agrees h Form.trap ts n u = refl
  itself-agrees h (Form.tape m) ts n u = refl

  finish-agrees : (F : Form) (ts : Terms) (o : full.Outcomes) (l : Outcome Leans) → NamesNoZero E F →
      Agrees (full.itself E F ts)
      (step.itself abstractions (erased_bodies E) (operator E F) (erases E [] (fates E F) ts)) →
      AllAgree (fates E F) o l →
      Agrees (full.finish E F ts o)
      (step.finish abstractions (erased_bodies E) (operator E F) (erases E [] (fates E F) ts) l)
  finish-agrees F ts full.Outcomes.values l n h a =
      subst (λ l. Agrees (full.itself E F ts)
      (step.finish abstractions (erased_bodies E) (operator E F) (erases E [] (fates E F) ts) l)) (sym a) h
  finish-agrees F ts (full.Outcomes.steps ss) l n h a =
      (ap (step.finish abstractions (erased_bodies E) (operator E F) (erases E [] (fates E F) ts)) a.0, (n, a.1))
  finish-agrees F ts (full.Outcomes.traps k) l n h a =
      ap (step.finish abstractions (erased_bodies E) (operator E F) (erases E [] (fates E F) ts)) a
  finish-agrees F ts full.Outcomes.sticks Outcome.value n h a = absurd (a refl)
  finish-agrees F ts full.Outcomes.sticks (Outcome.step s) n h a = λ e. cc e
  finish-agrees F ts full.Outcomes.sticks (Outcome.trap k) n h a = λ e. cc e
  finish-agrees F ts full.Outcomes.sticks Outcome.stuck n h a = λ e. cc e

  -- ---- components
  behind-gone : (fs : List Fate) (t : Term) (r : full.Outcomes) (l : Outcome Leans) → AllAgree fs r l →
      AllAgree (None ∷ fs) (full.behind t r) l
  behind-gone fs t full.Outcomes.values l a = a
  behind-gone fs t (full.Outcomes.steps ss) l a = a
  behind-gone fs t (full.Outcomes.traps k) l a = a
  behind-gone fs t full.Outcomes.sticks l a = a

  behind-left : (ss : List Slot) (fs : List Fate) (t : Term) (r : full.Outcomes) (l : Outcome Leans) →
      NoErasedUse E (extend [] ss) t → AllAgree fs r l →
      AllAgree (Some ss ∷ fs) (full.behind t r) (step.behind (erase E (extend [] ss) t) l)
  behind-left ss fs t full.Outcomes.values l u a = ap (step.behind (erase E (extend [] ss) t)) a
  behind-left ss fs t (full.Outcomes.steps rs) l u a = (ap (step.behind (erase E (extend [] ss) t)) a.0, (u, a.1))
  behind-left ss fs t (full.Outcomes.traps k) l u a = ap (step.behind (erase E (extend [] ss) t)) a
  behind-left ss fs t full.Outcomes.sticks Outcome.value u a = absurd (a refl)
  behind-left ss fs t full.Outcomes.sticks (Outcome.step s) u a = λ e. cc e
  behind-left ss fs t full.Outcomes.sticks (Outcome.trap k) u a = λ e. cc e
  behind-left ss fs t full.Outcomes.sticks Outcome.stuck u a = λ e. cc e

  before-agrees : (fs : List Fate) (o : full.Outcome) (l : Outcome Lean) (t : Term) (ts : Terms)
      (r : full.Outcomes) (k : Outcome Leans) →
      NoErasedUse E [] t → NoErasedUses E [] fs ts → Agrees o l → AllAgree fs r k →
      AllAgree (Some [] ∷ fs) (full.before o t ts r) (step.before l (erase E [] t) (erases E [] fs ts) k)
  before-agrees fs full.Outcome.value l t ts r k u v a b =
      subst (λ l. AllAgree (Some [] ∷ fs) (full.behind t r) (step.before l (erase E [] t) (erases E [] fs ts) k))
      (sym a) (behind-left [] fs t r k u b)
  before-agrees fs (full.Outcome.step s) l t ts r k u v a b =
      (ap (λ l. step.before l (erase E [] t) (erases E [] fs ts) k) a.0, (a.1, v))
  before-agrees fs (full.Outcome.trap c) l t ts r k u v a b =
      ap (λ l. step.before l (erase E [] t) (erases E [] fs ts) k) a
  before-agrees fs full.Outcome.stuck Outcome.value t ts r k u v a b = absurd (a refl)
  before-agrees fs full.Outcome.stuck (Outcome.step s) t ts r k u v a b = λ e. cc e
  before-agrees fs full.Outcome.stuck (Outcome.trap c) t ts r k u v a b = λ e. cc e
  before-agrees fs full.Outcome.stuck Outcome.stuck t ts r k u v a b = λ e. cc e

  all-wait : (ts : Terms) (fs : List Fate) (n : ℕ) → Evaluated [] fs n →
      nexts abstractions (erased_bodies E) n (erases E [] fs ts) ≡ Outcome.value
  all-wait ε fs n h = refl
  all-wait (t ▸ ts) [] n h = refl
  all-wait (t ▸ ts) (None ∷ fs) n h = all-wait ts fs n h
  all-wait (t ▸ ts) (Some ss ∷ fs) zero h = absurd h
  all-wait (t ▸ ts) (Some ss ∷ fs) (suc n) h = ap (step.behind (erase E (extend [] ss) t)) (all-wait ts fs n h)

  none-asked : (ts : Terms) (ms : List Mult) (n : ℕ) → Evaluated ms [] n →
      full.full_steps E ms ts ≡ full.Outcomes.values
  none-asked ε [] n h = refl
  none-asked ε (m ∷ ms) n h = refl
  none-asked (t ▸ ts) [] n h = refl
  none-asked (t ▸ ts) (𝟘 ∷ ms) n h = ap (full.behind t) (none-asked ts ms n h)
  none-asked (t ▸ ts) (𝟙 ∷ ms) n h = absurd h
  none-asked (t ▸ ts) (ω ∷ ms) n h = absurd h

  module _ (h : Erasable E) where
    mutual
      pub term-agrees : (t : Term) → NoErasedUse E [] t → Agrees (full.full_step E t) (erased_step E t)
      term-agrees (var i) u = absurd u
      term-agrees (node F ts) u =
          finish-agrees F ts _ _ u.0 (itself-agrees h F ts u.0 u.1)
          (terms-agree ts (demanded E F) (fates E F) (waiting_of abstractions.waiting (operator E F))
          (form-evaluated E F) u.1)

      terms-agree : (ts : Terms) (ms : List Mult) (fs : List Fate) (n : ℕ) → Evaluated ms fs n →
          NoErasedUses E [] fs ts →
          AllAgree fs (full.full_steps E ms ts) (nexts abstractions (erased_bodies E) n (erases E [] fs ts))
      terms-agree ε [] fs n w u = refl
      terms-agree ε (m ∷ ms) fs n w u = refl
      terms-agree (t ▸ ts) [] fs n w u = all-wait (t ▸ ts) fs n w
      terms-agree (t ▸ ts) (𝟘 ∷ ms) [] n w u =
          subst (λ o. AllAgree [] (full.behind t o) (Outcome.value)) (sym (none-asked ts ms n w)) refl
      terms-agree (t ▸ ts) (𝟘 ∷ ms) (None ∷ fs) n w u = behind-gone fs t _ _ (terms-agree ts ms fs n w u)
      terms-agree (t ▸ ts) (𝟘 ∷ ms) (Some ss ∷ fs) zero w u = absurd w
      terms-agree (t ▸ ts) (𝟘 ∷ ms) (Some ss ∷ fs) (suc n) w u =
          behind-left ss fs t _ _ u.0 (terms-agree ts ms fs n w u.1)
      terms-agree (t ▸ ts) (𝟙 ∷ ms) (Some [] ∷ fs) zero w u =
          before-agrees fs _ _ t ts _ _ u.0 u.1 (term-agrees t u.0) (terms-agree ts ms fs zero w u.1)
      terms-agree (t ▸ ts) (𝟙 ∷ ms) (Some [] ∷ fs) (suc n) w u = absurd w
      terms-agree (t ▸ ts) (𝟙 ∷ ms) (Some (s ∷ ss) ∷ fs) n w u = absurd w
      terms-agree (t ▸ ts) (𝟙 ∷ ms) (None ∷ fs) n w u = absurd w
      terms-agree (t ▸ ts) (𝟙 ∷ ms) [] n w u = absurd w
      terms-agree (t ▸ ts) (ω ∷ ms) (Some [] ∷ fs) zero w u =
          before-agrees fs _ _ t ts _ _ u.0 u.1 (term-agrees t u.0) (terms-agree ts ms fs zero w u.1)
      terms-agree (t ▸ ts) (ω ∷ ms) (Some [] ∷ fs) (suc n) w u = absurd w
      terms-agree (t ▸ ts) (ω ∷ ms) (Some (s ∷ ss) ∷ fs) n w u = absurd w
      terms-agree (t ▸ ts) (ω ∷ ms) (None ∷ fs) n w u = absurd w
      terms-agree (t ▸ ts) (ω ∷ ms) [] n w u = absurd w

pub in_step : ErasedTermsRunInStep
in_step E h = record {
  values = λ t u e. subst (λ o. Agrees E o (erased_step E t)) e (term-agrees E h t u);
  steps = λ t s u e. let p : Agrees E (full.Outcome.step s) (erased_step E t) =
      subst (λ o. Agrees E o (erased_step E t)) e (term-agrees E h t u) in p.0;
  traps = λ t k u e. subst (λ o. Agrees E o (erased_step E t)) e (term-agrees E h t u);
  sticks = λ t u e. subst (λ o. Agrees E o (erased_step E t)) e (term-agrees E h t u);
  kept = λ t s u e. let p : Agrees E (full.Outcome.step s) (erased_step E t) =
      subst (λ o. Agrees E o (erased_step E t)) e (term-agrees E h t u) in p.1;
}
