-- A flat term takes the steps of the term that it stands for.
use Rattle.std.proofs.Common.{◌≡◌, ℕ, zero, suc, ◌+◌, List, [], ◌∷◌, Option, Some, None, Bool, true, false, ◌&&◌, cond, eqb, refl, sym, ◌∙◌, ap, subst, arith}
use mathlib.Core.Path.{fun_ext}
use Rattle.std.proofs.lemmas.Bool.{eq-eqb}
use Rattle.qtt_prims.specs.declared.prim.Primitive.{Primitive}
use Rattle.qtt_prims.specs.declared.lit.Lit.{Lit}
use Rattle.qtt_prims.specs.declared.answer.PrimAnswer.{PrimAnswer}
use Rattle.qtt_prims.specs.declared.answer.PrimAnswer.TheVariants as answer
use Rattle.qtt_prims.specs.Apply.{apply}
use Rattle.qtt_term.specs.Contraction.{chain}
use Rattle.qtt_erase.specs.Binding.{Tree, Trees, ∅, ◌◂◌, ◌◂◂◌, size, cons, push, lift, sub, inst}
use Rattle.qtt_erase.specs.Operator.{Operator, waiting_of, Code, Codes}
use Rattle.qtt_erase.specs.Step.{Functions, Bodies, Outcome, as_con, scrutinee, as_lit, literals, behind, before, contracts_to, answers, primitive, beta, forcing, branch_at, select, iota, itself, finish, next, nexts}
use Rattle.qtt_erase.specs.Lean.{Abstraction, Lean, Leans, abstractions}
use Rattle.qtt_erase.specs.Lean as lean
use Rattle.qtt_erase.proofs.Bindings.{sub-sub, sub-ren, sub-var, push-append}
use Rattle.qtt_closure.specs.Flat.{Closure, FlatTerm, FlatTerms, Function, Program, enter, closures}
use Rattle.qtt_closure.specs.Flat as flat
use Rattle.qtt_closure.specs.Conversion.{arity, other}
use Rattle.qtt_closure.specs.StandsFor.{IsOther, function_of, StandsFor, AllStandFor, IsConversion, AreConversions, Agrees}
use Rattle.qtt_closure.specs.Laws.{FlatTermsRunInStep}
use Rattle.qtt_closure.proofs.Substituting.{all-size, pushed-stand}
use Rattle.qtt_closure.proofs.Starting.{stands-for-its-term}

-- ---- what is no call
module _ {A : Type 0} (K : Functions A) where
  beta-of-one : (t : Code A) → beta K (t ◂ ∅) ≡ None
  beta-of-one (Tree.var i) = refl
  beta-of-one (Tree.node (Operator.function f) ts) = refl
  beta-of-one (Tree.node F ts) = refl

  beta-of-three : (t a b : Code A) (ts : Codes A) → beta K (t ◂ a ◂ b ◂ ts) ≡ None
  beta-of-three (Tree.var i) a b ts = refl
  beta-of-three (Tree.node (Operator.function f) ts) a b us = refl
  beta-of-three (Tree.node F ts) a b us = refl

  forcing-of-two : (t a : Code A) (ts : Codes A) → forcing K (t ◂ a ◂ ts) ≡ None
  forcing-of-two (Tree.var i) a ts = refl
  forcing-of-two (Tree.node (Operator.function f) ts) a us = refl
  forcing-of-two (Tree.node F ts) a us = refl

other-waits : (F : Operator Abstraction) → IsOther F →
    (P : Program) → waiting_of (closures P).waiting (other F) ≡ waiting_of abstractions.waiting F
other-waits (Operator.function a) o P = absurd o
other-waits F o P = refl

module _ (P : Program) where
  -- ---- options and answers in step
  abbrev Both : Option Lean → Option FlatTerm → Type 0
  Both None o = o ≡ None
  Both (Some t) o = (u : FlatTerm) × (o ≡ Some u) × StandsFor P t u

  abbrev pub AllAgree : Outcome Leans → Outcome FlatTerms → Type 0
  AllAgree Outcome.value o = o ≡ Outcome.value
  AllAgree (Outcome.step ts) o = (us : FlatTerms) × (o ≡ Outcome.step us) × AllStandFor P ts us
  AllAgree (Outcome.trap k) o = o ≡ Outcome.trap k
  AllAgree Outcome.stuck o = o ≡ Outcome.stuck

  contract-both : (l : Option Lean) (o : Option FlatTerm) → Both l o → Agrees P (contracts_to l) (contracts_to o)
  contract-both None o h = ap contracts_to h
  contract-both (Some t) o h = (h.0, ap contracts_to h.1, h.2)

  -- ---- calls
  -- the body of a function with its argument put in
  argument-in : (b a : Lean) (ls : Leans) →
      inst lean.binders (sub lean.binders (lift lean.binders (push ls Tree.var)) b) a ≡ sub lean.binders
      (push (ls ◂◂ a ◂ ∅) Tree.var) b
  argument-in b a ls =
      sub-sub lean.binders b (cons a Tree.var) (lift lean.binders (push ls Tree.var))
      ∙ ap (λ τ. sub lean.binders τ b) (fun_ext at ∙ sym (push-append ls (a ◂ ∅) Tree.var))
    where
      at : (i : ℕ) → sub lean.binders (cons a Tree.var) (lift lean.binders (push ls Tree.var) i) ≡ cons a
          (push ls Tree.var) i
      at zero = refl
      at (suc i) = sub-ren lean.binders (push ls Tree.var i) (cons a Tree.var) suc ∙ sub-var lean.binders
          (push ls Tree.var i)

  stand-append : {ts : Leans} {us : FlatTerms} {a : Lean} {b : FlatTerm} → AllStandFor P ts us → StandsFor P a b →
      AllStandFor P (ts ◂◂ a ◂ ∅) (us ◂◂ b ◂ ∅)
  stand-append AllStandFor.none q = AllStandFor.more q AllStandFor.none
  stand-append (AllStandFor.more p h) q = AllStandFor.more p (stand-append h q)

  append-size : {O : Type 0} (ts : Trees O) (a : Tree O) → size (ts ◂◂ a ◂ ∅) ≡ size ts + 1
  append-size ∅ a = refl
  append-size (t ◂ ts) a = let p = append-size ts a in omega arith

  entered : (n : ℕ) (vs : FlatTerms) (F : Function) → F.takes ≡ n → size vs ≡ F.captured + n →
      enter n vs F ≡ Some (sub flat.binders (push vs Tree.var) F.body)
  entered n vs F k s =
      ap (λ b. cond (b && eqb (size vs) (F.captured + n)) (Some (sub flat.binders (push vs Tree.var) F.body))
      None) (eq-eqb n F.takes (sym k))
      ∙ ap (λ b. cond b (Some (sub flat.binders (push vs Tree.var) F.body)) None) (eq-eqb (size vs) (F.captured + n) s)

  refused : (n m : ℕ) (vs : FlatTerms) (F : Function) → F.takes ≡ m → eqb n m ≡ false → enter n vs F ≡ None
  refused n m vs F k e =
      ap (λ j. cond (eqb n j && eqb (size vs) (F.captured + n))
      (Some (sub flat.binders (push vs Tree.var) F.body)) None) k
      ∙ ap (λ b. cond (b && eqb (size vs) (F.captured + n)) (Some (sub flat.binders (push vs Tree.var) F.body)) None) e

  called-both : (a : Abstraction) (c : Closure) {b : Lean} {ls : Leans} {F : Function} {vs : FlatTerms} {x : Lean}
      {y : FlatTerm} → P c.number ≡ Some F →
      F.captured ≡ size ls → F.takes ≡ arity a → StandsFor P b F.body → AllStandFor P ls vs → StandsFor P x y →
      Both (beta abstractions (sub lean.binders (push ls Tree.var) (function_of a b) ◂ x ◂ ∅))
      (chain (P c.number) (enter 1 (vs ◂◂ y ◂ ∅)))
  called-both Abstraction.fun c {b = b} {ls = ls} {F = F} {vs = vs} {x = x} {y = y} p k r s h q = (
    sub flat.binders (push (vs ◂◂ y ◂ ∅) Tree.var) F.body,
    ap (λ o. chain o (enter 1 (vs ◂◂ y ◂ ∅))) p ∙ entered 1 (vs ◂◂ y ◂ ∅) F r
        (append-size vs y ∙ ap (λ n. n + 1) (sym (k ∙ all-size P h))),
    subst (λ l. StandsFor P l (sub flat.binders (push (vs ◂◂ y ◂ ∅) Tree.var) F.body)) (sym (argument-in b x ls))
        (pushed-stand P s (stand-append h q)),
  )
  called-both Abstraction.thunk c {F = F} {vs = vs} {y = y} p k r s h q =
      ap (λ o. chain o (enter 1 (vs ◂◂ y ◂ ∅))) p ∙ refused 1 0 (vs ◂◂ y ◂ ∅) F r refl

  forced-both : (a : Abstraction) (c : Closure) {b : Lean} {ls : Leans} {F : Function} {vs : FlatTerms} →
      P c.number ≡ Some F →
      F.captured ≡ size ls → F.takes ≡ arity a → StandsFor P b F.body → AllStandFor P ls vs →
      Both (forcing abstractions (sub lean.binders (push ls Tree.var) (function_of a b) ◂ ∅))
      (chain (P c.number) (enter 0 vs))
  forced-both Abstraction.thunk c {b = b} {ls = ls} {F = F} {vs = vs} p k r s h = (
    sub flat.binders (push vs Tree.var) F.body,
    ap (λ o. chain o (enter 0 vs)) p ∙ entered 0 vs F r (let e = k ∙ all-size P h in omega (arith, e)),
    pushed-stand P s h,
  )
  forced-both Abstraction.fun c {F = F} {vs = vs} p k r s h = ap (λ o. chain o (enter 0 vs)) p ∙ refused 0 1 vs F r refl

  other-beta : (F : Operator Abstraction) → IsOther F → (ts : Leans) (us : FlatTerms) (x : Lean) (y : FlatTerm) →
      Both (beta abstractions (Tree.node F ts ◂ x ◂ ∅)) (beta (closures P) (Tree.node (other F) us ◂ y ◂ ∅))
  other-beta (Operator.function a) o ts us x y = absurd o
  other-beta F o ts us x y = refl

  other-forcing : (F : Operator Abstraction) → IsOther F → (ts : Leans) (us : FlatTerms) →
      Both (forcing abstractions (Tree.node F ts ◂ ∅)) (forcing (closures P) (Tree.node (other F) us ◂ ∅))
  other-forcing (Operator.function a) o ts us = absurd o
  other-forcing F o ts us = refl

  first-both : {t x : Lean} {u y : FlatTerm} → StandsFor P t u → StandsFor P x y →
      Both (beta abstractions (t ◂ x ◂ ∅)) (beta (closures P) (u ◂ y ◂ ∅))
  first-both StandsFor.variable q = refl
  first-both (StandsFor.operator {F = F} {ts = ts} {us = us} o h) q = other-beta F o ts us _ _
  first-both {x = x} {y = y} (StandsFor.closure {a = a} {c = c} {vs = vs} p n k r s w h e) q =
      subst (λ t. Both (beta abstractions (t ◂ x ◂ ∅)) (chain (P c.number) (enter 1 (vs ◂◂ y ◂ ∅)))) (sym e)
      (called-both a c p k r s h q)

  beta-both : {ts : Leans} {us : FlatTerms} → AllStandFor P ts us → Both (beta abstractions ts) (beta (closures P) us)
  beta-both AllStandFor.none = refl
  beta-both (AllStandFor.more {t = t} {u = u} p AllStandFor.none) =
      subst (λ l. Both l (beta (closures P) (u ◂ ∅))) (sym (beta-of-one abstractions t)) (beta-of-one (closures P) u)
  beta-both (AllStandFor.more p (AllStandFor.more q AllStandFor.none)) = first-both p q
  beta-both (AllStandFor.more {t = t} {u = u} p
      (AllStandFor.more {t = a} {u = b} q (AllStandFor.more {t = c} {ts = ts} {u = d} {us = us} r h))) =
      subst (λ l. Both l (beta (closures P) (u ◂ b ◂ d ◂ us))) (sym (beta-of-three abstractions t a c ts))
      (beta-of-three (closures P) u b d us)

  alone-both : {t : Lean} {u : FlatTerm} → StandsFor P t u →
      Both (forcing abstractions (t ◂ ∅)) (forcing (closures P) (u ◂ ∅))
  alone-both StandsFor.variable = refl
  alone-both (StandsFor.operator {F = F} {ts = ts} {us = us} o h) = other-forcing F o ts us
  alone-both (StandsFor.closure {a = a} {c = c} {vs = vs} p n k r s w h e) =
      subst (λ t. Both (forcing abstractions (t ◂ ∅)) (chain (P c.number) (enter 0 vs))) (sym e)
      (forced-both a c p k r s h)

  forcing-both : {ts : Leans} {us : FlatTerms} → AllStandFor P ts us →
      Both (forcing abstractions ts) (forcing (closures P) us)
  forcing-both AllStandFor.none = refl
  forcing-both (AllStandFor.more p AllStandFor.none) = alone-both p
  forcing-both (AllStandFor.more {t = t} {u = u} p (AllStandFor.more {t = a} {ts = ts} {u = b} {us = us} q h)) =
      subst (λ l. Both l (forcing (closures P) (u ◂ b ◂ us))) (sym (forcing-of-two abstractions t a ts))
      (forcing-of-two (closures P) u b us)

  -- ---- a Case
  scrutinee-both : (ns : List ℕ) {ts : Leans} {us : FlatTerms} → AllStandFor P ts us →
      Both (scrutinee ns ts) (scrutinee ns us)
  scrutinee-both [] AllStandFor.none = refl
  scrutinee-both [] (AllStandFor.more {u = u} p AllStandFor.none) = (u, refl, p)
  scrutinee-both [] (AllStandFor.more p (AllStandFor.more q h)) = refl
  scrutinee-both (n ∷ ns) AllStandFor.none = refl
  scrutinee-both (n ∷ ns) (AllStandFor.more p h) = scrutinee-both ns h

  branch-both : (c : ℕ) (ns : List ℕ) {ts fs : Leans} {us gs : FlatTerms} → AllStandFor P ts us → AllStandFor P fs gs →
      Both (branch_at abstractions c ns ts fs) (branch_at (closures P) c ns us gs)
  branch-both zero [] h g = refl
  branch-both zero (n ∷ ns) AllStandFor.none g = refl
  branch-both zero (n ∷ ns) {fs = fs} {gs = gs} (AllStandFor.more {t = t} {u = u} p h) g =
      subst (λ k. Both (cond (eqb (size fs) n) (Some (sub lean.binders (push fs Tree.var) t)) None)
      (cond (eqb k n) (Some (sub flat.binders (push gs Tree.var) u)) None))
      (all-size P g) (chosen (eqb (size fs) n))
    where
      chosen : (b : Bool) → Both (cond b (Some (sub lean.binders (push fs Tree.var) t)) None)
          (cond b (Some (sub flat.binders (push gs Tree.var) u)) None)
      chosen true = (sub flat.binders (push gs Tree.var) u, refl, pushed-stand P p g)
      chosen false = refl
  branch-both (suc c) [] h g = refl
  branch-both (suc c) (n ∷ ns) AllStandFor.none g = refl
  branch-both (suc c) (n ∷ ns) (AllStandFor.more p h) g = branch-both c ns h g

  -- the constructor that a scrutinee is
  chosen-both : (ns : List ℕ) {ts : Leans} {us : FlatTerms} {t : Lean} {u : FlatTerm} → AllStandFor P ts us →
      StandsFor P t u →
      Both (chain (as_con t) (select abstractions ns ts)) (chain (as_con u) (select (closures P) ns us))
  chosen-both ns h StandsFor.variable = refl
  chosen-both ns h (StandsFor.operator {F = Operator.function a} o g) = absurd o
  chosen-both ns h (StandsFor.operator {F = Operator.con c} o g) = branch-both c ns h g
  chosen-both ns h (StandsFor.operator {F = F} o g) = refl
  chosen-both ns {ts = ts} {us = us} h (StandsFor.closure {a = a} {c = c} {vs = vs} p n k r s w g e) =
      subst (λ t. Both (chain (as_con t) (select abstractions ns ts)) None) (sym e) refl

  iota-both : (ns : List ℕ) {ts : Leans} {us : FlatTerms} → AllStandFor P ts us →
      Both (iota abstractions ns ts) (iota (closures P) ns us)
  iota-both ns {ts = ts} {us = us} h = scrutinised (scrutinee ns ts) (scrutinee ns us) (scrutinee-both ns h)
    where
      scrutinised : (l : Option Lean) (o : Option FlatTerm) → Both l o →
          Both (chain l (λ s. chain (as_con s) (select abstractions ns ts)))
          (chain o (λ s. chain (as_con s) (select (closures P) ns us)))
      scrutinised None o g = ap (λ o. chain o (λ s. chain (as_con s) (select (closures P) ns us))) g
      scrutinised (Some t) o g =
          subst (λ o. Both (chain (as_con t) (select abstractions ns ts))
          (chain o (λ s. chain (as_con s) (select (closures P) ns us)))) (sym g.1)
          (chosen-both ns h g.2)

  -- ---- a primitive
  lit-same : {t : Lean} {u : FlatTerm} → StandsFor P t u → as_lit u ≡ as_lit t
  lit-same StandsFor.variable = refl
  lit-same (StandsFor.operator {F = Operator.function a} o h) = absurd o
  lit-same (StandsFor.operator {F = Operator.lit l} o AllStandFor.none) = refl
  lit-same (StandsFor.operator {F = Operator.lit l} o (AllStandFor.more p h)) = refl
  lit-same (StandsFor.operator {F = F} o h) = refl
  lit-same (StandsFor.closure p n k r s w h e) = sym (ap as_lit e)

  literals-same : {ts : Leans} {us : FlatTerms} → AllStandFor P ts us → literals us ≡ literals ts
  literals-same AllStandFor.none = refl
  literals-same (AllStandFor.more {ts = ts} {u = u} p h) =
      ap (λ o. chain (as_lit u) (λ l. chain o (λ ls. Some (l ∷ ls)))) (literals-same h)
      ∙ ap (λ o. chain o (λ l. chain (literals ts) (λ ls. Some (l ∷ ls)))) (lit-same p)

  answers-agree : (a : PrimAnswer) → Agrees P (answers a) (answers a)
  answers-agree (answer.Value l) = (Tree.node (Operator.lit l) ∅, refl, StandsFor.operator tt AllStandFor.none)
  answers-agree (answer.Truth false) = (Tree.node (Operator.con 0) ∅, refl, StandsFor.operator tt AllStandFor.none)
  answers-agree (answer.Truth true) = (Tree.node (Operator.con 1) ∅, refl, StandsFor.operator tt AllStandFor.none)
  answers-agree answer.DivisionByZero = refl
  answers-agree answer.IllTyped = refl

  primitive-agrees : (p : Primitive) (o : Option (List Lit)) → Agrees P (primitive p o) (primitive p o)
  primitive-agrees p None = refl
  primitive-agrees p (Some ls) = answers-agree (apply p ls)

  -- ---- each operator
  module _ (B : Bodies Abstraction) (D : Bodies Closure) (bodies : AreConversions P B D) where
    body-both : (l : Option Lean) (o : Option FlatTerm) → IsConversion P l o → Both l o
    body-both None o h = h
    body-both (Some t) o h = (_, h.1, stands-for-its-term P h.0 t h.2)

    itself-agrees : (F : Operator Abstraction) → IsOther F → {ts : Leans} {us : FlatTerms} → AllStandFor P ts us →
        Agrees P (itself abstractions B F ts) (itself (closures P) D (other F) us)
    itself-agrees (Operator.function a) o h = absurd o
    itself-agrees Operator.app o h = contract-both _ _ (beta-both h)
    itself-agrees Operator.force o h = contract-both _ _ (forcing-both h)
    itself-agrees (Operator.def d) o h = contract-both _ _ (body-both (B d) (D d) (bodies d))
    itself-agrees (Operator.case ns) o h = contract-both _ _ (iota-both ns h)
    itself-agrees (Operator.prim p) o {ts = ts} h =
        subst (λ x. Agrees P (primitive p (literals ts)) (primitive p x)) (sym (literals-same h))
        (primitive-agrees p (literals ts))
    itself-agrees Operator.trap o h = refl
    itself-agrees (Operator.con c) o h = refl
    itself-agrees (Operator.lit l) o h = refl
    itself-agrees (Operator.act a) o h = refl
    itself-agrees Operator.ty o h = refl
    itself-agrees (Operator.tape n) o h = refl

    finish-agrees : (F : Operator Abstraction) → IsOther F → {ts : Leans} {us : FlatTerms} → AllStandFor P ts us →
        (l : Outcome Leans) (o : Outcome FlatTerms) → AllAgree l o →
        Agrees P (finish abstractions B F ts l) (finish (closures P) D (other F) us o)
    finish-agrees F i {ts = ts} {us = us} h Outcome.value o a =
        subst (λ o. Agrees P (itself abstractions B F ts) (finish (closures P) D (other F) us o)) (sym a)
        (itself-agrees F i h)
    finish-agrees F i {us = us} h (Outcome.step ss) o a =
        (Tree.node (other F) a.0, ap (finish (closures P) D (other F) us) a.1, StandsFor.operator i a.2)
    finish-agrees F i {us = us} h (Outcome.trap k) o a = ap (finish (closures P) D (other F) us) a
    finish-agrees F i {us = us} h Outcome.stuck o a = ap (finish (closures P) D (other F) us) a

    -- ---- components
    behind-agrees : {t : Lean} {u : FlatTerm} → StandsFor P t u → (l : Outcome Leans) (o : Outcome FlatTerms) →
        AllAgree l o → AllAgree (behind t l) (behind u o)
    behind-agrees {u = u} p Outcome.value o a = ap (behind u) a
    behind-agrees {u = u} p (Outcome.step ss) o a = (u ◂ a.0, ap (behind u) a.1, AllStandFor.more p a.2)
    behind-agrees {u = u} p (Outcome.trap k) o a = ap (behind u) a
    behind-agrees {u = u} p Outcome.stuck o a = ap (behind u) a

    before-agrees : {t : Lean} {u : FlatTerm} {ts : Leans} {us : FlatTerms} → StandsFor P t u → AllStandFor P ts us →
        (l : Outcome Lean) (o : Outcome FlatTerm) → Agrees P l o → (ls : Outcome Leans) (os : Outcome FlatTerms) →
        AllAgree ls os →
        AllAgree (before l t ts ls) (before o u us os)
    before-agrees {t = t} {u = u} {us = us} p h Outcome.value o a ls os b =
        subst (λ o. AllAgree (behind t ls) (before o u us os)) (sym a) (behind-agrees p ls os b)
    before-agrees {u = u} {us = us} p h (Outcome.step s) o a ls os b =
        (a.0 ◂ us, ap (λ o. before o u us os) a.1, AllStandFor.more a.2 h)
    before-agrees {u = u} {us = us} p h (Outcome.trap k) o a ls os b = ap (λ o. before o u us os) a
    before-agrees {u = u} {us = us} p h Outcome.stuck o a ls os b = ap (λ o. before o u us os) a

    all-kept : (us : FlatTerms) → nexts (closures P) D (size us) us ≡ Outcome.value
    all-kept ∅ = refl
    all-kept (u ◂ us) = ap (behind u) (all-kept us)

    mutual
      pub run-in-step : {t : Lean} {u : FlatTerm} → StandsFor P t u →
          Agrees P (next abstractions B t) (next (closures P) D u)
      run-in-step StandsFor.variable = refl
      run-in-step (StandsFor.operator {F = F} {ts = ts} {us = us} o h) =
          finish-agrees F o h _ _
          (subst (λ n. AllAgree (nexts abstractions B (waiting_of abstractions.waiting F) ts)
          (nexts (closures P) D n us)) (sym (other-waits F o P))
          (all-in-step h (waiting_of abstractions.waiting F)))
      run-in-step (StandsFor.closure {c = c} {vs = vs} p n k r s w h e) =
          subst (λ t. Agrees P (next abstractions B t) (next (closures P) D (Tree.node (Operator.function c) vs)))
          (sym e)
          (ap (finish (closures P) D (Operator.function c) vs)
          (ap (λ m. nexts (closures P) D m vs) (n ∙ all-size P h) ∙ all-kept vs))

      all-in-step : {ts : Leans} {us : FlatTerms} → AllStandFor P ts us →
          (n : ℕ) → AllAgree (nexts abstractions B n ts) (nexts (closures P) D n us)
      all-in-step AllStandFor.none n = refl
      all-in-step (AllStandFor.more p h) zero = before-agrees p h _ _ (run-in-step p) _ _ (all-in-step h zero)
      all-in-step (AllStandFor.more p h) (suc n) = behind-agrees p _ _ (all-in-step h n)

pub in_step : FlatTermsRunInStep
in_step P B D h t u p = run-in-step P B D h p
