-- What the judgement accepts within some contractions is so.
use Rattle.std.proofs.Common.{◌≡◌, ℕ, Bool, true, false, ◌&&◌, cond, List, [], ◌∷◌, length, refl, subst, arith}
use Rattle.std.proofs.lemmas.Bool.{and_parts}
use mathlib.Core.Path.{fun_ext}
use Rattle.qtt_usage.specs.declared.mult.Mult.{Mult}
use Rattle.qtt_usage.specs.Uses.{Key, zero_use}
use Rattle.qtt_usage.specs.Usage.{use_of}
use Rattle.qtt_term.specs.declared.rule.Rule.TheVariants as rule
use Rattle.qtt_term.specs.Term.{Form, Term, Terms, var, node, ε, ◌▸◌}
use Rattle.qtt_term.specs.Signature.{Env}
use Rattle.qtt_term.specs.Judgement.{Part, Typed, IsType}
use Rattle.qtt_term.specs.Environment.{IsTape, NoTape, NoTapes}
use Rattle.qtt_term.specs.Ask.{Ending, Ends, within}
use Rattle.qtt_term.specs.Infer.{Premise, Asks, Inferred, at, has, type_of, infer, agree}
use Rattle.qtt_term.specs.FirstSpent.{Says}
use Rattle.qtt_term.specs.Environment.{ResultsCounted}
use Rattle.qtt_confluence.proofs.Endings.{says}
use Rattle.qtt_core_check.proofs.Parts.{parts, agreeing, head-conv, sort-found}
use Rattle.qtt_core_check.proofs.Sound.{sound}

-- ---- no tape stands in a term
abbrev pub tape_form : Form → Bool
tape_form (Form.tape n) = true
tape_form _ = false

abbrev mutual
  pub tape_free : Term → Bool
  tape_free (var i) = true
  tape_free (node F ts) = cond (tape_form F) false (tapes_free ts)

  pub tapes_free : Terms → Bool
  tapes_free ε = true
  tapes_free (t ▸ ts) = tape_free t && tapes_free ts

neither : (a b : Bool) → cond a false b ≡ true → (a ≡ false) × (b ≡ true)
neither true b e = absurd (cc e)
neither false b e = (refl, e)

no_tape_form : (F : Form) → tape_form F ≡ false → IsTape F → ⊥
no_tape_form (Form.tape n) e = λ t. cc e
no_tape_form _ e = λ t. t

mutual
  pub no_tape : (t : Term) → tape_free t ≡ true → NoTape t
  no_tape (var i) e = tt
  no_tape (node F ts) e = let r = neither (tape_form F) (tapes_free ts) e in (no_tape_form F r.0, no_tapes ts r.1)

  no_tapes : (ts : Terms) → tapes_free ts ≡ true → NoTapes ts
  no_tapes ε e = tt
  no_tapes (t ▸ ts) e = let r = and_parts (tape_free t) (tapes_free ts) e in (no_tape t r.0, no_tapes ts r.1)

-- ---- what the judgement accepts
abbrev pub is_accepted : {A : Type 0} → Ending Premise (Unit {0}) A → Bool
is_accepted (Ending.ok a) = true
is_accepted _ = false

accepted-ends : {A : Type 0} (E : Env) (n : ℕ) (m : Asks A) (e : Ending Premise (Unit {0}) A) → Says E n m e →
    is_accepted e ≡ true →
    (a : A) × Ends E m (Ending.ok a)
accepted-ends E n m (Ending.ok a) s t = (a, s)
accepted-ends E n m (Ending.fails f) s t = absurd (cc t)
accepted-ends E n m (Ending.spent p q) s t = absurd (cc t)

pub accepted : {A : Type 0} (E : Env) (n : ℕ) (m : Asks A) → is_accepted (within E n m) ≡ true →
    (a : A) × Ends E m (Ending.ok a)
accepted E n m t = accepted-ends E n m (within E n m) (says E n m) t

no-use : (x : Key) → use_of [] x ≡ zero_use x
no-use (Key.v i) = refl
no-use (Key.h i) = refl

no-uses : (us : List Mult) → length us ≡ 0 → use_of us ≡ zero_use
no-uses [] e = fun_ext λ x. no-use x
no-uses (u ∷ us) e = absurd (omega (arith, e))

-- a closed term of this type in which no tape stands, each question within n contractions
abbrev pub of_type : Env → ℕ → Part → Term → Term → Bool
of_type E n p A t = tape_free t && is_accepted (within E n (has [] (infer E p [] t) A (at rule.Lit 1)))

-- a closed type
abbrev pub of_sort : Env → ℕ → Term → Bool
of_sort E n A = tape_free A && is_accepted (within E n (type_of [] (infer E Part.erased [] A) (at rule.Lit 1)))

module _ (E : Env) (counted : ResultsCounted E) where
  inferred-typed : (p : Part) (t : Term) (j : Inferred) → NoTape t → Ends E (infer E p [] t) (Ending.ok j) →
      Typed E p [] t j.type zero_use
  inferred-typed p t j f x =
      subst (Typed E p [] t j.type) (no-uses j.uses ((sound E counted).has_uses p [] t j x).counted)
      ((sound E counted).typed p [] t j f x)

  pub typed : (n : ℕ) (p : Part) (A t : Term) → of_type E n p A t ≡ true → Typed E p [] t A zero_use
  typed n p A t e =
      let r = and_parts (tape_free t) _ e in
      let y = accepted E n (has [] (infer E p [] t) A (at rule.Lit 1)) r.1 in
      let m = parts (infer E p [] t) _ y.0 y.1 in
      let k = parts (agree [] m.mid.type A (at rule.Lit 1)) _ y.0 m.after in
      Typed.conversion (inferred-typed p t m.mid (no_tape t r.0) m.first)
      (agreeing [] m.mid.type A (at rule.Lit 1) k.mid k.first)

  pub is-type : (n : ℕ) (A : Term) → of_sort E n A ≡ true → IsType E [] A
  is-type n A e =
      let r = and_parts (tape_free A) _ e in
      let y = accepted E n (type_of [] (infer E Part.erased [] A) (at rule.Lit 1)) r.1 in
      let m = parts (infer E Part.erased [] A) _ y.0 y.1 in (
        y.0,
        Typed.conversion (inferred-typed Part.erased A m.mid (no_tape A r.0) m.first)
            (head-conv (sort-found [] m.mid.type (at rule.Lit 1) y.0 m.after)),
      )
