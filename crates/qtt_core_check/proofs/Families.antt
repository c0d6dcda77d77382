-- What is found of families, constructors and definitions, and what their rules then ask.
use Rattle.std.proofs.Common.{◌≡◌, ◌≢◌, ℕ, zero, suc, ◌+◌, Bool, true, false, ◌&&◌, eqb, List, [], ◌∷◌, ◌++◌, length, Some, None, slice_get, refl, sym, ◌∙◌, ap, arith}
use mathlib.Core.Path.{ap₂}
use Rattle.std.proofs.lemmas.Bool.{eq-eqb, eqb-true, ne_eqb}
use Rattle.std.proofs.lemmas.List.{length-append}
use Rattle.qtt_base.specs.declared.place.GlobalId.{GlobalId}
use Rattle.qtt_usage.specs.declared.mult.Mult.{Mult}
use Rattle.qtt_usage.specs.Mult.{𝟘}
use Rattle.qtt_usage.specs.Usage.{no_usage}
use Rattle.qtt_term.specs.declared.term.Term as code
use Rattle.qtt_term.specs.declared.rule.Rule.TheVariants as rule
use Rattle.qtt_term.specs.Term.{Def}
use Rattle.qtt_term.specs.Substitution.{sub, closed}
use Rattle.qtt_term.specs.Signature.{Tele, Env, Constructor, Family, Definition, con_sig, con_sigs, family_of, fam_sig, fam_at, index_binders}
use Rattle.qtt_term.specs.Judgement.{Ctx, Part, erase_binds}
use Rattle.qtt_term.specs.Infer.{Premise, at, inferred, is_there, usable, wanted, family_wants, constructor_wants, infer}
use Rattle.qtt_term.specs.Telescopes.{tele}
use Rattle.qtt_core_check.specs.Constructors.{counted, made_shaped}
use Rattle.qtt_core_check.specs.Seen.{Reaches, Fails}
use Rattle.qtt_preserve.proofs.Travel.{length-scale}
use Rattle.qtt_core_check.proofs.Arguments.{length-wanted}
use Rattle.qtt_core_check.proofs.Scopes.{length-tele}
use Rattle.qtt_core_check.proofs.Within.{on, on_done, fails_here, holds, unmet}
use Rattle.qtt_core_check.proofs.FormRows.{fam_need, con_need}

pub found-family : (E : Env) (f : GlobalId) (F : Family) → E.family f ≡ Some F → fam_at E f ≡ fam_sig f F
found-family E f F e = rw e refl

-- ---- definitions
module _ {n : ℕ} (E : Env) (p : Part) (Γ : Ctx) (d : GlobalId) where
  pub def-missing : E.definition d ≡ None → Fails E n (infer E p Γ (Def d)) (at rule.Def 1)
  def-missing e = fails_here _ (unmet _ _ (rw e refl))

  pub def-unusable : (D : Definition) → E.definition d ≡ Some D → usable p D.mult ≡ false →
      Fails E n (infer E p Γ (Def d)) (at rule.Def 1)
  def-unusable D e u = fails_here _ (unmet _ _ (rw (e, u) refl))

  pub def-found : (D : Definition) → E.definition d ≡ Some D → usable p D.mult ≡ true →
      Reaches E n (infer E p Γ (Def d)) (inferred (sub closed D.type) (no_usage (length Γ)))
  def-found D e u = rw e (on _ (holds _ _ (rw u refl)) (on _ on_done on_done))

-- ---- families
-- binders that are wanted so, by their number
counted-as : (bs : List (Mult × code.Term)) (r : Premise) (Θ : Tele) → tele bs ≡ Θ → length (wanted r Θ) ≡ length bs
counted-as bs r Θ e = length-wanted r Θ ∙ sym (ap length e) ∙ length-tele bs

wants : (E : Env) (f : GlobalId) (F : Family) → E.family f ≡ Some F →
    (bs : List (Mult × code.Term)) → tele bs ≡ erase_binds (F.params ++ index_binders 0 F.indices) →
    length (family_wants (fam_at E f)) ≡ length bs
wants E f F e bs same =
    ap (λ S. length (family_wants S)) (found-family E f F e) ∙ counted-as bs (at rule.Fam 1)
    (erase_binds (F.params ++ index_binders 0 F.indices)) same

module _ {n : ℕ} (E : Env) (f : GlobalId) where
  pub fam-missing : (m : ℕ) → E.family f ≡ None → Fails E n (fam_need E f m) (at rule.Fam 1)
  fam-missing m e = unmet _ _ (ap (λ o. is_there o && eqb m (length (family_wants (fam_at E f)))) e)

  module _ (F : Family) (e : E.family f ≡ Some F) (bs : List (Mult × code.Term))
      (same : tele bs ≡ erase_binds (F.params ++ index_binders 0 F.indices)) where
    pub fam-uncounted : (m : ℕ) → length bs ≢ m → Fails E n (fam_need E f m) (at rule.Fam 1)
    fam-uncounted m h = unmet _ _
        (ap₂ (λ o l. is_there o && eqb m l) e (wants E f F e bs same) ∙ ne_eqb m (length bs) (λ d. h (sym d)))

    pub fam-counted : (m : ℕ) → length bs ≡ m → Reaches E n (fam_need E f m) tt
    fam-counted m h = holds _ _
        (ap₂ (λ o l. is_there o && eqb m l) e (wants E f F e bs same) ∙ eq-eqb m (length bs) (sym h))

-- ---- constructors
-- at a place behind n others
sig-from : (f : GlobalId) (k n i : ℕ) (cs : List Constructor) (c : Constructor) → slice_get cs i ≡ Some c →
    slice_get (con_sigs f k n cs) i ≡ Some (con_sig f k (n + i) c)
sig-from f k n i [] c e = absurd (cc e)
sig-from f k n zero (d ∷ cs) c e =
    let s : d ≡ c = cc e in
    let j : n ≡ n + 0 = omega arith in ap₂ (λ m d. Some (con_sig f k m d)) j s
sig-from f k n (suc i) (d ∷ cs) c e =
    let j : suc n + i ≡ n + suc i = omega arith in sig-from f k (suc n) i cs c e ∙ ap (λ m. Some (con_sig f k m c)) j

pub sig-there : (f : GlobalId) (k i : ℕ) (cs : List Constructor) (c : Constructor) → slice_get cs i ≡ Some c →
    slice_get (con_sigs f k 0 cs) i ≡ Some (con_sig f k i c)
sig-there f k i cs c e = let j : 0 + i ≡ i = omega arith in sig-from f k 0 i cs c e ∙ ap (λ m. Some (con_sig f k m c)) j

pub sig-past : (f : GlobalId) (k n i : ℕ) (cs : List Constructor) → slice_get cs i ≡ None →
    slice_get (con_sigs f k n cs) i ≡ None
sig-past f k n i [] e = refl
sig-past f k n zero (d ∷ cs) e = absurd (cc e)
sig-past f k n (suc i) (d ∷ cs) e = sig-past f k (suc n) i cs e

-- how many components a constructor has
components : (F : Family) (f : GlobalId) (k i : ℕ) (c : Constructor) →
    length (constructor_wants (fam_sig f F) (con_sig f k i c)) ≡ length F.params + length c.fields
components F f k i c =
    length-append (wanted (at rule.Con 1) (erase_binds F.params)) (wanted (at rule.Con 2) c.fields)
    ∙ ap₂ (λ a b. a + b) (length-wanted (at rule.Con 1) (erase_binds F.params) ∙ length-scale 𝟘 F.params)
    (length-wanted (at rule.Con 2) c.fields)

shape : (E : Env) (f : GlobalId) (i k m : ℕ) (F : Family) → E.family f ≡ Some F →
    (c : Constructor) → slice_get F.constructors i ≡ Some c →
    made_shaped (fam_at E f) i k m ≡ (eqb k (length F.params) && eqb m (length F.params + length c.fields))
shape E f i k m F e c h =
    ap (λ S. made_shaped S i k m) (found-family E f F e) ∙ ap (counted (fam_sig f F) k m)
    (sig-there f (length F.params) i F.constructors c h)
    ∙ ap (λ z. eqb k (length F.params) && eqb m z) (components F f (length F.params) i c)

not-both : (a b x y : ℕ) → (a ≡ b → x ≡ y → ⊥) → (eqb a b && eqb x y) ≡ false
not-both a b x y d = by_tests (eqb a b) (eqb x y) refl refl
  where
    by_tests : (s t : Bool) → eqb a b ≡ s → eqb x y ≡ t → (s && t) ≡ false
    by_tests false t i j = refl
    by_tests true false i j = refl
    by_tests true true i j = absurd (d (eqb-true a b i) (eqb-true x y j))

module _ {n : ℕ} (E : Env) (f : GlobalId) (i k m : ℕ) where
  pub con-missing-family : E.family f ≡ None → Fails E n (con_need E f i k m) (at rule.Con 1)
  con-missing-family e = unmet _ _ (ap (λ o. made_shaped (fam_sig f (family_of o)) i k m) e)

  module _ (F : Family) (e : E.family f ≡ Some F) where
    pub con-past : slice_get F.constructors i ≡ None → Fails E n (con_need E f i k m) (at rule.Con 1)
    con-past h =
        unmet _ _ (ap (λ S. made_shaped S i k m) (found-family E f F e) ∙ ap (counted (fam_sig f F) k m)
        (sig-past f (length F.params) 0 i F.constructors h))

    module _ (c : Constructor) (h : slice_get F.constructors i ≡ Some c) where
      pub con-uncounted : (k ≡ length F.params → m ≡ length F.params + length c.fields → ⊥) →
          Fails E n (con_need E f i k m) (at rule.Con 1)
      con-uncounted d = unmet _ _
          (shape E f i k m F e c h ∙ not-both k (length F.params) m (length F.params + length c.fields) d)

      pub con-counted : k ≡ length F.params → m ≡ length F.params + length c.fields →
          Reaches E n (con_need E f i k m) tt
      con-counted a b =
          holds _ _ (shape E f i k m F e c h ∙ ap₂ (λ s t. s && t) (eq-eqb k (length F.params) a)
          (eq-eqb m (length F.params + length c.fields) b))
