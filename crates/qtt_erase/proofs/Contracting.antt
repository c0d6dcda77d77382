-- What a contraction gives, erased, is what the contraction of the erasure gives.
use Rattle.std.proofs.Common.{◌≡◌, ℕ, zero, suc, List, [], ◌∷◌, Some, None, eqb, cond, refl, sym, ◌∙◌, ap, subst}
use Rattle.std.proofs.lemmas.Bool.{eq-eqb, eqb-true, and_parts}
use Rattle.qtt_base.specs.declared.place.GlobalId.{GlobalId}
use Rattle.qtt_usage.specs.declared.mult.Mult.{Mult}
use Rattle.qtt_usage.specs.Mult.{𝟘, 𝟙, ω}
use Rattle.qtt_prims.specs.declared.lit.Lit.{Lit}
use Rattle.qtt_term.specs.Term.{Named, Form, Term, Terms, var, node, ε, ◌▸◌, size, skip, Lam, same_id}
use Rattle.qtt_term.specs.Substitution.{sub, push, cons, inst}
use Rattle.qtt_term.specs.Signature.{Constructor, Env, family_of, family_at, eq_id}
use Rattle.qtt_term.specs.Value.{mults, field_mults}
use Rattle.qtt_term.specs.Contraction as whole
use Rattle.qtt_term.specs.Contraction.{chain}
use Rattle.qtt_term.proofs.Options.{none≢some, some-injective, chain-some, cond-some}
use Rattle.qtt_term.proofs.Same.{same_id-is}
use Rattle.qtt_erase.specs.Lean as lean
use Rattle.qtt_erase.specs.Lean.{Lean, abstractions}
use Rattle.qtt_erase.specs.Binding as small
use Rattle.qtt_erase.specs.Binding.{Tree, ∅, ◌◂◌}
use Rattle.qtt_erase.specs.Operator as operators
use Rattle.qtt_erase.specs.Step as step
use Rattle.qtt_erase.specs.Erasure.{Slot, field_slots, places, Slots, extend, slot_at, place_at, Fate, arguments, without, branches, fates, kept_binders, erase, erases}
use Rattle.qtt_erase.specs.ErasedUse.{IsFilled, NoErasedUse, NoErasedUses, Erasable}
use Rattle.qtt_erase.proofs.Places.{Carries, erase-sub, clean-sub}
use Rattle.qtt_erase.proofs.Bindings.{sub-var}

-- ---- the forms that contractions look for
pub as_lam-is : (g : Term) (q : Mult) (b : Term) → whole.as_lam g ≡ Some (whole.Function.function q b) →
    (A : Term) × (g ≡ Lam q A b)
as_lam-is (Lam q A b) r c e =
    let h : whole.Function.function q b ≡ whole.Function.function r c = some-injective e in
    (A, let p : q ≡ r = cc in let k : b ≡ c = cc in cc)
as_lam-is _ r c e = absurd (none≢some e)

pub as_con-is : (s : Term) (f : GlobalId) (c : ℕ) (fs : Terms) → whole.as_con s ≡ Some (whole.Made.made f c fs) →
    (k : ℕ) × (ts : Terms) × (s ≡ node (Form.con f c k) ts) × (fs ≡ skip k ts)
as_con-is (node (Form.con f c k) ts) g d fs e =
    let h : whole.Made.made f c (skip k ts) ≡ whole.Made.made g d fs = some-injective e in
    (k, ts, cc, cc)
as_con-is _ g d fs e = absurd (none≢some e)

pub as_lit-is : (t : Term) (l : Lit) → whole.as_lit t ≡ Some l → t ≡ node (Form.named (Named.lit l)) ε
as_lit-is (node (Form.named (Named.lit l)) ε) m e = ap (λ k. node (Form.named (Named.lit k)) ε) (some-injective e)
as_lit-is _ m e = absurd (none≢some e)

module _ (E : Env) where
  -- a term, and the same without erased uses
  abbrev pub Becomes : Lean → Term → Type 0
  Becomes l t = (l ≡ erase E [] t) × NoErasedUse E [] t

  starts : Carries E [] [] var Tree.var
  starts = record { clean = λ i u. absurd u; erased = λ i u. absurd u }

  -- ---- one more term in a substitution
  carries-gone : (Γ Δ : Slots) (σ : ℕ → Term) (τ : ℕ → Lean) (a : Term) → Carries E Γ Δ σ τ →
      Carries E (Slot.gone ∷ Γ) Δ (cons a σ) τ
  carries-gone Γ Δ σ τ a h = record { clean = full; erased = at }
    where
      full : (i : ℕ) → IsFilled (slot_at (Slot.gone ∷ Γ) i) → NoErasedUse E Δ (cons a σ i)
      full zero u = absurd u
      full (suc i) u = h.clean i u

      at : (i : ℕ) → IsFilled (slot_at (Slot.gone ∷ Γ) i) → erase E Δ (cons a σ i) ≡ τ (place_at (Slot.gone ∷ Γ) i)
      at zero u = absurd u
      at (suc i) u = h.erased i u

  carries-blank : (Γ Δ : Slots) (σ : ℕ → Term) (τ : ℕ → Lean) (a : Term) (l : Lean) → Carries E Γ Δ σ τ →
      Carries E (Slot.blank ∷ Γ) Δ (cons a σ) (small.cons l τ)
  carries-blank Γ Δ σ τ a l h = record { clean = full; erased = at }
    where
      full : (i : ℕ) → IsFilled (slot_at (Slot.blank ∷ Γ) i) → NoErasedUse E Δ (cons a σ i)
      full zero u = absurd u
      full (suc i) u = h.clean i u

      at : (i : ℕ) → IsFilled (slot_at (Slot.blank ∷ Γ) i) →
          erase E Δ (cons a σ i) ≡ small.cons l τ (place_at (Slot.blank ∷ Γ) i)
      at zero u = absurd u
      at (suc i) u = h.erased i u

  carries-filled : (Γ Δ : Slots) (σ : ℕ → Term) (τ : ℕ → Lean) (a : Term) → Carries E Γ Δ σ τ → NoErasedUse E Δ a →
      Carries E (Slot.filled ∷ Γ) Δ (cons a σ) (small.cons (erase E Δ a) τ)
  carries-filled Γ Δ σ τ a h c = record { clean = full; erased = at }
    where
      full : (i : ℕ) → IsFilled (slot_at (Slot.filled ∷ Γ) i) → NoErasedUse E Δ (cons a σ i)
      full zero u = c
      full (suc i) u = h.clean i u

      at : (i : ℕ) → IsFilled (slot_at (Slot.filled ∷ Γ) i) →
          erase E Δ (cons a σ i) ≡ small.cons (erase E Δ a) τ (place_at (Slot.filled ∷ Γ) i)
      at zero u = refl
      at (suc i) u = h.erased i u

  -- ---- beta
  pub beta-filled : (b a : Term) → NoErasedUse E (Slot.filled ∷ []) b → NoErasedUse E [] a →
      Becomes (small.inst lean.binders (erase E (Slot.filled ∷ []) b) (erase E [] a)) (inst b a)
  beta-filled b a u v =
      let h : Carries E (Slot.filled ∷ []) [] (cons a var) (small.cons (erase E [] a) Tree.var) =
      carries-filled [] [] var Tree.var a starts v in
      (sym (erase-sub E b _ _ _ _ h u), clean-sub E b _ _ _ _ h u)

  pub beta-gone : (b a : Term) → NoErasedUse E (Slot.gone ∷ []) b → Becomes (erase E (Slot.gone ∷ []) b) (inst b a)
  beta-gone b a u =
      let h : Carries E (Slot.gone ∷ []) [] (cons a var) Tree.var = carries-gone [] [] var Tree.var a starts in
      (sym (erase-sub E b _ _ _ _ h u ∙ sub-var lean.binders _), clean-sub E b _ _ _ _ h u)

  -- ---- fields in their places
  pub nothing-erased : (Δ : Slots) (ts : Terms) → erases E Δ [] ts ≡ ∅
  nothing-erased Δ ε = refl
  nothing-erased Δ (t ▸ ts) = refl

  nothing-used : (Δ : Slots) (ts : Terms) → NoErasedUses E Δ [] ts
  nothing-used Δ ε = tt
  nothing-used Δ (t ▸ ts) = tt

  carries-push : (q : Mult) (ms : List Mult) (fs : Terms) (Γ Δ : Slots) (σ : ℕ → Term) (τ : ℕ → Lean) →
      Carries E Γ Δ σ τ →
      NoErasedUses E Δ (arguments ms) fs →
      Carries E (extend Γ (field_slots q ms (size fs))) Δ (push fs σ)
      (small.push (erases E Δ (arguments ms) fs) τ)
  carries-push q ms ε Γ Δ σ τ h u = h
  carries-push q [] (t ▸ fs) Γ Δ σ τ h u =
      subst (λ ls. Carries E (extend (Slot.gone ∷ Γ) (field_slots q [] (size fs))) Δ (push fs (cons t σ))
      (small.push ls τ)) (nothing-erased Δ fs)
      (carries-push q [] fs (Slot.gone ∷ Γ) Δ (cons t σ) τ (carries-gone Γ Δ σ τ t h) (nothing-used Δ fs))
  carries-push q (𝟘 ∷ ms) (t ▸ fs) Γ Δ σ τ h u = carries-push q ms fs _ _ _ _ (carries-gone Γ Δ σ τ t h) u
  carries-push 𝟘 (𝟙 ∷ ms) (t ▸ fs) Γ Δ σ τ h u = carries-push 𝟘 ms fs _ _ _ _ (carries-blank Γ Δ σ τ t _ h) u.1
  carries-push 𝟘 (ω ∷ ms) (t ▸ fs) Γ Δ σ τ h u = carries-push 𝟘 ms fs _ _ _ _ (carries-blank Γ Δ σ τ t _ h) u.1
  carries-push 𝟙 (𝟙 ∷ ms) (t ▸ fs) Γ Δ σ τ h u = carries-push 𝟙 ms fs _ _ _ _ (carries-filled Γ Δ σ τ t h u.0) u.1
  carries-push 𝟙 (ω ∷ ms) (t ▸ fs) Γ Δ σ τ h u = carries-push 𝟙 ms fs _ _ _ _ (carries-filled Γ Δ σ τ t h u.0) u.1
  carries-push ω (𝟙 ∷ ms) (t ▸ fs) Γ Δ σ τ h u = carries-push ω ms fs _ _ _ _ (carries-filled Γ Δ σ τ t h u.0) u.1
  carries-push ω (ω ∷ ms) (t ▸ fs) Γ Δ σ τ h u = carries-push ω ms fs _ _ _ _ (carries-filled Γ Δ σ τ t h u.0) u.1

  -- as many fields are left as binders of a branch
  fields-left : (q : Mult) (ms : List Mult) (fs : Terms) →
      small.size (erases E [] (arguments ms) fs) ≡ places (field_slots q ms (size fs))
  fields-left q ms ε = refl
  fields-left q [] (t ▸ fs) = sym (ap small.size (nothing-erased [] fs)) ∙ fields-left q [] fs
  fields-left q (𝟘 ∷ ms) (t ▸ fs) = fields-left q ms fs
  fields-left 𝟘 (𝟙 ∷ ms) (t ▸ fs) = ap suc (fields-left 𝟘 ms fs)
  fields-left 𝟘 (ω ∷ ms) (t ▸ fs) = ap suc (fields-left 𝟘 ms fs)
  fields-left 𝟙 (𝟙 ∷ ms) (t ▸ fs) = ap suc (fields-left 𝟙 ms fs)
  fields-left 𝟙 (ω ∷ ms) (t ▸ fs) = ap suc (fields-left 𝟙 ms fs)
  fields-left ω (𝟙 ∷ ms) (t ▸ fs) = ap suc (fields-left ω ms fs)
  fields-left ω (ω ∷ ms) (t ▸ fs) = ap suc (fields-left ω ms fs)

  -- ---- iota
  entered : (q : Mult) (ms : List Mult) (n : ℕ) (b : Term) (fs : Terms) (r : Term) →
      cond (eqb (size fs) n) (Some (sub (push fs var) b)) None ≡ Some r →
      NoErasedUse E (extend [] (field_slots q ms n)) b → NoErasedUses E [] (arguments ms) fs →
      (cond (eqb (small.size (erases E [] (arguments ms) fs)) (places (field_slots q ms n)))
      (Some (small.sub lean.binders (small.push (erases E [] (arguments ms) fs) Tree.var)
      (erase E (extend [] (field_slots q ms n)) b))) None ≡ Some (erase E [] r))
      × NoErasedUse E [] r
  entered q ms n b fs r e u v =
      let p = cond-some (eqb (size fs) n) (Some (sub (push fs var) b)) r e in
      let l : size fs ≡ n = eqb-true (size fs) n p.0 in
      let g : sub (push fs var) b ≡ r = some-injective p.1 in
      let h : Carries E (extend [] (field_slots q ms n)) [] (push fs var)
      (small.push (erases E [] (arguments ms) fs) Tree.var) =
      subst (λ k. Carries E (extend [] (field_slots q ms k)) [] (push fs var)
      (small.push (erases E [] (arguments ms) fs) Tree.var)) l
      (carries-push q ms fs [] [] var Tree.var starts v) in (
        ap (λ t. cond t (Some (small.sub lean.binders (small.push (erases E [] (arguments ms) fs) Tree.var)
            (erase E (extend [] (field_slots q ms n)) b))) None)
            (eq-eqb _ _ (fields-left q ms fs ∙ ap (λ k. places (field_slots q ms k)) l))
            ∙ ap Some (sym (erase-sub E b _ _ _ _ h u) ∙ ap (erase E []) g),
        subst (NoErasedUse E []) g (clean-sub E b _ _ _ _ h u),
      )

  branch-erased : (q : Mult) (cs : List Constructor) (ns : List ℕ) (us : Terms) (c : ℕ) (fs : Terms) (r : Term) →
      whole.branch_at c ns us fs ≡ Some r →
      NoErasedUses E [] (branches q cs ns) us → NoErasedUses E [] (arguments (field_mults cs c)) fs →
      (step.branch_at abstractions c (kept_binders q cs ns) (erases E [] (branches q cs ns) us)
      (erases E [] (arguments (field_mults cs c)) fs) ≡ Some (erase E [] r))
      × NoErasedUse E [] r
  branch-erased q cs [] us zero fs r e u v = absurd (none≢some e)
  branch-erased q cs (n ∷ ns) ε zero fs r e u v = absurd (none≢some e)
  branch-erased q [] (n ∷ ns) (b ▸ us) zero fs r e u v = entered q [] n b fs r e u.0 v
  branch-erased q (d ∷ cs) (n ∷ ns) (b ▸ us) zero fs r e u v = entered q (mults d.fields) n b fs r e u.0 v
  branch-erased q cs [] us (suc c) fs r e u v = absurd (none≢some e)
  branch-erased q cs (n ∷ ns) ε (suc c) fs r e u v = absurd (none≢some e)
  branch-erased q [] (n ∷ ns) (b ▸ us) (suc c) fs r e u v = branch-erased q [] ns us c fs r e u.1 v
  branch-erased q (d ∷ cs) (n ∷ ns) (b ▸ us) (suc c) fs r e u v = branch-erased q cs ns us c fs r e u.1 v

  scrutinee-erased : (q : Mult) (cs : List Constructor) (ns : List ℕ) (us : Terms) (s : Term) →
      whole.scrutinee ns us ≡ Some s →
      NoErasedUses E [] (branches q cs ns) us →
      (step.scrutinee (kept_binders q cs ns) (erases E [] (branches q cs ns) us) ≡ Some (erase E [] s)) ×
      NoErasedUse E [] s
  scrutinee-erased q cs [] ε s e u = absurd (none≢some e)
  scrutinee-erased q cs [] (t ▸ ε) s e u =
      (ap (λ x. Some (erase E [] x)) (some-injective e), subst (NoErasedUse E []) (some-injective e) u.0)
  scrutinee-erased q cs [] (t ▸ t′ ▸ us) s e u = absurd (none≢some e)
  scrutinee-erased q cs (n ∷ ns) ε s e u = absurd (none≢some e)
  scrutinee-erased q [] (n ∷ ns) (b ▸ us) s e u = scrutinee-erased q [] ns us s e u.1
  scrutinee-erased q (d ∷ cs) (n ∷ ns) (b ▸ us) s e u = scrutinee-erased q cs ns us s e u.1

  pub erases-without : (k : ℕ) (fs : List Fate) (ts : Terms) →
      erases E [] (without k fs) ts ≡ erases E [] fs (skip k ts)
  erases-without zero fs ts = refl
  erases-without (suc k) fs ε = refl
  erases-without (suc k) fs (t ▸ ts) = erases-without k fs ts

  pub cleans-without : (k : ℕ) (fs : List Fate) (ts : Terms) → NoErasedUses E [] (without k fs) ts →
      NoErasedUses E [] fs (skip k ts)
  cleans-without zero fs ts u = u
  cleans-without (suc k) fs ε u = tt
  cleans-without (suc k) fs (t ▸ ts) u = cleans-without k fs ts u

  -- the fields of a constructor of family g, of which the scrutinee is made
  made-erased : (q : Mult) (f g : GlobalId) (ns : List ℕ) (us : Terms) (c k : ℕ) (ts : Terms) (r : Term) → f ≡ g →
      whole.branch_at c ns us (skip k ts) ≡ Some r →
      NoErasedUses E [] (branches q (family_at E f).constructors ns) us → NoErasedUse E [] (node (Form.con g c k) ts) →
      (chain (step.as_con (erase E [] (node (Form.con g c k) ts)))
      (step.select abstractions (kept_binders q (family_at E f).constructors ns)
      (erases E [] (branches q (family_at E f).constructors ns) us)) ≡ Some (erase E [] r))
      × NoErasedUse E [] r
  made-erased q f g ns us c k ts r same e u v =
      let fs : List Fate = arguments (field_mults (family_at E g).constructors c) in
      let b = branch-erased q (family_at E f).constructors ns us c (skip k ts) r e u
      (subst (λ h. NoErasedUses E [] (arguments (field_mults (family_at E h).constructors c)) (skip k ts))
      (sym same) (cleans-without k fs ts v.1)) in (
        ap (step.branch_at abstractions c (kept_binders q (family_at E f).constructors ns)
            (erases E [] (branches q (family_at E f).constructors ns) us))
            (erases-without k fs ts ∙
            ap (λ h. erases E [] (arguments (field_mults (family_at E h).constructors c)) (skip k ts))
            (sym same))
            ∙ b.0,
        b.1,
      )

  selected : (q : Mult) (f : GlobalId) (ns : List ℕ) (us : Terms) (s : Term) (m : whole.Made) (r : Term) →
      whole.as_con s ≡ Some m →
      whole.select f ns us m ≡ Some r → NoErasedUses E [] (branches q (family_at E f).constructors ns) us →
      NoErasedUse E [] s →
      (chain (step.as_con (erase E [] s))
      (step.select abstractions (kept_binders q (family_at E f).constructors ns)
      (erases E [] (branches q (family_at E f).constructors ns) us)) ≡ Some (erase E [] r))
      × NoErasedUse E [] r
  selected q f ns us s (whole.Made.made g c fs) r ec e u v =
      let p = as_con-is s g c fs ec in
      let t = cond-some (same_id f g) (whole.branch_at c ns us fs) r e in
      let w = made-erased q f g ns us c p.0 p.1 r (same_id-is f g t.0)
      (ap (whole.branch_at c ns us) (sym p.3) ∙ t.1) u (subst (NoErasedUse E []) p.2 v) in (
        ap (λ x. chain (step.as_con (erase E [] x))
            (step.select abstractions (kept_binders q (family_at E f).constructors ns)
            (erases E [] (branches q (family_at E f).constructors ns) us))) p.2 ∙ w.0,
        w.1,
      )

  pub iota-erased : (q : Mult) (f : GlobalId) (ns : List ℕ) (us : Terms) (r : Term) → whole.iota f ns us ≡ Some r →
      NoErasedUses E [] (None ∷ branches q (family_at E f).constructors ns) us →
      (step.iota abstractions (kept_binders q (family_at E f).constructors ns)
      (erases E [] (None ∷ branches q (family_at E f).constructors ns) us) ≡ Some (erase E [] r))
      × NoErasedUse E [] r
  iota-erased q f ns ε r e u = absurd (none≢some e)
  iota-erased q f ns (P ▸ us) r e u =
      let p = chain-some (whole.scrutinee ns us) (λ s. chain (whole.as_con s) (whole.select f ns us)) r e in
      let m = chain-some (whole.as_con p.0) (whole.select f ns us) r p.2 in
      let s = scrutinee-erased q (family_at E f).constructors ns us p.0 p.1 u in
      let w = selected q f ns us p.0 m.0 r m.1 m.2 u s.1 in (
        ap (λ o. chain o (λ x. chain (step.as_con x)
            (step.select abstractions (kept_binders q (family_at E f).constructors ns)
            (erases E [] (branches q (family_at E f).constructors ns) us)))) s.0
            ∙ w.0,
        w.1,
      )

  -- ---- deletion
  reflexive : Erasable E → (k : ℕ) (ts : Terms) → erases E [] (fates E (Form.con eq_id 0 k)) ts ≡ ∅
  reflexive h k ts =
      ap (λ F. erases E [] (without k (arguments (field_mults (family_of F).constructors 0))) ts) h.equality ∙
      erases-without k [] ts ∙ nothing-erased [] (skip k ts)

  deleted : Erasable E → (b e : Term) (m : whole.Made) (r : Term) → whole.as_con e ≡ Some m →
      whole.when_refl b m ≡ Some r → NoErasedUse E [] b →
      (step.iota abstractions (0 ∷ []) (erase E [] b ◂ erase E [] e ◂ ∅) ≡ Some (erase E [] r)) × NoErasedUse E [] r
  deleted h b e (whole.Made.made f c fs) r ec d u =
      let p = as_con-is e f c fs ec in
      let t = cond-some _ (Some b) r d in
      let w = and_parts (same_id f eq_id) (eqb c 0) t.0 in
      let x : e ≡ node (Form.con eq_id 0 p.0) p.1 =
      p.2 ∙ ap (λ g. node (Form.con g c p.0) p.1) (same_id-is f eq_id w.0) ∙
      ap (λ d. node (Form.con eq_id d p.0) p.1) (eqb-true c 0 w.1) in (
        ap (λ e. step.iota abstractions (0 ∷ []) (erase E [] b ◂ erase E [] e ◂ ∅)) x
            ∙ ap (λ fs. step.branch_at abstractions 0 (0 ∷ []) (erase E [] b ◂ operators.Con 0 fs ◂ ∅) fs)
            (reflexive h p.0 p.1)
            ∙ ap Some (sub-var lean.binders (erase E [] b) ∙ ap (erase E []) (some-injective t.1)),
        subst (NoErasedUse E []) (some-injective t.1) u,
      )

  pub deletion-erased : Erasable E → (ts : Terms) (r : Term) → whole.deletion ts ≡ Some r →
      NoErasedUses E [] (without 3 (Some [] ∷ Some [] ∷ [])) ts →
      (step.iota abstractions (0 ∷ []) (erases E [] (without 3 (Some [] ∷ Some [] ∷ [])) ts) ≡ Some
      (erase E [] r)) × NoErasedUse E [] r
  deletion-erased h (A ▸ s ▸ P ▸ b ▸ e ▸ ε) r d u =
      let m = chain-some (whole.as_con e) (whole.when_refl b) r d in
      deleted h b e m.0 r m.1 m.2 u.0
  deletion-erased h _ r d u = absurd (none≢some d)
