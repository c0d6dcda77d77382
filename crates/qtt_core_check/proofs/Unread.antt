-- The core judgement asks for no reading.
use Rattle.std.proofs.Common.{ℕ, Bool, true, false, List, [], ◌∷◌, Option, Some, None, slice_get}
use Rattle.qtt_base.specs.declared.place.GlobalId.{GlobalId}
use Rattle.qtt_usage.specs.declared.mult.Mult.{Mult}
use Rattle.qtt_term.specs.Term.{Form, Term, Terms, var, node, ε, ◌▸◌}
use Rattle.qtt_term.specs.Signature.{Tele, ConSig, Env, fam_at}
use Rattle.qtt_term.specs.Judgement.{Ctx, Part}
use Rattle.qtt_term.specs.Ask.{Ask, ◌>>=◌, NoReading}
use Rattle.qtt_term.specs.Premises.{need, found}
use Rattle.qtt_term.specs.Forms.{as_sort, as_function}
use Rattle.qtt_term.specs.Infer.{Premise, Asks, Inferred, agree, sort_of, function_of, as_family, family_of, unbound, has, type_of, Wanted, CaseOf, constructor_at, infer, arguments, case_params, case_branches}

-- ---- lists and premises
pub both : {F P A B : Type 0} (m : Ask F P A) (k : A → Ask F P B) → NoReading m → ((a : A) → NoReading (k a)) →
    NoReading (m >>= k)
unfolding ◌>>=◌
both (Ask.done a) k u v = v a
both (Ask.fail f) k u v = tt
both (Ask.head p n t g) k u v = λ h. both (g h) k (u h) v
both (Ask.read p n t g) k u v = absurd u
both (Ask.compare p n t s m w) k u v = (both m k u.0 v, both w k u.1 v)

pub needs : {F : Type 0} (P : Type 0) (b : Bool) (f : F) → NoReading {P = P} (need b f)
unfolding need
needs P true f = tt
needs P false f = tt

pub finds : {F A : Type 0} (P : Type 0) (o : Option A) (f : F) → NoReading {P = P} (found o f)
finds P (Some a) f = tt
finds P None f = tt

agrees : (Γ : Ctx) (t s : Term) (p : Premise) → NoReading (agree Γ t s p)
unfolding agree
agrees Γ t s p = (tt, tt)

sorts : (Γ : Ctx) (A : Term) (p : Premise) → NoReading (sort_of Γ A p)
unfolding sort_of
sorts Γ A p = λ h. finds _ (as_sort h) p

functions : (Γ : Ctx) (A : Term) (p : Premise) → NoReading (function_of Γ A p)
unfolding function_of
functions Γ A p = λ h. finds _ (as_function h) p

families : (Γ : Ctx) (f : GlobalId) (n : ℕ) (A : Term) (p : Premise) → NoReading (family_of Γ f n A p)
unfolding family_of
families Γ f n A p = λ h. finds _ (as_family f n h) p

unbinds : (p : Part) (Θ : Tele) (t : Term) (u : List Mult) (r : Premise) → NoReading (unbound p Θ t u r)
unfolding unbound
unbinds Part.erased Θ t u r = tt
unbinds Part.run Θ t u r = both _ _ (needs _ _ r) (λ x. tt)

having : (Γ : Ctx) (m : Asks Inferred) (A : Term) (p : Premise) → NoReading m → NoReading (has Γ m A p)
having Γ m A p u = both _ _ u (λ j. both _ _ (agrees Γ j.type A p) (λ x. tt))

typing : (Γ : Ctx) (m : Asks Inferred) (p : Premise) → NoReading m → NoReading (type_of Γ m p)
typing Γ m p u = both _ _ u (λ j. sorts Γ j.type p)

making : (o : Option ConSig) (k : ConSig → Asks Inferred) → ((c : ConSig) → NoReading (k c)) →
    NoReading (constructor_at o k)
making None k u = tt
making (Some c) k u = u c

-- ---- forms
abbrev Unread : Env → Term → Type 0
Unread E t = (p : Part) (Γ : Ctx) → NoReading (infer E p Γ t)

abbrev AllUnread : Env → Terms → Type 0
AllUnread E ε = Unit {0}
AllUnread E (t ▸ ts) = Unread E t × AllUnread E ts

module _ (E : Env) where
  arguments-unread : (ts : Terms) → AllUnread E ts → (p : Part) (Γ : Ctx) (xs : List Wanted) (σ : ℕ → Term) →
      NoReading (arguments E p Γ xs σ ts)
  arguments-unread ε u p Γ [] σ = tt
  arguments-unread ε u p Γ (x ∷ xs) σ = tt
  arguments-unread (t ▸ ts) u p Γ [] σ = tt
  arguments-unread (t ▸ ts) u p Γ (x ∷ xs) σ =
      both _ _ (having Γ _ _ _ (u.0 _ Γ)) (λ us. both _ _ (arguments-unread ts u.1 p Γ xs _) (λ ws. tt))

  branches-unread : (ts : Terms) → AllUnread E ts → (p : Part) (Γ : Ctx) (c : CaseOf) (σ : ℕ → Term) (P : Term)
      (ds : List ConSig) (o : Option (List Mult)) → NoReading (case_branches E p Γ c σ P ds ts o)
  branches-unread ε u p Γ c σ P [] o = tt
  branches-unread ε u p Γ c σ P (d ∷ ds) o = tt
  branches-unread (b ▸ ts) u p Γ c σ P (d ∷ ds) o =
      both _ _ (u.0 p _) (λ j. both _ _ (agrees _ _ _ _) (λ x. both _ _ (unbinds p _ _ _ _) (λ us.
      branches-unread ts u.1 p Γ c σ P ds _)))
  branches-unread (s ▸ ε) u p Γ c σ P [] o =
      both _ _ (u.0 _ Γ) (λ j. both _ _ (families Γ _ _ _ _) (λ xs. both _ _ (agrees Γ _ _ _) (λ x. tt)))
  branches-unread (s ▸ t ▸ ts) u p Γ c σ P [] o = tt

  params-unread : (ts : Terms) → AllUnread E ts → (p : Part) (Γ : Ctx) (c : CaseOf) (Θ : Tele) (σ : ℕ → Term) →
      NoReading (case_params E p Γ c Θ σ ts)
  params-unread ε u p Γ c [] σ = tt
  params-unread ε u p Γ c (b ∷ Θ) σ = tt
  params-unread (a ▸ ts) u p Γ c (b ∷ Θ) σ =
      both _ _ (having Γ _ _ _ (u.0 Part.erased Γ)) (λ us. params-unread ts u.1 p Γ c Θ _)
  params-unread (P ▸ ts) u p Γ c [] σ =
      both _ _ (typing _ _ _ (u.0 Part.erased _)) (λ l. branches-unread ts u.1 p Γ c σ P _ None)

  form-unread : (F : Form) (ts : Terms) → AllUnread E ts → Unread E (node F ts)
  form-unread (Form.sort l) ε u p Γ = both _ _ (needs _ _ _) (λ x. tt)
  form-unread (Form.pi q) (A ▸ B ▸ ε) u p Γ =
      both _ _ (typing Γ _ _ (u.0 Part.erased Γ)) (λ i. both _ _ (typing _ _ _ (u.1.0 Part.erased _)) (λ j. tt))
  form-unread (Form.lam q) (A ▸ b ▸ ε) u p Γ =
      both _ _ (typing Γ _ _ (u.0 Part.erased Γ)) (λ i. both _ _ (u.1.0 p _) (λ j.
      both _ _ (unbinds p _ _ _ _) (λ us. tt)))
  form-unread (Form.app q) (f ▸ a ▸ ε) u p Γ =
      both _ _ (u.0 p Γ) (λ j. both _ _ (functions Γ _ _) (λ F. both _ _ (needs _ _ _) (λ x.
      both _ _ (having Γ _ _ _ (u.1.0 _ Γ)) (λ us. tt))))
  form-unread (Form.fam f) ts u p Γ =
      both _ _ (needs _ _ _) (λ x. both _ _ (arguments-unread ts u p Γ _ _) (λ us. tt))
  form-unread (Form.con f n k) ts u p Γ = making (slice_get (fam_at E f).constructors n) _ (λ c.
      both _ _ (needs _ _ _) (λ x. both _ _ (arguments-unread ts u p Γ _ _) (λ us. tt)))
  form-unread (Form.case q f k m ns) ts u p Γ = both _ _ (needs _ _ _) (λ x. params-unread ts u p Γ _ _ _)
  form-unread (Form.delete q) (A ▸ s ▸ P ▸ b ▸ e ▸ ε) u p Γ =
      both _ _ (needs _ _ _) (λ n. both _ _ (having Γ _ _ _ (u.0 Part.erased Γ)) (λ x.
      both _ _ (having Γ _ _ _ (u.1.0 Part.erased Γ)) (λ y. both _ _ (typing _ _ _ (u.1.1.0 Part.erased _)) (λ l.
      both _ _ (having Γ _ _ _ (u.1.1.1.0 p Γ)) (λ us. both _ _ (having Γ _ _ _ (u.1.1.1.1.0 _ Γ)) (λ ws. tt))))))
  form-unread (Form.named n) ts u p Γ =
      both _ _ (needs _ _ _) (λ x. both _ _ (arguments-unread ts u p Γ _ _) (λ us. tt))
  form-unread Form.trap (A ▸ ε) u p Γ = both _ _ (typing Γ _ _ (u.0 Part.erased Γ)) (λ i. tt)
  form-unread (Form.tape n) ε u p Γ = tt
  form-unread _ ts u p Γ = tt

  mutual
    pub unread : (t : Term) → Unread E t
    unread (var i) p Γ = both _ _ (needs _ _ _) (λ x. tt)
    unread (node F ts) p Γ = form-unread F ts (all-unread ts) p Γ

    all-unread : (ts : Terms) → AllUnread E ts
    all-unread ε = tt
    all-unread (t ▸ ts) = (unread t, all-unread ts)
