-- The core judgement tells convertible terms not apart.
use Rattle.std.proofs.Common.{◌≡◌, ℕ, zero, suc, max, refl, ap, subst, ◌∙◌, Bool, true, false, cond, ◌&&◌, eqb, List, [], ◌∷◌, length, Option, Some, None, slice_get}
use Rattle.qtt_base.specs.declared.place.GlobalId.{GlobalId}
use Rattle.qtt_usage.specs.declared.mult.Mult.{Mult}
use Rattle.qtt_usage.specs.Mult.{same_mult}
use Rattle.qtt_usage.specs.Usage.{usage_sum, usage_scale}
use Rattle.qtt_term.specs.Term.{Form, Term, Terms, var, node, ε, ◌▸◌, ◌+++◌, size, skip, Sort, same_id}
use Rattle.qtt_term.specs.Substitution.{cons, push}
use Rattle.qtt_term.specs.Signature.{Tele, ConSig, Env, fam_at}
use Rattle.qtt_term.specs.Contraction.{Conv, BodiesClosed}
use Rattle.qtt_term.specs.Judgement.{Ctx, Part}
use Rattle.qtt_term.specs.Ask.{Ask, ◌>>=◌}
use Rattle.qtt_term.specs.Premises.{need, found}
use Rattle.qtt_term.specs.Forms.{Function}
use Rattle.qtt_term.specs.Infer.{Premise, Asks, Inferred, inferred, agree, sort_of, function_of, as_family, family_of, unbound, with_branch, joined_use, has, type_of, Wanted, CaseOf, constructor_at, infer, arguments, case_params, case_branches}
use Rattle.qtt_confluence.specs.Injective.{Convs}
use Rattle.qtt_confluence.proofs.Confluence.{convs-same, conv-inside, conv-sub, conv-fill, push-conv}
use Rattle.qtt_conclusions.specs.Alike.{Alike, SameFunction, SameLevel, SameInferred}
use Rattle.qtt_conclusions.specs.Laws.{JudgementIsOne}
use Rattle.qtt_conclusions.proofs.Alike.{Formed, heads-formed, forms-are_alike, one-conclusion}

-- ---- answers
abbrev SameUses : List Mult → List Mult → Type 0
SameUses u w = u ≡ w

abbrev Any : Unit {0} → Unit {0} → Type 0
Any a b = Unit {0}

one-conv : {E : Env} {t s : Term} → Convs E (t ▸ ε) (s ▸ ε) → Conv E t s
one-conv (Convs.more c Convs.none) = c

type-of : {E : Env} (j i : Inferred) → SameInferred E j i → Conv E j.type i.type
type-of j i s = one-conv s.components

uses-of : {E : Env} (j i : Inferred) → SameInferred E j i → j.uses ≡ i.uses
uses-of j i s = s.fixed_parts

same-inferred : {E : Env} {A B : Term} {u w : List Mult} → Conv E A B → u ≡ w →
    SameInferred E (inferred A u) (inferred B w)
same-inferred c e = record { fixed_parts = e; components = Convs.more c Convs.none }

same-term : {E : Env} {t s : Term} → t ≡ s → Conv E t s
same-term {E} {t} e = subst (Conv E t) e Conv.same

max-same : {i j k l : ℕ} → i ≡ k → j ≡ l → Sort (max i j) ≡ Sort (max k l)
max-same {j = j} {k = k} a b = ap (λ n. Sort (max n j)) a ∙ ap (λ n. Sort (max k n)) b

sum-same : {u v w x : List Mult} → u ≡ v → w ≡ x → usage_sum u w ≡ usage_sum v x
sum-same {v = v} {w = w} a b = ap (λ u. usage_sum u w) a ∙ ap (usage_sum v) b

-- ---- components
convs-size : {E : Env} {ts ss : Terms} → Convs E ts ss → size ts ≡ size ss
convs-size Convs.none = refl
convs-size (Convs.more c cs) = ap suc (convs-size cs)

convs-skip : {E : Env} (k : ℕ) {ts ss : Terms} → Convs E ts ss → Convs E (skip k ts) (skip k ss)
convs-skip zero cs = cs
convs-skip (suc k) Convs.none = Convs.none
convs-skip (suc k) (Convs.more c cs) = convs-skip k cs

convs-then : {E : Env} {ts ss : Terms} (rs : Terms) → Convs E ts ss → Convs E (ts +++ rs) (ss +++ rs)
convs-then rs Convs.none = convs-same rs
convs-then rs (Convs.more c cs) = Convs.more c (convs-then rs cs)

-- ---- lists and premises
both : {F P A B : Type 0} {E : Env} {Same : A → A → Type 0} {Next : B → B → Type 0} (m n : Ask F P A)
    (k l : A → Ask F P B) → Alike E Same m n → ((a b : A) → Same a b → Alike E Next (k a) (l b)) →
    Alike E Next (m >>= k) (n >>= l)
unfolding ◌>>=◌
both _ _ k l (Alike.done {a = a} {b = b} s) h = h a b s
both _ _ k l Alike.fail h = Alike.fail
both _ _ k l (Alike.head {g = g} {l = i} c next) h =
    Alike.head c (λ x y a b. both (g x) (i y) k l (next x y a b) h)
both _ _ k l (Alike.read {g = g} {l = i} c next) h =
    Alike.read c (λ x y a b. both (g x) (i y) k l (next x y a b) h)
both _ _ k l (Alike.compare {m = m} {w = w} {n = n} {x = x} c d same other) h =
    Alike.compare c d (both m n k l same h) (both w x k l other h)

needs : {F P : Type 0} (E : Env) (b c : Bool) (f : F) → b ≡ c → Alike E {P = P} Any (need b f) (need c f)
unfolding need
needs E true true f e = Alike.done tt
needs E true false f e = absurd (cc e)
needs E false true f e = absurd (cc e)
needs E false false f e = Alike.fail

agrees : (E : Env) (Γ : Ctx) (t s u v : Term) (p : Premise) → Conv E t u → Conv E s v →
    Alike E Any (agree Γ t s p) (agree Γ u v p)
unfolding agree
agrees E Γ t s u v p c d = Alike.compare c d (Alike.done tt) Alike.fail

sorts : (E : Env) (Γ : Ctx) (A B : Term) (p : Premise) → Conv E A B →
    Alike E (SameLevel E) (sort_of Γ A p) (sort_of Γ B p)
unfolding sort_of
sorts E Γ A B p c = (forms-are_alike E).universe tt (length Γ) A B p c

functions : (E : Env) (Γ : Ctx) (A B : Term) (p : Premise) → Conv E A B →
    Alike E (SameFunction E) (function_of Γ A p) (function_of Γ B p)
unfolding function_of
functions E Γ A B p c = (forms-are_alike E).function tt (length Γ) A B p c

two-convs : {E : Env} {t s u v : Term} → Convs E (t ▸ u ▸ ε) (s ▸ v ▸ ε) → Conv E t s × Conv E u v
two-convs (Convs.more c (Convs.more d Convs.none)) = (c, d)

domain-of : {E : Env} (F G : Function) → SameFunction E F G → Conv E F.domain G.domain
domain-of F G s = (two-convs s.components).0

codomain-of : {E : Env} (F G : Function) → SameFunction E F G → Conv E F.codomain G.codomain
codomain-of F G s = (two-convs s.components).1

found-if : {F P : Type 0} {E : Env} (f : F) (b : Bool) {ts ss : Terms} → Convs E ts ss →
    Alike E {P = P} (Convs E) (found (cond b (Some ts) None) f) (found (cond b (Some ss) None) f)
found-if f true cs = Alike.done cs
found-if f false cs = Alike.fail

found-families : {F P : Type 0} {E : Env} (id : GlobalId) (n : ℕ) {h k : Term} (f : F) → Formed E h k →
    Alike E {P = P} (Convs E) (found (as_family id n h) f) (found (as_family id n k) f)
found-families id n f Formed.at_variable = Alike.fail
found-families id n f (Formed.at_form {F = Form.fam g} {ss = ss} cs) =
    rw (convs-size cs) (found-if f (same_id id g && eqb (size ss) n) cs)
found-families id n f (Formed.at_form cs) = Alike.fail

families : (E : Env) (Γ : Ctx) (id : GlobalId) (n : ℕ) (A B : Term) (p : Premise) → Conv E A B →
    Alike E (Convs E) (family_of Γ id n A p) (family_of Γ id n B p)
unfolding family_of
families E Γ id n A B p c = Alike.head c (λ h k x y. found-families id n p (heads-formed h k c x y))

unbinds-same : (E : Env) (p : Part) (Θ : Tele) (t : Term) (u : List Mult) (r : Premise) →
    Alike E SameUses (unbound p Θ t u r) (unbound p Θ t u r)
unfolding unbound
unbinds-same E Part.erased Θ t u r = Alike.done refl
unbinds-same E Part.run Θ t u r = both _ _ _ _ (needs E _ _ r refl) (λ x y z. Alike.done refl)

unbinds : (E : Env) (p : Part) (Θ : Tele) (t : Term) (u w : List Mult) (r : Premise) → u ≡ w →
    Alike E SameUses (unbound p Θ t u r) (unbound p Θ t w r)
unbinds E p Θ t u w r e =
    subst (λ w. Alike E SameUses (unbound p Θ t u r) (unbound p Θ t w r)) e (unbinds-same E p Θ t u r)

having : {E : Env} (Γ : Ctx) (m n : Asks Inferred) (A B : Term) (p : Premise) → Alike E (SameInferred E) m n →
    Conv E A B → Alike E SameUses (has Γ m A p) (has Γ n B p)
having {E} Γ m n A B p a c =
    both _ _ _ _ a (λ j i s. both _ _ _ _ (agrees E Γ j.type A i.type B p (type-of j i s) c)
    (λ x y z. Alike.done (uses-of j i s)))

typing : {E : Env} (Γ : Ctx) (m n : Asks Inferred) (p : Premise) → Alike E (SameInferred E) m n →
    Alike E (SameLevel E) (type_of Γ m p) (type_of Γ n p)
typing {E} Γ m n p a = both _ _ _ _ a (λ j i s. sorts E Γ j.type i.type p (type-of j i s))

making : {E : Env} (o : Option ConSig) (k : ConSig → Asks Inferred) →
    ((c : ConSig) → Alike E (SameInferred E) (k c) (k c)) →
    Alike E (SameInferred E) (constructor_at o k) (constructor_at o k)
making None k u = Alike.fail
making (Some c) k u = u c

-- ---- forms
abbrev IsAlike : Env → Term → Type 0
IsAlike E t = (p : Part) (Γ : Ctx) → Alike E (SameInferred E) (infer E p Γ t) (infer E p Γ t)

abbrev AllAlike : Env → Terms → Type 0
AllAlike E ε = Unit {0}
AllAlike E (t ▸ ts) = IsAlike E t × AllAlike E ts

module _ (E : Env) (bodies : BodiesClosed E) where
  arguments-alike : (ts : Terms) → AllAlike E ts → (p : Part) (Γ : Ctx) (xs : List Wanted) (σ : ℕ → Term) →
      Alike E SameUses (arguments E p Γ xs σ ts) (arguments E p Γ xs σ ts)
  arguments-alike ε u p Γ [] σ = Alike.done refl
  arguments-alike ε u p Γ (x ∷ xs) σ = Alike.done refl
  arguments-alike (t ▸ ts) u p Γ [] σ = Alike.done refl
  arguments-alike (t ▸ ts) u p Γ (x ∷ xs) σ =
      both _ _ _ _ (having Γ _ _ _ _ _ (u.0 _ Γ) Conv.same) (λ v w e.
      both _ _ _ _ (arguments-alike ts u.1 p Γ xs _) (λ y z d.
      Alike.done (sum-same (ap (usage_scale x.mult) e) d)))

  branches-alike : (ts : Terms) → AllAlike E ts → (p : Part) (Γ : Ctx) (c : CaseOf) (σ : ℕ → Term) (P : Term)
      (ds : List ConSig) (o r : Option (List Mult)) → o ≡ r →
      Alike E (SameInferred E) (case_branches E p Γ c σ P ds ts o) (case_branches E p Γ c σ P ds ts r)
  branches-alike ε u p Γ c σ P [] o r e = Alike.fail
  branches-alike ε u p Γ c σ P (d ∷ ds) o r e = Alike.fail
  branches-alike (b ▸ ts) u p Γ c σ P (d ∷ ds) o r e =
      both _ _ _ _ (u.0 p _) (λ j i s. both _ _ _ _ (agrees E _ _ _ _ _ _ (type-of j i s) Conv.same) (λ x y z.
      both _ _ _ _ (unbinds E p _ _ _ _ _ (uses-of j i s)) (λ v w f.
      branches-alike ts u.1 p Γ c σ P ds _ _ (ap (λ v. with_branch b v o) f ∙ ap (with_branch b w) e))))
  branches-alike (t ▸ ε) u p Γ c σ P [] o r e =
      both _ _ _ _ (u.0 _ Γ) (λ j i s. both _ _ _ _ (families E Γ _ _ _ _ _ (type-of j i s)) (λ xs ys cs.
      let k = length c.family.params in
      let ds = convs-skip k cs in
      both _ _ _ _ (agrees E Γ _ _ _ _ _ (type-of j i s)
      (conv-fill bodies c.family.self (push (skip k xs) σ) (push (skip k ys) σ)
      (push-conv ds σ σ (λ n. Conv.same)))) (λ x y z.
      Alike.done (same-inferred
      (conv-fill bodies P (push (skip k xs +++ (t ▸ ε)) var) (push (skip k ys +++ (t ▸ ε)) var)
      (push-conv (convs-then (t ▸ ε) ds) var var (λ n. Conv.same)))
      (sum-same (ap (usage_scale c.mult) (uses-of j i s)) (ap (joined_use (length Γ)) e))))))
  branches-alike (t ▸ s ▸ ts) u p Γ c σ P [] o r e = Alike.fail

  params-alike : (ts : Terms) → AllAlike E ts → (p : Part) (Γ : Ctx) (c : CaseOf) (Θ : Tele) (σ : ℕ → Term) →
      Alike E (SameInferred E) (case_params E p Γ c Θ σ ts) (case_params E p Γ c Θ σ ts)
  params-alike ε u p Γ c [] σ = Alike.fail
  params-alike ε u p Γ c (b ∷ Θ) σ = Alike.fail
  params-alike (a ▸ ts) u p Γ c (b ∷ Θ) σ =
      both _ _ _ _ (having Γ _ _ _ _ _ (u.0 Part.erased Γ) Conv.same) (λ v w e. params-alike ts u.1 p Γ c Θ _)
  params-alike (P ▸ ts) u p Γ c [] σ =
      both _ _ _ _ (typing _ _ _ _ (u.0 Part.erased _)) (λ l k e. branches-alike ts u.1 p Γ c σ P _ None None refl)

  form-alike : (F : Form) (ts : Terms) → AllAlike E ts → IsAlike E (node F ts)
  form-alike (Form.sort l) ε u p Γ =
      both _ _ _ _ (needs E _ _ _ refl) (λ x y z. Alike.done (same-inferred Conv.same refl))
  form-alike (Form.pi q) (A ▸ B ▸ ε) u p Γ =
      both _ _ _ _ (typing Γ _ _ _ (u.0 Part.erased Γ)) (λ i k a.
      both _ _ _ _ (typing _ _ _ _ (u.1.0 Part.erased _)) (λ j l b.
      Alike.done (same-inferred (same-term (max-same a.fixed_parts b.fixed_parts)) refl)))
  form-alike (Form.lam q) (A ▸ b ▸ ε) u p Γ =
      both _ _ _ _ (typing Γ _ _ _ (u.0 Part.erased Γ)) (λ l k a. both _ _ _ _ (u.1.0 p _) (λ j i s.
      both _ _ _ _ (unbinds E p _ _ _ _ _ (uses-of j i s)) (λ v w e.
      Alike.done (same-inferred
      (conv-inside (Convs.more Conv.same (Convs.more (type-of j i s) Convs.none))) e))))
  form-alike (Form.app q) (f ▸ a ▸ ε) u p Γ =
      both _ _ _ _ (u.0 p Γ) (λ j i s. both _ _ _ _ (functions E Γ _ _ _ (type-of j i s)) (λ F G g.
      both _ _ _ _ (needs E _ _ _ (ap (same_mult q) g.fixed_parts)) (λ x y z.
      both _ _ _ _ (having Γ _ _ _ _ _ (u.1.0 _ Γ) (domain-of F G g)) (λ v w e.
      Alike.done (same-inferred (conv-sub bodies (codomain-of F G g) (cons a var))
      (sum-same (uses-of j i s) (ap (usage_scale q) e)))))))
  form-alike (Form.fam f) ts u p Γ =
      both _ _ _ _ (needs E _ _ _ refl) (λ x y z. both _ _ _ _ (arguments-alike ts u p Γ _ _) (λ v w e.
      Alike.done (same-inferred Conv.same e)))
  form-alike (Form.con f n k) ts u p Γ = making (slice_get (fam_at E f).constructors n) _ (λ c.
      both _ _ _ _ (needs E _ _ _ refl) (λ x y z. both _ _ _ _ (arguments-alike ts u p Γ _ _) (λ v w e.
      Alike.done (same-inferred Conv.same e))))
  form-alike (Form.case q f k m ns) ts u p Γ =
      both _ _ _ _ (needs E _ _ _ refl) (λ x y z. params-alike ts u p Γ _ _ _)
  form-alike (Form.delete q) (A ▸ s ▸ P ▸ b ▸ e ▸ ε) u p Γ =
      both _ _ _ _ (needs E _ _ _ refl) (λ x y z.
      both _ _ _ _ (having Γ _ _ _ _ _ (u.0 Part.erased Γ) Conv.same) (λ v₁ w₁ d₁.
      both _ _ _ _ (having Γ _ _ _ _ _ (u.1.0 Part.erased Γ) Conv.same) (λ v₂ w₂ d₂.
      both _ _ _ _ (typing _ _ _ _ (u.1.1.0 Part.erased _)) (λ l k a.
      both _ _ _ _ (having Γ _ _ _ _ _ (u.1.1.1.0 p Γ) Conv.same) (λ v w d.
      both _ _ _ _ (having Γ _ _ _ _ _ (u.1.1.1.1.0 _ Γ) Conv.same) (λ o r h.
      Alike.done (same-inferred Conv.same (sum-same (ap (usage_scale q) h) d))))))))
  form-alike (Form.named n) ts u p Γ =
      both _ _ _ _ (needs E _ _ _ refl) (λ x y z. both _ _ _ _ (arguments-alike ts u p Γ _ _) (λ v w e.
      Alike.done (same-inferred Conv.same e)))
  form-alike Form.trap (A ▸ ε) u p Γ =
      both _ _ _ _ (typing Γ _ _ _ (u.0 Part.erased Γ)) (λ l k a. Alike.done (same-inferred Conv.same refl))
  form-alike (Form.tape n) ε u p Γ = Alike.done (same-inferred Conv.same refl)
  form-alike _ ts u p Γ = Alike.fail

  mutual
    judged-alike : (t : Term) → IsAlike E t
    judged-alike (var i) p Γ =
        both _ _ _ _ (needs E _ _ _ refl) (λ x y z. Alike.done (same-inferred Conv.same refl))
    judged-alike (node F ts) p Γ = form-alike F ts (all-alike ts) p Γ

    all-alike : (ts : Terms) → AllAlike E ts
    all-alike ε = tt
    all-alike (t ▸ ts) = (judged-alike t, all-alike ts)

pub judgement-is_one : (E : Env) → BodiesClosed E → JudgementIsOne E
judgement-is_one E bodies = record {
  alike = λ p Γ t. judged-alike E bodies t p Γ;
  one = λ p Γ t e r x y. one-conclusion (judged-alike E bodies t p Γ) x y;
}
