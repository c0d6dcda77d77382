-- The judgement of an accepted term does not fail: Cases.
use Rattle.std.proofs.Common.{◌≡◌, ℕ, zero, suc, ◌+◌, true, List, [], ◌∷◌, length, Option, refl, ◌∙◌, ap, subst, arith}
use Rattle.std.proofs.lemmas.Bool.{eq-eqb}
use Rattle.qtt_base.specs.declared.place.GlobalId.{GlobalId}
use Rattle.qtt_usage.specs.declared.mult.Mult.{Mult}
use Rattle.qtt_term.specs.Term.{zeros, Term, Terms, ε, ◌▸◌, size, skip, ◌+++◌, Fam}
use Rattle.qtt_term.specs.Substitution.{sub, subs, cons, push, above}
use Rattle.qtt_term.specs.Signature.{Tele, ConSig, FamSig, Env, fam_at, family_at}
use Rattle.qtt_term.specs.Contraction.{Conv, BodiesClosed}
use Rattle.qtt_term.specs.Accepted.{AcceptsAll}
use Rattle.qtt_term.specs.Question.{same_counts}
use Rattle.qtt_term.specs.Judgement.{Ctx, ext, sub_binds, scale, branch_type, Part, under, Judged, Branches, Cases}
use Rattle.qtt_term.specs.Ask.{Ending, Ends}
use Rattle.qtt_term.specs.Infer.{Premise, family_wants, field_counts, case_params, case_branches}
use Rattle.qtt_term.proofs.Subst.{subs-size}
use Rattle.qtt_confluence.specs.Injective.{Convs}
use Rattle.qtt_confluence.proofs.Facts.{types_are_injective}
use Rattle.qtt_confluence.proofs.Confluence.{conv-fill, push-conv}
use Rattle.qtt_confluence.proofs.Families.{size-append}
use Rattle.qtt_preserve.proofs.Travel.{length-scale}
use Rattle.qtt_preserve.proofs.Uses.{length-sub_binds}
use Rattle.qtt_term.specs.Environment.{ResultsCounted}
use Rattle.qtt_core_check.proofs.Parts.{head-conv, family-found}
use Rattle.qtt_core_check.proofs.Branching.{of, wants-counted}
use Rattle.qtt_core_check.proofs.Sound.{derived}
use Rattle.qtt_core_check.proofs.OneType.{front, self_parts, self-at, indices-counted}
use Rattle.qtt_core_check.proofs.Heads.{no-failure, done-holds, agree-holds, family-holds}
use Rattle.qtt_core_check.proofs.Clean.{AllClean, found-type, has-holds, type-holds, open-holds}

-- ---- shapes
branches-shaped : {E : Env} {p : Part} {Γ : Ctx} {S : FamSig} {q : Mult} {σ : ℕ → Term} {P : Term} {ds : List ConSig}
    {ns : List ℕ} {ts : Terms} {js : List Judged} {R : Term} →
    Branches S q σ P ds ns ts js R → AcceptsAll E p Γ ns ts js →
    (same_counts ns (field_counts ds) ≡ true) × (size ts ≡ 1 + length ns)
branches-shaped {q = q} {σ = σ} (Branches.each {c = d} {cs = ds} {n = n} {ns = ns} {ts = ts} e a)
    (AcceptsAll.more i h f hs) =
    let (c, s) = branches-shaped a hs in (
      rw (eq-eqb n (length d.fields) (i ∙ length-sub_binds σ (scale q d.fields) ∙ length-scale q d.fields), c) refl,
      omega arith,
    )
branches-shaped (Branches.scrutinee is e) (AcceptsAll.more i h f hs) = (refl, refl)

pub record CaseShaped (S : FamSig) (Θ : Tele) (k m : ℕ) (ns : List ℕ) (ts : Terms) : Type 0 where
  pub params : k ≡ length Θ
  pub motive : m ≡ length S.motive
  pub branches : same_counts ns (field_counts S.constructors) ≡ true
  pub whole : size ts ≡ k + (2 + length ns)

pub cases-shaped : {E : Env} {p : Part} {Γ : Ctx} {S : FamSig} {q : Mult} {Θ : Tele} {σ : ℕ → Term} {k m : ℕ}
    {ns : List ℕ} {ts : Terms} {js : List Judged} {R : Term} →
    Cases S q Θ σ k m ns ts js R → AcceptsAll E p Γ (zeros k (m ∷ ns)) ts js → CaseShaped S Θ k m ns ts
cases-shaped (Cases.param a) (AcceptsAll.more i h f hs) =
    let r = cases-shaped a hs in record {
      params = ap suc r.params;
      motive = r.motive;
      branches = r.branches;
      whole =
          omega (arith, r.whole);
    }
cases-shaped (Cases.motive a) (AcceptsAll.more i h f hs) =
    let r = branches-shaped a hs in record { params = refl; motive = refl; branches = r.0; whole = omega (arith, r.1) }

-- ---- indices
size-above : (m n : ℕ) → size (above m n) ≡ n
size-above m zero = refl
size-above m (suc n) = ap suc (size-above m n)

convs-skip : {E : Env} (k : ℕ) (xs ts ss : Terms) → size ts ≡ k → Convs E xs (ts +++ ss) → Convs E (skip k xs) ss
convs-skip zero xs ε ss e h = h
convs-skip zero xs (t ▸ ts) ss e h = absurd (cc e)
convs-skip (suc k) xs ε ss e h = absurd (cc e)
convs-skip (suc k) ε (t ▸ ts) ss e h = elim h [ ]
convs-skip (suc k) (x ▸ xs) (t ▸ ts) ss e (Convs.more c h) = convs-skip k xs ts ss (cc e) h

module _ (E : Env) (counted : ResultsCounted E) (bodies : BodiesClosed E) (p : Part) (Γ : Ctx) (q : Mult)
    (f : GlobalId) where
  pub self-counted : (σ : ℕ → Term) (is : Terms) →
      size (subs [] (push is σ) (self_parts E f)) ≡ length (family_wants (fam_at E f))
  self-counted σ is =
      let x = length (family_at E f).indices in
      let k = length (family_at E f).params in
      subs-size (self_parts E f) [] (push is σ) ∙ size-append (above x k) (above 0 x)
      ∙ omega (arith, size-above x k, size-above 0 x, wants-counted E f)

  -- a family's type is that at the indices of its head
  pub self-found : (σ : ℕ → Term) (is xs : Terms) (A : Term) → size is ≡ length (family_at E f).indices →
      Conv E A (sub (push is σ) (fam_at E f).self) → Conv E A (Fam f xs) →
      Conv E A (sub (push (skip (length (fam_at E f).params) xs) σ) (fam_at E f).self)
  self-found σ is xs A e c d =
      let x = length (family_at E f).indices in
      let k = length (family_at E f).params in
      let hs = ((types_are_injective E bodies).families f f xs _ (Conv.thence (Conv.back d) c)).1 in
      let ks = convs-skip k xs (front E f σ is) is (subs-size (above x k) [] (push is σ) ∙ size-above x k)
      (subst (Convs E xs) (self-at E f σ is e) hs) in
      Conv.thence c (Conv.back
      (conv-fill bodies (fam_at E f).self (push (skip k xs) σ) (push is σ) (push-conv ks σ σ (λ i. Conv.same))))

  branches-hold : (σ : ℕ → Term) (P : Term) (ts : Terms) → AllClean E ts →
      (ds : List ConSig) (ns : List ℕ) (js : List Judged) (R : Term) (joined : Option (List Mult)) (g : Premise) →
      Branches (fam_at E f) q σ P ds ns ts js R → AcceptsAll E p Γ ns ts js →
      Ends E (case_branches E p Γ (of (fam_at E f) q f) σ P ds ts joined) (Ending.fails g) → ⊥
  branches-hold σ P (b ▸ ts) c _ _ _ R joined g (Branches.each {c = d} {cs = ds} {w = w} e a)
      (AcceptsAll.more i h k hs) x =
      let binds = sub_binds σ (scale q d.fields) in
      no-failure _ _ x (λ y. c.0 p (ext Γ binds) (branch_type σ d P) w g h y)
      (λ j y z. no-failure _ _ z
      (λ v. agree-holds bodies (ext Γ binds) j.type (branch_type σ d P) _ g
      (found-type E counted bodies p (ext Γ binds) b (branch_type σ d P) w j h y) v)
      (λ r v o. no-failure _ _ o
      (λ v. open-holds E counted bodies p Γ binds b (branch_type σ d P) j.type w j.uses _ g h k
      (derived E counted p (ext Γ binds) b j y) v)
      (λ us v o. branches-hold σ P ts c.1 ds _ _ R _ g a hs o)))
  branches-hold σ P _ c _ _ _ R joined g (Branches.scrutinee {s = t} is {w = w} e) (AcceptsAll.more i h k hs) x =
      no-failure _ _ x (λ y. c.0 (under p q) Γ (sub (push is σ) (fam_at E f).self) w g h y)
      (λ j y z.
      let found = found-type E counted bodies (under p q) Γ t (sub (push is σ) (fam_at E f).self) w j h y in
      no-failure _ _ z (λ v. family-holds E bodies Γ j.type f (length (family_wants (fam_at E f)))
      (subs [] (push is σ) (self_parts E f)) _ g found (self-counted σ is) v)
      (λ xs v o. no-failure _ _ o
      (λ v₂. agree-holds bodies Γ j.type (sub (push (skip (length (fam_at E f).params) xs) σ) (fam_at E f).self) _ g
      (self-found σ is xs j.type (indices-counted E f t is e) found
      (head-conv (family-found Γ f _ j.type _ xs v).head)) v₂)
      (λ a v₂ o₂. done-holds o₂)))

  pub cases-hold : (ts : Terms) → AllClean E ts → (Θ : Tele) (σ : ℕ → Term) (k m : ℕ) (ns : List ℕ) (js : List Judged)
      (R : Term) (g : Premise) →
      Cases (fam_at E f) q Θ σ k m ns ts js R → AcceptsAll E p Γ (zeros k (m ∷ ns)) ts js →
      Ends E (case_params E p Γ (of (fam_at E f) q f) Θ σ ts) (Ending.fails g) → ⊥
  cases-hold ε c Θ σ k m ns js R g r hs x = elim r [ ]
  cases-hold (a ▸ ts) c _ σ _ m ns _ R g (Cases.param {T = T} {Θ = Θ} {u = u} r) (AcceptsAll.more i h k hs) x =
      no-failure _ _ x (λ y. has-holds E counted bodies a c.0 Part.erased Γ (sub σ T) (sub σ T) u _ g h Conv.same y)
      (λ us y z. cases-hold ts c.1 Θ (cons a σ) _ m ns _ R g r hs z)
  cases-hold (P ▸ ts) c _ σ _ _ ns _ R g (Cases.motive {u = u} {l = l} r) (AcceptsAll.more i h k hs) x =
      no-failure _ _ x (λ y. type-holds E counted bodies P c.0 (ext Γ (sub_binds σ (fam_at E f).motive)) l u _ g h y)
      (λ l y z. branches-hold σ P ts c.1 (fam_at E f).constructors ns _ R _ g r hs z)
