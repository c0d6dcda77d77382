-- The judgement of an accepted term ends with an answer: Cases.
use Rattle.std.proofs.Common.{ℕ, List, [], ◌∷◌, length, Option}
use Rattle.qtt_base.specs.declared.place.GlobalId.{GlobalId}
use Rattle.qtt_usage.specs.declared.mult.Mult.{Mult}
use Rattle.qtt_term.specs.Term.{zeros, Term, Terms, ε, ◌▸◌, skip}
use Rattle.qtt_term.specs.Substitution.{sub, subs, cons, push}
use Rattle.qtt_term.specs.Signature.{Tele, ConSig, Env, fam_at}
use Rattle.qtt_term.specs.Contraction.{Conv, BodiesClosed}
use Rattle.qtt_term.specs.Accepted.{AcceptsAll}
use Rattle.qtt_term.specs.Judgement.{Ctx, ext, sub_binds, scale, branch_type, Part, under, Judged, Branches, Cases}
use Rattle.qtt_term.specs.Infer.{family_wants, case_params, case_branches}
use Rattle.qtt_term.specs.Environment.{ResultsCounted}
use Rattle.qtt_core_check.proofs.Parts.{head-conv, family-found}
use Rattle.qtt_core_check.proofs.Branching.{of}
use Rattle.qtt_core_check.proofs.Sound.{derived}
use Rattle.qtt_core_check.proofs.OneType.{self_parts, indices-counted}
use Rattle.qtt_core_check.proofs.Clean.{found-type}
use Rattle.qtt_core_check.proofs.CleanCase.{self-counted, self-found}
use Rattle.qtt_core_check.proofs.Answered.{Answered, and-then, answered-now, agree-answered, family-answered}
use Rattle.qtt_core_check.proofs.Inferable.{AllInferable, has-answered, type-answered, open-answered}

module _ (E : Env) (counted : ResultsCounted E) (bodies : BodiesClosed E) (p : Part) (Γ : Ctx) (q : Mult)
    (f : GlobalId) where
  branches-answered : (σ : ℕ → Term) (P : Term) (ts : Terms) → AllInferable E ts →
      (ds : List ConSig) (ns : List ℕ) (js : List Judged) (R : Term) (joined : Option (List Mult)) →
      Branches (fam_at E f) q σ P ds ns ts js R → AcceptsAll E p Γ ns ts js →
      Answered E (case_branches E p Γ (of (fam_at E f) q f) σ P ds ts joined)
  branches-answered σ P (b ▸ ts) c _ _ _ R joined (Branches.each {c = d} {cs = ds} {w = w} e a)
      (AcceptsAll.more i h k hs) =
      let binds = sub_binds σ (scale q d.fields) in
      and-then _ _ (c.0 p (ext Γ binds) (branch_type σ d P) w h)
      (λ j y. and-then _ _
      (agree-answered (ext Γ binds) j.type (branch_type σ d P) _
      (found-type E counted bodies p (ext Γ binds) b (branch_type σ d P) w j h y))
      (λ r v. and-then _ _
      (open-answered E counted bodies p Γ binds b (branch_type σ d P) j.type w j.uses _ h k
      (derived E counted p (ext Γ binds) b j y))
      (λ us v. branches-answered σ P ts c.1 ds _ _ R _ a hs)))
  branches-answered σ P _ c _ _ _ R joined (Branches.scrutinee {s = t} is {w = w} e) (AcceptsAll.more i h k hs) =
      and-then _ _ (c.0 (under p q) Γ (sub (push is σ) (fam_at E f).self) w h)
      (λ j y.
      let found = found-type E counted bodies (under p q) Γ t (sub (push is σ) (fam_at E f).self) w j h y in
      and-then _ _ (family-answered E bodies Γ j.type f (length (family_wants (fam_at E f)))
      (subs [] (push is σ) (self_parts E f)) _ found (self-counted E counted bodies p Γ q f σ is))
      (λ xs v. and-then _ _
      (agree-answered Γ j.type (sub (push (skip (length (fam_at E f).params) xs) σ) (fam_at E f).self) _
      (self-found E counted bodies p Γ q f σ is xs j.type (indices-counted E f t is e) found
      (head-conv (family-found Γ f _ j.type _ xs v).head)))
      (λ a v₂. answered-now _)))

  pub cases-answered : (ts : Terms) → AllInferable E ts → (Θ : Tele) (σ : ℕ → Term) (k m : ℕ) (ns : List ℕ)
      (js : List Judged) (R : Term) →
      Cases (fam_at E f) q Θ σ k m ns ts js R → AcceptsAll E p Γ (zeros k (m ∷ ns)) ts js →
      Answered E (case_params E p Γ (of (fam_at E f) q f) Θ σ ts)
  cases-answered ε c Θ σ k m ns js R r hs = elim r [ ]
  cases-answered (a ▸ ts) c _ σ _ m ns _ R (Cases.param {T = T} {Θ = Θ} {u = u} r) (AcceptsAll.more i h k hs) =
      and-then _ _ (has-answered E counted bodies a c.0 Part.erased Γ (sub σ T) (sub σ T) u _ h Conv.same)
      (λ us y. cases-answered ts c.1 Θ (cons a σ) _ m ns _ R r hs)
  cases-answered (P ▸ ts) c _ σ _ _ ns _ R (Cases.motive {u = u} {l = l} r) (AcceptsAll.more i h k hs) =
      and-then _ _ (type-answered E counted bodies P c.0 (ext Γ (sub_binds σ (fam_at E f).motive)) l u _ h)
      (λ l y. branches-answered σ P ts c.1 (fam_at E f).constructors ns _ R _ r hs)
