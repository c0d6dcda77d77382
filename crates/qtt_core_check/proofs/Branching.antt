-- Answers for a Case: its parameters, its motive, its branches and its scrutinee.
use Rattle.std.proofs.Common.{◌≡◌, ℕ, zero, suc, ◌+◌, Bool, true, false, cond, ◌&&◌, eqb, List, [], ◌∷◌, ◌++◌, length, Option, Some, None, refl, sym, ◌∙◌, ap, subst, arith}
use mathlib.Core.Path.{ap₂, subst₂}
use Rattle.std.proofs.lemmas.Bool.{eqb-true, and_parts}
use Rattle.std.proofs.lemmas.List.{length-append}
use Rattle.qtt_base.specs.declared.place.GlobalId.{GlobalId}
use Rattle.qtt_usage.specs.declared.mult.Mult.{Mult}
use Rattle.qtt_usage.specs.Mult.{𝟘, ◌⊕◌, ◌⊙◌}
use Rattle.qtt_usage.specs.Uses.{Key, Use, outs}
use Rattle.qtt_usage.specs.Usage.{usage_sum, usage_scale, use_of}
use Rattle.qtt_usage.proofs.Mults.{⊕-zero}
use Rattle.qtt_usage.proofs.UsageLemmas.{sum_at, scale_at}
use Rattle.qtt_term.specs.Term.{Form, zeros, Term, Terms, var, node, ε, ◌▸◌, size, skip, ◌+++◌, Sort}
use Rattle.qtt_term.specs.Substitution.{sub, cons, push, closed}
use Rattle.qtt_term.specs.Signature.{Tele, ConSig, FamSig, Constructor, Env, There, fam_at, family_at, index_binders, con_sigs}
use Rattle.qtt_term.specs.Question.{same_counts}
use Rattle.qtt_term.specs.Judgement.{Ctx, ext, sub_binds, scale, branch_type, Part, under, Judged, judged, branch, sum_of, has_branch, join_of, Branches, Cases, Rule}
use Rattle.qtt_term.specs.Environment.{NoTape, NoTapes}
use Rattle.qtt_term.specs.Ask.{Ending, Ends}
use Rattle.qtt_term.specs.Accepted.{is_dead, live, AcceptsAll}
use Rattle.qtt_term.specs.Infer.{Inferred, Premise, unbound, is_there, usable, joined_with, joined_use, family_wants, field_counts, case_shaped, CaseOf, case_params, case_branches}
use Rattle.qtt_confluence.proofs.Families.{size-append}
use Rattle.qtt_preserve.proofs.Travel.{always, length-scale}
use Rattle.qtt_preserve.proofs.Uses.{length-sub_binds}
use Rattle.qtt_term.specs.Environment.{ResultsAre, ResultsCounted}
use Rattle.qtt_core_check.proofs.Parts.{parts, ended, never, holding, agreeing, family-found}
use Rattle.qtt_core_check.proofs.Lists.{IsNothing, Counts, counts-in, length-sum, length-scaled, nothing-sum, nothing-scaled}
use Rattle.qtt_core_check.proofs.Derived.{IsErased, IsRun, erased-under, Derived, Gives, by-run-rule, retyped, had, type-had, Opened, opened}
use Rattle.qtt_core_check.proofs.Forms.{is-usable}
use Rattle.qtt_core_check.proofs.Arguments.{AllGive, is-there, length-wanted}
use Rattle.qtt_core_check.proofs.Joins.{JoinedAs, summed, met, live-whole, live-branch, dead-branch, live-joined, whole-of, joined-counted, joined-nothing}

-- the targets of each constructor are as many as the motive's binders
abbrev pub TargetsAre : ℕ → List ConSig → Type 0
TargetsAre n [] = Unit {0}
TargetsAre n (d ∷ ds) = (size d.targets ≡ n) × TargetsAre n ds

abbrev pub of : FamSig → Mult → GlobalId → CaseOf
of S q f = record { mult = q; id = f; family = S }

module _ (E : Env) (p : Part) (Γ : Ctx) (S : FamSig) (q : Mult) (f : GlobalId) where
  -- branches and scrutinee, after branches that make the join J
  record Branched (σ : ℕ → Term) (P : Term) (N : Type 0) (J : Option Use) (ds : List ConSig) (ns : List ℕ)
      (ts : Terms) (R : Term) (us : List Mult) : Type 0 where
    judged_so : List Judged
    branches : Branches S q σ P ds ns ts judged_so R
    accepted : AcceptsAll E p Γ ns ts judged_so
    counts : IsRun p → (x : Key) → Counts N x → summed J (live ts judged_so) x ≡ use_of us x
    counted : length us ≡ length Γ
    nothing : IsErased p → IsNothing us

  live-first : (σ : ℕ → Term) (P : Term) (N : Type 0) (J : Option Use) (d : ConSig) (ds : List ConSig) (n : ℕ)
      (ns : List ℕ) (b : Term) (ts : Terms) (R : Term) (us ws : List Mult) →
      size d.targets ≡ length S.motive → n ≡ length d.fields → is_dead b ≡ false →
      (o : Opened E p Γ (sub_binds σ (scale q d.fields)) b (branch_type σ d P) ws) →
      Branched σ P N (Some (met J (outs (length (sub_binds σ (scale q d.fields))) o.use_of_term))) ds ns ts R us →
      Branched σ P N J (d ∷ ds) (n ∷ ns) (b ▸ ts) R us
  live-first σ P N J d ds n ns b ts R us ws e m i o r = record {
    judged_so = branch (sub_binds σ (scale q d.fields)) (branch_type σ d P) o.use_of_term ∷ r.judged_so;
    branches = Branches.each e r.branches;
    accepted = AcceptsAll.more (m ∙ sym (length-sub_binds σ (scale q d.fields) ∙ length-scale q d.fields)) o.accepted
        o.fit r.accepted;
    counts = λ k x c.
        ap (λ L. summed J L x)
        (live-branch b ts (sub_binds σ (scale q d.fields)) (branch_type σ d P) o.use_of_term r.judged_so i)
        ∙ ap (λ m. sum_of (live ts r.judged_so) x ⊕ m)
        (live-whole J (outs (length (sub_binds σ (scale q d.fields))) o.use_of_term)
        (has_branch (live ts r.judged_so)) (join_of (live ts r.judged_so) x) x)
        ∙ r.counts k x c;
    counted = r.counted;
    nothing = r.nothing;
  }

  dead-first : (σ : ℕ → Term) (P : Term) (N : Type 0) (J : Option Use) (d : ConSig) (ds : List ConSig) (n : ℕ)
      (ns : List ℕ) (b : Term) (ts : Terms) (R : Term) (us ws : List Mult) →
      size d.targets ≡ length S.motive → n ≡ length d.fields → is_dead b ≡ true →
      (o : Opened E p Γ (sub_binds σ (scale q d.fields)) b (branch_type σ d P) ws) →
      Branched σ P N J ds ns ts R us → Branched σ P N J (d ∷ ds) (n ∷ ns) (b ▸ ts) R us
  dead-first σ P N J d ds n ns b ts R us ws e m i o r = record {
    judged_so = branch (sub_binds σ (scale q d.fields)) (branch_type σ d P) o.use_of_term ∷ r.judged_so;
    branches = Branches.each e r.branches;
    accepted = AcceptsAll.more (m ∙ sym (length-sub_binds σ (scale q d.fields) ∙ length-scale q d.fields)) o.accepted
        o.fit r.accepted;
    counts = λ k x c.
        ap (λ L. summed J L x)
        (dead-branch b ts (sub_binds σ (scale q d.fields)) (branch_type σ d P) o.use_of_term r.judged_so i)
        ∙ r.counts k x c;
    counted = r.counted;
    nothing = r.nothing;
  }

  one-branch : (σ : ℕ → Term) (P : Term) (N : Type 0) (J : Option Use) (joined : Option (List Mult)) (d : ConSig)
      (ds : List ConSig) (n : ℕ) (ns : List ℕ)
      (b : Term) (ts : Terms) (us ws : List Mult) (r : Premise) (j : Inferred) →
      size d.targets ≡ length S.motive → n ≡ length d.fields → (N → NoTape b) → JoinedAs N p Γ joined J →
      Derived E p (ext Γ (sub_binds σ (scale q d.fields))) b (branch_type σ d P) us →
      Ends E (unbound p (sub_binds σ (scale q d.fields)) b us r) (Ending.ok ws) →
      ((joined : Option (List Mult)) (J : Option Use) → JoinedAs N p Γ joined J →
      Ends E (case_branches E p Γ (of S q f) σ P ds ts joined) (Ending.ok j) →
      Branched σ P N J ds ns ts j.type j.uses) →
      (dead : Bool) → is_dead b ≡ dead →
      Ends E (case_branches E p Γ (of S q f) σ P ds ts (cond dead joined (joined_with ws joined))) (Ending.ok j) →
      Branched σ P N J (d ∷ ds) (n ∷ ns) (b ▸ ts) j.type j.uses
  one-branch σ P N J joined d ds n ns b ts us ws r j e m t w D x later false i y =
      let o = opened p Γ (sub_binds σ (scale q d.fields)) b (branch_type σ d P) us ws r D x in
      live-first σ P N J d ds n ns b ts j.type j.uses ws e m i o
      (later (joined_with ws joined) (Some (met J (outs (length (sub_binds σ (scale q d.fields))) o.use_of_term)))
      (live-joined ws (outs (length (sub_binds σ (scale q d.fields))) o.use_of_term) w
      (λ x c. o.counts x (counts-in t x c)) o.counted o.nothing) y)
  one-branch σ P N J joined d ds n ns b ts us ws r j e m t w D x later true i y =
      let o = opened p Γ (sub_binds σ (scale q d.fields)) b (branch_type σ d P) us ws r D x in
      dead-first σ P N J d ds n ns b ts j.type j.uses ws e m i o (later joined J w y)

  the-scrutinee : (σ : ℕ → Term) (P : Term) (N : Type 0) (J : Option Use) (joined : Option (List Mult)) (s : Term)
      (is : Terms) (us : List Mult) →
      suc (size is) ≡ length S.motive → (N → NoTape s) → JoinedAs N p Γ joined J →
      Derived E (under p q) Γ s (sub (push is σ) S.self) us →
      Branched σ P N J [] [] (s ▸ ε) (sub (push (is +++ (s ▸ ε)) var) P)
      (usage_sum (usage_scale q us) (joined_use (length Γ) joined))
  the-scrutinee σ P N J joined s is us e t w D =
      let l = length-scaled q us ∙ D.counted in
      let k = joined-counted w in
      let c : size (is +++ (s ▸ ε)) ≡ length S.motive = size-append is (s ▸ ε) ∙ omega arith in
      record {
        judged_so = judged [] (sub (push is σ) S.self) q D.use_of_term ∷ [];
        branches = Branches.scrutinee is c;
        accepted = AcceptsAll.more refl D.accepted (always (under p q) (λ e. tt)) AcceptsAll.none;
        counts = λ i x c.
            ap₂ (λ m n. m ⊕ n) (⊕-zero (q ⊙ D.use_of_term x) ∙ ap (λ m. q ⊙ m) (D.counts x (counts-in t x c))
            ∙ sym (scale_at q us x)) (whole-of w x c)
            ∙ sym (sum_at (usage_scale q us) (joined_use (length Γ) joined) x (l ∙ sym k));
        counted = length-sum (usage_scale q us) (joined_use (length Γ) joined) (length Γ) l k;
        nothing = λ i. nothing-sum (usage_scale q us) (joined_use (length Γ) joined) (l ∙ sym k)
            (nothing-scaled q us (D.nothing (erased-under p q i))) (joined-nothing w i);
      }

  -- the components of a family's type are its parameters and its indices
  abbrev Splits : Type 0
  Splits = (xs : Terms) → size xs ≡ length (family_wants S) → suc (size (skip (length S.params) xs)) ≡ length S.motive

  branches-give : Splits → (σ : ℕ → Term) (P : Term) (N : Type 0) (ts : Terms) → AllGive E ts → (N → NoTapes ts) →
      (ds : List ConSig) (ns : List ℕ) →
      TargetsAre (length S.motive) ds → same_counts ns (field_counts ds) ≡ true →
      (joined : Option (List Mult)) (J : Option Use) → JoinedAs N p Γ joined J →
      (j : Inferred) → Ends E (case_branches E p Γ (of S q f) σ P ds ts joined) (Ending.ok j) →
      Branched σ P N J ds ns ts j.type j.uses
  branches-give z σ P N ε g t [] ns e c joined J w j x = absurd (never x)
  branches-give z σ P N ε g t (d ∷ ds) ns e c joined J w j x = absurd (never x)
  branches-give z σ P N (s ▸ r ▸ ts) g t [] ns e c joined J w j x = absurd (never x)
  branches-give z σ P N (s ▸ ε) g t [] (n ∷ ns) e c joined J w j x = absurd (cc c)
  branches-give z σ P N (s ▸ ε) g t [] [] e c joined J w j x =
      let a = parts _ _ _ x in
      let b = parts _ _ _ a.after in
      let h = parts _ _ _ b.after in
      let F = family-found Γ f (length (family_wants S)) a.mid.type _ b.mid b.first in
      let D = retyped (g.0 (under p q) Γ a.mid a.first) (agreeing Γ a.mid.type _ _ h.mid h.first) in
      subst (λ j. Branched σ P N J [] [] (s ▸ ε) j.type j.uses) (ended _ _ h.after)
      (the-scrutinee σ P N J joined s (skip (length S.params) b.mid) a.mid.uses (z b.mid F.counted) (λ n. (t n).0) w D)
  branches-give z σ P N (b ▸ ts) g t (d ∷ ds) [] e c joined J w j x = absurd (cc c)
  branches-give z σ P N (b ▸ ts) g t (d ∷ ds) (n ∷ ns) e c joined J w j x =
      let a = parts _ _ _ x in
      let h = parts _ _ _ a.after in
      let u = parts _ _ _ h.after in
      let D = retyped (g.0 p (ext Γ (sub_binds σ (scale q d.fields))) a.mid a.first)
      (agreeing _ a.mid.type _ _ h.mid h.first) in
      let (m, k) = and_parts (eqb n (length d.fields)) (same_counts ns (field_counts ds)) c in
      one-branch σ P N J joined d ds n ns b ts a.mid.uses u.mid _ j e.0 (eqb-true n _ m) (λ n. (t n).0) w D u.first
      (λ joined J w y. branches-give z σ P N ts g.1 (λ n. (t n).1) ds ns e.1 k joined J w j y) (is_dead b) refl u.after

  -- parameters, motive, branches and scrutinee
  record Cased (σ : ℕ → Term) (Θ : Tele) (ns : List ℕ) (ts : Terms) (R : Term) (us : List Mult) : Type 0 where
    judged_so : List Judged
    cases : Cases S q Θ σ (length Θ) (length S.motive) ns ts judged_so R
    accepted : AcceptsAll E p Γ (zeros (length Θ) (length S.motive ∷ ns)) ts judged_so
    counts : IsRun p → (x : Key) → Counts (NoTapes ts) x → summed None (live ts judged_so) x ≡ use_of us x
    counted : length us ≡ length Γ
    nothing : IsErased p → IsNothing us

  cased : Splits → (ts : Terms) → AllGive E ts → (Θ : Tele) (σ : ℕ → Term) (ns : List ℕ) →
      TargetsAre (length S.motive) S.constructors →
      same_counts ns (field_counts S.constructors) ≡ true → (j : Inferred) →
      Ends E (case_params E p Γ (of S q f) Θ σ ts) (Ending.ok j) →
      Cased σ Θ ns ts j.type j.uses
  cased z ε g [] σ ns e c j x = absurd (never x)
  cased z ε g (b ∷ Θ) σ ns e c j x = absurd (never x)
  cased z (a ▸ ts) g (b ∷ Θ) σ ns e c j x =
      let u = parts _ _ _ x in
      let D = had Part.erased Γ a (sub σ b.1) _ u.mid g.0 u.first in
      let r = cased z ts g.1 Θ (cons a σ) ns e c j u.after in
      record {
        judged_so = judged [] (sub σ b.1) 𝟘 D.use_of_term ∷ r.judged_so;
        cases = Cases.param r.cases;
        accepted = AcceptsAll.more refl D.accepted tt r.accepted;
        counts = λ i x k. r.counts i x (counts-in (λ n. n.1) x k);
        counted = r.counted;
        nothing = r.nothing;
      }
  cased z (P ▸ ts) g [] σ ns e c j x =
      let u = parts _ _ _ x in
      let (w, hP) = type-had (ext Γ (sub_binds σ S.motive)) P _ u.mid g.0 u.first in
      let r = branches-give z σ P (NoTapes ts) ts g.1 (λ n. n) S.constructors ns e c None None JoinedAs.nothing_yet j
      u.after in
      record {
        judged_so = judged (sub_binds σ S.motive) (Sort u.mid) 𝟘 w ∷ r.judged_so;
        cases = Cases.motive r.branches;
        accepted = AcceptsAll.more (sym (length-sub_binds σ S.motive)) hP tt r.accepted;
        counts = λ i x k. r.counts i x (counts-in (λ n. n.1) x k);
        counted = r.counted;
        nothing = r.nothing;
      }

-- ---- of a family of the environment
length-indices : (n : ℕ) (Ts : List Term) → length (index_binders n Ts) ≡ length Ts
length-indices n [] = refl
length-indices n (T ∷ Ts) = ap suc (length-indices (suc n) Ts)

size-skip : (k : ℕ) (ts : Terms) (n : ℕ) → size ts ≡ k + n → size (skip k ts) ≡ n
size-skip zero ts n e = e ∙ omega arith
size-skip (suc k) ε n e = absurd (omega arith)
size-skip (suc k) (t ▸ ts) n e = size-skip k ts n (omega arith)

targets-are : (g : GlobalId) (k m n : ℕ) (cs : List Constructor) → ResultsAre n cs →
    TargetsAre (suc n) (con_sigs g k m cs)
targets-are g k m n [] h = tt
targets-are g k m n (c ∷ cs) h = (size-append c.results _ ∙ omega (arith, h.0), targets-are g k (suc m) n cs h.1)

pub motive-binds : (E : Env) (f : GlobalId) → length (fam_at E f).motive ≡ suc (length (family_at E f).indices)
motive-binds E f = length-append (index_binders 0 (family_at E f).indices) _
    ∙ omega (arith, length-indices 0 (family_at E f).indices)

pub wants-counted : (E : Env) (f : GlobalId) →
    length (family_wants (fam_at E f)) ≡ length (family_at E f).params + length (family_at E f).indices
wants-counted E f =
    let params = (family_at E f).params in
    let indices = index_binders 0 (family_at E f).indices in
    length-wanted _ (scale 𝟘 (params ++ indices)) ∙ length-scale 𝟘 (params ++ indices) ∙ length-append params indices
    ∙ ap (λ n. length params + n) (length-indices 0 (family_at E f).indices)

splits : (E : Env) (p : Part) (Γ : Ctx) (f : GlobalId) (q : Mult) → Splits E p Γ (fam_at E f) q f
splits E p Γ f q xs e =
    ap suc (size-skip (length (family_at E f).params) xs (length (family_at E f).indices) (e ∙ wants-counted E f))
    ∙ sym (motive-binds E f)

module _ {E : Env} (counted : ResultsCounted E) where
  case-cased : (q : Mult) (f : GlobalId) (k m : ℕ) (ns : List ℕ) (ts : Terms) (p : Part) (Γ : Ctx) (R : Term)
      (us : List Mult) → There (E.family f) →
      usable p q ≡ true → k ≡ length (fam_at E f).params → m ≡ length (fam_at E f).motive →
      Cased E p Γ (fam_at E f) q f closed (fam_at E f).params ns ts R us →
      Derived E p Γ (node (Form.case q f k m ns) ts) R us
  case-cased q f k m ns ts p Γ R us h i d e r =
      subst₂ (λ k m. Derived E p Γ (node (Form.case q f k m ns) ts) R us) (sym d) (sym e)
      (by-run-rule p (Rule.case h (is-usable p q i) r.cases) tt r.accepted r.counted r.nothing
      (λ i x k. r.counts i x (counts-in (λ n. n.1) x k)))

  pub case-gives : (q : Mult) (f : GlobalId) (k m : ℕ) (ns : List ℕ) (ts : Terms) → AllGive E ts →
      Gives E (node (Form.case q f k m ns) ts)
  case-gives q f k m ns ts g p Γ j x =
      let S = fam_at E f in
      let a = parts _ _ _ x in
      let (h, w) = and_parts (is_there (E.family f)) (usable p q && case_shaped (fam_at E f) k m ns (size ts))
      (holding _ _ a.mid a.first) in
      let (i, v) = and_parts (usable p q) (case_shaped (fam_at E f) k m ns (size ts)) w in
      let (d, y) = and_parts (eqb k (length (fam_at E f).params)) _ v in
      let (e, u) = and_parts (eqb m (length (fam_at E f).motive)) _ y in
      let (c, s) = and_parts (same_counts ns (field_counts (fam_at E f).constructors)) _ u in
      case-cased q f k m ns ts p Γ j.type j.uses (is-there (E.family f) h) i (eqb-true k _ d) (eqb-true m _ e)
      (cased E p Γ (fam_at E f) q f (splits E p Γ f q) ts g (fam_at E f).params closed ns
      (subst (λ n. TargetsAre n (fam_at E f).constructors) (sym (motive-binds E f))
      (targets-are f _ 0 _ (family_at E f).constructors (counted f))) c j a.after)
