-- The questions of each form, by those of its parts.
use Rattle.std.proofs.Common.{◌≡◌, ℕ, suc, ◌+◌, Bool, true, false, ◌&&◌, eqb, List, [], ◌∷◌, ◌++◌, length, map, Option, Some, None, slice_get, refl, sym, ◌∙◌, ap, subst, arith}
use mathlib.Core.Path.{ap₂}
use Rattle.std.proofs.lemmas.Bool.{eq-eqb}
use Rattle.std.proofs.lemmas.List.{length-map}
use Rattle.qtt_base.specs.declared.place.GlobalId.{GlobalId}
use Rattle.qtt_usage.specs.declared.mult.Mult.{Mult}
use Rattle.qtt_usage.specs.Mult.{ω}
use Rattle.qtt_prims.specs.declared.prim.Primitive.{Primitive}
use Rattle.qtt_prims.specs.declared.prim.Primitive.TheVariants as prim
use Rattle.qtt_term.specs.Term.{Action, Named, Form, Term, Terms, node, ε, ◌▸◌, size, ◌+++◌, Sort, Fam}
use Rattle.qtt_term.specs.Substitution.{sub, cons, push, closed}
use Rattle.qtt_term.specs.Signature.{Tele, Env, ConSig, FamSig, fam_at, signature, prim_signature, act_signature}
use Rattle.qtt_term.specs.Question.{same_counts}
use Rattle.qtt_term.specs.Judgement.{Ctx, Part, ext, sub_binds, scale, under, erase_binds, branch_type}
use Rattle.qtt_term.specs.Ask.{Ask, ◌>>=◌}
use Rattle.qtt_term.specs.declared.rule.Rule.TheVariants as rule
use Rattle.qtt_term.specs.View.{side_by_side}
use Rattle.qtt_term.specs.Infer.{Asks, at, inferred, agree, is_there, usable, named_there, has, type_of, wanted, family_wants, constructor_wants, rule_of, field_counts, CaseOf, infer, arguments, case_params, case_branches, unbound, with_branch}
use Rattle.qtt_term.specs.Premises.{need}
use Rattle.qtt_core_check.specs.Signatures.{applies}
use Rattle.qtt_core_check.specs.declared.refusal.CoreRefusal.{CoreRefusal}
use Rattle.qtt_core_check.specs.Constructors.{made_shaped}
use Rattle.qtt_core_check.specs.Cases.{shaped, branch_asks, branches_ask, scrutinee_asks}
use Rattle.qtt_confluence.proofs.Families.{size-append}
use Rattle.qtt_core_check.specs.Seen.{Refuses}
use Rattle.qtt_core_check.proofs.Within.{here}
use Rattle.qtt_core_check.proofs.Continuing.{bind-assoc, bind-done, bind-along, refused, fail-passes}
use Rattle.qtt_core_check.proofs.ArgumentLists.{size-side}

-- ---- forms with one list of arguments
abbrev pub fam_need : Env → GlobalId → ℕ → Asks (Unit {0})
fam_need E f n = need (is_there (E.family f) && eqb n (length (family_wants (fam_at E f)))) (at rule.Fam 1)

pub fam-asks : (E : Env) (p : Part) (Γ : Ctx) (f : GlobalId) (ts : List Term) →
    infer E p Γ (Fam f (side_by_side ts))
    ≡ fam_need E f (length ts) >>=
    (λ u. applies E p Γ (at rule.Fam 1) (erase_binds ((fam_at E f).params ++ (fam_at E f).indices))
    (Sort (fam_at E f).level) (side_by_side ts))
fam-asks E p Γ f ts =
    ap (λ n. fam_need E f n >>=
    (λ u. applies E p Γ (at rule.Fam 1) (erase_binds ((fam_at E f).params ++ (fam_at E f).indices))
    (Sort (fam_at E f).level) (side_by_side ts)))
    (size-side ts)

abbrev pub named_need : Env → Named → ℕ → Asks (Unit {0})
named_need E n k = need (named_there E n && eqb k (length (signature E n).arguments)) (at (rule_of n) 1)

pub many-usable : (p : Part) → usable p ω ≡ true
many-usable Part.run = refl
many-usable Part.erased = refl

pub named-asks : (E : Env) (p : Part) (Γ : Ctx) (n : Named) (ts : List Term) → (signature E n).mult ≡ ω →
    infer E p Γ (node (Form.named n) (side_by_side ts))
    ≡ named_need E n (length ts) >>=
    (λ u. applies E p Γ (at (rule_of n) 1) (signature E n).arguments (signature E n).type (side_by_side ts))
named-asks E p Γ n ts m =
    ap (λ b. need b (at (rule_of n) 1) >>=
    (λ u. applies E p Γ (at (rule_of n) 1) (signature E n).arguments (signature E n).type (side_by_side ts)))
    (rw (m, many-usable p, size-side ts) refl)

pub prim-many : (q : Primitive) → (prim_signature q).mult ≡ ω
prim-many prim.AddInt = refl
prim-many prim.SubInt = refl
prim-many prim.MulInt = refl
prim-many prim.DivInt = refl
prim-many prim.ModInt = refl
prim-many prim.EqInt = refl
prim-many prim.LtInt = refl
prim-many prim.AppendString = refl
prim-many prim.EqString = refl
prim-many prim.ShowInt = refl

pub act-many : (a : Action) → (act_signature a).mult ≡ ω
act-many (Action.pure m) = refl
act-many (Action.bind m n) = refl
act-many Action.put_line = refl
act-many Action.get_line = refl
act-many Action.opens = refl
act-many Action.writes = refl
act-many Action.closes = refl

-- ---- constructors
abbrev pub con_need : Env → GlobalId → ℕ → ℕ → ℕ → Asks (Unit {0})
con_need E f c k m = need (made_shaped (fam_at E f) c k m) (at rule.Con 1)

pub con-asks : (E : Env) (p : Part) (Γ : Ctx) (f : GlobalId) (c k : ℕ) (ts : Terms) (d : ConSig) →
    slice_get (fam_at E f).constructors c ≡ Some d →
    infer E p Γ (node (Form.con f c k) ts)
    ≡ con_need E f c k (size ts) >>=
    (λ x. arguments E p Γ (constructor_wants (fam_at E f) d) closed ts >>=
    (λ u. Ask.done (inferred (sub (push ts closed) d.result) u)))
con-asks E p Γ f c k ts d e = rw e refl

con-missing : (E : Env) (p : Part) (Γ : Ctx) (f : GlobalId) (c k : ℕ) (ts : Terms) →
    slice_get (fam_at E f).constructors c ≡ None →
    infer E p Γ (node (Form.con f c k) ts) ≡ Ask.fail (at rule.Con 1)
con-missing E p Γ f c k ts e = rw e refl

need-missing : (E : Env) (f : GlobalId) (c k m : ℕ) → slice_get (fam_at E f).constructors c ≡ None →
    con_need E f c k m ≡ Ask.fail (at rule.Con 1)
unfolding need
need-missing E f c k m e = rw e refl

pub con-refused : (E : Env) (n : ℕ) (p : Part) (Γ : Ctx) (f : GlobalId) (c k : ℕ) (ts : Terms) (e : CoreRefusal) →
    Refuses E n (con_need E f c k (size ts)) e →
    Refuses E n (infer E p Γ (node (Form.con f c k) ts)) e
con-refused E n p Γ f c k ts e h = by_place (slice_get (fam_at E f).constructors c) refl
  where
    by_place : (o : Option ConSig) → slice_get (fam_at E f).constructors c ≡ o →
        Refuses E n (infer E p Γ (node (Form.con f c k) ts)) e
    by_place None i =
        subst (λ m. Refuses E n m e) (sym (con-missing E p Γ f c k ts i))
        (refused (fail-passes (at rule.Con 1)) e (subst (λ m. Refuses E n m e) (need-missing E f c k (size ts) i) h))
    by_place (Some d) i = subst (λ m. Refuses E n m e) (sym (con-asks E p Γ f c k ts d i)) (here E n _ _ e h)

-- ---- matches
module _ (E : Env) (p : Part) (Γ : Ctx) (c : CaseOf) where
  pub params-ask : (Θ : Tele) (σ : ℕ → Term) (ts : List Term) (ss : Terms) → length ts ≡ length Θ →
      case_params E p Γ c Θ σ (side_by_side ts +++ ss)
      ≡ arguments E Part.erased Γ (wanted (at rule.Case 2) (erase_binds Θ)) σ (side_by_side ts) >>=
      (λ u. case_params E p Γ c [] (push (side_by_side ts) σ) ss)
  params-ask [] σ [] ss e = sym (bind-done _ _)
  params-ask [] σ (t ∷ ts) ss e = absurd (cc e)
  params-ask (b ∷ Θ) σ [] ss e = absurd (cc e)
  params-ask (b ∷ Θ) σ (t ∷ ts) ss e =
      bind-along (has Γ (infer E Part.erased Γ t) (sub σ b.1) (at rule.Case 2)) _ _
      (λ u. params-ask Θ (cons t σ) ts ss (cc e) ∙
      sym (bind-assoc (arguments E Part.erased Γ (wanted (at rule.Case 2) (erase_binds Θ)) (cons t σ)
      (side_by_side ts)) _ _ ∙ bind-along _ _ _ (λ w. bind-done _ _)))
      ∙ sym (bind-assoc (has Γ (infer E Part.erased Γ t) (sub σ b.1) (at rule.Case 2)) _ _)

  pub branches-ask : (σ : ℕ → Term) (P : Term) (ds : List ConSig) (bs : List Term) (s : Term)
      (joined : Option (List Mult)) → length bs ≡ length ds →
      case_branches E p Γ c σ P ds (side_by_side bs +++ (s ▸ ε)) joined
      ≡ branches_ask E p Γ c σ P ds bs joined >>= (λ J. case_branches E p Γ c σ P [] (s ▸ ε) J)
  branches-ask σ P [] [] s joined e = sym (bind-done _ _)
  branches-ask σ P [] (b ∷ bs) s joined e = absurd (cc e)
  branches-ask σ P (d ∷ ds) [] s joined e = absurd (cc e)
  branches-ask σ P (d ∷ ds) (b ∷ bs) s joined e =
      bind-along (infer E p (ext Γ (sub_binds σ (scale c.mult d.fields))) b) _ _
      (λ j. bind-along (agree (ext Γ (sub_binds σ (scale c.mult d.fields))) j.type (branch_type σ d P)
      (at rule.Case 4)) _ _
      (λ x. bind-along (unbound p (sub_binds σ (scale c.mult d.fields)) b j.uses (at rule.Case 5)) _ _
      (λ u. branches-ask σ P ds bs s (with_branch b u joined) (cc e)))
      ∙ sym (bind-assoc (agree (ext Γ (sub_binds σ (scale c.mult d.fields))) j.type (branch_type σ d P)
      (at rule.Case 4)) _ _))
      ∙ sym (bind-assoc (infer E p (ext Γ (sub_binds σ (scale c.mult d.fields))) b) _ _)
      ∙ sym (bind-assoc (branch_asks E p Γ c σ P d b) _ _)

pub scrutinee-asks : (E : Env) (p : Part) (Γ : Ctx) (c : CaseOf) (σ : ℕ → Term) (P s : Term) (J : Option (List Mult)) →
    case_branches E p Γ c σ P [] (s ▸ ε) J ≡ infer E (under p c.mult) Γ s >>= (λ j. scrutinee_asks Γ c σ P s J j)
scrutinee-asks E p Γ c σ P s J = refl

-- the number of binders, branches and components in all
abbrev pub case_need : Env → Part → Mult → GlobalId → ℕ → ℕ → List ℕ → Asks (Unit {0})
case_need E p q f k m ns = need (is_there (E.family f) && (usable p q && shaped (fam_at E f) k m ns)) (at rule.Case 1)

size-case : (ps : List Term) (P s : Term) (bs : List (ℕ × Term)) →
    size (side_by_side ps +++ (P ▸ (side_by_side (map (λ b. b.1) bs) +++ (s ▸ ε)))) ≡ length ps +
    (2 + length (map (λ b. b.0) bs))
size-case ps P s bs =
    size-append (side_by_side ps) (P ▸ (side_by_side (map (λ b. b.1) bs) +++ (s ▸ ε)))
    ∙ ap₂ (λ a b. a + suc b) (size-side ps)
    (size-append (side_by_side (map (λ b. b.1) bs)) (s ▸ ε) ∙ ap (λ k. k + 1)
    (size-side (map (λ b. b.1) bs) ∙ length-map bs (λ b. b.1) ∙ sym (length-map bs (λ b. b.0))))
    ∙ omega arith

and-true : (a b c d : Bool) → d ≡ true → (a && (b && (c && d))) ≡ (a && (b && c))
and-true a b true d e = ap (λ d. a && (b && d)) e
and-true a b false d e = refl

-- the components of a Case
abbrev pub case_parts : List Term → Term → List (ℕ × Term) → Term → Terms
case_parts ps P bs s = side_by_side ps +++ (P ▸ (side_by_side (map (λ b. b.1) bs) +++ (s ▸ ε)))

abbrev pub case_term : Mult → GlobalId → List Term → ℕ → Term → List (ℕ × Term) → Term → Term
case_term q f ps m P bs s = node (Form.case q f (length ps) m (map (λ b. b.0) bs)) (case_parts ps P bs s)

case-begins : (E : Env) (p : Part) (Γ : Ctx) (q : Mult) (f : GlobalId) (ps : List Term) (m : ℕ) (P s : Term)
    (bs : List (ℕ × Term)) →
    infer E p Γ (case_term q f ps m P bs s)
    ≡ case_need E p q f (length ps) m (map (λ b. b.0) bs)
    >>= (λ x. case_params E p Γ (record { mult = q; id = f; family = fam_at E f }) (fam_at E f).params closed
    (case_parts ps P bs s))
case-begins E p Γ q f ps m P s bs =
    ap (λ b. need (is_there (E.family f) && (usable p q && b)) (at rule.Case 1)
    >>= (λ x. case_params E p Γ (record { mult = q; id = f; family = fam_at E f }) (fam_at E f).params closed
    (case_parts ps P bs s)))
    (and-true (eqb (length ps) (length (fam_at E f).params)) (eqb m (length (fam_at E f).motive))
    (same_counts (map (λ b. b.0) bs) (field_counts (fam_at E f).constructors)) _
    (eq-eqb _ _ (size-case ps P s bs)))

pub case-refused : (E : Env) (n : ℕ) (p : Part) (Γ : Ctx) (q : Mult) (f : GlobalId) (ps : List Term) (m : ℕ)
    (P s : Term) (bs : List (ℕ × Term)) (e : CoreRefusal) →
    Refuses E n (case_need E p q f (length ps) m (map (λ b. b.0) bs)) e →
    Refuses E n (infer E p Γ (case_term q f ps m P bs s)) e
case-refused E n p Γ q f ps m P s bs e h =
    subst (λ m. Refuses E n m e) (sym (case-begins E p Γ q f ps m P s bs)) (here E n _ _ e h)

-- what is asked behind the parameters: the motive, the branches, the scrutinee
abbrev pub motive_asks : Env → Part → Ctx → CaseOf → (ℕ → Term) → Term → Asks ℕ
motive_asks E p Γ c σ P =
    type_of (ext Γ (sub_binds σ c.family.motive)) (infer E Part.erased (ext Γ (sub_binds σ c.family.motive)) P)
    (at rule.Case 3)

pub case-asks : (E : Env) (p : Part) (Γ : Ctx) (q : Mult) (f : GlobalId) (ps : List Term) (m : ℕ) (P s : Term)
    (bs : List (ℕ × Term)) (S : FamSig) → fam_at E f ≡ S →
    length ps ≡ length S.params → length bs ≡ length S.constructors →
    infer E p Γ (case_term q f ps m P bs s)
    ≡ case_need E p q f (length ps) m (map (λ b. b.0) bs) >>= (λ x.
    arguments E Part.erased Γ (wanted (at rule.Case 2) (erase_binds S.params)) closed (side_by_side ps) >>= (λ u.
    motive_asks E p Γ (record { mult = q; id = f; family = S }) (push (side_by_side ps) closed) P >>= (λ l.
    branches_ask E p Γ (record { mult = q; id = f; family = S }) (push (side_by_side ps) closed) P S.constructors
    (map (λ b. b.1) bs) None >>= (λ J.
    infer E (under p q) Γ s >>=
    (λ j. scrutinee_asks Γ (record { mult = q; id = f; family = S }) (push (side_by_side ps) closed) P s J
    j)))))
case-asks E p Γ q f ps m P s bs S same k l =
    case-begins E p Γ q f ps m P s bs
    ∙ ap (λ S. case_need E p q f (length ps) m (map (λ b. b.0) bs) >>=
    (λ x. case_params E p Γ (record { mult = q; id = f; family = S }) S.params closed (case_parts ps P bs s)))
    same
    ∙ bind-along (case_need E p q f (length ps) m (map (λ b. b.0) bs)) _ _ (λ x.
    params-ask E p Γ (record { mult = q; id = f; family = S }) S.params closed ps
    (P ▸ (side_by_side (map (λ b. b.1) bs) +++ (s ▸ ε))) k
    ∙ bind-along (arguments E Part.erased Γ (wanted (at rule.Case 2) (erase_binds S.params)) closed
    (side_by_side ps)) _ _ (λ u.
    bind-along (motive_asks E p Γ (record { mult = q; id = f; family = S }) (push (side_by_side ps) closed) P) _ _ (λ i.
    branches-ask E p Γ (record { mult = q; id = f; family = S }) (push (side_by_side ps) closed) P S.constructors
    (map (λ b. b.1) bs) s None (length-map bs (λ b. b.1) ∙ l)
    ∙ bind-along (branches_ask E p Γ (record { mult = q; id = f; family = S })
    (push (side_by_side ps) closed) P S.constructors (map (λ b. b.1) bs) None) _ _ (λ J.
    scrutinee-asks E p Γ (record { mult = q; id = f; family = S }) (push (side_by_side ps) closed) P s J))))
