-- Matches and their branches, by what is found of their parts, as the code counts these.
use Rattle.std.proofs.Common.{◌≡◌, ℕ, List, [], length, map, Option, None, Result, sym, ◌∙◌, ap, subst}
use mathlib.Core.Path.{ap₂}
use Rattle.std.proofs.lemmas.List.{length-map}
use Rattle.qtt_base.specs.declared.place.GlobalId.{GlobalId}
use Rattle.qtt_usage.specs.declared.mult.Mult.{Mult}
use Rattle.qtt_term.specs.declared.rule.Rule.TheVariants as rule
use Rattle.qtt_term.specs.declared.term.Term as code
use Rattle.qtt_term.specs.declared.term.Branch as code_branch
use Rattle.qtt_term.specs.Term.{Term}
use Rattle.qtt_term.specs.Substitution.{push, closed}
use Rattle.qtt_term.specs.Signature.{Tele, Env, ConSig, FamSig, fam_at}
use Rattle.qtt_term.specs.Judgement.{Ctx, Part, ext, sub_binds, scale, erase_binds, under, branch_type}
use Rattle.qtt_term.specs.Ask.{◌>>=◌}
use Rattle.qtt_term.specs.View.{term, terms, branches, side_by_side}
use Rattle.qtt_term.specs.Infer.{Asks, at, wanted, type_of, agree, unbound, CaseOf, Inferred, infer, arguments}
use Rattle.qtt_core_check.specs.declared.judged.Judged.{Judged}
use Rattle.qtt_core_check.specs.declared.refusal.CoreRefusal.{CoreRefusal}
use Rattle.qtt_term.specs.Telescopes.{filled}
use Rattle.qtt_core_check.specs.Cases.{branch_asks, branches_ask, scrutinee_asks}
use Rattle.qtt_core_check.specs.Seen.{Reaches, Refuses, Gives, judged}
use Rattle.qtt_core_check.proofs.Within.{here, later, tail}
use Rattle.qtt_core_check.proofs.ArgumentRows.{none-filled}
use Rattle.qtt_core_check.proofs.FormRows.{case_need, case_term, motive_asks, case-asks, case-refused}

case-needs : (E : Env) (p : Part) (q : Mult) (f : GlobalId) (ps : List code.Term) (m : ℕ)
    (bs cs : List code_branch.Branch) (k : ℕ) → k ≡ length ps → cs ≡ bs →
    case_need E p q f k m (map (λ b. b.0) (branches cs)) ≡ case_need E p q f (length (terms ps)) m
    (map (λ b. b.0) (branches bs))
case-needs E p q f ps m bs cs k l e =
    ap₂ (λ k bs. case_need E p q f k m (map (λ b. b.0) (branches bs))) (l ∙ sym (length-map ps term)) e

module _ (E : Env) (n : ℕ) (p : Part) (Γ : Ctx) (q : Mult) (f : GlobalId) (ps : List code.Term) (m : ℕ)
    (P s : Term) (bs cs : List code_branch.Branch) (k : ℕ) (l : k ≡ length ps) (e : cs ≡ bs) where
  abbrev pub the_case : Asks Inferred
  the_case = infer E p Γ (case_term q f (terms ps) m P (branches bs) s)

  pub case-unshaped : (r : CoreRefusal) → Refuses E n (case_need E p q f k m (map (λ b. b.0) (branches cs))) r →
      Refuses E n the_case r
  case-unshaped r h =
      case-refused E n p Γ q f (terms ps) m P s (branches bs) r
      (subst (λ w. Refuses E n w r) (case-needs E p q f ps m bs cs k l e) h)

  module _ (S : FamSig) (same : fam_at E f ≡ S) (a : length ps ≡ length S.params)
      (b : length bs ≡ length S.constructors)
      (h : Reaches E n (case_need E p q f k m (map (λ b. b.0) (branches cs))) tt) (Θ : Tele)
      (t : Θ ≡ erase_binds S.params) (none : List code.Term) (d : none ≡ []) where
    abbrev pub params_asks : Asks (List Mult)
    params_asks = arguments E Part.erased Γ (wanted (at rule.Case 2) Θ) (filled none) (side_by_side (terms ps))

    abbrev the_parts : Asks Inferred
    the_parts = do
      u ← arguments E Part.erased Γ (wanted (at rule.Case 2) (erase_binds S.params)) closed (side_by_side (terms ps))
      i ← motive_asks E p Γ (record { mult = q; id = f; family = S }) (push (side_by_side (terms ps)) closed) P
      J ← branches_ask E p Γ (record { mult = q; id = f; family = S }) (push (side_by_side (terms ps)) closed) P
          S.constructors (map (λ b. b.1) (branches bs)) None
      j ← infer E (under p q) Γ s
      scrutinee_asks Γ (record { mult = q; id = f; family = S }) (push (side_by_side (terms ps)) closed) P s J j

    asked : the_case ≡ case_need E p q f k m (map (λ b. b.0) (branches cs)) >>= (λ x. the_parts)
    asked =
        case-asks E p Γ q f (terms ps) m P s (branches bs) S same (length-map ps term ∙ a) (length-map bs _ ∙ b)
        ∙ ap (λ w. w >>= (λ x. the_parts)) (sym (case-needs E p q f ps m bs cs k l e))

    refused-in : (r : CoreRefusal) → Refuses E n the_parts r → Refuses E n the_case r
    refused-in r g = subst (λ w. Refuses E n w r) (sym asked) (later E n _ _ r h g)

    params-as : params_asks ≡ arguments E Part.erased Γ (wanted (at rule.Case 2) (erase_binds S.params)) closed
        (side_by_side (terms ps))
    params-as = ap₂ (λ Θ σ. arguments E Part.erased Γ (wanted (at rule.Case 2) Θ) σ (side_by_side (terms ps))) t
        (none-filled none d)

    pub case-params-refused : (r : CoreRefusal) → Refuses E n params_asks r → Refuses E n the_case r
    case-params-refused r g = refused-in r (here E n _ _ r (subst (λ w. Refuses E n w r) params-as g))

    module _ (us : List Mult) (g : Reaches E n params_asks us) (σ : ℕ → Term)
        (v : σ ≡ push (side_by_side (terms ps)) closed) (Ξ : Tele) (x : Ξ ≡ sub_binds σ S.motive) where
      abbrev pub motive_of_case : Asks ℕ
      motive_of_case = type_of (ext Γ Ξ) (infer E Part.erased (ext Γ Ξ) P) (at rule.Case 3)

      abbrev pub branches_of_case : Asks (Option (List Mult))
      branches_of_case = branches_ask E p Γ (record { mult = q; id = f; family = S }) σ P S.constructors
          (map (λ b. b.1) (branches bs)) None

      motive-as : motive_of_case ≡ motive_asks E p Γ (record { mult = q; id = f; family = S })
          (push (side_by_side (terms ps)) closed) P
      motive-as = ap (λ Ξ. type_of (ext Γ Ξ) (infer E Part.erased (ext Γ Ξ) P) (at rule.Case 3))
          (x ∙ ap (λ σ. sub_binds σ S.motive) v)

      branches-as : branches_of_case ≡ branches_ask E p Γ (record { mult = q; id = f; family = S })
          (push (side_by_side (terms ps)) closed) P S.constructors (map (λ b. b.1) (branches bs)) None
      branches-as = ap (λ σ. branches_ask E p Γ (record { mult = q; id = f; family = S }) σ P S.constructors
          (map (λ b. b.1) (branches bs)) None) v

      first-part : Reaches E n (arguments E Part.erased Γ (wanted (at rule.Case 2) (erase_binds S.params)) closed
          (side_by_side (terms ps))) us
      first-part = subst (λ w. Reaches E n w us) params-as g

      pub case-motive-refused : (r : CoreRefusal) → Refuses E n motive_of_case r → Refuses E n the_case r
      case-motive-refused r g =
          refused-in r (later E n _ _ r first-part (here E n _ _ r (subst (λ w. Refuses E n w r) motive-as g)))

      module _ (i : ℕ) (y : Reaches E n motive_of_case i) where
        second-part : Reaches E n
            (motive_asks E p Γ (record { mult = q; id = f; family = S }) (push (side_by_side (terms ps)) closed)
            P) i
        second-part = subst (λ w. Reaches E n w i) motive-as y

        pub case-branches-refused : (r : CoreRefusal) → Refuses E n branches_of_case r → Refuses E n the_case r
        case-branches-refused r g =
            refused-in r (later E n _ _ r first-part
            (later E n _ _ r second-part (here E n _ _ r (subst (λ w. Refuses E n w r) branches-as g))))

        module _ (J : Option (List Mult)) (z : Reaches E n branches_of_case J) where
          third-part : Reaches E n (branches_ask E p Γ (record { mult = q; id = f; family = S })
              (push (side_by_side (terms ps)) closed) P S.constructors (map (λ b. b.1) (branches bs)) None) J
          third-part = subst (λ w. Reaches E n w J) branches-as z

          pub case-scrutinee-refused : (r : CoreRefusal) → Refuses E n (infer E (under p q) Γ s) r →
              Refuses E n the_case r
          case-scrutinee-refused r g =
              refused-in r (later E n _ _ r first-part
              (later E n _ _ r second-part (later E n _ _ r third-part (here E n _ _ r g))))

          pub case-ends : (j : Inferred) (r : Result Judged CoreRefusal) → Reaches E n (infer E (under p q) Γ s) j →
              Gives E n (scrutinee_asks Γ (record { mult = q; id = f; family = S }) σ P s J j) judged r →
              Gives E n the_case judged r
          case-ends j r w g =
              subst (λ w. Gives E n w judged r) (sym asked)
              (tail E n _ _ judged r h (tail E n _ _ judged r first-part
              (tail E n _ _ judged r second-part (tail E n _ _ judged r third-part (tail E n _ _ judged r w
              (subst (λ σ. Gives E n (scrutinee_asks Γ (record { mult = q; id = f; family = S }) σ P s J j) judged
              r) v g))))))

-- ---- a branch under the fields as the code has them
module _ (E : Env) (n : ℕ) (p : Part) (Γ : Ctx) (c : CaseOf) (σ : ℕ → Term) (P : Term) (d : ConSig) (b : Term)
    (Ξ : Tele) (x : Ξ ≡ sub_binds σ (scale c.mult d.fields)) where
  abbrev pub under_fields : Tele → Asks (List Mult)
  under_fields Ξ = do
    j ← infer E p (ext Γ Ξ) b
    same ← agree (ext Γ Ξ) j.type (branch_type σ d P) (at rule.Case 4)
    unbound p Ξ b j.uses (at rule.Case 5)

  fields-as : under_fields Ξ ≡ branch_asks E p Γ c σ P d b
  fields-as = ap under_fields x

  pub branch-is-refused : (r : CoreRefusal) → Refuses E n (infer E p (ext Γ Ξ) b) r →
      Refuses E n (branch_asks E p Γ c σ P d b) r
  branch-is-refused r h = subst (λ w. Refuses E n w r) fields-as (here E n _ _ r h)

  module _ (j : Inferred) (h : Reaches E n (infer E p (ext Γ Ξ) b) j) (A : Term) (t : A ≡ branch_type σ d P) where
    pub branch-differs : (r : CoreRefusal) → Refuses E n (agree (ext Γ Ξ) j.type A (at rule.Case 4)) r →
        Refuses E n (branch_asks E p Γ c σ P d b) r
    branch-differs r g =
        subst (λ w. Refuses E n w r) fields-as
        (later E n _ _ r h (here E n _ _ r
        (subst (λ A. Refuses E n (agree (ext Γ Ξ) j.type A (at rule.Case 4)) r) t g)))

    pub branch-ends : (r : Result (List Mult) CoreRefusal) →
        Reaches E n (agree (ext Γ Ξ) j.type A (at rule.Case 4)) tt →
        Gives E n (unbound p Ξ b j.uses (at rule.Case 5)) (λ u. u) r →
        Gives E n (branch_asks E p Γ c σ P d b) (λ u. u) r
    branch-ends r g k =
        subst (λ w. Gives E n w (λ u. u) r) fields-as
        (tail E n _ _ (λ u. u) r h
        (tail E n _ _ (λ u. u) r (subst (λ A. Reaches E n (agree (ext Γ Ξ) j.type A (at rule.Case 4)) tt) t g)
        k))
