-- What has derivations goes on.
use Rattle.std.specs.List.{AllByRecursion}
use Rattle.std.proofs.lemmas.List.Elements.{recursion_from_All}
use Rattle.std.proofs.Common.{◌≡◌, ◌∙◌, ◌⊎◌, inl, inr, ℕ, List, [], ◌∷◌, ◌++◌, map, flat_map, All, Option, Some, None, Ok, Err, refl, sym, ap, subst}
use Rattle.qtt_base.specs.declared.place.GlobalId.{GlobalId}
use Rattle.qtt_graph.specs.Graph.{Name}
use Rattle.qtt_term.specs.Entries.{Entries}
use Rattle.qtt_lower.specs.declared.program.LowerError.{LowerError}
use Rattle.qtt_lower.specs.Compiled.{excess_of}
use Rattle.qtt_holes.specs.Hole.{Hole}
use Rattle.qtt_words.specs.Asked.{Asked}
use Rattle.qtt_load.specs.Reading.{Texts}
use Rattle.qtt_module.specs.Refused.{Refused}
use Rattle.qtt_module.specs.ModuleRules.{IsMain}
use Rattle.qtt_module.specs.Text.{Accepted}
use Rattle.qtt_module.specs.TextCalls.{RefusesMain}
use Rattle.qtt_accepted.specs.Texts.{IsSpent}
use Rattle.qtt_build.specs.Built.{Built}
use Rattle.qtt_build.specs.Build as builds
use Rattle.qtt_build.specs.Laws.{BuildLaws, HasNoHoles}
use Rattle.qtt_outcome.specs.Stop.{Stop, Answer, holes_of, none_of, no_holes, module_named, program_of, within, code_of}
use Rattle.qtt_outcome.specs.Outcome.{Outcome, texts_for, root_of, outcome_of, put, worked}
use Rattle.qtt_outcome.specs.Headline.{came, Declares, HasDerivations, IsGoing, Reason, IsRefused}
use Rattle.qtt_outcome.specs.Completeness.{HasMain, IsReady, GoesOn, IsOverBudget, DerivedGoesOn}
use Rattle.qtt_outcome.proofs.Headline.{ByBuilds, stopped-is-not-going, one_of_three_holds, refused_for_reason_holds, absent_is_told_holds, has, worked-ok}

-- ---- refusals
-- where there is a main, its test is refused for a budget alone
main-spent : (n : ℕ) (G : Entries) (A : Accepted) (x : Refused) (d : GlobalId) → IsMain G A.checked.main d →
    RefusesMain n G A x → IsSpent x.kept.detail
main-spent n G A x d m (RefusesMain.premise e none) = absurd (none d m)
main-spent n G A x d m (RefusesMain.question s) = IsSpent.spent

-- ---- holes
none-in : (A : Accepted) → HasNoHoles A → holes_of A ≡ []
none-in A h = ap (λ (hs : List Hole). map (λ h. (A.exports.name, h)) hs) h

none-in-order : (As : List Accepted) → All HasNoHoles As → flat_map holes_of As ≡ []
none-in-order As h = by As (recursion_from_All HasNoHoles As h)
  where
    by : (As : List Accepted) → AllByRecursion HasNoHoles As → flat_map holes_of As ≡ []
    by [] u = refl
    by (A ∷ As) u =
        subst (λ hs. hs ++ flat_map holes_of As ≡ []) (sym (none-in A u.0)) (by As u.1)

no-hole-refused : (B : Built) (x : Refused) → All HasNoHoles B.order → no_holes B ≡ Err (Stop.refused x) → ⊥
no-hole-refused B x h e =
    absurd (let g : none_of [] ≡ Err (Stop.refused x) =
    subst (λ hs. none_of hs ≡ Err (Stop.refused x)) (none-in-order B.order h) e in cc g)

-- ---- code
code-not-refused : (root : Name) (B : Built) (x : Refused) → excess_of (program_of B.globals) ≡ None →
    code_of root B ≡ Err (Stop.refused x) → ⊥
code-not-refused root B x h e =
    absurd (let g : within root (program_of B.globals) None ≡ Err (Stop.refused x) =
    subst (λ (o : Option LowerError). within root (program_of B.globals) o ≡ Err (Stop.refused x)) h e in cc g)

-- ---- a request
module _ (laws : BuildLaws) (texts : Texts) (input : List ℕ) (r : Asked) (B : Built)
    (declares : Declares texts r B) (ready : IsReady r B) where
  ready-for : (C : Built) → HasDerivations texts r C → IsReady r C
  ready-for C h = subst (IsReady r) (h.alone B declares) ready

  right-main : (C : Built) (A : Accepted) (x : Refused) → HasMain C (root_of r.work) →
      module_named C (root_of r.work) ≡ Some A → RefusesMain r.budget C.globals A x → IsSpent x.kept.detail
  right-main C A x m e f =
      let g : Some m.accepted ≡ Some A = sym m.named ∙ e in
      let same : m.accepted ≡ A = cc g in
      main-spent r.budget C.globals A x m.main
      (subst (λ (A : Accepted). IsMain C.globals A.checked.main m.main) same m.is_main) f

  spent-so : (x : Refused) → Reason texts r x → IsSpent x.kept.detail
  spent-so x (Reason.no_build f fails none) =
      laws.once.spent (texts_for texts r.work) (root_of r.work) r.budget (builds.Stop.refused x) B f declares
  spent-so x (Reason.hole {B = C} w h e) = absurd (no-hole-refused C x ((ready-for C h).no_hole w) e)
  spent-so x (Reason.wrong_main {B = C} {A = A} w h e f) = right-main C A x ((ready-for C h).main w) e f
  spent-so x (Reason.too_large {B = C} w h e) =
      absurd (code-not-refused (root_of r.work) C x ((ready-for C h).within w) e)

  over-so : IsRefused texts r (came texts input r) → IsOverBudget texts r (came texts input r)
  over-so f = record { refused = f; spent = spent-so f.refusal f.reason }

  -- what the request comes to is put over this build
  comes-so : (o : Outcome) → worked texts input r ≡ Ok o → worked texts input r ≡ put input r B r.work
  comes-so o e =
      let g = worked-ok laws texts input r o e in
      let h = has laws texts input r g.build_is g.built in
      e ∙ sym (subst (λ (C : Built). put input r C r.work ≡ Ok o) (sym (h.alone B declares)) g.put_is)

  going-so : IsGoing (came texts input r).status → GoesOn texts input r B
  going-so i = record { going = i; comes = by_answer (worked texts input r) refl i }
    where
      by_answer : (a : Answer Outcome) → worked texts input r ≡ a → IsGoing (outcome_of a).status →
          worked texts input r ≡ put input r B r.work
      by_answer (Ok o) e i = comes-so o e
      by_answer (Err s) e i = absurd (stopped-is-not-going s i)

  goes-on-so : GoesOn texts input r B ⊎ IsOverBudget texts r (came texts input r)
  goes-on-so = by_status (one_of_three_holds laws texts input r)
    where
      by_status : IsGoing (came texts input r).status ⊎ ((came texts input r).status ≡ 1) ⊎
          ((came texts input r).status ≡ 66) → GoesOn texts input r B ⊎ IsOverBudget texts r (came texts input r)
      by_status (inl i) = inl (going-so i)
      by_status (inr (inl e)) = inr (over-so (refused_for_reason_holds laws texts input r e))
      by_status (inr (inr e)) = absurd ((absent_is_told_holds laws texts input r e).none B declares)

pub derived_goes_on_holds : ByBuilds DerivedGoesOn
derived_goes_on_holds laws texts input r B declares ready =
    goes-on-so laws texts input r B declares ready
