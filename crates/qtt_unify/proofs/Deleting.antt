-- Scrutinees that are no proofs of Eq.
use Rattle.std.proofs.Common.{◌≡◌, ℕ, Bool, true, false, cond, List, [], ◌∷◌, length, None, refl, sym, ap, subst, ◌∙◌}
use Rattle.qtt_base.specs.declared.place.GlobalId.{GlobalId}
use Rattle.qtt_term.specs.declared.term.Term as code
use Rattle.qtt_term.specs.Term.{same_id}
use Rattle.qtt_term.specs.Signature.{Env, eq_id}
use Rattle.qtt_term.specs.Ask.{Ask}
use Rattle.qtt_unify.specs.Targets.{Scrutinee}
use Rattle.qtt_unify.specs.Deletion.{of_points, deletion}
use Rattle.qtt_unify.specs.View.{Asks, all_terms, Reaches}
use Rattle.qtt_unify.proofs.Within.{on_done}

other-points : (n : ℕ) (ps js : List code.Term) → (length ps ≡ 2 → length js ≡ 1 → ⊥) →
    of_points {F = ⊥} {P = Unit {0}} tt n (all_terms ps) (all_terms js) ≡ Ask.done None
other-points n [] js h = refl
other-points n (A ∷ []) js h = refl
other-points n (A ∷ s ∷ t ∷ ps) js h = refl
other-points n (A ∷ s ∷ []) [] h = refl
other-points n (A ∷ s ∷ []) (i ∷ []) h = absurd (h refl refl)
other-points n (A ∷ s ∷ []) (i ∷ j ∷ js) h = refl

same-both : {A : Type 0} (b : Bool) (m l : Asks A) → m ≡ l → cond b m l ≡ l
same-both true m l e = e
same-both false m l e = refl

pub no-points : {E : Env} {n : ℕ} (f : GlobalId) (S : Scrutinee) (ps js : List code.Term) →
    S.params ≡ all_terms ps → S.indices ≡ all_terms js → (length ps ≡ 2 → length js ≡ 1 → ⊥) →
    Reaches E n (deletion tt f S) None
unfolding deletion
no-points {E} {n} f S ps js e g h =
    let k = length S.context in
    subst (λ l. Reaches E n l None)
    (sym (same-both (same_id f eq_id) (of_points {F = ⊥} {P = Unit {0}} tt k S.params S.indices) (Ask.done None)
    (ap (λ xs. of_points {F = ⊥} {P = Unit {0}} tt k xs S.indices) e ∙
    ap (λ xs. of_points {F = ⊥} {P = Unit {0}} tt k (all_terms ps) xs) g ∙ other-points k ps js h)))
    on_done
