-- Forms with arguments, by what is found of their arguments.
use Rattle.std.proofs.Common.{◌≡◌, ℕ, List, [], ◌++◌, length, sym, ◌∙◌, ap, subst}
use Rattle.std.proofs.lemmas.List.{length-map}
use mathlib.Core.Path.{ap₂}
use Rattle.qtt_usage.specs.declared.mult.Mult.{Mult}
use Rattle.qtt_usage.specs.Usage.{usage_sum}
use Rattle.qtt_term.specs.declared.term.Term as code
use Rattle.qtt_term.specs.Term.{Term, size, ◌+++◌}
use Rattle.qtt_term.specs.Substitution.{sub, push, closed}
use Rattle.qtt_term.specs.Signature.{Tele, Env}
use Rattle.qtt_term.specs.Judgement.{Ctx, Part}
use Rattle.qtt_term.specs.View.{term, terms, side_by_side}
use Rattle.qtt_term.specs.Infer.{Premise, Wanted, wanted, inferred, arguments}
use Rattle.qtt_core_check.specs.declared.refusal.CoreRefusal.{CoreRefusal}
use Rattle.qtt_term.specs.Telescopes.{tele, filled}
use Rattle.qtt_core_check.specs.Seen.{Reaches, Refuses}
use Rattle.qtt_core_check.proofs.Within.{on, on_done, here, reached}
use Rattle.qtt_core_check.proofs.Continuing.{refused}
use Rattle.qtt_core_check.proofs.ArgumentLists.{size-side, filled-more, append-reaches, append-first, append-second}
use Rattle.qtt_term.proofs.Binders.{push-append}
use Rattle.qtt_core_check.specs.Signatures.{applies}

-- the values for no binder, and for arguments
pub none-filled : (vs : List code.Term) → vs ≡ [] → filled vs ≡ closed
none-filled vs e = ap filled e

pub args-filled : (none vs ts : List code.Term) → none ≡ [] → terms vs ≡ terms none ++ terms ts →
    filled vs ≡ push (side_by_side (terms ts)) closed
args-filled none vs ts e d = filled-more none vs ts d ∙ ap (push (side_by_side (terms ts))) (none-filled none e)

sizes : (xs : List Wanted) (ts : List code.Term) → length ts ≡ length xs → size (side_by_side (terms ts)) ≡ length xs
sizes xs ts z = size-side (terms ts) ∙ length-map ts term ∙ z

module _ (E : Env) (n : ℕ) (p : Part) (Γ : Ctx) where
  -- ---- one list
  pub applied-refused : (r : Premise) (Θ : Tele) (A : Term) (bs : List (Mult × code.Term))
      (none ts : List code.Term) (e : CoreRefusal) → tele bs ≡ Θ → none ≡ [] →
      Refuses E n (arguments E p Γ (wanted r (tele bs)) (filled none) (side_by_side (terms ts))) e →
      Refuses E n (applies E p Γ r Θ A (side_by_side (terms ts))) e
  applied-refused r Θ A bs none ts e s d h =
      here E n _ _ e (subst (λ m. Refuses E n m e)
      (ap₂ (λ Θ σ. arguments E p Γ (wanted r Θ) σ (side_by_side (terms ts))) s (none-filled none d)) h)

  pub applied-reaches : (r : Premise) (Θ : Tele) (A : Term) (bs : List (Mult × code.Term))
      (none vs ts : List code.Term) (ty : code.Term) (us : List Mult) → tele bs ≡ Θ → none ≡ [] →
      terms vs ≡ terms none ++ terms ts → term ty ≡ A →
      Reaches E n (arguments E p Γ (wanted r (tele bs)) (filled none) (side_by_side (terms ts))) us →
      Reaches E n (applies E p Γ r Θ A (side_by_side (terms ts))) (inferred (sub (filled vs) (term ty)) us)
  applied-reaches r Θ A bs none vs ts ty us s d v a h =
      reached (on _ (subst (λ m. Reaches E n m us)
      (ap₂ (λ Θ σ. arguments E p Γ (wanted r Θ) σ (side_by_side (terms ts))) s (none-filled none d)) h)
      on_done)
      (ap (λ A. inferred A us) (ap₂ sub (sym (args-filled none vs ts d v)) (sym a)))

  -- ---- two lists, the values of the first being in place for the second
  module _ (xs ys : List Wanted) (none vs ts ss : List code.Term) (d : none ≡ []) (z : length ts ≡ length xs) where
    pub first-refused : (e : CoreRefusal) → Refuses E n (arguments E p Γ xs (filled none) (side_by_side (terms ts))) e →
        Refuses E n (arguments E p Γ (xs ++ ys) closed (side_by_side (terms ts) +++ side_by_side (terms ss))) e
    first-refused e h =
        refused (append-first p Γ xs ys closed (side_by_side (terms ts)) (side_by_side (terms ss)) (sizes xs ts z)) e
        (subst (λ σ. Refuses E n (arguments E p Γ xs σ (side_by_side (terms ts))) e) (none-filled none d) h)

    module _ (us : List Mult) (h : Reaches E n (arguments E p Γ xs (filled none) (side_by_side (terms ts))) us)
        (v : terms vs ≡ terms none ++ terms ts) where
      firsts : Reaches E n (arguments E p Γ xs closed (side_by_side (terms ts))) us
      firsts = subst (λ σ. Reaches E n (arguments E p Γ xs σ (side_by_side (terms ts))) us) (none-filled none d) h

      pub second-refused : (e : CoreRefusal) →
          Refuses E n (arguments E p Γ ys (filled vs) (side_by_side (terms ss))) e →
          Refuses E n (arguments E p Γ (xs ++ ys) closed (side_by_side (terms ts) +++ side_by_side (terms ss))) e
      second-refused e k =
          refused (append-second p Γ xs ys closed (side_by_side (terms ts)) (side_by_side (terms ss)) us
          (sizes xs ts z) firsts) e
          (subst (λ σ. Refuses E n (arguments E p Γ ys σ (side_by_side (terms ss))) e) (args-filled none vs ts d v) k)

      pub both-reach : (ws : List Mult) → length ws ≡ length Γ →
          Reaches E n (arguments E p Γ ys (filled vs) (side_by_side (terms ss))) ws →
          Reaches E n (arguments E p Γ (xs ++ ys) closed (side_by_side (terms ts) +++ side_by_side (terms ss)))
          (usage_sum us ws)
      both-reach ws l k =
          append-reaches p Γ xs ys closed (side_by_side (terms ts)) (side_by_side (terms ss)) us ws
          (sizes xs ts z) l firsts
          (subst (λ σ. Reaches E n (arguments E p Γ ys σ (side_by_side (terms ss))) ws) (args-filled none vs ts d v) k)

-- the values of two lists
pub both-filled : (none vs ws ts ss : List code.Term) → none ≡ [] → terms vs ≡ terms none ++ terms ts →
    terms ws ≡ terms vs ++ terms ss →
    filled ws ≡ push (side_by_side (terms ts) +++ side_by_side (terms ss)) closed
both-filled none vs ws ts ss d v w =
    filled-more vs ws ss w ∙ ap (push (side_by_side (terms ss))) (args-filled none vs ts d v)
    ∙ sym (push-append (side_by_side (terms ts)) (side_by_side (terms ss)) closed)
