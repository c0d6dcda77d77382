-- Names that stand for terms that are no variables: what the core judgement answers of them.
use Rattle.std.proofs.Common.{◌≡◌, ℕ, refl, sym, subst, Result, Ok, Err}
use Rattle.std.specs.Prelude.{MatchResult}
use Rattle.qtt_base.specs.declared.place.Span.{Span}
use Rattle.qtt_term.specs.Term.{Term, var, node}
use Rattle.qtt_term.specs.Judgement.{Part}
use Rattle.qtt_term.specs.Ask.{Question, Ending, within}
use Rattle.qtt_term.specs.Infer.{Premise, Inferred, infer}
use Rattle.qtt_term.specs.Entries.{Entries, env}
use Rattle.qtt_term.specs.Scope.{Scope, depth}
use Rattle.qtt_term.specs.declared.rule.Rule.TheVariants as rule
use Rattle.qtt_term.specs.declared.term.Term as code
use Rattle.qtt_term.specs.View.{term}
use Rattle.qtt_core_check.specs.declared.refusal.CoreRefusal.{CoreRefusal}
use Rattle.qtt_core_check.specs.declared.refusal.CoreRefusal.TheVariants as refusal
use Rattle.qtt_core_check.specs.Seen as seen
use Rattle.qtt_rules.specs.Refusal.{Cause, at}
use Rattle.qtt_rules.specs.Judged.{Judged, judged}
use Rattle.qtt_rules.specs.declared.errors.ElabError.{ElabError}
use Rattle.qtt_rules.specs.declared.errors.ElabError.TheVariants as error
use Rattle.qtt_bidi.specs.Answers.{Reaches, Fails, Spends, Refuses, Gives}
use Rattle.qtt_bidi.specs.Elaboration.{stands_for, unused}
use Rattle.qtt_bidi.specs.Ends.{IsForm, accepted_as}
use Rattle.qtt_bidi.specs.Seen.{not_accepted}
use Rattle.qtt_bidi.proofs.Within.{on_done, reached}
use Rattle.qtt_bidi.proofs.Beside.{beside-ending}

pub stands-run : (G : Entries) (S : Scope) (s : Span) (t A : Term) → IsForm t →
    stands_for G Part.run S s t A ≡ accepted_as G S s t A
stands-run G S s (var i) A h = absurd h
stands-run G S s (node F ts) A h = refl

-- a term that is no variable: nothing is asked in the erased part, and the core judgement in the run part
pub standing-erased : (G : Entries) (n : ℕ) (S : Scope) (s : Span) (t A : Term) (p : Part) {X : Type 0}
    (view : X → Judged) (r : Result X ElabError) → p ≡ Part.erased → IsForm t →
    MatchResult r (λ j. view j ≡ judged A t (unused S)) (λ e. e ≡ error.Memory) →
    Gives (env G) n (stands_for G p S s t A) view r
standing-erased G n S s (var i) A p {X = X} view r e f g = absurd f
standing-erased G n S s (node F ts) A p {X = X} view r e f g =
    subst (λ q. Gives (env G) n (stands_for G q S s (node F ts) A) view r) (sym e) (plainly r g)
  where
    plainly : (r : Result X ElabError) →
        MatchResult r (λ j. view j ≡ judged A (node F ts) (unused S)) (λ e. e ≡ error.Memory) →
        Gives (env G) n (stands_for G Part.erased S s (node F ts) A) view r
    plainly (Ok x) g = reached on_done (sym g)
    plainly (Err x) g =
        subst (λ e. Refuses (env G) n (stands_for G Part.erased S s (node F ts) A) e) (sym g) tt

pub standing-run : (G : Entries) (n : ℕ) (S : Scope) (s : Span) (t A : Term) (p : Part) {X : Type 0}
    (view : X → Judged) (r : Result X ElabError) → p ≡ Part.run → IsForm t →
    Gives (env G) n (accepted_as G S s t A) view r → Gives (env G) n (stands_for G p S s t A) view r
standing-run G n S s t A p view r e f g =
    subst (λ q. Gives (env G) n (stands_for G q S s t A) view r) (sym e)
    (subst (λ m. Gives (env G) n m view r) (sym (stands-run G S s t A f)) g)

module _ (G : Entries) (n : ℕ) (S : Scope) (s : Span) (t A : Term) where
  pub accepted-ok : (j : Inferred) → seen.Reaches (env G) n (infer (env G) Part.run S.vars t) j →
      Reaches (env G) n (accepted_as G S s t A) (judged A t j.uses)
  unfolding within
  accepted-ok j h = record {
    is = beside-ending (env G) n (at s rule.Stands 1) (infer (env G) Part.run S.vars t) _ _ (Ending.ok j) h.is;
  }

  pub accepted-fails : (p : Premise) → seen.Fails (env G) n (infer (env G) Part.run S.vars t) p →
      Fails (env G) n (accepted_as G S s t A) (Cause.erased_use (depth S) t) (at s rule.Stands 1)
  unfolding within
  accepted-fails p h = record {
    is = beside-ending (env G) n (at s rule.Stands 1) (infer (env G) Part.run S.vars t) _ _ (Ending.fails p) h.is;
  }

  pub accepted-spent : (q : Question) → seen.Spends (env G) n (infer (env G) Part.run S.vars t) q →
      Spends (env G) n (accepted_as G S s t A) n (at s rule.Stands 1) q
  unfolding within
  accepted-spent q h = record {
    budget = refl;
    is = beside-ending (env G) n (at s rule.Stands 1) (infer (env G) Part.run S.vars t) _ _ (Ending.spent tt q) h.is;
  }

  -- and its refusal as it is told
  pub accepted-told : (d : ℕ) (core : code.Term) → d ≡ depth S → term core ≡ t → (e : CoreRefusal) →
      seen.Refuses (env G) n (infer (env G) Part.run S.vars t) e →
      Refuses (env G) n (accepted_as G S s t A) (not_accepted n d s core e)
  accepted-told d core a b (refusal.Fails r k) h =
      let w = at s rule.Stands 1 in
      let M = accepted_as G S s t A in
      subst (λ m. Fails (env G) n M (Cause.erased_use m (term core)) w) (sym a)
      (subst (λ x. Fails (env G) n M (Cause.erased_use (depth S) x) w) (sym b) (accepted-fails _ h))
  accepted-told d core a b (refusal.Spent q) h = accepted-spent _ h
  accepted-told d core a b refusal.Memory h = tt
