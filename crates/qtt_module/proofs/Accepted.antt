-- The last judgement of a type: what the core judgement's call answers of it.
use Rattle.std.proofs.Common.{◌≡◌, ℕ, List, Option, refl, sym, subst}
use Rattle.qtt_base.specs.declared.place.Span.{Span}
use Rattle.qtt_term.specs.Term.{Term}
use Rattle.qtt_term.specs.Judgement.{Part}
use Rattle.qtt_term.specs.Ask.{Question, Ending, within}
use Rattle.qtt_term.specs.Infer.{Premise, Inferred, infer}
use Rattle.qtt_term.specs.Infer.{at as premise}
use Rattle.qtt_term.specs.Entries.{Entries, env}
use Rattle.qtt_term.specs.Scope.{Scope, depth}
use Rattle.qtt_term.specs.declared.rule.Rule.TheVariants as rule
use Rattle.qtt_core_check.specs.declared.refusal.CoreRefusal.{CoreRefusal}
use Rattle.qtt_core_check.specs.declared.refusal.CoreRefusal.TheVariants as refusal
use Rattle.qtt_core_check.specs.Seen as core
use Rattle.qtt_rules.specs.declared.errors.ElabError.{ElabError}
use Rattle.qtt_rules.specs.Refusal.{Cause, at}
use Rattle.qtt_bidi.specs.Answers.{Fails, Spends, Refuses}
use Rattle.qtt_bidi.proofs.Beside.{beside-ending}
use Rattle.qtt_bidi.proofs.Looked.{told}
use Rattle.qtt_module.specs.Families.{accepted}
use Rattle.qtt_module.specs.FamilyParts.{Untyped, sort_within}

module _ (G : Entries) (n : ℕ) (S : Scope) (x : List ℕ) (bound : Option ℕ) (s : Span) (A : Term) where
  -- with what is found it goes on
  pub accepted-on : (j : Inferred) → core.Reaches (env G) n (infer (env G) Part.erased S.vars A) j →
      within (env G) n (accepted G S x bound s A) ≡ within (env G) n (sort_within x bound s (depth S) j.type)
  unfolding within
  accepted-on j h =
      beside-ending (env G) n (at s rule.Conversion 1) (infer (env G) Part.erased S.vars A) _ _ (Ending.ok j) h.is

  accepted-fails : (p : Premise) → core.Fails (env G) n (infer (env G) Part.erased S.vars A) p →
      Fails (env G) n (accepted G S x bound s A) (Cause.core_refused x) (at s p.rule p.number)
  unfolding within
  accepted-fails p h = record {
    is = beside-ending (env G) n (at s rule.Conversion 1) (infer (env G) Part.erased S.vars A) _ _ (Ending.fails p)
        h.is;
  }

  accepted-spent : (q : Question) → core.Spends (env G) n (infer (env G) Part.erased S.vars A) q →
      Spends (env G) n (accepted G S x bound s A) n (at s rule.Conversion 1) q
  unfolding within
  accepted-spent q h = record {
    budget = refl;
    is = beside-ending (env G) n (at s rule.Conversion 1) (infer (env G) Part.erased S.vars A) _ _
        (Ending.spent tt q) h.is;
  }

  -- and as it is told
  pub untyped-refused : (e : CoreRefusal) → core.Refuses (env G) n (infer (env G) Part.erased S.vars A) e →
      (r : ElabError) → Untyped x n s e r → Refuses (env G) n (accepted G S x bound s A) r
  untyped-refused (refusal.Fails w k) h r u =
      told (env G) n (accepted G S x bound s A) (Cause.core_refused x) (at s w k) r (accepted-fails (premise w k) h) u
  untyped-refused (refusal.Spent q) h r u =
      subst (λ r. Refuses (env G) n (accepted G S x bound s A) r) (sym u) (accepted-spent (core.question q) h)
  untyped-refused refusal.Memory h r u = subst (λ r. Refuses (env G) n (accepted G S x bound s A) r) (sym u) tt
