-- The last judgement of a body, as the core judgement answers.
use Rattle.std.proofs.Common.{◌≡◌, ℕ, [], refl, sym, subst}
use Rattle.qtt_term.specs.Term.{Term}
use Rattle.qtt_term.specs.Ask.{Question, Ending, within}
use Rattle.qtt_term.specs.Entries.{env}
use Rattle.qtt_term.specs.Infer.{Premise, Inferred, infer}
use Rattle.qtt_core_check.specs.declared.refusal.CoreRefusal.{CoreRefusal}
use Rattle.qtt_core_check.specs.declared.refusal.CoreRefusal.TheVariants as core_refusal
use Rattle.qtt_core_check.specs.Seen as core
use Rattle.qtt_rules.specs.declared.errors.ElabError.{ElabError}
use Rattle.qtt_rules.specs.Refusal.{Cause, at}
use Rattle.qtt_bidi.specs.Answers.{Fails, Spends, Refuses}
use Rattle.qtt_bidi.proofs.Beside.{beside-ending}
use Rattle.qtt_bidi.proofs.Looked.{told}
use Rattle.qtt_split.specs.Group.{Defined, body_holds}
use Rattle.qtt_split.specs.Tests.{Test, at as test_at}
use Rattle.qtt_module.specs.GroupCalls.{typed_asks, BodyTold}

module _ (D : Defined) (n : ℕ) (t : Term) where
  pub holds-typed : (j : Inferred) →
      core.Reaches (env D.group.globals) n (infer (env D.group.globals) D.group.part [] t) j →
      within (env D.group.globals) n (body_holds D t) ≡ within (env D.group.globals) n (typed_asks D j.type)
  unfolding body_holds
  holds-typed j h =
      beside-ending (env D.group.globals) n (test_at D.group.first Test.body)
      (infer (env D.group.globals) D.group.part [] t) _ _ (Ending.ok j) h.is

  pub holds-fails : (p : Premise) →
      core.Fails (env D.group.globals) n (infer (env D.group.globals) D.group.part [] t) p →
      Fails (env D.group.globals) n (body_holds D t) (Cause.core_refused D.name) (at D.group.first p.rule p.number)
  unfolding body_holds within
  holds-fails p h = record {
    is = beside-ending (env D.group.globals) n (test_at D.group.first Test.body)
        (infer (env D.group.globals) D.group.part [] t) _ _ (Ending.fails p) h.is;
  }

  pub holds-spent : (q : Question) →
      core.Spends (env D.group.globals) n (infer (env D.group.globals) D.group.part [] t) q →
      Spends (env D.group.globals) n (body_holds D t) n (test_at D.group.first Test.body) q
  unfolding body_holds within
  holds-spent q h = record {
    budget = refl;
    is = beside-ending (env D.group.globals) n (test_at D.group.first Test.body)
        (infer (env D.group.globals) D.group.part [] t) _ _ (Ending.spent tt q) h.is;
  }

  pub holds-told : (r : CoreRefusal) (e : ElabError) →
      core.Refuses (env D.group.globals) n (infer (env D.group.globals) D.group.part [] t) r → BodyTold D n r e →
      Refuses (env D.group.globals) n (body_holds D t) e
  holds-told (core_refusal.Fails r k) e h d =
      told (env D.group.globals) n (body_holds D t) _ _ e (holds-fails _ h) d
  holds-told (core_refusal.Spent q) e h d =
      subst (λ x. Refuses (env D.group.globals) n (body_holds D t) x) (sym d) (holds-spent _ h)
  holds-told core_refusal.Memory e h d = subst (λ x. Refuses (env D.group.globals) n (body_holds D t) x) (sym d) tt
