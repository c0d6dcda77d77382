-- What is compared in a group of clauses: dot patterns, and the type of a body.
use Rattle.std.proofs.Common.{ℕ, true, false, length, refl}
use Rattle.qtt_base.specs.declared.place.Span.{Span}
use Rattle.qtt_term.specs.declared.rule.Rule.TheVariants as rule
use Rattle.qtt_term.specs.Term.{Term}
use Rattle.qtt_term.specs.Signature.{Env}
use Rattle.qtt_term.specs.Ask.{within}
use Rattle.qtt_rules.specs.Asks.{alike}
use Rattle.qtt_rules.specs.Refusal.{Cause, at}
use Rattle.qtt_bidi.specs.Answers.{Reaches, Fails}
use Rattle.qtt_bidi.proofs.Within.{on, on_done, holds, unmet, fails_later}
use Rattle.qtt_split.specs.Group.{Defined, or_body_refused}
use Rattle.qtt_split.specs.Tests.{Test, at as test_at}
use Rattle.qtt_split.specs.Tree.{Leaf}
use Rattle.qtt_module.specs.GroupCalls.{same_asks, typed_asks}

module _ {E : Env} {n : ℕ} where
  pub same-dot : (l : Leaf) (t u : Term) (s : Span) →
      Reaches E n (alike (test_at s Test.dots) (length l.context) t u) true → Reaches E n (same_asks l t u s) tt
  same-dot l t u s h = on _ h (holds _ _ _ refl)

  pub other-dot : (l : Leaf) (t u : Term) (s : Span) →
      Reaches E n (alike (test_at s Test.dots) (length l.context) t u) false →
      Fails E n (same_asks l t u s) (Cause.dot_mismatch (length l.context) u t) (test_at s Test.dots)
  other-dot l t u s h = fails_later _ h (unmet _ _ _ refl)

  pub same-type : (D : Defined) (A : Term) →
      Reaches E n (alike (test_at D.group.first Test.body) 0 A D.type) true → Reaches E n (typed_asks D A) tt
  same-type D A h = on _ h on_done

  pub other-type : (D : Defined) (A : Term) →
      Reaches E n (alike (test_at D.group.first Test.body) 0 A D.type) false →
      Fails E n (typed_asks D A) (Cause.core_refused D.name) (at D.group.first rule.Conversion 2)
  unfolding within
  other-type D A h = fails_later (or_body_refused D) h (record { is = refl })
