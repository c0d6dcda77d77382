-- Whether a tree covers all values.
use Rattle.std.proofs.Common.{◌≡◌, ◌∙◌, ℕ, true, false, List, Option, Some, None, sym, ap, subst}
use Rattle.qtt_syntax.specs.Tree.{Shape}
use Rattle.qtt_term.specs.Contraction.{chain}
use Rattle.qtt_term.specs.Signature.{Env}
use Rattle.qtt_rules.specs.Refusal.{Cause}
use Rattle.qtt_bidi.specs.Answers.{Reaches, Fails}
use Rattle.qtt_bidi.proofs.Within.{on_done, holds, unmet}
use Rattle.qtt_split.specs.Group.{Defined, covers}
use Rattle.qtt_split.specs.Missing.{first_missing, patterns, uncovered}
use Rattle.qtt_split.specs.Tests.{Test, at}
use Rattle.qtt_split.specs.Tree.{Tree}

module _ {E : Env} {n : ℕ} (D : Defined) (T : Tree) where
  pub none-missing : first_missing T ≡ None → Reaches E n (covers D (uncovered T)) tt
  none-missing e =
      subst (λ o. Reaches E n (covers D o) tt) (sym (ap (λ o. chain o (patterns T)) e)) on_done

  pub may-miss : D.may_miss ≡ true → Reaches E n (covers D (uncovered T)) tt
  may-miss e = by (uncovered T)
    where
      by : (o : Option (List Shape)) → Reaches E n (covers D o) tt
      by None = on_done
      by (Some ps) = holds _ _ _ e

  pub one-missing : (k : ℕ) (ps : List Shape) → first_missing T ≡ Some k → patterns T k ≡ Some ps →
      D.may_miss ≡ false →
      Fails E n (covers D (uncovered T)) (Cause.missing D.name ps) (at D.group.first Test.covered)
  one-missing k ps e f g =
      subst (λ o. Fails E n (covers D o) (Cause.missing D.name ps) (at D.group.first Test.covered))
      (sym (ap (λ o. chain o (patterns T)) e ∙ f)) (unmet _ _ _ g)
