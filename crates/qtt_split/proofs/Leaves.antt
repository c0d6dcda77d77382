-- Leaves that are counted, and terms that mention nothing reverted.
use Rattle.std.proofs.Common.{◌≡◌, ◌∙◌, ℕ, zero, suc, Option, Some, None, sym, ap, subst}
use Rattle.qtt_base.specs.declared.limits.Quantity.TheVariants.{Leaves}
use Rattle.qtt_term.specs.Term.{Term}
use Rattle.qtt_term.specs.Signature.{Env}
use Rattle.qtt_term.specs.Ask.{Ending, within}
use Rattle.qtt_rules.specs.Refusal.{Cause, Place, refused}
use Rattle.qtt_split.specs.Answers.{Reaches, Fails}
use Rattle.qtt_split.specs.Split.{Group, count_leaf, nothing_there}
use Rattle.qtt_split.specs.Tests.{Test, at}
use Rattle.qtt_split.proofs.Within.{on_done}

pub no-leaf : (E : Env) (n : ℕ) (G : Group) (left k : ℕ) → left ≡ zero → k ≡ suc G.limit →
    Fails E n (count_leaf G left) (Cause.limit Leaves k) (at G.first Test.leaves)
unfolding within
no-leaf E n G left k d e =
    subst (λ l. Fails E n (count_leaf G l) (Cause.limit Leaves k) (at G.first Test.leaves)) (sym d)
    (record { is = ap (λ j. Ending.fails (refused (Cause.limit Leaves j) (at G.first Test.leaves))) (sym e) })

pub one-leaf : (E : Env) (n : ℕ) (G : Group) (left k : ℕ) → left ≡ suc k → Reaches E n (count_leaf G left) k
one-leaf E n G left k e = subst (λ l. Reaches E n (count_leaf G l) k) (sym e) on_done

pub one-mentions : (E : Env) (n : ℕ) (p : Place) (d : ℕ) (o : Option Term) (t l r : Term) → o ≡ Some t → l ≡ t → r ≡ t →
    Fails E n (nothing_there p d o) (Cause.pattern_stuck d l r) p
unfolding within
one-mentions E n p d o t l r e f g =
    subst (λ x. Fails E n (nothing_there p d x) (Cause.pattern_stuck d l r) p) (sym e)
    (record {
      is =
          ap (λ x. Ending.fails (refused (Cause.pattern_stuck d x t) p)) (sym f) ∙
          ap (λ x. Ending.fails (refused (Cause.pattern_stuck d l x) p)) (sym g);
    })

pub none-mentions : (E : Env) (n : ℕ) (p : Place) (d : ℕ) (o : Option Term) → o ≡ None →
    Reaches E n (nothing_there p d o) tt
none-mentions E n p d o e = subst (λ x. Reaches E n (nothing_there p d x) tt) (sym e) on_done
