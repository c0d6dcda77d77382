-- Whether the use of a variable fits what it is declared as.
use Rattle.std.proofs.Common.{◌≡◌, ◌∙◌, ℕ, true, false, List, Option, sym}
use Rattle.std.proofs.lemmas.Grind.{common_steps}
use mathlib.Core.Path.{ap₂}
use Rattle.qtt_usage.specs.declared.mult.Mult.{Mult}
use Rattle.qtt_usage.specs.Mult.{fits}
use Rattle.qtt_usage.specs.Usage.{usage_at}
use Rattle.qtt_term.specs.declared.rule.Rule.TheVariants as rule
use Rattle.qtt_term.specs.Signature.{Env}
use Rattle.qtt_term.specs.Judgement.{Ctx, mult_at}
use Rattle.qtt_rules.specs.Refusal.{Cause, at}
use Rattle.qtt_rules.specs.Report.{Report, uses_number}
use Rattle.qtt_bidi.specs.Answers.{Reaches, Fails}
use Rattle.qtt_bidi.proofs.Within.{holds, unmet}
use Rattle.qtt_holes.proofs.Left.{use-got, use-past}
use Rattle.qtt_module.specs.GroupCalls.{use_asks}

pub ruleset fitting = (common_steps, use-got, use-past)

module _ {E : Env} {n : ℕ} (Γ : Ctx) (us : List Mult) (r : Report) (q u : Mult) (a : u ≡ usage_at us r.variable)
    (b : q ≡ mult_at Γ r.variable) where
  pub use-fits : fits u q ≡ true → Reaches E n (use_asks Γ us r) tt
  use-fits h = holds _ _ _ (ap₂ fits (sym a) (sym b) ∙ h)

  pub use-told : (x : Option (List ℕ)) → x ≡ r.name → fits u q ≡ false →
      Fails E n (use_asks Γ us r) (Cause.wrong_usage x q u) (at r.place rule.Clauses uses_number)
  use-told x e h =
      let k : fits (usage_at us r.variable) (mult_at Γ r.variable) ≡ false = ap₂ fits (sym a) (sym b) ∙ h in
      rw (e, a, b) (unmet _ _ _ k)
