-- What the call that tests a main ensures.
use Rattle.std.specs.Prelude.{ℕ, Option, Result, IfOk, IfErr}
use Rattle.qtt_base.specs.declared.place.GlobalId.{GlobalId}
use Rattle.qtt_base.specs.declared.place.Span.{Span}
use Rattle.qtt_term.specs.Ask.{Ending, Ends}
use Rattle.qtt_term.specs.FirstSpent.{FirstSpent}
use Rattle.qtt_term.specs.Entries.{Entries, env}
use Rattle.qtt_conclusions.specs.Conclusions.{Concludes}
use Rattle.qtt_rules.specs.declared.errors.ElabError.{ElabError}
use Rattle.qtt_rules.specs.Refusal.{refused}
use Rattle.qtt_bidi.specs.Answers.{Gives}
use Rattle.qtt_bidi.specs.Elaborated.{WhereFails, WhereSpent}
use Rattle.qtt_module.specs.Main.{main}
use Rattle.qtt_module.specs.ModuleRules.{IsMain}

-- the call answers as the test of this main ends within n contractions: the definition that it gives is the program's
-- main, what fails does so without a bound, is false with convertible terms in place of the comparison, and then no
-- definition is the main, and what is spent is the question
pub record TestsMain (G : Entries) (n : ℕ) (s : Span) (named : Option GlobalId) (result : Result GlobalId ElabError) :
    Type 0 where
  pub gives : Gives (env G) n (main G s named) (λ d. d) result
  pub sound : IfOk result (λ d. IsMain G named d)
  pub failed : IfErr result (λ r. WhereFails r (λ c w. Ends (env G) (main G s named) (Ending.fails (refused c w))))
  pub false_so : IfErr result
      (λ r. WhereFails r (λ c w. Concludes (env G) (main G s named) (Ending.fails (refused c w))))
  pub underived : IfErr result (λ r. WhereFails r (λ c w. (d : GlobalId) → IsMain G named d → ⊥))
  pub spent : IfErr result (λ r. WhereSpent r (λ w q. FirstSpent (env G) n (main G s named) w q))
