-- What the answers of the call that walks say.
use Rattle.std.specs.Prelude.{ℕ, List, Result, IfOk, IfErr}
use Rattle.qtt_syntax.specs.Tree.{Tree}
use Rattle.qtt_term.specs.Term.{Term}
use Rattle.qtt_term.specs.Judgement.{Part}
use Rattle.qtt_term.specs.Ask.{Ending, Ends}
use Rattle.qtt_term.specs.FirstSpent.{FirstSpent}
use Rattle.qtt_term.specs.Entries.{Entries, env}
use Rattle.qtt_term.specs.Scope.{Scope}
use Rattle.qtt_conclusions.specs.Conclusions.{Concludes}
use Rattle.qtt_rules.specs.declared.errors.ElabError.{ElabError}
use Rattle.qtt_rules.specs.Refusal.{refused}
use Rattle.qtt_rules.specs.Report.{Report}
use Rattle.qtt_bidi.specs.Answers.{Gives}
use Rattle.qtt_bidi.specs.Elaborated.{WhereFails, WhereSpent}
use Rattle.qtt_holes.specs.declared.hole.Hole as code_hole
use Rattle.qtt_holes.specs.Hole.{Hole}
use Rattle.qtt_holes.specs.Rules.{HasHole}
use Rattle.qtt_holes.specs.View.{hole}
use Rattle.qtt_holes.specs.Walk.{walk}

-- the call answers as the walk at a leaf ends within n contractions for each question: the hole that it finds is
-- derived, what fails does so without a bound, is false with convertible terms in place of contractions and
-- comparisons, and has no derivation, and what is spent is the first question that is
pub record FindsHole (G : Entries) (n : ℕ) (p : Part) (S : Scope) (ns : List (List ℕ)) (rs : List Report) (e : Tree)
    (A : Term) (result : Result code_hole.Hole ElabError) : Type 0 where
  pub gives : Gives (env G) n (walk G p S ns rs e A) hole result
  pub sound : IfOk result (λ h. HasHole G p S ns rs e A (hole h))
  pub failed : IfErr result
      (λ r. WhereFails r (λ c w. Ends (env G) (walk G p S ns rs e A) (Ending.fails (refused c w))))
  pub false_so : IfErr result
      (λ r. WhereFails r (λ c w. Concludes (env G) (walk G p S ns rs e A) (Ending.fails (refused c w))))
  pub underived : IfErr result (λ r. WhereFails r (λ c w. (h : Hole) → HasHole G p S ns rs e A h → ⊥))
  pub spent : IfErr result (λ r. WhereSpent r (λ w q. FirstSpent (env G) n (walk G p S ns rs e A) w q))
