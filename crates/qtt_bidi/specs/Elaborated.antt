-- What the answers of the public calls say.
use Rattle.std.specs.Prelude.{ℕ, Result, IfOk, IfErr}
use Rattle.qtt_syntax.specs.Tree.{Tree}
use Rattle.qtt_term.specs.Term.{Term}
use Rattle.qtt_term.specs.View.{term}
use Rattle.qtt_term.specs.Judgement.{Part}
use Rattle.qtt_term.specs.Ask.{Question, Ending, Ends}
use Rattle.qtt_term.specs.FirstSpent.{FirstSpent}
use Rattle.qtt_term.specs.Entries.{Entries, env}
use Rattle.qtt_term.specs.Scope.{Scope}
use Rattle.qtt_conclusions.specs.Conclusions.{Concludes}
use Rattle.qtt_rules.specs.declared.errors.ElabError.{ElabError}
use Rattle.qtt_rules.specs.declared.errors.ElabError.TheVariants as error
use Rattle.qtt_rules.specs.Refusal.{Cause, Place, at, refused}
use Rattle.qtt_rules.specs.Judged.{Judged, judged, Mode}
use Rattle.qtt_bidi.specs.declared.judged.Synth.{Synth}
use Rattle.qtt_bidi.specs.declared.judged.Checked1.{Checked1}
use Rattle.qtt_bidi.specs.Answers.{Kept, kept, Gives}
use Rattle.qtt_bidi.specs.Elaboration.{judge}
use Rattle.qtt_bidi.specs.Rules.{Elaborates}

abbrev pub found_as : Synth → Judged
found_as s = judged (term s.ty) (term s.core) s.usage

-- of the given type
abbrev pub checked_as : Term → Checked1 → Judged
checked_as A c = judged A (term c.core) c.usage

-- this holds of a false premise and its place, where that is kept
abbrev pub WherePremise : Kept → Place → (Cause → Place → Type 0) → Type 0
WherePremise (Kept.premise c) p P = P c p
WherePremise (Kept.question_of b q) p P = Unit {0}
WherePremise Kept.nothing p P = Unit {0}

abbrev pub WhereFails : ElabError → (Cause → Place → Type 0) → Type 0
WhereFails (error.Refused d s r k) P = WherePremise (kept d) (at s r k) P
WhereFails error.Memory P = Unit {0}

-- this holds of a question and its place, where one that is spent is kept
abbrev pub WhereQuestion : Kept → Place → (Place → Question → Type 0) → Type 0
WhereQuestion (Kept.premise c) p P = Unit {0}
WhereQuestion (Kept.question_of b q) p P = P p q
WhereQuestion Kept.nothing p P = Unit {0}

abbrev pub WhereSpent : ElabError → (Place → Question → Type 0) → Type 0
WhereSpent (error.Refused d s r k) P = WhereQuestion (kept d) (at s r k) P
WhereSpent error.Memory P = Unit {0}

-- the call answers as the elaboration of this expression ends within n contractions for each question: what it
-- gives is derived, what fails does so without a bound, is false with convertible terms in place of contractions and
-- comparisons, and has no derivation, and what is spent is the first question that is
pub record Elaborated (G : Entries) (n : ℕ) (p : Part) (S : Scope) (m : Mode) (e : Tree) {X : Type 0}
    (view : X → Judged) (result : Result X ElabError) : Type 0 where
  pub gives : Gives (env G) n (judge G p S m e) view result
  pub sound : IfOk result (λ x. Elaborates G p S m e (view x))
  pub failed : IfErr result (λ r. WhereFails r (λ c w. Ends (env G) (judge G p S m e) (Ending.fails (refused c w))))
  pub false_so : IfErr result
      (λ r. WhereFails r (λ c w. Concludes (env G) (judge G p S m e) (Ending.fails (refused c w))))
  pub underived : IfErr result (λ r. WhereFails r (λ c w. (j : Judged) → Elaborates G p S m e j → ⊥))
  pub spent : IfErr result (λ r. WhereSpent r (λ w q. FirstSpent (env G) n (judge G p S m e) w q))
