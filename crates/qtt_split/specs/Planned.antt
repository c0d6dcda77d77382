-- What a planned definition is in code, and what the public call says.
use Rattle.std.specs.Prelude.{ℕ, List, [], ◌∷◌, map, Option, Result, IfOk, IfErr}
use Rattle.qtt_base.specs.declared.place.Span.{Span}
use Rattle.qtt_base.specs.Limits.{standard}
use Rattle.qtt_syntax.specs.declared.module.Clause as code_clause
use Rattle.qtt_term.specs.Term.{Term}
use Rattle.qtt_term.specs.Judgement.{Part}
use Rattle.qtt_term.specs.Ask.{Question, Ending, Ends}
use Rattle.qtt_term.specs.FirstSpent.{FirstSpent}
use Rattle.qtt_term.specs.Entries.{Entries, env}
use Rattle.qtt_term.specs.Telescopes.{tele}
use Rattle.qtt_conclusions.specs.Conclusions.{Concludes}
use Rattle.qtt_rules.specs.declared.errors.ElabError.{ElabError}
use Rattle.qtt_rules.specs.declared.errors.ElabError.TheVariants as error
use Rattle.qtt_rules.specs.Refusal.{Cause, Place, at, refused}
use Rattle.qtt_split.specs.declared.planning.Planned as code
use Rattle.qtt_split.specs.Answers.{Kept, kept, Gives}
use Rattle.qtt_split.specs.Calls.{clause_of}
use Rattle.qtt_split.specs.Node.{Clause}
use Rattle.qtt_split.specs.Plan.{Planned, plan}
use Rattle.qtt_split.specs.Split.{Group}
use Rattle.qtt_split.specs.View.{tree_of}

abbrev pub planned_of : code.Planned → Planned
planned_of P = record { opened = tele P.opened.items; tree = tree_of P.tree }

-- ---- the group of these clauses
abbrev pub first_place : List Clause → Span
first_place [] = record { line = 0; col = 0; len = 0 }
first_place (c ∷ cs) = c.span

abbrev pub group_with : Entries → Part → List code_clause.Clause → Group
group_with K p cs = record {
  globals = K;
  part = p;
  clauses = map clause_of cs;
  first = first_place (map clause_of cs);
  limit = standard.leaves;
}

-- ---- refusals
-- this holds of a false premise and its place, where that is kept
abbrev pub WherePremise : Kept → Place → (Cause → Place → Type 0) → Type 0
WherePremise (Kept.premise c) p P = P c p
WherePremise (Kept.question_of b q) p P = Unit {0}
WherePremise Kept.nothing p P = Unit {0}

abbrev pub WhereFails : ElabError → (Cause → Place → Type 0) → Type 0
WhereFails (error.Refused d s r k) P = WherePremise (kept d) (at s r k) P
WhereFails error.Memory P = Unit {0}

-- this holds of a question and its place, where one that is spent is kept
abbrev pub WhereQuestion : Kept → Place → (Place → Question → Type 0) → Type 0
WhereQuestion (Kept.premise c) p P = Unit {0}
WhereQuestion (Kept.question_of b q) p P = P p q
WhereQuestion Kept.nothing p P = Unit {0}

abbrev pub WhereSpent : ElabError → (Place → Question → Type 0) → Type 0
WhereSpent (error.Refused d s r k) P = WhereQuestion (kept d) (at s r k) P
WhereSpent error.Memory P = Unit {0}

-- ---- the public call
-- it answers as the plan of a definition of this type ends within n contractions for each question: what it gives is
-- planned without a bound too, what fails does so without one, and is false with convertible terms in place of
-- contractions and comparisons, and what is spent is the first question that is
pub record Plans (G : Group) (n : ℕ) (A : Term) (labels : List (Option (List ℕ)))
    (result : Result code.Planned ElabError) : Type 0 where
  pub gives : Gives (env G.globals) n (plan G A labels) planned_of result
  pub sound : IfOk result (λ x. Ends (env G.globals) (plan G A labels) (Ending.ok (planned_of x)))
  pub failed : IfErr result
      (λ r. WhereFails r (λ c w. Ends (env G.globals) (plan G A labels) (Ending.fails (refused c w))))
  pub false_so : IfErr result
      (λ r. WhereFails r (λ c w. Concludes (env G.globals) (plan G A labels) (Ending.fails (refused c w))))
  pub spent : IfErr result (λ r. WhereSpent r (λ w q. FirstSpent (env G.globals) n (plan G A labels) w q))
