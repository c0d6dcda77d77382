-- Where the use of a pattern variable is told.
use Rattle.std.specs.Prelude.{ℕ, Bool, List, [], ◌∷◌, Option}
use Rattle.qtt_base.specs.declared.place.Span.{Span}
use Rattle.qtt_usage.specs.declared.mult.Mult.{Mult}
use Rattle.qtt_usage.specs.Usage.{usage_at}
use Rattle.qtt_term.specs.declared.rule.Rule.TheVariants as rule
use Rattle.qtt_term.specs.Judgement.{Ctx, Part, mult_at}
use Rattle.qtt_term.specs.Ask.{Ask, ◌>>=◌}
use Rattle.qtt_rules.specs.Refusal.{Cause, at}
use Rattle.qtt_rules.specs.Asks.{Asks, need}

-- a variable of a context, and its pattern's name and place
pub record Report : Type 0 where
  pub variable : ℕ
  pub name : Option (List ℕ)
  pub place : Span

-- the number of this test among those of a group of clauses
abbrev pub uses_number : ℕ
uses_number = 16

-- In the run part the use of each variable, and what it is declared as, pass a test; else it is told at its pattern.
-- The patterns stand in the order of the text, and the variables of one pattern in the order of the context.
abbrev pub uses_pass : (test : Mult → Mult → Bool) → Part → Ctx → List Mult → List Report → Asks (Unit {0})
uses_pass test Part.erased Γ us rs = Ask.done tt
uses_pass test Part.run Γ us [] = Ask.done tt
uses_pass test Part.run Γ us (r ∷ rs) = do
  let declared = mult_at Γ r.variable
  let used = usage_at us r.variable
  u ← need (test used declared) (Cause.wrong_usage r.name declared used) (at r.place rule.Clauses uses_number)
  uses_pass test Part.run Γ us rs
