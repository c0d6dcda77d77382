-- The judgement of an expression: its modes, and what it gives.
use Rattle.std.specs.Prelude.{List}
use Rattle.qtt_usage.specs.declared.mult.Mult.{Mult}
use Rattle.qtt_syntax.specs.Tree.{Tree}
use Rattle.qtt_term.specs.Term.{Term}
use Rattle.qtt_term.specs.Judgement.{Part}
use Rattle.qtt_term.specs.Scope.{Scope}
use Rattle.qtt_rules.specs.Asks.{Asks}

pub record Judged : Type 0 where
  pub type : Term
  pub core : Term
  -- of the context's variables, the newest first
  pub uses : List Mult

abbrev pub judged : Term → Term → List Mult → Judged
judged A t u = record { type = A; core = t; uses = u }

-- a type is synthesised, or a given type is checked
pub data Mode : Type 0 where
  synth : Mode
  check : Term → Mode

-- the judgement of expressions in a part, a scope and a mode, as a parameter of other judgements
abbrev pub Judges : Type 0
Judges = Part → Scope → Mode → Tree → Asks Judged
