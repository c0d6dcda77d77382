-- The test of a main.
use Rattle.std.specs.Prelude.{Option, Some, None}
use Rattle.qtt_base.specs.declared.place.GlobalId.{GlobalId}
use Rattle.qtt_base.specs.declared.place.Span.{Span}
use Rattle.qtt_term.specs.Term.{Io}
use Rattle.qtt_term.specs.Signature.{definition_at, UnitTy, IoTy}
use Rattle.qtt_term.specs.Judgement.{Part}
use Rattle.qtt_term.specs.Infer.{usable}
use Rattle.qtt_term.specs.Ask.{Ask, ◌>>=◌}
use Rattle.qtt_term.specs.Entries.{Entries, env}
use Rattle.qtt_rules.specs.Refusal.{Cause, at}
use Rattle.qtt_rules.specs.Asks.{Asks, refuse, need}
use Rattle.qtt_term.specs.declared.rule.Rule.TheVariants as rule

-- Main, at the header of the root module: 1 it has a definition of this name that is not 0 (30); 2 the definition's
-- type compares Equal to IO Unit (30)
abbrev pub main : Entries → Span → Option GlobalId → Asks GlobalId
main G s None = refuse Cause.wrong_main (at s rule.Main 1)
main G s (Some d) = do
  used ← need (usable Part.run (definition_at (env G) d).mult) Cause.wrong_main (at s rule.Main 1)
  Ask.compare (at s rule.Main 2) 0 (definition_at (env G) d).type (IoTy Io.io UnitTy) (Ask.done d)
      (refuse Cause.wrong_main (at s rule.Main 2))
