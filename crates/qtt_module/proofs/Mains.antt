-- What the test of a main ends with.
use Rattle.std.proofs.Common.{◌≡◌, true, Option, Some, None, subst}
use Rattle.qtt_base.specs.declared.place.GlobalId.{GlobalId}
use Rattle.qtt_base.specs.declared.place.Span.{Span}
use Rattle.qtt_term.specs.Term.{Io}
use Rattle.qtt_term.specs.Signature.{definition_at, UnitTy, IoTy}
use Rattle.qtt_term.specs.Judgement.{Part}
use Rattle.qtt_term.specs.Infer.{usable}
use Rattle.qtt_term.specs.Ask.{Ask, Ends}
use Rattle.qtt_term.specs.Entries.{Entries, env}
use Rattle.qtt_rules.specs.Refusal.{Cause, at}
use Rattle.qtt_rules.specs.Asks.{refuse}
use Rattle.qtt_core_check.proofs.Parts.{parts, ended}
use Rattle.qtt_core_check.proofs.Answered.{ends-then as joined}
use Rattle.qtt_bidi.proofs.Endings.{Gives, holding, held}
use Rattle.qtt_module.specs.Main.{main}
use Rattle.qtt_module.specs.ModuleRules.{IsMain}
use Rattle.qtt_term.specs.declared.rule.Rule.TheVariants as rule

pub main_so : (G : Entries) (s : Span) (o : Option GlobalId) (d : GlobalId) → Gives (env G) (main G s o) d →
    IsMain G o d
main_so G s None d x = elim x [ ]
main_so G s (Some m) d x = let u = parts _ _ d x in by (holding _ _ u.mid u.first) u.after
  where
    by : usable Part.run (definition_at (env G) m).mult ≡ true →
        Gives (env G) (Ask.compare (at s rule.Main 2) 0 (definition_at (env G) m).type (IoTy Io.io UnitTy) (Ask.done m)
        (refuse Cause.wrong_main (at s rule.Main 2))) d → IsMain G (Some m) d
    by h (Ends.are_equal e y) = subst (IsMain G (Some m)) (ended _ _ y) (IsMain.is_main h e)
    by h (Ends.are_different e y) = elim y [ ]

pub so_main : (G : Entries) (s : Span) (o : Option GlobalId) (d : GlobalId) → IsMain G o d →
    Gives (env G) (main G s o) d
so_main G s o d (IsMain.is_main h e) = joined _ _ (held _ _ h) (Ends.are_equal e Ends.is_done)
