-- A premise for which a text is refused is false, with convertible terms: the items in turn.
use Rattle.std.proofs.Common.{◌≡◌, true, List}
use Rattle.qtt_term.specs.Ask.{Ending}
use Rattle.qtt_term.specs.Entries.{env}
use Rattle.qtt_rules.specs.Refusal.{Refusal}
use Rattle.qtt_preserve.proofs.Facts.{bodies_closed_holds}
use Rattle.qtt_conclusions.proofs.Heads.{conclude}
use Rattle.qtt_module.specs.Declarations.{Declaration, declarations}
use Rattle.qtt_module.specs.Module.{Home, Stage, InTurn}
use Rattle.qtt_module.specs.Text.{home_of, items_in}
use Rattle.qtt_module.specs.TextCalls.{RefusesText}
use Rattle.qtt_module.proofs.Turned.{declare_so}
use Rattle.qtt_accepted.specs.Stages.{Marked, group_names, all_differ}
use Rattle.qtt_accepted.specs.Refusals.{PremiseFails, PremisesAreFalseSo}
use Rattle.qtt_accepted.proofs.Groups.{groups_make_no_tape_holds}
use Rattle.qtt_accepted.proofs.Stages.{Formed}
use Rattle.qtt_accepted.proofs.Texts.{texts_are_well_named_holds}
use Rattle.qtt_accepted.proofs.Turns.{behind-marks, behind-names, step, starts}

fails-so : (M : Home) {S : Stage} {ds : List Declaration} {r : Refusal} → InTurn M S ds (Ending.fails r) →
    Formed M S ds → Marked ds → all_differ (group_names ds) ≡ true → PremiseFails M S ds r
fails-so M {S = S} (InTurn.last x) f m differ =
    PremiseFails.at_end (conclude (bodies_closed_holds (env S.globals) f.well) x)
fails-so M {S = S} (InTurn.passes {T = T} {d = d} {ds = ds} x y) f m differ =
    PremiseFails.behind (declare_so M S d T x)
    (fails-so M y (step groups_make_no_tape_holds M S T d ds f m differ x) (behind-marks d ds m)
    (behind-names d ds differ))
fails-so M {S = S} (InTurn.stops {d = d} x) f m differ =
    PremiseFails.here (conclude (bodies_closed_holds (env S.globals) f.well) x)

pub premises_are_false_so_holds : PremisesAreFalseSo
premises_are_false_so_holds id n asked imports G m x w fresh marked (RefusesText.not_read e) = tt
premises_are_false_so_holds id n asked imports G m _ w fresh marked (RefusesText.premise {f = f} e fails) =
    let named = texts_are_well_named_holds id asked imports m f e marked in
    fails-so (home_of id m) fails (starts (home_of id m) G (declarations (items_in f.text)) w fresh) named.marked
    named.groups
premises_are_false_so_holds id n asked imports G m _ w fresh marked (RefusesText.question e spent) = tt
