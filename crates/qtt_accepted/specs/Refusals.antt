-- Why the items of a text are refused, with convertible terms in place of contractions and comparisons.
use Rattle.std.specs.Prelude.{ℕ, List, [], ◌∷◌}
use Rattle.qtt_base.specs.declared.place.ModuleId.{ModuleId}
use Rattle.qtt_syntax.specs.Tree.{Module}
use Rattle.qtt_names.specs.Exports.{Exports}
use Rattle.qtt_term.specs.Environment.{WellFormed}
use Rattle.qtt_term.specs.Ask.{Ending}
use Rattle.qtt_term.specs.Entries.{Entries, env}
use Rattle.qtt_rules.specs.Refusal.{Refusal}
use Rattle.qtt_conclusions.specs.Conclusions.{Concludes}
use Rattle.qtt_module.specs.Declarations.{Declaration, declarations}
use Rattle.qtt_module.specs.Module.{Home, Stage, start, declare, all_have_clauses}
use Rattle.qtt_module.specs.ModuleRules.{Declares}
use Rattle.qtt_module.specs.Refused.{Refused}
use Rattle.qtt_module.specs.Text.{home_of, items_in}
use Rattle.qtt_module.specs.TextCalls.{RefusesText}
use Rattle.qtt_accepted.specs.Stages.{FreshFrom, Marked}

-- a premise of these declarations, in turn, is false, where those before it declare something
pub data PremiseFails (M : Home) : Stage → List Declaration → Refusal → Type 0 where
  -- of one of them: a head has another form, or terms are not convertible, or two numbers, names or marks differ
  here : {S : Stage} {d : Declaration} {ds : List Declaration} {r : Refusal} →
      Concludes (env S.globals) (declare M S d) (Ending.fails r) → PremiseFails M S (d ∷ ds) r
  behind : {S T : Stage} {d : Declaration} {ds : List Declaration} {r : Refusal} → Declares M S d T →
      PremiseFails M T ds r → PremiseFails M S (d ∷ ds) r
  -- behind the last of them a signature has no clauses
  at_end : {S : Stage} {r : Refusal} → Concludes (env S.globals) (all_have_clauses S) (Ending.fails r) →
      PremiseFails M S [] r

-- where a text is refused for a premise, this is false so
abbrev pub IsFalseSo : {id : ModuleId} {n : ℕ} {asked : List ℕ} {imports : List Exports} {G : Entries} {m : Module}
    {x : Refused} → RefusesText id n asked imports G m x → Type 0
IsFalseSo (RefusesText.not_read e) = Unit {0}
IsFalseSo {id = id} {G = G} {m = m} (RefusesText.premise {f = f} {r = r} e fails) =
    PremiseFails (home_of id m) (start G) (declarations (items_in f.text)) r
IsFalseSo (RefusesText.question e spent) = Unit {0}

abbrev pub PremisesAreFalseSo : Type 0
PremisesAreFalseSo = (id : ModuleId) (n : ℕ) (asked : List ℕ) (imports : List Exports) (G : Entries) (m : Module)
    (x : Refused) → WellFormed (env G) → FreshFrom (home_of id m) 0 G → Marked (declarations (items_in m)) →
    (refused : RefusesText id n asked imports G m x) → IsFalseSo refused
