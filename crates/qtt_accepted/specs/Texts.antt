-- What reading a text gives its declarations, and what an accepted text keeps once its part is adopted.
use Rattle.std.specs.Prelude.{◌≡◌, ◌⊎◌, ℕ, List, [], Some, Ok}
use Rattle.qtt_base.specs.declared.place.GlobalId.{GlobalId}
use Rattle.qtt_base.specs.declared.place.ModuleId.{ModuleId}
use Rattle.qtt_syntax.specs.Tree.{Module}
use Rattle.qtt_names.specs.Exports.{Exports}
use Rattle.qtt_implicit.specs.Filled.{FilledText}
use Rattle.qtt_term.specs.Signature.{Family, Definition, Env}
use Rattle.qtt_term.specs.Environment.{WellFormed, Complete}
use Rattle.qtt_term.specs.Ask.{Question}
use Rattle.qtt_term.specs.Keyed.{all_inserted}
use Rattle.qtt_term.specs.Items.{family_id, definition_id}
use Rattle.qtt_term.specs.Entries.{Entries, env}
use Rattle.qtt_diag.specs.Kept.{Detail}
use Rattle.qtt_module.specs.Declarations.{declarations}
use Rattle.qtt_module.specs.Prepared.{prepared}
use Rattle.qtt_module.specs.Refused.{Refused}
use Rattle.qtt_module.specs.Text.{Accepted, home_of, items_in}
use Rattle.qtt_module.specs.TextCalls.{DeclaresText, RefusesText}
use Rattle.qtt_accepted.specs.Stages.{FreshFrom, Marked, WellNamed}

-- the names that a text looks up are taken once; and what is filled in leaves names and marks as they are
abbrev pub TextsAreWellNamed : Type 0
TextsAreWellNamed = (id : ModuleId) (asked : List ℕ) (imports : List Exports) (m : Module) (f : FilledText) →
    prepared id asked imports m ≡ Ok f → Marked (declarations (items_in m)) →
    WellNamed (declarations (items_in f.text))

-- the items of a part, put among the others
abbrev pub adopted : Entries → Entries → Entries
adopted G P = record {
  families = all_inserted family_id P.families G.families;
  definitions = all_inserted definition_id P.definitions G.definitions;
}

-- an accepted text, under ids that are new and with signatures that are marked 0 or not at all, keeps the environment
-- well formed, once its part is adopted; and complete, where it has no hole
pub record TextsKeepForm : Type 0 where
  pub formed : (id : ModuleId) (asked : List ℕ) (imports : List Exports) (G : Entries) (m : Module) (A : Accepted) →
      WellFormed (env G) → FreshFrom (home_of id m) 0 G → Marked (declarations (items_in m)) →
      DeclaresText id asked imports G m A → WellFormed (env (adopted G A.checked.part))
  pub complete : (id : ModuleId) (asked : List ℕ) (imports : List Exports) (G : Entries) (m : Module) (A : Accepted) →
      WellFormed (env G) → FreshFrom (home_of id m) 0 G → Marked (declarations (items_in m)) →
      DeclaresText id asked imports G m A → Complete (env G) → A.checked.holes ≡ [] →
      Complete (env (adopted G A.checked.part))

-- ---- beside others that were judged over the same environment
-- all that stands in the one stands in the other
pub record StandsIn (D E : Env) : Type 0 where
  pub families : (f : GlobalId) (F : Family) → D.family f ≡ Some F → E.family f ≡ Some F
  pub definitions : (d : GlobalId) (A : Definition) → D.definition d ≡ Some A → E.definition d ≡ Some A

-- the same where more stands by then than the text was judged over, under ids of other modules; and all of that stands
-- still
pub record TextsKeepFormBeside : Type 0 where
  pub formed : (id : ModuleId) (asked : List ℕ) (imports : List Exports) (G H : Entries) (m : Module) (A : Accepted) →
      WellFormed (env G) → WellFormed (env H) → StandsIn (env G) (env H) → FreshFrom (home_of id m) 0 H →
      Marked (declarations (items_in m)) → DeclaresText id asked imports G m A →
      WellFormed (env (adopted H A.checked.part))
  pub complete : (id : ModuleId) (asked : List ℕ) (imports : List Exports) (G H : Entries) (m : Module)
      (A : Accepted) → WellFormed (env G) → StandsIn (env G) (env H) → FreshFrom (home_of id m) 0 H →
      Marked (declarations (items_in m)) → DeclaresText id asked imports G m A → Complete (env G) →
      Complete (env H) → A.checked.holes ≡ [] → Complete (env (adopted H A.checked.part))
  pub stands : (id : ModuleId) (asked : List ℕ) (imports : List Exports) (G H : Entries) (m : Module) (A : Accepted) →
      StandsIn (env G) (env H) → FreshFrom (home_of id m) 0 H → DeclaresText id asked imports G m A →
      StandsIn (env H) (env (adopted H A.checked.part))

-- ---- what is declared is one thing
-- a question took more than its budget
pub data IsSpent : Detail → Type 0 where
  spent : {n : ℕ} {q : Question} → IsSpent (Detail.budget_spent n q)

-- a text declares one thing alone; and one that is refused for another cause than a budget declares nothing, where a
-- refusal is for a budget or not
pub record TextsDeclareOnce : Type 0 where
  pub decided : (d : Detail) → IsSpent d ⊎ (IsSpent d → ⊥)
  pub one : (id : ModuleId) (asked : List ℕ) (imports : List Exports) (G : Entries) (m : Module) (A B : Accepted) →
      WellFormed (env G) → FreshFrom (home_of id m) 0 G → Marked (declarations (items_in m)) →
      DeclaresText id asked imports G m A → DeclaresText id asked imports G m B → A ≡ B
  pub none : (id : ModuleId) (n : ℕ) (asked : List ℕ) (imports : List Exports) (G : Entries) (m : Module)
      (r : Refused) (A : Accepted) → WellFormed (env G) → FreshFrom (home_of id m) 0 G →
      Marked (declarations (items_in m)) → RefusesText id n asked imports G m r → (IsSpent r.kept.detail → ⊥) →
      DeclaresText id asked imports G m A → ⊥
