-- What the calls that judge a module's text, and its main, ensure.
use Rattle.std.specs.Prelude.{◌≡◌, ℕ, List, map, Ok, Err}
use Rattle.qtt_base.specs.declared.place.GlobalId.{GlobalId}
use Rattle.qtt_base.specs.declared.place.ModuleId.{ModuleId}
use Rattle.qtt_syntax.specs.Tree.{Module}
use Rattle.qtt_names.specs.Exports.{Exports, exports_of}
use Rattle.qtt_names.specs.Scope.{module_name}
use Rattle.qtt_implicit.specs.Filled.{FilledText}
use Rattle.qtt_term.specs.Contraction.{BodiesClosed}
use Rattle.qtt_term.specs.Ask.{Question, Ends, Ending, within}
use Rattle.qtt_term.specs.FirstSpent.{FirstSpent}
use Rattle.qtt_term.specs.Entries.{Entries, entries, env}
use Rattle.qtt_rules.specs.Refusal.{Place, Refusal}
use Rattle.qtt_diag.specs.Kept.{Detail}
use Rattle.qtt_holes.specs.View.{hole}
use Rattle.qtt_module.specs.declared.checked.Checked as code
use Rattle.qtt_module.specs.Declarations.{declarations}
use Rattle.qtt_module.specs.Module.{Checked, start, Refuses, Spends, check_main}
use Rattle.qtt_module.specs.ModuleRules.{DeclaresModule, IsMain}
use Rattle.qtt_module.specs.Refused.{Refused, Answer, refused_at, judged}
use Rattle.qtt_module.specs.Prepared.{prepared}
use Rattle.qtt_module.specs.Text.{Accepted, accepted, home_of, items_in, judged_text, standing_in_turn}

abbrev pub checked_of : code.Checked → Checked
checked_of c = record {
  part = entries c.part;
  definitions = c.definitions;
  holes = map hole c.holes.items;
  main = c.main;
}

abbrev pub accepted_of : code.Checked → Accepted
accepted_of c = record { header = c.header; exports = exports_of c.exports; checked = checked_of c }

-- ---- what an answer means
-- module id, asked for by this name, has such a header, its names stand for something, it is filled, and its items
-- declare this
pub record DeclaresText (id : ModuleId) (asked : List ℕ) (imports : List Exports) (G : Entries) (m : Module)
    (A : Accepted) : Type 0 where
  pub filled : FilledText
  pub reads : prepared id asked imports m ≡ Ok filled
  pub declares : DeclaresModule (home_of id m) G (items_in filled.text) A.checked
  pub gives : A ≡ accepted id m filled.sigs A.checked

-- it is refused for its header, a name or what is filled in; or else for a premise of an item that is false without a
-- budget, where the items before it stand; or for the first question that takes more than the budget
pub data RefusesText (id : ModuleId) (n : ℕ) (asked : List ℕ) (imports : List Exports) (G : Entries) (m : Module) :
    Refused → Type 0 where
  not_read : {r : Refused} → prepared id asked imports m ≡ Err r → RefusesText id n asked imports G m r
  premise : {f : FilledText} {r : Refusal} → prepared id asked imports m ≡ Ok f →
      Refuses (home_of id m) G (items_in f.text) r →
      RefusesText id n asked imports G m (refused_at (module_name m)
      (standing_in_turn (home_of id m) n (start G) (declarations (items_in f.text))) r.place (Detail.premise r.cause))
  question : {f : FilledText} {p : Place} {q : Question} → prepared id asked imports m ≡ Ok f →
      Spends (home_of id m) n (start G) (declarations (items_in f.text)) p q →
      RefusesText id n asked imports G m (refused_at (module_name m)
      (standing_in_turn (home_of id m) n (start G) (declarations (items_in f.text))) p (Detail.budget_spent n q))

-- the answers to a text mean this
pub record TextsAreJudged : Type 0 where
  pub accepted : (id : ModuleId) (n : ℕ) (asked : List ℕ) (imports : List Exports) (G : Entries) (m : Module)
      (A : Accepted) → judged_text id n asked imports G m ≡ Ok A → DeclaresText id asked imports G m A
  pub refused : (id : ModuleId) (n : ℕ) (asked : List ℕ) (imports : List Exports) (G : Entries) (m : Module)
      (r : Refused) → judged_text id n asked imports G m ≡ Err r → RefusesText id n asked imports G m r

-- ---- a main
-- the main of the accepted module A, over an environment that holds its part
abbrev pub judged_main : ℕ → Entries → Accepted → Answer GlobalId
judged_main n G A = judged A.exports.name n G (within (env G) n (check_main G A.header A.checked))

-- what is refused is not the main of a program, or its type is not compared within the budget
pub data RefusesMain (n : ℕ) (G : Entries) (A : Accepted) : Refused → Type 0 where
  premise : {r : Refusal} → Ends (env G) (check_main G A.header A.checked) (Ending.fails r) →
      ((d : GlobalId) → IsMain G A.checked.main d → ⊥) →
      RefusesMain n G A (refused_at A.exports.name G r.place (Detail.premise r.cause))
  question : {p : Place} {q : Question} → FirstSpent (env G) n (check_main G A.header A.checked) p q →
      RefusesMain n G A (refused_at A.exports.name G p (Detail.budget_spent n q))

-- the answers to a main mean this, over closed bodies
pub record MainsAreJudged : Type 0 where
  pub given : (n : ℕ) (G : Entries) (A : Accepted) (d : GlobalId) → BodiesClosed (env G) →
      judged_main n G A ≡ Ok d → IsMain G A.checked.main d
  pub refused : (n : ℕ) (G : Entries) (A : Accepted) (r : Refused) → BodiesClosed (env G) →
      judged_main n G A ≡ Err r → RefusesMain n G A r
