-- The judgement of a module's text: its header's name, what its names stand for, what is filled in, and its items in
-- turn.
use Rattle.std.specs.Prelude.{ℕ, List, [], ◌∷◌, Ok}
use Rattle.qtt_base.specs.declared.place.ModuleId.{ModuleId}
use Rattle.qtt_base.specs.declared.place.Span.{Span}
use Rattle.qtt_syntax.specs.Tree.{Item, Module}
use Rattle.qtt_syntax.specs.Tree.Module.{module_text}
use Rattle.qtt_names.specs.Exports.{Exports, Sig}
use Rattle.qtt_names.specs.Scope.{module_name}
use Rattle.qtt_term.specs.Ask.{Ending, within}
use Rattle.qtt_term.specs.Entries.{Entries, env}
use Rattle.qtt_rules.specs.Refusal.{Place, Refusal}
use Rattle.qtt_module.specs.Declarations.{Declaration, declarations}
use Rattle.qtt_module.specs.Exported.{exports}
use Rattle.qtt_module.specs.FamilyParts.{head, standing_bare}
use Rattle.qtt_module.specs.Module.{Home, item_of, Stage, start, declare, Checked, module_within}
use Rattle.qtt_module.specs.Prepared.{prepared}
use Rattle.qtt_module.specs.Refused.{Answer, ◌>>=◌, judged}

-- ---- items
-- what stands where a declaration is refused
abbrev pub standing : Home → ℕ → Stage → Declaration → Entries
standing M n S (Declaration.family x ps t cs) =
    standing_bare S.globals (within (env S.globals) n (head S.globals (item_of M S.next) M.name x ps t))
standing M n S (Declaration.signature b q x s t) = S.globals
standing M n S (Declaration.group x c cs) = S.globals

abbrev pub or_later : Ending Refusal Place Stage → Entries → (Stage → Entries) → Entries
or_later (Ending.ok T) G later = later T
or_later (Ending.fails r) G later = G
or_later (Ending.spent p q) G later = G

-- what stands where these items in turn are refused
abbrev pub standing_in_turn : Home → ℕ → Stage → List Declaration → Entries
standing_in_turn M n S [] = S.globals
standing_in_turn M n S (d ∷ ds) =
    or_later (within (env S.globals) n (declare M S d)) (standing M n S d) (λ T. standing_in_turn M n T ds)

-- the items of a module in turn, over what its imports and Prim declare
abbrev pub items_in_turn : Home → ℕ → Entries → List Item → Answer Checked
items_in_turn M n G is =
    judged M.name n (standing_in_turn M n (start G) (declarations is)) (module_within M n G is)

-- ---- the whole
-- an accepted module: its header's place, what it gives to those that import it, and what it declares
pub record Accepted : Type 0 where
  pub header : Span
  pub exports : Exports
  pub checked : Checked

abbrev pub header_place : Module → Span
header_place (module_text h n s is items) = h

abbrev pub items_in : Module → List Item
items_in (module_text h n s is items) = items

abbrev pub home_of : ModuleId → Module → Home
home_of id m = record { id = id; name = module_name m }

abbrev pub accepted : ModuleId → Module → List Sig → Checked → Accepted
accepted id m sigs C = record { header = header_place m; exports = exports id m sigs; checked = C }

-- module id, asked for by this name, over the exports of its imports and what all of them declare, where each question
-- has n contractions
abbrev pub judged_text : ModuleId → ℕ → List ℕ → List Exports → Entries → Module → Answer Accepted
judged_text id n asked imports G m = do
  f ← prepared id asked imports m
  C ← items_in_turn (home_of id m) n G (items_in f.text)
  Ok (accepted id m f.sigs C)
