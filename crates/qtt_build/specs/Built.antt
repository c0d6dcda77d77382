-- The modules of a build, judged rank by rank, each over what the ranks before its own built.
use Rattle.std.specs.Prelude.{ℕ, suc, List, [], ◌∷◌, ◌++◌, Bool, find, length, Option, option_map, Ok}
use Rattle.std.specs.List.{filter_map}
use Rattle.qtt_base.specs.declared.place.ModuleId.{ModuleId}
use Rattle.qtt_syntax.specs.declared.module.Import.{Import}
use Rattle.qtt_syntax.specs.Tree.{Module}
use Rattle.qtt_names.specs.Exports.{Exports}
use Rattle.qtt_graph.specs.Graph.{Name, same_name}
use Rattle.qtt_term.specs.Entries.{Entries, prim_entries}
use Rattle.qtt_load.specs.Loading.{module_name, module_imports, mentioned}
use Rattle.qtt_module.specs.Refused.{Answer, ◌>>=◌}
use Rattle.qtt_module.specs.Text.{Accepted, judged_text}
use Rattle.qtt_accepted.specs.Texts.{adopted}

-- the environment, and the accepted modules that make it up, by rank and name
pub record Built : Type 0 where
  pub globals : Entries
  pub order : List Accepted

abbrev pub nothing_yet : Built
nothing_yet = record { globals = prim_entries; order = [] }

-- the number of the module at a place of that order; Prim has the number 0
abbrev pub numbered : ℕ → ModuleId
numbered k = record { 0 = suc k }

-- ---- imports
abbrev pub is_named : Name → Accepted → Bool
is_named n A = same_name A.exports.name n

-- what the accepted module of this name gives
abbrev pub exports_named : List Accepted → Name → Option Exports
exports_named order n = option_map (λ (A : Accepted). A.exports) (find (is_named n) order)

-- what the modules of these imports give, in text order, each once and without Prim
abbrev pub imports_of : List Accepted → List Import → List Exports
imports_of order is = filter_map (exports_named order) (mentioned [] is)

-- so what the modules give that a module imports
abbrev pub imports_for : List Accepted → Module → List Exports
imports_for order m = imports_of order (module_imports m)

-- ---- a rank
-- the module at place k, over what is built, where each question has n contractions
abbrev pub judged_at : ℕ → Built → ℕ → Module → Answer Accepted
judged_at n B k m = judged_text (numbered k) n (module_name m) (imports_for B.order m) B.globals m

-- modules from place k on, none of them over another
abbrev pub answers : ℕ → Built → ℕ → List Module → List (Answer Accepted)
answers n B k [] = []
answers n B k (m ∷ ms) = judged_at n B k m ∷ answers n B (suc k) ms

-- all that are accepted, or the first refusal
unfoldable pub all_accepted : List (Answer Accepted) → Answer (List Accepted)
all_accepted [] = Ok []
all_accepted (answer ∷ more) = do
  A ← answer
  As ← all_accepted more
  Ok (A ∷ As)

abbrev pub judged_rank : ℕ → Built → List Module → Answer (List Accepted)
judged_rank n B ms = all_accepted (answers n B (length B.order) ms)

-- ---- rank by rank
-- the parts of accepted modules, put into an environment
abbrev pub all_adopted : Entries → List Accepted → Entries
all_adopted G [] = G
all_adopted G (A ∷ As) = all_adopted (adopted G A.checked.part) As

abbrev pub with_rank : Built → List Accepted → Built
with_rank B As = record { globals = all_adopted B.globals As; order = B.order ++ As }

unfoldable pub built_by_rank : ℕ → Built → List (List Module) → Answer Built
built_by_rank n B [] = Ok B
built_by_rank n B (rank ∷ more) = do
  As ← judged_rank n B rank
  built_by_rank n (with_rank B As) more
