-- A whole build: loading, the order of modules, and their judgement rank by rank.
use Rattle.std.specs.Prelude.{ℕ, List, [], ◌∷◌, map, slice_get, unwrap_or, Result, Ok, Err}
use Rattle.std.specs.List.{filter_map}
use Rattle.qtt_syntax.specs.Tree.{Module}
use Rattle.qtt_graph.specs.Graph.{Name, Graph, header_of}
use Rattle.qtt_graph.specs.Ranks.{ranks}
use Rattle.qtt_graph.specs.Ring.{ring_place}
use Rattle.qtt_term.specs.Entries.{prim_entries}
use Rattle.qtt_term.specs.declared.rule.Rule.{Rule}
use Rattle.qtt_term.specs.declared.rule.Rule.TheVariants as rule
use Rattle.qtt_diag.specs.Kept.{Detail, Refusal}
use Rattle.qtt_diag.specs.Messages.{told}
use Rattle.qtt_load.specs.Reading.{Reading, front}
use Rattle.qtt_load.specs.Loading.{refusal, loaded}
use Rattle.qtt_load.specs.Loading as loading
use Rattle.qtt_module.specs.Refused.{Refused, Answer}
use Rattle.qtt_build.specs.Built.{Built, nothing_yet, built_by_rank}

-- why there is no build: a module is not there, or one is refused
pub data Stop : Type 0 where
  absent : Name → Stop
  refused : Refused → Stop

-- a value, or why there is none
abbrev pub Outcome : Type 0 → Type 0
Outcome A = Result A Stop

infixl 10 ◌>>=◌
-- the one, and then the other with its value; why the first of the two has none is why both have none
unfoldable pub ◌>>=◌ : {A B : Type 0} → Outcome A → (A → Outcome B) → Outcome B
Ok a >>= k = k a
Err s >>= k = Err s

-- ---- stages
-- a refusal of a whole text, or of the build: the premises are numbered as their kinds
abbrev pub plain_stop : Rule → Refusal → Stop
plain_stop r k = Stop.refused (record { rule = r; number = (told prim_entries k.detail).kind; kept = k })

abbrev pub loading_stop : loading.Stop → Stop
loading_stop (loading.Stop.absent a) = Stop.absent a
loading_stop (loading.Stop.refused r k) = plain_stop r k

abbrev pub of_loading : {A : Type 0} → Result A loading.Stop → Outcome A
of_loading (Ok a) = Ok a
of_loading (Err s) = Err (loading_stop s)

-- the module at which a ring is told
abbrev pub first_of : List Name → Name
first_of [] = []
first_of (a ∷ more) = a

-- at its import of the next one; each ring that is told has that place, by the laws of loading
abbrev pub ring_stop : Graph → List Name → Stop
ring_stop g way = plain_stop rule.Build (refusal (first_of way) (unwrap_or (ring_place g way) front) (Detail.cycle way))

abbrev pub of_ranks : {A : Type 0} → Graph → Result A (List Name) → Outcome A
of_ranks g (Ok a) = Ok a
of_ranks g (Err way) = Err (ring_stop g way)

abbrev pub of_answer : {A : Type 0} → Answer A → Outcome A
of_answer (Ok a) = Ok a
of_answer (Err r) = Err (Stop.refused r)

-- ---- the whole
-- the modules at these places
abbrev pub modules_at : List Module → List ℕ → List Module
modules_at ms places = filter_map (slice_get ms) places

-- the build of the named module, where each question has n contractions
unfoldable pub build : (Name → Reading Module) → Name → ℕ → Outcome Built
build read root n = do
  ms ← of_loading (loaded read root)
  levels ← of_ranks (map header_of ms) (ranks (map header_of ms))
  of_answer (built_by_rank n nothing_yet (map (modules_at ms) levels))
