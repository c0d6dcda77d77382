-- What a build means without a budget: its modules declare what is built, rank by rank; or why there is none.
use Rattle.std.specs.Prelude.{◌≡◌, ℕ, suc, List, [], ◌∷◌, map, length, Ok, Err}
use Rattle.qtt_syntax.specs.Tree.{Module}
use Rattle.qtt_graph.specs.Graph.{Name, header_of}
use Rattle.qtt_graph.specs.Ranks.{ranks}
use Rattle.qtt_load.specs.Reading.{Reading}
use Rattle.qtt_load.specs.Loading.{module_name, loaded}
use Rattle.qtt_load.specs.Loading as loading
use Rattle.qtt_module.specs.Refused.{Refused}
use Rattle.qtt_module.specs.Text.{Accepted}
use Rattle.qtt_module.specs.TextCalls.{DeclaresText, RefusesText}
use Rattle.qtt_build.specs.Built.{Built, nothing_yet, numbered, imports_for, with_rank}
use Rattle.qtt_build.specs.Build.{Stop, loading_stop, ring_stop, modules_at}

-- ---- one module
-- the module at place k declares this, over what is built
abbrev pub DeclaresAt : Built → ℕ → Module → Accepted → Type 0
DeclaresAt B k m A = DeclaresText (numbered k) (module_name m) (imports_for B.order m) B.globals m A

abbrev pub RefusesAt : ℕ → Built → ℕ → Module → Refused → Type 0
RefusesAt n B k m r = RefusesText (numbered k) n (module_name m) (imports_for B.order m) B.globals m r

-- ---- a rank
-- modules from place k on, none of them over another
pub data DeclaresRank (B : Built) : ℕ → List Module → List Accepted → Type 0 where
  none : {k : ℕ} → DeclaresRank B k [] []
  more : {k : ℕ} {m : Module} {ms : List Module} {A : Accepted} {As : List Accepted} →
      DeclaresAt B k m A → DeclaresRank B (suc k) ms As → DeclaresRank B k (m ∷ ms) (A ∷ As)

-- the first that is refused; those before it declare something
pub data RefusesRank (n : ℕ) (B : Built) : ℕ → List Module → Refused → Type 0 where
  here : {k : ℕ} {m : Module} {ms : List Module} {r : Refused} → RefusesAt n B k m r → RefusesRank n B k (m ∷ ms) r
  behind : {k : ℕ} {m : Module} {ms : List Module} {A : Accepted} {r : Refused} →
      DeclaresAt B k m A → RefusesRank n B (suc k) ms r → RefusesRank n B k (m ∷ ms) r

-- ---- rank by rank
pub data DeclaresRanks : Built → List (List Module) → Built → Type 0 where
  built : {B : Built} → DeclaresRanks B [] B
  next : {B C : Built} {rank : List Module} {others : List (List Module)} {As : List Accepted} →
      DeclaresRank B (length B.order) rank As → DeclaresRanks (with_rank B As) others C →
      DeclaresRanks B (rank ∷ others) C

pub data RefusesRanks (n : ℕ) : Built → List (List Module) → Refused → Type 0 where
  in_rank : {B : Built} {rank : List Module} {others : List (List Module)} {r : Refused} →
      RefusesRank n B (length B.order) rank r → RefusesRanks n B (rank ∷ others) r
  above : {B : Built} {rank : List Module} {others : List (List Module)} {As : List Accepted} {r : Refused} →
      DeclaresRank B (length B.order) rank As → RefusesRanks n (with_rank B As) others r →
      RefusesRanks n B (rank ∷ others) r

-- ---- the whole
-- the modules of the named one's build make up this
pub record DeclaresBuild (read : Name → Reading Module) (root : Name) (B : Built) : Type 0 where
  pub modules : List Module
  pub loads : loaded read root ≡ Ok modules
  pub levels : List (List ℕ)
  pub ranked : ranks (map header_of modules) ≡ Ok levels
  pub declares : DeclaresRanks nothing_yet (map (modules_at modules) levels) B

-- loading stops; or modules import one another in a ring; or else the first module that is refused, in the order of
-- ranks and names, is so for its header, a name or what is filled in, for a premise that is false without a budget, or
-- for the first question that takes more than the budget
pub data RefusesBuild (read : Name → Reading Module) (root : Name) (n : ℕ) : Stop → Type 0 where
  not_loaded : {s : loading.Stop} → loaded read root ≡ Err s → RefusesBuild read root n (loading_stop s)
  ring : {ms : List Module} {way : List Name} → loaded read root ≡ Ok ms → ranks (map header_of ms) ≡ Err way →
      RefusesBuild read root n (ring_stop (map header_of ms) way)
  judged : {ms : List Module} {levels : List (List ℕ)} {r : Refused} → loaded read root ≡ Ok ms →
      ranks (map header_of ms) ≡ Ok levels → RefusesRanks n nothing_yet (map (modules_at ms) levels) r →
      RefusesBuild read root n (Stop.refused r)
