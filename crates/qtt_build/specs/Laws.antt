-- The laws of builds.
use Rattle.std.specs.Prelude.{◌≡◌, ℕ, List, [], All, IsTrue, Some, Ok, Err}
use Rattle.std.specs.List.{list_any}
use Rattle.qtt_base.specs.declared.place.GlobalId.{GlobalId}
use Rattle.qtt_syntax.specs.Tree.{Module}
use Rattle.qtt_graph.specs.Graph.{Name}
use Rattle.qtt_term.specs.Term.{Term}
use Rattle.qtt_term.specs.Signature.{definition_at}
use Rattle.qtt_term.specs.Environment.{WellFormed, Complete}
use Rattle.qtt_term.specs.Entries.{Entries, env}
use Rattle.qtt_load.specs.Reading.{Reading, Texts, read_in}
use Rattle.qtt_module.specs.Declarations.{declarations}
use Rattle.qtt_module.specs.Refused.{Refused}
use Rattle.qtt_module.specs.Text.{Accepted, items_in}
use Rattle.qtt_accepted.specs.Members.{Among}
use Rattle.qtt_accepted.specs.Refusals.{IsFalseSo}
use Rattle.qtt_accepted.specs.Texts.{IsSpent}
use Rattle.qtt_accepted.specs.Clauses.{IsByClauses, GoesOnByClauses}
use Rattle.qtt_build.specs.Built.{Built, is_named}
use Rattle.qtt_build.specs.Build.{Stop, build}
use Rattle.qtt_build.specs.Judged.{DeclaresAt, DeclaresBuild, RefusesRank, RefusesRanks, RefusesBuild}

-- the outcomes of a build mean this
pub record BuildsAreJudged : Type 0 where
  pub built : (read : Name → Reading Module) (root : Name) (n : ℕ) (B : Built) → build read root n ≡ Ok B →
      DeclaresBuild read root B
  pub stopped : (read : Name → Reading Module) (root : Name) (n : ℕ) (s : Stop) → build read root n ≡ Err s →
      RefusesBuild read root n s

-- the named module is among those that are built
abbrev pub RootsAreBuilt : Type 0
RootsAreBuilt = (texts : Texts) (root : Name) (n : ℕ) (B : Built) → build (read_in texts) root n ≡ Ok B →
    IsTrue (list_any (is_named root) B.order)

-- ---- the environment
abbrev pub HasNoHoles : Accepted → Type 0
HasNoHoles A = A.checked.holes ≡ []

-- what the build of a text declares is well formed, and complete where no module has a hole
pub record BuildsKeepForm : Type 0 where
  pub formed : (texts : Texts) (root : Name) (B : Built) → DeclaresBuild (read_in texts) root B →
      WellFormed (env B.globals)
  pub complete : (texts : Texts) (root : Name) (B : Built) → DeclaresBuild (read_in texts) root B →
      All HasNoHoles B.order → Complete (env B.globals)

-- ---- what is built is one thing
-- a question took more than its budget
abbrev pub StoppedByBudget : Stop → Type 0
StoppedByBudget (Stop.absent a) = ⊥
StoppedByBudget (Stop.refused r) = IsSpent r.kept.detail

-- the modules of a build declare one thing alone; and where a build stops for another cause than a budget, none; so
-- where they declare something it stops for a budget alone
pub record BuildsDeclareOnce : Type 0 where
  pub one : (texts : Texts) (root : Name) (B C : Built) → DeclaresBuild (read_in texts) root B →
      DeclaresBuild (read_in texts) root C → B ≡ C
  pub none : (texts : Texts) (root : Name) (n : ℕ) (s : Stop) (B : Built) → RefusesBuild (read_in texts) root n s →
      (StoppedByBudget s → ⊥) → DeclaresBuild (read_in texts) root B → ⊥
  pub spent : (texts : Texts) (root : Name) (n : ℕ) (s : Stop) (B : Built) → RefusesBuild (read_in texts) root n s →
      DeclaresBuild (read_in texts) root B → StoppedByBudget s

-- ---- definitions by clauses
-- a definition has a body that was accepted as that of clauses of one of these modules, as these were written but for
-- what its names stand for and what was filled in
pub record IsOfModule (ms : List Module) (G : Entries) (d : GlobalId) (body : Term) : Type 0 where
  pub «module» : Module
  pub among : Among «module» ms
  -- what was built when it was judged, its place, and what was accepted
  pub before : Built
  pub place : ℕ
  pub accepted : Accepted
  pub declares : DeclaresAt before place «module» accepted
  pub by_clauses : IsByClauses (declarations (items_in declares.filled.text)) G d body

-- each body of a build is, and its definition goes on as the clauses say
pub record FollowsClauses (ms : List Module) (B : Built) (d : GlobalId) (body : Term) : Type 0 where
  pub of_module : IsOfModule ms B.globals d body
  pub goes_on : GoesOnByClauses of_module.by_clauses

abbrev pub BuildsFollowClauses : Type 0
BuildsFollowClauses = (texts : Texts) (root : Name) (B : Built) (x : DeclaresBuild (read_in texts) root B)
    (d : GlobalId) (body : Term) → (definition_at (env B.globals) d).body ≡ Some body →
    FollowsClauses x.modules B d body

-- ---- refusals
-- where a module of a rank is refused for a premise, this is false in the relation
abbrev pub RankFailsSo : {n : ℕ} {B : Built} {k : ℕ} {ms : List Module} {x : Refused} → RefusesRank n B k ms x → Type 0
RankFailsSo (RefusesRank.here r) = IsFalseSo r
RankFailsSo (RefusesRank.behind d r) = RankFailsSo r

abbrev pub RanksFailSo : {n : ℕ} {B : Built} {ranks : List (List Module)} {x : Refused} → RefusesRanks n B ranks x →
    Type 0
RanksFailSo (RefusesRanks.in_rank r) = RankFailsSo r
RanksFailSo (RefusesRanks.above d r) = RanksFailSo r

abbrev pub BuildFailsSo : {read : Name → Reading Module} {root : Name} {n : ℕ} {s : Stop} →
    RefusesBuild read root n s → Type 0
BuildFailsSo (RefusesBuild.not_loaded e) = Unit {0}
BuildFailsSo (RefusesBuild.ring e f) = Unit {0}
BuildFailsSo (RefusesBuild.judged e f r) = RanksFailSo r

abbrev pub BuildRefusalsAreSo : Type 0
BuildRefusalsAreSo = (texts : Texts) (root : Name) (n : ℕ) (s : Stop) (x : RefusesBuild (read_in texts) root n s) →
    BuildFailsSo x

-- ---- together
pub record BuildLaws : Type 0 where
  pub judged : BuildsAreJudged
  pub roots : RootsAreBuilt
  pub forms : BuildsKeepForm
  pub once : BuildsDeclareOnce
  pub clauses : BuildsFollowClauses
  pub refusals : BuildRefusalsAreSo
