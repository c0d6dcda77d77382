-- What a call of the program comes to where memory is ample and no device fails: its status, the bytes that out and
-- err gain, and the tapes.
use Rattle.std.specs.Prelude.{ℕ, List, [], ◌∷◌, ◌++◌, flat_map, length, sum_by, Option, Some, None, Ok, Err, codes, decimal, String}
use Rattle.std.specs.List.{filter}
use Rattle.std.specs.declared.alloc.Global.{Global}
use Rattle.qtt_base.specs.declared.place.ModuleId.{ModuleId}
use Rattle.qtt_prims.specs.Tapes.{Taped}
use Rattle.qtt_graph.specs.Graph.{Name}
use Rattle.qtt_term.specs.FullStep.{Cause}
use Rattle.qtt_term.specs.FullRun.{Verdict, Run, full, text_of}
use Rattle.qtt_term.specs.Items.{DefinitionEntry}
use Rattle.qtt_term.specs.Keyed.{is_of}
use Rattle.qtt_term.specs.Entries.{Entries, env}
use Rattle.qtt_core_print.specs.Printing.{definition_text}
use Rattle.qtt_diag.specs.Messages.{message}
use Rattle.qtt_holes.specs.HoleText.{hole_text}
use Rattle.qtt_code.specs.Listing.{listing}
use Rattle.qtt_words.specs.Asked.{Work, Asked, asked}
use Rattle.qtt_load.specs.Reading.{Texts, read_in}
use Rattle.qtt_gen_load.specs.Texts.{generated_texts}
use Rattle.qtt_module.specs.Text.{Accepted}
use Rattle.qtt_build.specs.Built.{Built}
use Rattle.qtt_build.specs.Build.{build}
use Rattle.qtt_outcome.specs.Stop.{Stop, Answer, ◌>>=◌, of_build, no_holes, module_named, Runnable, runnable}

pub record Outcome : Type 0 where
  pub status : ℕ
  pub out : List ℕ
  pub err : List ℕ
  pub tapes : List Taped

abbrev pub line : List ℕ → List ℕ
line bytes = bytes ++ 10 ∷ []

abbrev pub puts : List ℕ → Outcome
puts bytes = record { status = 0; out = bytes; err = []; tapes = [] }

abbrev pub tells : ℕ → List ℕ → Outcome
tells status said = record { status = status; out = []; err = line said; tapes = [] }

-- ---- where it stops
abbrev pub usage_line : List ℕ
usage_line = codes "usage: qtt COMMAND MODULE [--steps N] [--budget N] [--jobs N]"

abbrev pub absent_line : Name → List ℕ
absent_line a = codes "module " ++ a ++ codes " not found"

abbrev pub stopped : Stop → Outcome
stopped Stop.usage = tells 64 usage_line
stopped (Stop.absent a) = tells 66 (absent_line a)
stopped (Stop.refused r) = tells 1 (message r.kept)

abbrev pub outcome_of : Answer Outcome → Outcome
outcome_of (Ok o) = o
outcome_of (Err s) = stopped s

-- ---- check
-- checked NAME D, and the lines of its holes
abbrev pub checked_text : Entries → Accepted → List ℕ
checked_text G A =
    line (codes "checked " ++ A.exports.name ++ codes " " ++ decimal A.checked.definitions)
    ++ flat_map (hole_text G A.exports.name) A.checked.holes

abbrev pub check_text : Built → List ℕ
check_text B = flat_map (checked_text B.globals) B.order

-- ---- core
-- the definitions of a module, in order, a line each
abbrev pub core_lines : Entries → ModuleId → List ℕ
core_lines G m =
    flat_map (λ d. line (definition_text G d)) (filter (λ (d : DefinitionEntry). is_of (Some m) d.id) G.definitions)

abbrev pub core_in : Entries → Option Accepted → List ℕ
core_in G None = []
core_in G (Some A) = core_lines G A.exports.home

abbrev pub core_text : Built → Name → List ℕ
core_text B root = core_in B.globals (module_named B root)

-- ---- run
abbrev pub trap_line : Cause → List ℕ
trap_line Cause.division_by_zero = codes "trap: division by zero"
trap_line Cause.missing_clause = codes "trap: missing clause"
trap_line Cause.bad_input_line = codes "trap: bad input line"

abbrev pub verdict_status : Verdict → ℕ
verdict_status Verdict.ended = 0
verdict_status (Verdict.trapped k) = 2
verdict_status Verdict.running = 3
-- no main of an accepted build is stuck
verdict_status Verdict.stuck = 3

abbrev pub verdict_line : Verdict → List ℕ
verdict_line Verdict.ended = []
verdict_line (Verdict.trapped k) = line (trap_line k)
verdict_line Verdict.running = line (codes "step bound reached")
verdict_line Verdict.stuck = line (codes "step bound reached")

-- what a run did, and these bytes behind its lines
abbrev pub run_outcome : Run → List ℕ → Outcome
run_outcome R more = record {
  status = verdict_status R.verdict;
  out = text_of R.last.events ++ more;
  err = verdict_line R.verdict;
  tapes = R.last.tapes;
}

abbrev pub run_of : ℕ → Built → Runnable → List ℕ → Run
run_of steps B x input = full steps (env B.globals) x.main input

-- ---- gen
abbrev pub definitions : Built → ℕ
definitions B = sum_by (λ (A : Accepted). A.checked.definitions) B.order

abbrev pub count_line : List ℕ → ℕ → List ℕ
count_line word n = line (word ++ codes " " ++ decimal n)

-- behind the lines of a run that ended
abbrev pub counts : Built → Run → Verdict → List ℕ
counts B R Verdict.ended =
    count_line (codes "modules") (length B.order) ++ count_line (codes "definitions") (definitions B)
    ++ count_line (codes "contractions") R.count
counts B R (Verdict.trapped k) = []
counts B R Verdict.running = []
counts B R Verdict.stuck = []

abbrev pub counted_outcome : Built → Run → Outcome
counted_outcome B R = run_outcome R (counts B R R.verdict)

-- ---- the commands
-- the named module of a build
abbrev pub root_of : Work → Name
root_of (Work.check a) = a
root_of (Work.core a) = a
root_of (Work.code a) = a
root_of (Work.run a) = a
root_of (Work.gen n) = codes "Main"

-- generated texts stand in the place of others
abbrev pub texts_for : Texts → Work → Texts
texts_for texts (Work.check a) = texts
texts_for texts (Work.core a) = texts
texts_for texts (Work.code a) = texts
texts_for texts (Work.run a) = texts
texts_for texts (Work.gen n) = generated_texts n

abbrev pub built_for : Texts → Asked → Answer Built
built_for texts r = of_build (build (read_in (texts_for texts r.work)) (root_of r.work) r.budget)

-- what is put over a build: `code`, `run` and `gen` want no hole, a right main and code within its limits; what is
-- generated has no hole
unfoldable pub put : List ℕ → Asked → Built → Work → Answer Outcome
put input r B (Work.check a) = Ok (puts (check_text B))
put input r B (Work.core a) = Ok (puts (core_text B a))
put input r B (Work.code a) = do
  u ← no_holes B
  x ← runnable r.budget a B
  Ok (puts (listing B.globals.definitions x.program))
put input r B (Work.run a) = do
  u ← no_holes B
  x ← runnable r.budget a B
  Ok (run_outcome (run_of r.steps B x input) [])
put input r B (Work.gen n) = do
  u ← no_holes B
  x ← runnable r.budget (codes "Main") B
  Ok (counted_outcome B (run_of r.steps B x input))

unfoldable pub worked : Texts → List ℕ → Asked → Answer Outcome
worked texts input r = do
  B ← built_for texts r
  put input r B r.work

abbrev pub answered : Texts → List ℕ → Option Asked → Answer Outcome
answered texts input None = Err Stop.usage
answered texts input (Some r) = worked texts input r

-- ---- the whole call
abbrev pub outcome : List (String Global) → Texts → List ℕ → Outcome
outcome words texts input = outcome_of (answered texts input (asked words))
