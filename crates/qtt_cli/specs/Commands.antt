-- What the commands come to, over some texts, within a budget for each question.
use Rattle.std.specs.Prelude.{ℕ, List, Ok}
use Rattle.qtt_code.specs.Instruction.{Program}
use Rattle.qtt_code.specs.Listing.{listing}
use Rattle.qtt_graph.specs.Graph.{Name}
use Rattle.qtt_term.specs.Entries.{Entries}
use Rattle.qtt_lower.specs.Compiled.{excess_of}
use Rattle.qtt_load.specs.Reading.{Texts, read_in}
use Rattle.qtt_build.specs.Built.{Built}
use Rattle.qtt_build.specs.Build.{build}
use Rattle.qtt_outcome.specs.Stop.{Answer, ◌>>=◌, of_build, no_holes, program_of, within, Runnable, runnable}
use Rattle.qtt_outcome.specs.Outcome.{check_text, core_text}

abbrev pub built_over : Name → ℕ → Texts → Answer Built
built_over root n texts = of_build (build (read_in texts) root n)

abbrev pub check_for : Name → ℕ → Texts → Answer (List ℕ)
check_for root n texts = do
  B ← built_over root n texts
  Ok (check_text B)

abbrev pub core_for : Name → ℕ → Texts → Answer (List ℕ)
core_for root n texts = do
  B ← built_over root n texts
  Ok (core_text B root)

-- the code of an environment, or which limit it passes
abbrev pub code_over : Name → Entries → Answer Program
code_over root G = within root (program_of G) (excess_of (program_of G))

-- what is run, or listed as code, of a build
abbrev pub over_build : Name → ℕ → Built → Answer (Built × Runnable)
over_build root n B = do
  u ← no_holes B
  x ← runnable n root B
  Ok (B, x)

abbrev pub program_for : Name → ℕ → Texts → Answer (Built × Runnable)
program_for root n texts = do
  B ← built_over root n texts
  over_build root n B

abbrev pub listed : Built × Runnable → List ℕ
listed p = listing p.0.globals.definitions p.1.program

abbrev pub code_for : Name → ℕ → Texts → Answer (List ℕ)
code_for root n texts = do
  p ← program_for root n texts
  Ok (listed p)
