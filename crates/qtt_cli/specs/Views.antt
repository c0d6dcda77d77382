-- What the code's values stand for.
use Rattle.std.specs.Prelude.{ℕ, Bool, List, flat_map, map, Option, Some, Vec, bytes_eq}
use Rattle.std.specs.Global.{Global}
use Rattle.qtt_gen.specs.Seen.{seen}
use Rattle.qtt_term.specs.FullRun as full
use Rattle.qtt_code.specs.Instruction as instruction
use Rattle.qtt_machine.specs.Events.{cause}
use Rattle.qtt_lower.specs.declared.program.Compiled.{Compiled}
use Rattle.qtt_lower.specs.Whole.{compiled_program}
use Rattle.qtt_holes.specs.declared.hole.Hole.{Hole}
use Rattle.qtt_holes.specs.View.{hole}
use Rattle.qtt_load.specs.Reading.{Texts}
use Rattle.qtt_build.specs.Built.{Built}
use Rattle.qtt_build.specs.Answer.{built_of}
use Rattle.qtt_module.specs.declared.checked.Checked.{Checked}
use Rattle.qtt_module.specs.TextCalls.{accepted_of}
use Rattle.qtt_outcome.specs.Stop.{Runnable, hole_name, holes_of}
use Rattle.qtt_gen_load.specs.Texts.{texts_in}
use Rattle.qtt_cli.specs.declared.generated.GeneratedVault.{GeneratedVault}
use Rattle.qtt_cli.specs.declared.program.Runnable as code
use Rattle.qtt_cli.specs.declared.verdict.Verdict.{Verdict}
use Rattle.qtt_cli.specs.declared.verdict.Verdict.TheVariants as verdict

abbrev pub bytes_of : Vec ℕ Global → List ℕ
bytes_of v = v.items

abbrev pub code_program : Compiled → instruction.Program
code_program c = compiled_program c

abbrev pub program_of : code.Runnable → Built × Runnable
program_of p = (built_of p.built, record { main = p.main; program = compiled_program p.compiled })

abbrev pub verdict_of : Verdict → full.Verdict
verdict_of verdict.Ended = full.Verdict.ended
verdict_of (verdict.Trapped k) = full.Verdict.trapped (cause k)
verdict_of verdict.Running = full.Verdict.running

-- what a vault of generated modules tells
abbrev pub told : GeneratedVault → Option Texts
told v = Some (texts_in (map seen v.modules.items))

-- a text of this name
abbrev pub is_of : List ℕ → List ℕ × List ℕ → Bool
is_of name x = bytes_eq x.0 name

abbrev pub name_of : Hole → List ℕ
name_of h = (hole h).name

-- the names of the holes of modules, in order
abbrev pub names_in : List Checked → List (List ℕ)
names_in order = map hole_name (flat_map holes_of (map accepted_of order))
