-- What lowering a whole environment answers.
use Rattle.std.specs.Prelude.{◌≡◌, List, Some, None}
use Rattle.qtt_term.specs.declared.globals.Globals.{Globals}
use Rattle.qtt_code.specs.Instruction.{Program}
use Rattle.qtt_code.specs.View as code
use Rattle.qtt_lower.specs.declared.program.Compiled.{Compiled}
use Rattle.qtt_lower.specs.declared.program.LowerError.{LowerError}
use Rattle.qtt_lower.specs.declared.program.LowerError.TheVariants.{Limit, Memory}
use Rattle.qtt_lower.specs.Programs.{Base}
use Rattle.qtt_lower.specs.Programs as programs
use Rattle.qtt_lower.specs.Compiled.{bodies_of, program_of, excess_of}
use Rattle.qtt_lower.specs.View.{bases}

abbrev pub compiled_program : Compiled → Program
compiled_program c = code.program c.program

abbrev pub compiled_bases : Compiled → List Base
compiled_bases c = bases c.bases

-- the program of an environment, which passes no limit, with its first blocks
pub record IsProgramOf (g : Globals) (c : Compiled) : Type 0 where
  pub within : excess_of (program_of g) ≡ None
  pub program : compiled_program c ≡ program_of g
  pub bases : compiled_bases c ≡ programs.bases (bodies_of g)

-- a limit comes exactly where the program passes it
abbrev pub FailsAt : Globals → LowerError → Type 0
FailsAt g Memory = Unit {0}
FailsAt g (Limit q n) = excess_of (program_of g) ≡ Some (Limit q n)
