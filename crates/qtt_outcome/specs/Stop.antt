-- Why a call puts nothing out.
use Rattle.std.specs.Prelude.{List, [], ◌∷◌, map, flat_map, find, Option, Some, None, Result, Ok, Err, ℕ}
use Rattle.qtt_base.specs.declared.place.GlobalId.{GlobalId}
use Rattle.qtt_graph.specs.Graph.{Name}
use Rattle.qtt_term.specs.Items.{definition_id}
use Rattle.qtt_term.specs.Entries.{Entries, env}
use Rattle.qtt_term.specs.declared.rule.Rule.TheVariants as rule
use Rattle.qtt_rules.specs.Refusal.{Cause}
use Rattle.qtt_diag.specs.Kept.{Detail}
use Rattle.qtt_holes.specs.Hole.{Hole}
use Rattle.qtt_code.specs.Instruction.{Program}
use Rattle.qtt_lower.specs.declared.program.LowerError.{LowerError}
use Rattle.qtt_lower.specs.declared.program.LowerError.TheVariants as lower
use Rattle.qtt_lower.specs.Programs.{bodies, program}
use Rattle.qtt_lower.specs.Compiled.{excess_of}
use Rattle.qtt_load.specs.Reading.{front}
use Rattle.qtt_module.specs.Refused.{Refused, plain}
use Rattle.qtt_module.specs.Refused as judging
use Rattle.qtt_module.specs.Text.{Accepted}
use Rattle.qtt_module.specs.TextCalls.{judged_main}
use Rattle.qtt_build.specs.Built.{Built, is_named}
use Rattle.qtt_build.specs.Build.{Outcome}
use Rattle.qtt_build.specs.Build as builds

-- the words ask for nothing; or there is no build, or it is refused
pub data Stop : Type 0 where
  usage : Stop
  absent : Name → Stop
  refused : Refused → Stop

-- a value, or why there is none
abbrev pub Answer : Type 0 → Type 0
Answer A = Result A Stop

infixl 10 ◌>>=◌
-- the one, and then the other with its value; the first that stops, stops both
unfoldable pub ◌>>=◌ : {A B : Type 0} → Answer A → (A → Answer B) → Answer B
Ok a >>= k = k a
Err s >>= k = Err s

abbrev pub no_build : builds.Stop → Stop
no_build (builds.Stop.absent a) = Stop.absent a
no_build (builds.Stop.refused r) = Stop.refused r

abbrev pub of_build : {A : Type 0} → Outcome A → Answer A
of_build (Ok a) = Ok a
of_build (Err s) = Err (no_build s)

abbrev pub of_judged : {A : Type 0} → judging.Answer A → Answer A
of_judged (Ok a) = Ok a
of_judged (Err r) = Err (Stop.refused r)

-- ---- holes
-- each with its module's name
abbrev pub holes_of : Accepted → List (Name × Hole)
holes_of A = map (λ h. (A.exports.name, h)) A.checked.holes

abbrev pub all_holes : Built → List (Name × Hole)
all_holes B = flat_map holes_of B.order

abbrev pub hole_name : Name × Hole → List ℕ
hole_name x = x.1.name

-- a program has none: it is refused at the first, with the names of all (37)
abbrev pub none_of : List (Name × Hole) → Answer (Unit {0})
none_of [] = Ok tt
none_of (x ∷ xs) =
    Err (Stop.refused (plain rule.Build x.0 x.1.span (Detail.has_holes (map hole_name (x ∷ xs)))))

abbrev pub no_holes : Built → Answer (Unit {0})
no_holes B = none_of (all_holes B)

-- ---- main
abbrev pub module_named : Built → Name → Option Accepted
module_named B n = find (is_named n) B.order

-- the named module is among those that are built, by the laws of builds
abbrev pub main_in : ℕ → Built → Name → Option Accepted → Answer GlobalId
main_in n B root None = Err (Stop.absent root)
main_in n B root (Some A) = of_judged (judged_main n B.globals A)

-- the main of the named module (30, 24)
abbrev pub main_of : ℕ → Built → Name → Answer GlobalId
main_of n B root = main_in n B root (module_named B root)

-- ---- code
abbrev pub program_of : Entries → Program
program_of G = program (bodies (env G) (map definition_id G.definitions))

-- too many blocks or instructions, told at the front of the named module (31)
abbrev pub within : Name → Program → Option LowerError → Answer Program
within root P None = Ok P
within root P (Some (lower.Limit q n)) =
    Err (Stop.refused (plain rule.Program root front (Detail.premise (Cause.limit q n))))
-- no count is want of memory
within root P (Some lower.Memory) = Ok P

abbrev pub code_of : Name → Built → Answer Program
code_of root B = within root (program_of B.globals) (excess_of (program_of B.globals))

-- ---- what is run, or listed as code
pub record Runnable : Type 0 where
  pub main : GlobalId
  pub program : Program

-- a main that is right, and then code within its limits
abbrev pub runnable : ℕ → Name → Built → Answer Runnable
runnable n root B = do
  main ← main_of n B root
  P ← code_of root B
  Ok (record { main = main; program = P })
