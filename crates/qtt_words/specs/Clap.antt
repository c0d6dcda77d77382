-- The same words as the crate `clap` reads them: the command line of the program, and its matches. By the contract of
-- `try_get_matches_from` they are such, where there is no fault; where there is one, the parse gives none.
use Rattle.std.specs.Prelude.{if◌then◌else◌, List, [], ◌∷◌, ◌++◌, Option, None, true, Some, codes}
use Rattle.clap.specs.Walk.{Row, Rule, first_of, is_empty}
use Rattle.clap.specs.Simple.{App, new_rule, new_app, with_rule, on_top, matches_of}
use Rattle.clap.specs.Faults.{fault_of}
use Rattle.clap.specs.declared.builder.action.ArgAction.TheVariants.{Set}
use Rattle.qtt_words.specs.Sorting.{Word, Setting, Sorted}
use Rattle.qtt_words.specs.Asked.{Asked, ◌>>=◌, default, greatest, number_or, work_named}

-- one that must be there
abbrev pub needed : Word → Rule
needed id = record (new_rule id) { action = Some Set; required = true }

abbrev pub with_long : Word → Rule
with_long name = record (new_rule name) { action = Some Set; long = Some name }

-- qtt COMMAND MODULE [--steps N] [--budget N] [--jobs N], without help and version
abbrev pub flat : App
flat = on_top (λ s. record s { no_binary_name = true; disable_help_flag = true }) (new_app (codes "qtt"))

abbrev pub qtt_app : App
qtt_app =
    with_rule (with_rule (with_rule (with_rule (with_rule flat (needed (codes "COMMAND"))) (needed (codes "MODULE")))
    (with_long (codes "steps"))) (with_long (codes "budget"))) (with_long (codes "jobs"))

abbrev pub one_plain : Option Word → List Word
one_plain None = []
one_plain (Some w) = w ∷ []

abbrev pub one_option : Setting → Option Word → List (Setting × Word)
one_option o None = []
one_option o (Some v) = (o, v) ∷ []

-- the words as matches have them
abbrev pub sorted_in : List Row → Sorted
sorted_in rows = record {
  plain = one_plain (first_of (codes "COMMAND") rows) ++ one_plain (first_of (codes "MODULE") rows);
  options = one_option Setting.steps (first_of (codes "steps") rows)
      ++ (one_option Setting.budget (first_of (codes "budget") rows)
      ++ one_option Setting.jobs (first_of (codes "jobs") rows));
}

-- what the texts of arguments ask for, where `text` gives them
abbrev pub asked_from : (Word → Option Word) → (Word → Option Word) → Option Asked
asked_from name_of text = do
  steps ← number_or (default Setting.steps) (greatest Setting.steps) (text (codes "steps"))
  budget ← number_or (default Setting.budget) (greatest Setting.budget) (text (codes "budget"))
  jobs ← number_or (default Setting.jobs) (greatest Setting.jobs) (text (codes "jobs"))
  command ← text (codes "COMMAND")
  operand ← text (codes "MODULE")
  work ← work_named name_of command operand
  Some (record { work = work; steps = steps; budget = budget; jobs = jobs })

-- and as the matches have them that clap gives, where it finds no fault
abbrev pub sorted_by_clap : List Word → Option Sorted
sorted_by_clap ws = if is_empty (fault_of qtt_app ws) then Some (sorted_in (matches_of qtt_app ws)) else None
