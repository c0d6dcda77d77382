-- What the commands' texts are made of.
use Rattle.std.specs.Prelude.{◌≡◌, ℕ, List, ◌++◌, codes, filter, flat_map, length, map, sum_by, Some, Vec}
use Rattle.std.specs.Global.{Global}
use Rattle.qtt_base.specs.declared.place.ModuleId.{ModuleId}
use Rattle.qtt_term.specs.declared.items.Definition.{Definition}
use Rattle.qtt_term.specs.Entries.{Entries}
use Rattle.qtt_term.specs.Items.{DefinitionEntry, definition_entry}
use Rattle.qtt_term.specs.Keyed.{is_of}
use Rattle.qtt_core_print.specs.Printing.{definition_text}
use Rattle.qtt_module.specs.Text.{Accepted}
use Rattle.qtt_outcome.specs.Outcome.{count_line, line}

-- behind the old bytes stand these
abbrev pub Adds : Vec ℕ Global → Vec ℕ Global → List ℕ → Type 0
Adds old new bytes = new.items ≡ old.items ++ bytes

-- the lines of counts
abbrev pub count_lines : ℕ → ℕ → ℕ → List ℕ
count_lines modules definitions contractions =
    count_line (codes "modules") modules
    ++ count_line (codes "definitions") definitions
    ++ count_line (codes "contractions") contractions

-- of these modules
abbrev pub counts_of : List Accepted → ℕ → List ℕ
counts_of As n = count_lines (length As) (sum_by (λ (A : Accepted). A.checked.definitions) As) n

-- the lines of those of these definitions that are of a module
abbrev pub lines_among : Entries → ModuleId → List Definition → List ℕ
lines_among G m ds =
    flat_map (λ d. line (definition_text G d))
    (filter (λ (d : DefinitionEntry). is_of (Some m) d.id) (map definition_entry ds))
