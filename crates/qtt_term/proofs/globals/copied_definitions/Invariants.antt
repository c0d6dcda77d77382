use Rattle.std.proofs.Common.{◌≡◌, map, take}
use Rattle.std.specs.List.{filter}
use Rattle.qtt_term.specs.Keyed.{is_of}
use Rattle.qtt_term.specs.Items.{definition_entry}
use Rattle.qtt_term.proofs.globals.copied_definitions.Given as goal

abbrev pub invariant-loop-definition : goal.invariant-loop-definition
invariant-loop-definition l =
    map definition_entry l.copies.items ≡ filter (λ e. is_of l.of e.id)
    (map definition_entry (take l.definition-index l.definitions))
