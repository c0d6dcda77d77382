use Rattle.std.proofs.Common.{◌≡◌, ◌++◌, drop, map}
use Rattle.qtt_term.specs.Items.{definition_entry, definition_id}
use Rattle.qtt_lower.proofs.program.definition_ids_of.Given as goal

abbrev pub invariant-loop-definition : goal.invariant-loop-definition
invariant-loop-definition l =
    l.ids.items ++ map definition_id (map definition_entry (drop l.definition-index l.definitions)) ≡ map
    definition_id (map definition_entry l.definitions)
