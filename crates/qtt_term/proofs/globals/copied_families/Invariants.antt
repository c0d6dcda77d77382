use Rattle.std.proofs.Common.{◌≡◌, map, take}
use Rattle.std.specs.List.{filter}
use Rattle.qtt_term.specs.Keyed.{is_of}
use Rattle.qtt_term.specs.Items.{family_entry}
use Rattle.qtt_term.proofs.globals.copied_families.Given as goal

abbrev pub invariant-loop-family : goal.invariant-loop-family
invariant-loop-family l =
    map family_entry l.copies.items ≡ filter (λ e. is_of l.of e.id)
    (map family_entry (take l.family-index l.families))
