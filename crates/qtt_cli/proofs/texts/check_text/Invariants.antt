use Rattle.std.proofs.Common.{◌≡◌, ◌++◌, drop, flat_map, map}
use Rattle.qtt_term.specs.Entries.{entries}
use Rattle.qtt_module.specs.TextCalls.{accepted_of}
use Rattle.qtt_outcome.specs.Outcome.{checked_text}
use Rattle.qtt_cli.proofs.texts.check_text.Given as goal

abbrev pub invariant-loop-checked : goal.invariant-loop-checked
invariant-loop-checked l =
    l.text.items
    ++ flat_map (checked_text (entries l.built.env)) (map accepted_of (drop l.checked-index l.checked-items))
    ≡ flat_map (checked_text (entries l.built.env)) (map accepted_of l.checked-items)
