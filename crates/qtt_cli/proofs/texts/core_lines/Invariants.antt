use Rattle.std.proofs.Common.{◌≡◌, ◌++◌, drop}
use Rattle.qtt_term.specs.Entries.{entries}
use Rattle.qtt_cli.specs.Texts.{lines_among}
use Rattle.qtt_cli.proofs.texts.core_lines.Given as goal

abbrev pub invariant-loop-definition : goal.invariant-loop-definition
invariant-loop-definition l =
    l.text.items ++ lines_among (entries l.env) l.«module» (drop l.definition-index l.definition-items) ≡
    lines_among (entries l.env) l.«module» l.definition-items
