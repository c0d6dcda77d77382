use Rattle.std.proofs.Common.{◌≡◌, map, drop}
use Rattle.qtt_term.specs.Items.{field}
use Rattle.qtt_term.specs.Reading.{plain_fields}
use Rattle.qtt_unify.proofs.plain.are_plain.Given as goal

abbrev pub invariant-loop-place : goal.invariant-loop-place
invariant-loop-place l = plain_fields 0 (map field l.fields) ≡ plain_fields l.place (map field (drop l.place l.fields))
