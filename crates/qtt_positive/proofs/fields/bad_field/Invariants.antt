use Rattle.std.proofs.Common.{◌≡◌, map, drop}
use Rattle.qtt_term.specs.Items.{field}
use Rattle.qtt_positive.specs.FirstBad.{bad_field}
use Rattle.qtt_positive.proofs.fields.bad_field.Given as goal

abbrev pub invariant-loop-place : goal.invariant-loop-place
invariant-loop-place l =
    bad_field l.family 0 (map field l.fields) ≡ bad_field l.family l.place (map field (drop l.place l.fields))
