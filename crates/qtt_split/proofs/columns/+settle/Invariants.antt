use Rattle.std.proofs.Common.{◌≤◌, length}
use Rattle.qtt_term.specs.Entries.{entries}
use Rattle.qtt_split.proofs.Settling.{FieldsSoFar}
use Rattle.qtt_split.proofs.columns.+settle.Given as goal

abbrev pub invariant-settle_fields-loop-place : goal.invariant-settle_fields-loop-place
invariant-settle_fields-loop-place l = record {
  so : FieldsSoFar (entries l.globals)
      (record { patterns = l.patterns; params = l.params; types = l.types; fields = l.fields })
      l.place l.columns.items l.values.items;
  in_patterns : l.place ≤ length l.patterns;
  in_types : l.place ≤ length l.types;
  in_fields : l.place ≤ length l.fields;
}
