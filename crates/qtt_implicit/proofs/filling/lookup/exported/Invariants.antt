use Rattle.std.proofs.Common.{◌≡◌, map, drop}
use Rattle.qtt_implicit.specs.Known.{exported as exported_by}
use Rattle.qtt_implicit.specs.KnownItems.{import_of}
use Rattle.qtt_implicit.proofs.filling.lookup.exported.Given as goal

abbrev pub invariant-loop-import : goal.invariant-loop-import
invariant-loop-import l =
    exported_by (map import_of l.imports) l.id ≡ exported_by (map import_of (drop l.import-index l.imports)) l.id
