use Rattle.std.proofs.Common.{◌≡◌, drop}
use Rattle.qtt_load.specs.Order.{imported_at}
use Rattle.qtt_load.proofs.order.imported_at.Given as goal

abbrev pub invariant-loop-import : goal.invariant-loop-import
invariant-loop-import l =
    imported_at (drop l.import-index l.imports) l.imported ≡ imported_at l.imports l.imported
