use Rattle.std.proofs.Common.{◌≡◌, [], map, take, length}
use Rattle.std.specs.List.{flat_map}
use Rattle.qtt_syntax.specs.View.{item_of}
use Rattle.qtt_names.specs.Scope.{declared}
use Rattle.qtt_module.specs.Exported.{with_exports}
use Rattle.qtt_module.proofs.exports.exported_items.Given as goal

abbrev pub invariant-loop-item : goal.invariant-loop-item
invariant-loop-item l = record {
  entries : l.ids.entries ≡ with_exports [] l.«module» 0 (flat_map declared (map item_of (take l.item-index l.items)));
  next : l.number ≡ length (flat_map declared (map item_of (take l.item-index l.items)));
}
