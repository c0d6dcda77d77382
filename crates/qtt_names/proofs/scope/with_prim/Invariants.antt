use Rattle.std.proofs.Common.{◌≡◌, ◌∷◌, map, take}
use Rattle.qtt_names.specs.PrimNames.{prim_import}
use Rattle.qtt_names.specs.Exports.{export_of}
use Rattle.qtt_names.specs.View.{imported_of}
use Rattle.qtt_names.proofs.scope.with_prim.Given as goal

abbrev pub invariant-loop-import : goal.invariant-loop-import
invariant-loop-import l = map imported_of l.done.items ≡ prim_import ∷ map export_of (take l.import-index l.imports)
