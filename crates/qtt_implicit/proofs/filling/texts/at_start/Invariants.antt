-- What has been passed is seen, behind Prim.
use Rattle.std.proofs.Common.{◌≡◌, ◌∷◌, map, take}
use Rattle.qtt_names.specs.Exports.{exports_of}
use Rattle.qtt_implicit.specs.KnownItems.{import_of}
use Rattle.qtt_implicit.proofs.filling.texts.at_start.Given as goal

abbrev pub invariant-loop-exports : goal.invariant-loop-exports
invariant-loop-exports l =
    map import_of l.seen.items ≡ exports_of l.prim ∷ map exports_of (take l.exports-index l.imports)
