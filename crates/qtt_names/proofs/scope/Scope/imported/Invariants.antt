-- What has been found is what the imports passed have of the name.
use Rattle.std.proofs.Common.{◌≡◌, map, take, option_copied, filter_map}
use Rattle.qtt_names.specs.Target.{one_of, exported}
use Rattle.qtt_names.specs.View.{imported_of}
use Rattle.qtt_names.proofs.scope.Scope.imported.Given as goal

abbrev pub invariant-loop-import : goal.invariant-loop-import
invariant-loop-import l =
    l.found ≡ one_of (filter_map (exported (option_copied l.of) l.name)
    (map imported_of (take l.import-index l.import-items)))
