use Rattle.std.proofs.Common.{◌≡◌, ◌++◌, drop, map}
use Rattle.std.specs.List.{filter_map}
use Rattle.qtt_names.specs.Exports.{exports_of}
use Rattle.qtt_module.specs.TextCalls.{accepted_of}
use Rattle.qtt_build.specs.Built.{exports_named}
use Rattle.qtt_build.proofs.imports.given.Given as goal

-- what is left is given behind what was given
abbrev pub invariant-loop-name : goal.invariant-loop-name
invariant-loop-name l =
    map exports_of l.exports.items ++
    filter_map (exports_named (map accepted_of l.order)) (drop l.name-index l.names) ≡
    filter_map (exports_named (map accepted_of l.order)) l.names
