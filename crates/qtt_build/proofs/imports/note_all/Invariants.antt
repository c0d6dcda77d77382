use Rattle.std.proofs.Common.{◌≡◌, ◌++◌, drop}
use Rattle.qtt_load.specs.Loading.{mentioned}
use Rattle.qtt_build.proofs.imports.note_all.Given as goal

abbrev pub invariant-loop-import : goal.invariant-loop-import
invariant-loop-import l =
    l.known.keys ++ mentioned l.known.keys (drop l.import-index l.imports) ≡
    l.initial.known.keys ++ mentioned l.initial.known.keys l.imports
