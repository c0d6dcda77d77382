-- The named module is among those that are built.
use Rattle.qtt_graph.specs.Laws.{RanksAreAbove}
use Rattle.qtt_load.specs.Reading.{read_in}
use Rattle.qtt_load.specs.Laws.{LoadedAreBuilds}
use Rattle.qtt_build.specs.Laws.{RootsAreBuilt}
use Rattle.qtt_build.proofs.Judged.{staged}
use Rattle.qtt_build.proofs.Placed.{root-among}

pub roots_are_built_holds : LoadedAreBuilds → RanksAreAbove → RootsAreBuilt
roots_are_built_holds builds above texts root n B h =
    let s = staged (read_in texts) root n B h in
    root-among builds above (read_in texts) root s.modules s.levels n B (builds.as_named texts) s.loads s.ranked
    s.judged
