use Rattle.qtt_build.proofs.Roots.{roots_are_built_holds}
use Rattle.qtt_build.proofs.laws.roots_are_built.Goals as goal

pub returns : goal.returns
returns c = roots_are_built_holds c.loaded_are_builds.ensures c.ranks_are_above.ensures
