use Rattle.qtt_load.proofs.Builds.{builds}
use Rattle.qtt_load.proofs.Texts.{reads-as-named}
use Rattle.qtt_load.proofs.laws.loaded_are_builds.Goals as goal

pub returns : goal.returns
returns c = record { as_named = reads-as-named; builds = builds }
