use Rattle.std.proofs.Common.{◌≡◌, ◌++◌, reverse}
use Rattle.qtt_envconv.specs.Stacks.{path}
use Rattle.qtt_envconv.proofs.route.Route.path.Given as goal

abbrev pub invariant-loop-rest : goal.invariant-loop-rest
invariant-loop-rest l = path l.rest ++ reverse l.path.items ≡ path l.self
