use Rattle.std.proofs.Common.{arith}
use Rattle.std.proofs.lemmas.Grind.{common_steps}
use Rattle.qtt_core_check.specs.Seen.{ctx}
use Rattle.qtt_core_check.proofs.Scopes.{several-depth}
use Rattle.qtt_core_check.proofs.scope.Scope.+depth.Goals as goal

pub returns-in_ok-depth-in-Several : goal.returns-in_ok-depth-in-Several
returns-in_ok-depth-in-Several t c = let e =
    several-depth (ctx c.in-Several.outer.now) c.in-Several.binders.now in grind (arith, common_steps, e)
