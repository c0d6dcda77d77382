use Rattle.std.proofs.Common.{drop}
use Rattle.qtt_module.specs.Declaring.{all_declared}
use Rattle.qtt_module.specs.Stages.{home, stage_of}
use Rattle.qtt_module.proofs.Passing.{SoFar}
use Rattle.qtt_module.proofs.stage.Stage.declare_all.Given as goal

abbrev pub invariant-loop-declaration : goal.invariant-loop-declaration
invariant-loop-declaration g l =
    SoFar (home l.judge) l.judge.budget (stage_of l.fn.self) (stage_of l.self) (all_declared l.declarations)
    (all_declared (drop l.declaration-index l.declarations))
