use Rattle.std.proofs.Common.{◌≡◌, ◌++◌, drop, map}
use Rattle.qtt_closure.specs.View.{function_list}
use Rattle.qtt_code.specs.View.{blocks}
use Rattle.qtt_lower.specs.Lowering.{block}
use Rattle.qtt_lower.specs.Programs.{entry}
use Rattle.qtt_lower.specs.View.{bases}
use Rattle.qtt_lower.proofs.definition.lower_one.Given as goal

abbrev pub invariant-loop-function : goal.invariant-loop-function
invariant-loop-function l =
    blocks l.blocks.items ++ map (block (entry (bases l.bases)) l.id)
    (function_list (drop l.function-index l.function-items))
    ≡ map (block (entry (bases l.bases)) l.id) (function_list l.function-items)
