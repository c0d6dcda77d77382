use Rattle.std.proofs.Common.{◌≡◌, ◌+◌, drop}
use Rattle.std.specs.List.{sum_by}
use Rattle.qtt_closure.specs.View.{function_list}
use Rattle.qtt_lower.specs.Sizes.{body_width}
use Rattle.qtt_lower.proofs.definition.total_width.Given as goal

abbrev pub invariant-loop-function : goal.invariant-loop-function
invariant-loop-function l =
    l.total + sum_by body_width (function_list (drop l.function-index l.functions)) ≡ sum_by body_width
    (function_list l.functions)
