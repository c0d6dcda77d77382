use Rattle.std.proofs.Common.{◌≡◌, ◌++◌, map, drop}
use Rattle.qtt_syntax.specs.View.{param_of}
use Rattle.qtt_syntax.specs.Words.{written}
use Rattle.qtt_syntax.specs.Printing.{params}
use Rattle.qtt_syntax.proofs.printer.items.put_params.Given as goal

abbrev pub invariant-loop-param : goal.invariant-loop-param
invariant-loop-param l = l.out.items ++ written (params (map param_of (drop l.param-index l.list))) ≡
    l.fn.out.items ++ written (params (map param_of l.list))
