use Rattle.std.proofs.Common.{◌∙◌, ◌-◌, drop, length, sym, take}
use Rattle.qtt_bidi.proofs.Taking.{first-in}
use Rattle.qtt_module.proofs.Left.{rest-left}
use Rattle.qtt_module.proofs.constructors.+behind_parameters.Goals as goal

pub returns-then-is_variable : goal.returns-then-is_variable
returns-then-is_variable t c =
    let ts = c.args.values.now in
    let us = take (length ts - 1) (drop 1 ts) in
    c.behind_parameters.ensures
    ∙ sym (rest-left c.args.fields ts us c.first-item.result
    (first-in ts c.first-item.result c.in-len1-up.len_at_least c.first-item.is) c.args.params c.if-params-eq0.false
    (sym c.is_variable.ensures ∙ c.if-is_variable.true))
