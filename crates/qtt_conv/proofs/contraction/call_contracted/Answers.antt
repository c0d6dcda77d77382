use Rattle.std.proofs.Common.{arith}
use Rattle.std.proofs.lemmas.Grind.{common_steps}
use Rattle.qtt_term.specs.View.{terms, side_by_side}
use Rattle.qtt_conv.proofs.Contracting.{call-stuck}
use Rattle.qtt_conv.proofs.contraction.call_contracted.Goals as goal

pub returns : goal.returns
returns c =
    let r = c.in_ok-values in
    call-stuck c.args.prim (side_by_side (terms c.args.arguments.now)) r.values.items r.rest.now r.ensures.parts
    r.ensures.stops (grind (arith, common_steps))
