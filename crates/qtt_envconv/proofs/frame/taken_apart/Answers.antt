use Rattle.std.proofs.Common.{map, ap}
use Rattle.qtt_term.specs.View.{term}
use Rattle.qtt_envconv.specs.Closures.{closure, values}
use Rattle.qtt_envconv.specs.Shapes.{literal}
use Rattle.qtt_envconv.proofs.Framing.{framed}
use Rattle.qtt_envconv.proofs.frame.taken_apart.Goals as goal

pub returns-in-Some : goal.returns-in-Some
returns-in-Some c =
    let here = rw c.in-Some.is at c.in_ok-place.ensures in
    framed (values c.args.closure.values.now) (term c.args.closure.code.now) (term c.in-Some.component.now)
    (closure c.at.result) c.in-Some.place (map literal c.new.result.items) here.0 here.1
    (ap (map literal) c.new.ensures.items) c.at.ensures
