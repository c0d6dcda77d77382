use Rattle.std.proofs.Common.{subst}
use Rattle.qtt_envconv.specs.Nodes.{IsReady}
use Rattle.qtt_envconv.proofs.node.Node.opened.Goals as goal

pub returns-in-Closure-clause-ready : goal.returns-in-Closure-clause-ready
returns-in-Closure-clause-ready c = λ E h. c.opened.ensures.ready E

pub returns-in-Stopped-clause-ready : goal.returns-in-Stopped-clause-ready
returns-in-Stopped-clause-ready c = λ E h.
    c.opened-in-Stopped.ensures.ready E (subst (IsReady E) c.in-Stopped.is h).1
