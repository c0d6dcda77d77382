use Rattle.qtt_envconv.proofs.node.Stopped.opened.Goals as goal

pub returns-in-Form-clause-ready : goal.returns-in-Form-clause-ready
returns-in-Form-clause-ready c = λ E h.
    let opened = rw c.in-Form.is at c.in_ok-index.ensures.ready in
    c.put_inner.ensures.ready E (c.put_literals.ensures.ready E (opened E)) h
