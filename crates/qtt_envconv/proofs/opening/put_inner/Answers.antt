use Rattle.std.proofs.Common.{arith}
use Rattle.qtt_envconv.proofs.Puts.{put-set, put-past, ready-set}
use Rattle.qtt_envconv.proofs.opening.put_inner.Goals as goal

pub returns-then-place-len-clause-means : goal.returns-then-place-len-clause-means
returns-then-place-len-clause-means c = put-set c.args.parts.now.items c.args.place c.args.inner

pub returns-then-place-len-clause-ready : goal.returns-then-place-len-clause-ready
returns-then-place-len-clause-ready c = λ E hs h.
    ready-set E c.args.parts.now.items c.args.place c.args.inner hs h

pub returns-else-place-len-clause-means : goal.returns-else-place-len-clause-means
returns-else-place-len-clause-means c =
    put-past c.args.parts.now.items c.args.place c.args.inner (omega arith)
