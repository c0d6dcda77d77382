use Rattle.qtt_term.specs.Globals.{env}
use Rattle.qtt_envconv.proofs.Stacking.{ready-popped}
use Rattle.qtt_envconv.proofs.comparing.one_round.Goals as goal

pub pair_taken-requires-clause-stack : goal.pair_taken-requires-clause-stack
pair_taken-requires-clause-stack c =
    (ready-popped (env c.args.env.now) c.pop.new.self.items c.in-Some.pair c.loop-pair.stack.items
    c.in-Some.ensures.items c.loop-pair.invariant.ready).0

pub pair_taken-requires-clause-left : goal.pair_taken-requires-clause-left
pair_taken-requires-clause-left c =
    (ready-popped (env c.args.env.now) c.pop.new.self.items c.in-Some.pair c.loop-pair.stack.items
    c.in-Some.ensures.items c.loop-pair.invariant.ready).1

pub pair_taken-requires-clause-right : goal.pair_taken-requires-clause-right
pair_taken-requires-clause-right c =
    (ready-popped (env c.args.env.now) c.pop.new.self.items c.in-Some.pair c.loop-pair.stack.items
    c.in-Some.ensures.items c.loop-pair.invariant.ready).2
