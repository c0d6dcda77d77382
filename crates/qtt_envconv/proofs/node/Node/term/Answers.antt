use Rattle.std.proofs.Common.{◌∙◌, sym, arith}
use Rattle.qtt_term.specs.View.{terms}
use Rattle.qtt_envconv.proofs.Finishing.{last-makes, last-doable, others-doable, last-effort}
use Rattle.qtt_envconv.proofs.node.Node.term.Goals as goal

pub perform-requires : goal.perform-requires
perform-requires c =
    last-doable c.pop.new.self.items c.loop-task.tasks.items c.in-Some.task (terms c.loop-task.built.items)
    c.in-Some.ensures.items c.loop-task.invariant.doable

pub loop-task-smaller : goal.loop-task-smaller
loop-task-smaller c =
    let all = last-effort c.pop.new.self.items c.loop-task.tasks.items c.in-Some.task c.in-Some.ensures.items in
    omega (arith, all, c.in_ok-perform.ensures.less)

pub loop-task-preserved : goal.loop-task-preserved
loop-task-preserved c =
    let ks = c.pop.new.self.items in
    let ls = c.loop-task.tasks.items in
    let bs = terms c.loop-task.built.items in
    record {
      makes =
          c.in_ok-perform.ensures.makes
          ∙ sym (last-makes ks ls c.in-Some.task bs c.in-Some.ensures.items)
          ∙ c.loop-task.invariant.makes;
      doable =
          c.in_ok-perform.ensures.doable
          (others-doable ks ls c.in-Some.task bs c.in-Some.ensures.items c.loop-task.invariant.doable);
    }
