-- One frame fewer.
use Rattle.std.proofs.Common.{ap, sym, subst, ◌∙◌}
use Rattle.qtt_envconv.specs.Nodes.{node}
use Rattle.qtt_envconv.specs.Frames.{plug_all, HasStopped}
use Rattle.qtt_envconv.proofs.Plugging.{plug_all-last, frames-pop, stopped-stops}
use Rattle.qtt_envconv.proofs.spine.rebuilt.Goals as goal

pub loop-frame-preserved : goal.loop-frame-preserved
loop-frame-preserved c =
    let fs = c.pop.new.self.items in
    let f = c.in-Some.frame in
    let all = c.loop-frame.frames.items in
    let is = c.in-Some.ensures.items in
    let inner = node c.loop-frame.head in
    let means = c.in_ok-head.ensures.means in
    let parts = frames-pop fs f all is c.loop-frame.invariant.frames in
    record {
      frames = parts.0;
      whole = ap (plug_all fs) means ∙ sym (plug_all-last fs f inner all is) ∙ c.loop-frame.invariant.whole;
      ready = λ E s r.
          let before = c.loop-frame.invariant.ready E s r in
          let stops = stopped-stops E f inner parts.1 before.0 in
          (subst (HasStopped E) (sym means) stops, c.in_ok-head.ensures.ready E stops.0 before.1);
    }
