use Rattle.std.proofs.Common.{◌≡◌, ◌++◌, ◌∷◌, [], ap, ◌∙◌, arith}
use Rattle.std.proofs.lemmas.Grind.{common_steps}
use Rattle.qtt_term.specs.View.{term}
use Rattle.qtt_conv.specs.Frames.{plug_all}
use Rattle.qtt_conv.proofs.Stepping.{plug_all-last, waits-push, component-lighter}
use Rattle.qtt_conv.proofs.spine.entered.Goals as goal

pub loop-frames-smaller : goal.loop-frames-smaller
loop-frames-smaller c =
    let around = rw c.in-Some.is at c.in_ok-frame.ensures in
    component-lighter c.in-Some.frame (term c.in-Some.component.now) (term c.loop-frames.inner.now) around.0

pub loop-frames-preserved : goal.loop-frames-preserved
loop-frames-preserved c =
    let around = rw c.in-Some.is at c.in_ok-frame.ensures in
    let fs = c.loop-frames.frames.items in
    let f = c.in-Some.frame in
    let t = term c.in-Some.component.now in
    let pushed : c.push.new.self.items ≡ fs ++ f ∷ [] = grind (arith, common_steps) in
    record {
      whole = plug_all-last fs f t c.push.new.self.items pushed ∙ ap (plug_all fs) around.0 ∙
          c.loop-frames.invariant.whole;
      waits = waits-push fs f t c.push.new.self.items pushed around.1;
    }
