use Rattle.std.proofs.Common.{ap, ◌∙◌, sym}
use Rattle.qtt_term.specs.View.{term}
use Rattle.qtt_conv.specs.Frames.{plug_all}
use Rattle.qtt_conv.proofs.Stepping.{plug_all-last}
use Rattle.qtt_conv.proofs.spine.rebuilt.Goals as goal

pub loop-frame-preserved : goal.loop-frame-preserved
loop-frame-preserved c =
    let fs = c.pop.new.self.items in
    ap (plug_all fs) c.in_ok-inner.ensures ∙
    sym (plug_all-last fs c.in-Some.frame (term c.loop-frame.inner) c.loop-frame.frames.items
    c.in-Some.ensures.items) ∙ c.loop-frame.invariant
