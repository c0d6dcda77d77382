use Rattle.std.proofs.Common.{ap, ◌∙◌, sym}
use Rattle.std.proofs.lemmas.Result.{IfOk-weaker}
use Rattle.qtt_conv.specs.Frames.{plug_all}
use Rattle.qtt_conv.proofs.Stepping.{plug_all-last}
use Rattle.qtt_conv.proofs.spine.resumed.Goals as goal

pub returns-in_ok-inner-in-Some-clause-whole : goal.returns-in_ok-inner-in-Some-clause-whole
returns-in_ok-inner-in-Some-clause-whole c =
    let fs = c.pop.new.self.items in
    IfOk-weaker c.entered.result _ _
    (λ s e. e ∙ ap (plug_all fs) c.in_ok-inner-in-Some.ensures
    ∙ sym (plug_all-last fs c.in-Some.frame _ c.args.frames.items c.in-Some.ensures.items))
    c.entered.ensures.whole
