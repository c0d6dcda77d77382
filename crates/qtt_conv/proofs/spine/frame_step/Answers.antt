use Rattle.std.proofs.Common.{Some, option_map, ap, ◌∙◌, sym}
use Rattle.qtt_term.specs.View.{term}
use Rattle.qtt_conv.specs.Frames.{plug_all}
use Rattle.qtt_conv.proofs.Stepping.{plug_all-last, frame-steps, frame-stuck}
use Rattle.qtt_conv.proofs.spine.frame_step.Goals as goal

pub returns-in_ok-resumed-in-Some-2 : goal.returns-in_ok-resumed-in-Some-2
returns-in_ok-resumed-in-Some-2 c = λ E h.
    let fs = c.pop.new.self.items in
    let f = c.in-Some.frame in
    let t = term c.args.focus in
    let is = c.in-Some.ensures.items in
    let contracts = sym (c.in_ok-contracted-in-Some.ensures E (c.requires fs f is)) ∙
    ap (option_map term) c.in-Some-2.is in
    let r = c.in_ok-resumed-in-Some-2.ensures in (
      frame-steps E fs f t (term c.in-Some-2.contracted) c.args.frames.items is contracts ∙ ap Some (sym r.whole),
      r.settled,
    )

pub returns-in_ok-rebuilt-in-None-2 : goal.returns-in_ok-rebuilt-in-None-2
returns-in_ok-rebuilt-in-None-2 c = λ E h.
    let fs = c.pop.new.self.items in
    let f = c.in-Some.frame in
    let t = term c.args.focus in
    let is = c.in-Some.ensures.items in
    let fits = c.requires fs f is in
    let waits = sym (c.in_ok-contracted-in-Some.ensures E fits) ∙ ap (option_map term) c.in-None-2.is in (
      frame-stuck E fs f t c.args.frames.items is fits waits h,
      c.in_ok-rebuilt-in-None-2.ensures ∙ ap (plug_all fs) c.in_ok-inner-in-None-2.ensures ∙
          sym (plug_all-last fs f t c.args.frames.items is),
    )
