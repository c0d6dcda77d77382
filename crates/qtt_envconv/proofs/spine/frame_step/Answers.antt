-- The innermost frame contracts, or the whole has stopped.
use Rattle.std.proofs.Common.{Some, option_map, ap, sym, subst, ◌∙◌}
use Rattle.qtt_term.specs.Question.{head_step}
use Rattle.qtt_envconv.specs.Closures.{closure}
use Rattle.qtt_envconv.specs.Frames.{plug, plug_all, focus, HasStopped}
use Rattle.qtt_envconv.proofs.Plugging.{plug_all-last, frames-pop, frame-steps, frame-stops, plugged-stops}
use Rattle.qtt_envconv.proofs.spine.frame_step.Goals as goal

pub frame_contracted-requires-clause-frame : goal.frame_contracted-requires-clause-frame
frame_contracted-requires-clause-frame c =
    (frames-pop c.pop.new.self.items c.in-Some.frame c.args.frames.items c.in-Some.ensures.items c.requires.frames).1

pub entered-requires : goal.entered-requires
entered-requires c =
    (frames-pop c.pop.new.self.items c.in-Some.frame c.args.frames.items c.in-Some.ensures.items c.requires.frames).0

pub returns-in-Some-2 : goal.returns-in-Some-2
returns-in-Some-2 c = λ E h.
    let fs = c.pop.new.self.items in
    let f = c.in-Some.frame in
    let t = focus c.args.focus in
    let all = c.args.frames.items in
    let is = c.in-Some.ensures.items in
    let parts = frames-pop fs f all is c.requires.frames in
    let contracts = sym (c.in_ok-closure-in-Some.ensures E) ∙ ap (option_map closure) c.in-Some-2.is in
    let entered = c.in_ok-entered-in-Some-2.ensures in (
      ap (head_step E) (plug_all-last fs f t all is)
          ∙ frame-steps E fs (plug f t) (closure c.in-Some-2.closure) parts.0 contracts
          ∙ ap Some (sym entered.whole),
      entered.settled,
    )

pub rebuilt-requires : goal.rebuilt-requires
rebuilt-requires c =
    (frames-pop c.pop.new.self.items c.in-Some.frame c.args.frames.items c.in-Some.ensures.items c.requires.frames).0

pub returns-in-Some : goal.returns-in-Some
returns-in-Some c = λ E h.
    let fs = c.pop.new.self.items in
    let f = c.in-Some.frame in
    let t = focus c.args.focus in
    let all = c.args.frames.items in
    let is = c.in-Some.ensures.items in
    let parts = frames-pop fs f all is c.requires.frames in
    let waits = sym (c.in_ok-closure-in-Some.ensures E) ∙ ap (option_map closure) c.in-None-2.is in
    let stops = frame-stops E f t parts.1 (c.requires.waits fs f is) waits h in
    let whole = plugged-stops E fs (plug f t) parts.0 stops in
    let head = c.in_ok-head_of-in-None-2.ensures in
    let inner = c.in_ok-inner-in-None-2.ensures in
    let rebuilt = c.in_ok-rebuilt-in-None-2.ensures in
    let means = inner.means ∙ ap (plug f) head.means in (
      ap (head_step E) (plug_all-last fs f t all is) ∙ whole.0,
      rebuilt.means ∙ ap (plug_all fs) means ∙ sym (plug_all-last fs f t all is),
      rebuilt.ready E (subst (HasStopped E) (sym means) stops)
          (inner.ready E (ap (λ u. head_step E (plug f u)) head.means ∙ stops.0) (head.ready E h)),
    )
