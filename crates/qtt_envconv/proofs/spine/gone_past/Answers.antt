-- A literal in the place of the innermost frame.
use Rattle.std.proofs.Common.{◌≡◌, ◌++◌, ◌∷◌, [], map, length, ap, sym, ◌∙◌, arith}
use Rattle.std.proofs.lemmas.Grind.{common_steps}
use Rattle.qtt_term.specs.Contraction.{literal_term}
use Rattle.qtt_envconv.specs.Closures.{closure, values}
use Rattle.qtt_envconv.specs.Shapes.{literal}
use Rattle.qtt_envconv.specs.Nodes.{over_in}
use Rattle.qtt_envconv.specs.Frames.{plug_all}
use Rattle.qtt_term.specs.View.{term}
use Rattle.qtt_envconv.proofs.Plugging.{plug_all-last, frames-push, frames-pop, behind-push, waits-no_literal, call-no_literal}
use Rattle.qtt_envconv.proofs.spine.gone_past.Goals as goal

pub past-requires : goal.past-requires
past-requires c =
    (frames-pop c.pop.new.self.items c.in-Some.frame c.args.frames.items c.in-Some.ensures.items c.requires).1

pub returns-in_ok-push-in-Next : goal.returns-in_ok-push-in-Next
returns-in_ok-push-in-Next c =
    let fs = c.pop.new.self.items in
    let f = c.in-Some.frame in
    let g = c.in-Next.frame in
    let all = c.push.new.self.items in
    let before = c.args.frames.items in
    let popped = c.in-Some.ensures.items in
    let went = rw c.in-Next.is at c.in_ok-frame-in-Some.ensures in
    let pushed : all ≡ fs ++ g ∷ [] = grind (arith, common_steps) in
    let heavy = behind-push fs g all pushed in
    let was_heavy = behind-push fs f before popped in
    let passed = went.2 in (
      frames-push fs g all pushed (frames-pop fs f before popped c.requires).0 went.0,
      plug_all-last fs g (closure c.in-Next.next) all pushed ∙ ap (plug_all fs) went.1
          ∙ sym (plug_all-last fs f (literal_term (literal c.args.literal)) before popped),
      omega (arith, heavy, was_heavy, passed),
    )

pub returns-in-Last : goal.returns-in-Last
returns-in-Last c =
    let fs = c.pop.new.self.items in
    let f = c.in-Some.frame in
    let before = c.args.frames.items in
    let popped = c.in-Some.ensures.items in
    let went = rw c.in-Last.is at c.in_ok-frame-in-Some.ensures in
    let code = c.in-Last.closure in
    let ls = map literal c.in-Last.literals.items in (
      record {
        focus = went.0;
        frames = (frames-pop fs f before popped c.requires).0;
        waits = waits-no_literal fs (over_in ls (closure code))
            (call-no_literal (length c.in-Last.literals.items) ls (values code.values.now) (term code.code.now) went.0);
      },
      ap (plug_all fs) went.1 ∙ sym (plug_all-last fs f (literal_term (literal c.args.literal)) before popped),
    )
