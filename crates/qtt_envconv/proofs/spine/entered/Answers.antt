-- One frame more.
use Rattle.std.proofs.Common.{◌≡◌, ◌+◌, ◌<◌, ◌++◌, ◌∷◌, [], ap, sym, ◌∙◌, arith}
use Rattle.std.proofs.lemmas.Grind.{common_steps}
use Rattle.qtt_term.specs.Question.{weight}
use Rattle.qtt_envconv.specs.Closures.{closure, referent}
use Rattle.qtt_envconv.specs.Frames.{plug_all, all_behind}
use Rattle.qtt_envconv.proofs.Plugging.{plug_all-last, frames-push, behind-push}
use Rattle.qtt_envconv.proofs.spine.entered.Goals as goal

pub loop-frames-smaller-in-Some : goal.loop-frames-smaller-in-Some
loop-frames-smaller-in-Some c =
    let fs = c.loop-frames.frames.items in
    let f = c.in-Some.frame in
    let all = c.push.new.self.items in
    let around = rw c.in-Some.is at c.in_ok-frame.ensures in
    let pushed : all ≡ fs ++ f ∷ [] = grind (arith, common_steps) in
    let means = sym (ap referent c.in-Closure.is) ∙ c.in_ok-closure.ensures.means in
    let weighs = ap weight means in
    let heavy = behind-push fs f all pushed in
    let lighter = around.2 in
    let smaller : weight (closure c.in-Some.component) + all_behind all < weight (closure c.loop-frames.inner) +
    all_behind fs =
    omega (arith, weighs, heavy, lighter) in
    smaller

pub loop-frames-preserved-in-Some : goal.loop-frames-preserved-in-Some
loop-frames-preserved-in-Some c =
    let fs = c.loop-frames.frames.items in
    let f = c.in-Some.frame in
    let all = c.push.new.self.items in
    let around = rw c.in-Some.is at c.in_ok-frame.ensures in
    let pushed : all ≡ fs ++ f ∷ [] = grind (arith, common_steps) in
    let means = sym (ap referent c.in-Closure.is) ∙ c.in_ok-closure.ensures.means in
    record {
      frames = frames-push fs f all pushed c.loop-frames.invariant.frames around.0;
      whole = plug_all-last fs f (closure c.in-Some.component) all pushed ∙ ap (plug_all fs) (around.1 ∙ means)
          ∙ c.loop-frames.invariant.whole;
    }
