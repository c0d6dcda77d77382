use Rattle.std.proofs.Common.{◌≡◌, ◌∙◌, ◌+◌, ◌++◌, [], ◌∷◌, Vec, Global, ap, subst, sym, refl}
use Rattle.qtt_term.specs.Entries.{entries}
use Rattle.qtt_unify.specs.View.{all_terms}
use Rattle.qtt_split.specs.declared.frames.Frame as code_frame
use Rattle.qtt_split.specs.Motive.{at_variable}
use Rattle.qtt_split.specs.Ways.{Step, aim_of, frame_of, way_of, step_of, inside}
use Rattle.qtt_split.proofs.Stepping.{LedSoFar, one-passed, one-framed}
use Rattle.qtt_split.proofs.motive.through.Goals.{in-Variable+in_ok-pass-in-Variable, in-Constructor+in_ok-way-in-Constructor+in_ok-push-in-Constructor}
use Rattle.qtt_split.proofs.motive.through.Goals as goal

pub loop-step-preserved : goal.loop-step-preserved
loop-step-preserved c =
    let a = aim_of c.args.aim.now in
    let K = entries c.args.aim.now.globals.now in
    let ss = c.args.steps.now in
    let begun = way_of c.args.begun in
    let i = c.loop-step.step-index in
    let fs = c.loop-step.frames.items in
    let v = way_of c.loop-step.way in
    let u = way_of c.match-step.way' in
    let s = c.step-item.result in
    elim c.match-step.branch [
      | in-Variable+in_ok-pass-in-Variable w ↦
          let x = w.in-Variable.variable in
          let step : step_of s ≡ Step.at x = ap step_of w.in-Variable.is in
          let way : u ≡ at_variable x v = ap way_of w.way'-is ∙ w.in_ok-pass-in-Variable.ensures in
          let frames : c.match-step.frames.items ≡ fs =
          ap (λ (y : Vec code_frame.Frame Global). y.items) w.frames-is in
          subst (λ ys. LedSoFar a ss begun (i + 1) ys u) (sym frames)
          (one-passed a ss begun i fs v u s x c.loop-step-test.true c.step-item.is step way c.loop-step.invariant)
      | in-Constructor+in_ok-way-in-Constructor+in_ok-push-in-Constructor w ↦
          let f : code_frame.Frame = record {
            con = w.in-Constructor.con;
            params = w.in-Constructor.params;
            way = c.loop-step.way;
          } in
          let step : step_of s ≡ Step.made_of f.con (all_terms f.params.now) = ap step_of w.in-Constructor.is in
          let way : u ≡ inside K (frame_of f) = ap way_of w.way'-is ∙ w.in_ok-way-in-Constructor.ensures in
          let frames : c.match-step.frames.items ≡ fs ++ f ∷ [] =
          ap (λ (y : Vec code_frame.Frame Global). y.items) w.frames-is ∙ w.in_ok-push-in-Constructor.ensures.items in
          subst (λ ys. LedSoFar a ss begun (i + 1) ys u) (sym frames)
          (one-framed K a ss begun i fs v u s f refl c.loop-step-test.true c.step-item.is step refl way
          c.loop-step.invariant)
    ]
