-- What stands in the innermost place contracts.
use Rattle.std.proofs.Common.{Some, option_map, ap, sym, ◌∙◌}
use Rattle.qtt_term.specs.Globals.{env}
use Rattle.qtt_envconv.specs.Frames.{focus, reduct}
use Rattle.qtt_envconv.proofs.Plugging.{step-plugged}
use Rattle.qtt_envconv.proofs.spine.Spine.step.Goals as goal

pub returns-in-Some : goal.returns-in-Some
returns-in-Some c =
    let steps = sym c.in_ok-reduct.ensures ∙ ap (option_map reduct) c.in-Some.is in
    let resumed = c.in_ok-resumed-in-Some.ensures in (
      step-plugged (env c.args.env.now) c.args.self.frames.items (focus c.args.self.focus) (reduct c.in-Some.reduct)
          c.requires.frames steps
          ∙ ap Some (sym resumed.whole),
      resumed.settled,
    )
