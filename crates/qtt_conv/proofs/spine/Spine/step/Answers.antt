use Rattle.std.proofs.Common.{Some, option_map, ap, ◌∙◌, sym}
use Rattle.std.proofs.lemmas.Result.{IfOk-weaker}
use Rattle.qtt_term.specs.Globals.{env}
use Rattle.qtt_term.specs.View.{term}
use Rattle.qtt_conv.proofs.Plugging.{step-plugged}
use Rattle.qtt_conv.proofs.Contracting.{focus-steps}
use Rattle.qtt_conv.proofs.spine.Spine.step.Goals as goal

pub returns-in_ok-resumed-in-Some : goal.returns-in_ok-resumed-in-Some
returns-in_ok-resumed-in-Some c =
    let E = env c.args.env.now in
    let t = term c.args.self.focus in
    let steps = focus-steps E t c.requires.focus ∙ sym c.in_ok-contracted.ensures ∙ ap (option_map term) c.in-Some.is in
    let r = c.in_ok-resumed-in-Some.ensures in
    (step-plugged E c.args.self.frames.items t (term c.in-Some.contracted) steps ∙ ap Some (sym r.whole), r.settled)

pub returns-in-None : goal.returns-in-None
returns-in-None c =
    let E = env c.args.env.now in
    let stays = focus-steps E (term c.args.self.focus) c.requires.focus ∙ sym c.in_ok-contracted.ensures ∙
    ap (option_map term) c.in-None.is in
    IfOk-weaker c.frame_step.result _ _ (λ s steps. steps E stays) c.frame_step.ensures
