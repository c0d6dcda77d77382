use Rattle.std.proofs.Common.{◌≡◌, ◌∙◌, sym, ap, subst}
use Rattle.qtt_term.specs.Entries.{entries}
use Rattle.qtt_module.specs.Declaring.{all_declared}
use Rattle.qtt_module.specs.Module.{start, in_turn}
use Rattle.qtt_module.specs.Stages.{RefusedSo, home, stage_of}
use Rattle.qtt_module.specs.Text.{standing_in_turn}
use Rattle.qtt_module.proofs.Telling.{told-gives}
use Rattle.qtt_module.proofs.text.items_in_turn.Goals as goal

pub returns : goal.returns
returns g c = λ ds h.
    let M = home c.args.judge.now in
    let n = c.args.judge.now.budget in
    let S = stage_of c.new-stage.result in
    let H = entries c.declare_all.new.self.globals in
    let e = c.in-Err.error in
    let same : all_declared c.deref.result.now ≡ ds =
    ap all_declared c.deref.ensures.value ∙ c.in_ok-declarations.ensures ∙ sym h in
    let S₀ = start (entries c.args.globals) in
    told-gives M.name n (standing_in_turn M n S₀ ds) (in_turn M n S₀ ds) stage_of H c.told.result e
    (subst (λ S. RefusedSo n (in_turn M n S ds) H (standing_in_turn M n S ds) e) c.new-stage.ensures
    (subst (λ ds. RefusedSo n (in_turn M n S ds) H (standing_in_turn M n S ds) e) same c.in-Err.ensures))
    c.told.ensures
