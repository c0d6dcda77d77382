use Rattle.std.proofs.Common.{map, subst, sym}
use Rattle.qtt_usage.specs.Mult.{fits}
use Rattle.qtt_term.specs.Contexts.{variables}
use Rattle.qtt_term.specs.Entries.{env}
use Rattle.qtt_term.specs.Judgement.{Part}
use Rattle.qtt_rules.specs.Report.{uses_pass}
use Rattle.qtt_bidi.specs.Answers.{Reaches, Refuses, Gives}
use Rattle.qtt_bidi.proofs.Taking.{nothing-in, first-in}
use Rattle.qtt_bidi.proofs.Within.{on_done, here, passed, tail}
use Rattle.qtt_split.specs.View.{report_of}
use Rattle.qtt_module.specs.GroupCalls.{globals_of}
use Rattle.qtt_module.proofs.groups.Group.+all_fit.Goals as goal

pub returns-in-empty : goal.returns-in-empty
returns-in-empty g t c =
    let E = env (globals_of c.args.self.now) in
    let N = c.args.self.now.elaborator.budget in
    let Γ = variables c.args.context.now in
    subst (λ rs. Reaches E N (uses_pass fits Part.run Γ c.args.uses.now (map report_of rs)) tt)
    (sym (nothing-in c.args.reports.now c.in-empty.len_below)) on_done

pub returns-in_err-use_fits-in-len1-up : goal.returns-in_err-use_fits-in-len1-up
returns-in_err-use_fits-in-len1-up g t c =
    let E = env (globals_of c.args.self.now) in
    let N = c.args.self.now.elaborator.budget in
    let Γ = variables c.args.context.now in
    let e = c.in_err-use_fits-in-len1-up.field-0.0 in
    passed _ _ _ _ c.from_residual.result e c.from_residual.ensures.1
    (subst (λ rs. Refuses E N (uses_pass fits Part.run Γ c.args.uses.now (map report_of rs)) e)
    (sym (first-in c.args.reports.now c.first-item.result c.in-len1-up.len_at_least c.first-item.is))
    (here _ _ _ _ _ c.in_err-use_fits-in-len1-up.ensures))

pub returns-in_ok-use_fits-in-len1-up : goal.returns-in_ok-use_fits-in-len1-up
returns-in_ok-use_fits-in-len1-up g t c =
    let E = env (globals_of c.args.self.now) in
    let N = c.args.self.now.elaborator.budget in
    let Γ = variables c.args.context.now in
    let r = c.all_fit.result in
    subst (λ rs. Gives E N (uses_pass fits Part.run Γ c.args.uses.now (map report_of rs)) (λ u. u) r)
    (sym (first-in c.args.reports.now c.first-item.result c.in-len1-up.len_at_least c.first-item.is))
    (tail _ _ _ _ (λ u. u) r c.in_ok-use_fits-in-len1-up.ensures c.all_fit.ensures)
