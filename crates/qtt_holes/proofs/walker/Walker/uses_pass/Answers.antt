use Rattle.std.proofs.Common.{map, subst, sym}
use Rattle.qtt_term.specs.Contexts.{part}
use Rattle.qtt_term.specs.Entries.{entries, env}
use Rattle.qtt_rules.specs.Report.{uses_pass}
use Rattle.qtt_bidi.specs.Answers.{Reaches}
use Rattle.qtt_bidi.specs.Seen.{locals}
use Rattle.qtt_bidi.proofs.Within.{on_done}
use Rattle.qtt_holes.specs.Hole.{fits_before}
use Rattle.qtt_holes.specs.View.{report_of}
use Rattle.qtt_holes.proofs.walker.Walker.uses_pass.Goals as goal

pub returns-in-Erased : goal.returns-in-Erased
returns-in-Erased g c =
    let E = env (entries c.args.self.now.elaborator.globals.now) in
    let N = c.args.self.now.elaborator.budget in
    let Γ = (locals c.args.scope.now).vars in
    let rs = map report_of c.args.reports.now in
    subst (λ s. Reaches E N (uses_pass fits_before (part s) Γ c.args.uses.now rs) tt) (sym c.in-Erased.is) on_done
