use Rattle.std.proofs.Common.{sym, subst}
use Rattle.qtt_usage.specs.Mult.{fits}
use Rattle.qtt_term.specs.Contexts.{part}
use Rattle.qtt_term.specs.Entries.{env}
use Rattle.qtt_rules.specs.Report.{uses_pass}
use Rattle.qtt_bidi.specs.Answers.{Reaches}
use Rattle.qtt_bidi.proofs.Within.{on_done}
use Rattle.qtt_split.specs.View.{leaf_of}
use Rattle.qtt_module.specs.GroupCalls.{globals_of}
use Rattle.qtt_module.proofs.groups.Group.uses_fit.Goals as goal

pub returns-in-Erased : goal.returns-in-Erased
returns-in-Erased g c =
    let l = leaf_of c.args.leaf.now in
    subst (λ s. Reaches (env (globals_of c.args.self.now)) c.args.self.now.elaborator.budget
    (uses_pass fits (part s) l.context c.args.uses.now l.reported) tt) (sym c.in-Erased.is) on_done
