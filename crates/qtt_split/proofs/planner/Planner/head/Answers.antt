use Rattle.std.proofs.Common.{sym, subst}
use Rattle.qtt_rules.specs.Asks.{head_of}
use Rattle.qtt_term.specs.Entries.{entries, env}
use Rattle.qtt_term.specs.View.{term}
use Rattle.qtt_split.specs.Answers.{Refuses}
use Rattle.qtt_split.specs.Calls.{test_of}
use Rattle.qtt_split.specs.Tests.{at}
use Rattle.qtt_split.proofs.Within.{head-reached, head-refused}
use Rattle.qtt_split.proofs.planner.Planner.head.Goals as goal

pub returns-in-Ok : goal.returns-in-Ok
returns-in-Ok g c =
    head-reached (env (entries c.args.self.now.unifier.globals.now)) c.args.self.now.unifier.budget c.args.depth
    (term c.args.t.now) (term c.in-Ok.head) (at c.args.span (test_of c.args.test)) c.in-Ok.ensures

pub returns-in-Err : goal.returns-in-Err
returns-in-Err g c =
    let E = env (entries c.args.self.now.unifier.globals.now) in
    let n = c.args.self.now.unifier.budget in
    let t = term c.args.t.now in
    subst (λ e. Refuses E n (head_of (at c.args.span (test_of c.args.test)) c.args.depth t) e) (sym c.told.ensures)
    (head-refused E n c.args.depth t c.args.span c.args.test c.in-Err.error c.in-Err.ensures)
