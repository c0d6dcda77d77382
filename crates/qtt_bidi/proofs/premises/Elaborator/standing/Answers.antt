use Rattle.std.proofs.Common.{ap}
use Rattle.qtt_term.specs.Contexts.{part}
use Rattle.qtt_term.specs.Entries.{entries}
use Rattle.qtt_term.specs.View.{term}
use Rattle.qtt_bidi.specs.Seen.{locals, judged_as}
use Rattle.qtt_bidi.proofs.Accepted.{standing-erased, standing-run}
use Rattle.qtt_bidi.proofs.premises.Elaborator.standing.Goals as goal

pub returns-in-Erased-clause-gives : goal.returns-in-Erased-clause-gives
returns-in-Erased-clause-gives g c =
    standing-erased (entries c.args.self.now.globals.now) c.args.self.now.budget (locals c.args.scope.now) c.args.span
    (term c.args.stands) (term c.args.ty) (part c.args.sigma) judged_as c.plain.result (ap part c.in-Erased.is)
    c.requires c.plain.ensures.gives

pub returns-in-Run-clause-gives : goal.returns-in-Run-clause-gives
returns-in-Run-clause-gives g c =
    standing-run (entries c.args.self.now.globals.now) c.args.self.now.budget (locals c.args.scope.now) c.args.span
    (term c.args.stands) (term c.args.ty) (part c.args.sigma) judged_as c.accepted.result (ap part c.in-Run.is)
    c.requires c.accepted.ensures.gives
