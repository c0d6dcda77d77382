use Rattle.qtt_term.specs.Entries.{entries, env}
use Rattle.qtt_term.specs.View.{term}
use Rattle.qtt_unify.specs.View.{binders}
use Rattle.qtt_split.specs.Split.{level_of}
use Rattle.qtt_split.specs.Tests.{Test, at}
use Rattle.qtt_split.proofs.Asked.{level-unasked}
use Rattle.qtt_split.proofs.planner.Planner.level_where.Goals as goal

pub returns-else-asked : goal.returns-else-asked
returns-else-asked g c =
    let E = env (entries c.args.self.now.unifier.globals.now) in
    level-unasked E c.args.self.now.unifier.budget c.args.asked
    (level_of E (binders c.args.context.now) (at c.args.span Test.level) (term c.args.goal.now)) c.if-asked.false
