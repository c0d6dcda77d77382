use Rattle.std.proofs.Common.{◌≡◌, None, sym, subst}
use Rattle.qtt_match.specs.Constructors.{named_constructor}
use Rattle.qtt_term.specs.Entries.{entries, env}
use Rattle.qtt_split.specs.Answers.{Reaches}
use Rattle.qtt_split.specs.Plan.{has_count}
use Rattle.qtt_split.proofs.Within.{on_done}
use Rattle.qtt_split.proofs.planner.Planner.has_count.Goals as goal

pub returns-in-None : goal.returns-in-None
returns-in-None g c =
    let K = entries c.args.self.now.unifier.globals.now in
    let none : named_constructor K.families c.args.name.now.target ≡ None =
    sym (rw c.in-None.is at c.named_constructor.ensures) in
    subst (λ o. Reaches (env K) c.args.self.now.unifier.budget (has_count K o c.args.count c.args.span) tt) (sym none)
    on_done
