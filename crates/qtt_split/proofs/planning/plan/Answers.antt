use Rattle.std.proofs.Common.{map, subst}
use Rattle.qtt_term.specs.Contexts.{part}
use Rattle.qtt_term.specs.Entries.{entries, env}
use Rattle.qtt_term.specs.Scope.{name_of}
use Rattle.qtt_term.specs.View.{term}
use Rattle.qtt_term.proofs.Kept.{globals-closed}
use Rattle.qtt_split.specs.Answers.{Gives}
use Rattle.qtt_split.specs.Calls.{clause_of}
use Rattle.qtt_split.specs.Plan.{plan}
use Rattle.qtt_split.specs.Planned.{group_with, planned_of}
use Rattle.qtt_split.proofs.Meant.{plans-so}
use Rattle.qtt_split.proofs.planning.plan.Goals as goal

pub returns : goal.returns
returns g c =
    let K = entries c.args.globals.now in
    let cs = map clause_of c.args.clauses.now in
    let G = group_with K (part c.args.sigma) c.args.clauses.now in
    let A = term c.args.ty.now in
    let labels = map name_of c.args.labels.now in
    plans-so G c.args.budget A labels (globals-closed c.args.globals.now) c.planned.result
    (subst (λ s. Gives (env K) c.args.budget
    (plan (record { globals = K; part = part c.args.sigma; clauses = cs; first = s; limit = G.limit }) A labels)
    planned_of c.planned.result) c.first_place.ensures
    (subst (λ l. Gives (env K) c.args.budget
    (plan (record {
      globals = K;
      part = part c.args.sigma;
      clauses = cs;
      first = c.first_place.result;
      limit = l.leaves;
    }) A labels) planned_of c.planned.result) c.standard.ensures c.planned.ensures))
