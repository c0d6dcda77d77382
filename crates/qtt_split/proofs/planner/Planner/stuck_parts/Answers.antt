use Rattle.std.proofs.Common.{None, Some, option_map, ap, sym, subst}
use Rattle.qtt_term.specs.Entries.{entries, env}
use Rattle.qtt_term.specs.View.{term}
use Rattle.qtt_rules.specs.Refusal.{Cause}
use Rattle.qtt_unify.specs.Deletion.{deletion}
use Rattle.qtt_unify.specs.View.{deletion as deletion_of}
use Rattle.qtt_split.specs.Answers.{Reaches, Fails, Refuses}
use Rattle.qtt_split.specs.Calls.{group_of}
use Rattle.qtt_split.specs.Divisions.{division_of, stuck_cause}
use Rattle.qtt_split.specs.Nodes.{node_of}
use Rattle.qtt_split.specs.Preparations.{prepared_of}
use Rattle.qtt_split.specs.Prepared.{stuck_parts}
use Rattle.qtt_split.specs.Tests.{Test, at}
use Rattle.qtt_split.proofs.Preparing.{deletion_asked, is-deleted, not-deleted, deletion-refused}
use Rattle.qtt_split.proofs.Within.{passed}
use Rattle.qtt_split.proofs.planner.Planner.stuck_parts.Goals as goal

pub returns-in_err-found : goal.returns-in_err-found
returns-in_err-found g c =
    let E = env (entries c.args.self.now.unifier.globals.now) in
    let n = c.args.self.now.unifier.budget in
    let N = node_of c.args.node.now in
    let D = division_of N.context c.args.division.now in
    let s = stuck_cause c.args.stuck.now in
    let e = c.in_err-found.field-0.0 in
    passed E n _ _ c.from_residual.result e c.from_residual.ensures.1
    (deletion-refused E n N D s e
    (subst (λ S. Refuses E n (deletion (at D.span Test.deletion) D.family S) e) c.over.ensures c.in_err-found.ensures))

pub returns-in_default : goal.returns-in_default
returns-in_default g c =
    let E = env (entries c.args.self.now.unifier.globals.now) in
    let n = c.args.self.now.unifier.budget in
    let N = node_of c.args.node.now in
    let D = division_of N.context c.args.division.now in
    let k = c.args.stuck.now in
    let s = stuck_cause k in
    let p = at D.span Test.equations in
    let none : Reaches E n (deletion_asked E n N D s) None =
    subst (λ o. Reaches E n (deletion_asked E n N D s) o) (ap (option_map deletion_of) c.in_default.is)
    (subst (λ S. Reaches E n (deletion (at D.span Test.deletion) D.family S) (option_map deletion_of
    c.in_ok-found.found)) c.over.ensures c.in_ok-found.ensures) in
    subst (λ e. Refuses E n (stuck_parts N D s) e) (sym c.refused.ensures)
    (subst (λ t. Fails E n (stuck_parts N D s) (Cause.pattern_stuck k.depth t (term c.in_ok-copy-2.field-0)) p)
    (sym c.in_ok-copy.ensures)
    (subst (λ t. Fails E n (stuck_parts N D s) (Cause.pattern_stuck k.depth (term k.left.now) t) p)
    (sym c.in_ok-copy-2.ensures) (not-deleted E n N D s none)))

pub returns : goal.returns
returns g c =
    let E = env (entries c.args.self.now.unifier.globals.now) in
    let n = c.args.self.now.unifier.budget in
    let N = node_of c.args.node.now in
    let D = division_of N.context c.args.division.now in
    let s = stuck_cause c.args.stuck.now in
    let d = deletion_of c.in-Some.found in
    let some : Reaches E n (deletion_asked E n N D s) (Some d) =
    subst (λ o. Reaches E n (deletion_asked E n N D s) o) (ap (option_map deletion_of) c.in-Some.is)
    (subst (λ S. Reaches E n (deletion (at D.span Test.deletion) D.family S) (option_map deletion_of
    c.in_ok-found.found)) c.over.ensures c.in_ok-found.ensures) in
    is-deleted E n N D s d (prepared_of (group_of c.args.self.now)) c.deletion_parts.result some
    c.deletion_parts.ensures
