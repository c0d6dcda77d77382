use Rattle.std.proofs.Common.{map, subst}
use Rattle.qtt_term.specs.Ask.{Ask, ◌>>=◌}
use Rattle.qtt_term.specs.Entries.{entries, env}
use Rattle.qtt_term.specs.View.{term}
use Rattle.qtt_unify.specs.View.{verdict}
use Rattle.qtt_split.specs.Answers.{Reaches, Refuses}
use Rattle.qtt_split.specs.Calls.{group_of}
use Rattle.qtt_split.specs.Divisions.{division_of}
use Rattle.qtt_split.specs.Nodes.{node_of}
use Rattle.qtt_split.specs.Prepared.{Prepared, motive_at, site, split_reverts}
use Rattle.qtt_split.proofs.Within.{on, on_done, passed, here, later}
use Rattle.qtt_split.proofs.planner.Planner.split_parts.Goals as goal

pub returns-in_err-reverted : goal.returns-in_err-reverted
returns-in_err-reverted g c =
    let E = env (entries c.args.self.now.unifier.globals.now) in
    let n = c.args.self.now.unifier.budget in
    let G = group_of c.args.self.now in
    let N = node_of c.args.node.now in
    let D = division_of N.context c.args.division in
    let vs = map verdict c.args.verdicts.items in
    let e = c.in_err-reverted.field-0.0 in
    passed E n _ _ c.from_residual.result e c.from_residual.ensures.1
    (here E n (split_reverts N D)
    (λ rs. motive_at G N D rs >>= (λ P. Ask.done (Prepared.split (site G N D rs P) vs))) e c.in_err-reverted.ensures)

pub returns-in_err-motive : goal.returns-in_err-motive
returns-in_err-motive g c =
    let E = env (entries c.args.self.now.unifier.globals.now) in
    let n = c.args.self.now.unifier.budget in
    let G = group_of c.args.self.now in
    let N = node_of c.args.node.now in
    let D = division_of N.context c.args.division in
    let vs = map verdict c.args.verdicts.items in
    let rs = c.in_ok-reverted.reverted.items in
    let e = c.in_err-motive.field-0.0 in
    passed E n _ _ c.from_residual-in_err-motive.result e c.from_residual-in_err-motive.ensures.1
    (later E n (split_reverts N D)
    (λ rs. motive_at G N D rs >>= (λ P. Ask.done (Prepared.split (site G N D rs P) vs))) e c.in_ok-reverted.ensures
    (here E n (motive_at G N D rs) (λ P. Ask.done (Prepared.split (site G N D rs P) vs)) e
    (subst (λ rs. Refuses E n (motive_at G N D rs) e) c.deref.ensures.value c.in_err-motive.ensures)))

pub returns : goal.returns
returns g c =
    let E = env (entries c.args.self.now.unifier.globals.now) in
    let n = c.args.self.now.unifier.budget in
    let G = group_of c.args.self.now in
    let N = node_of c.args.node.now in
    let D = division_of N.context c.args.division in
    let vs = map verdict c.args.verdicts.items in
    let rs = c.in_ok-reverted.reverted.items in
    let P = term c.in_ok-motive.motive in
    let motive : Reaches E n (motive_at G N D rs) P =
    subst (λ rs. Reaches E n (motive_at G N D rs) P) c.deref.ensures.value c.in_ok-motive.ensures in
    on {E = E} {n = n} {m = split_reverts N D}
    (λ rs. motive_at G N D rs >>= (λ P. Ask.done (Prepared.split (site G N D rs P) vs))) c.in_ok-reverted.ensures
    (on {E = E} {n = n} {m = motive_at G N D rs} (λ P. Ask.done (Prepared.split (site G N D rs P) vs)) motive on_done)
