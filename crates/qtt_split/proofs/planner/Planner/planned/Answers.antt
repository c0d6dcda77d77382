use Rattle.std.proofs.Common.{◌≡◌, ◌∙◌, ◌+◌, suc, [], map, ap, subst, arith}
use Rattle.qtt_term.specs.Entries.{entries, env}
use Rattle.qtt_term.specs.Scope.{name_of}
use Rattle.qtt_term.specs.View.{term}
use Rattle.qtt_split.specs.Answers.{Reaches, Refuses}
use Rattle.qtt_split.specs.Calls.{group_of, opened_of}
use Rattle.qtt_split.specs.Ends.{grown_of}
use Rattle.qtt_split.specs.Node.{all_constructors}
use Rattle.qtt_split.specs.Nodes.{node_of}
use Rattle.qtt_split.specs.Plan.{opened, so_wide}
use Rattle.qtt_split.specs.Prepared.{grow_below}
use Rattle.qtt_split.proofs.Meant.{wide-refused, full-refused, opened-refused, grown-refused, all-planned}
use Rattle.qtt_split.proofs.Within.{passed}
use Rattle.qtt_split.proofs.planner.Planner.planned.Goals as goal

pub returns-in_err-so_wide : goal.returns-in_err-so_wide
returns-in_err-so_wide g c =
    let E = env (entries c.args.self.now.unifier.globals.now) in
    let n = c.args.self.now.unifier.budget in
    let G = group_of c.args.self.now in
    let e = c.in_err-so_wide.field-0.0 in
    passed E n _ _ c.from_residual.result e c.from_residual.ensures.1
    (wide-refused E n G (term c.args.ty.now) (map name_of c.args.labels.now) e
    (subst (λ k. Refuses E n (so_wide k G.clauses) e) c.width-width.ensures c.in_err-so_wide.ensures))

pub returns-in_err-clauses_full : goal.returns-in_err-clauses_full
returns-in_err-clauses_full g c =
    let E = env (entries c.args.self.now.unifier.globals.now) in
    let n = c.args.self.now.unifier.budget in
    let G = group_of c.args.self.now in
    let e = c.in_err-clauses_full.field-0.0 in
    passed E n _ _ c.from_residual-in_err-clauses_full.result e c.from_residual-in_err-clauses_full.ensures.1
    (full-refused E n G (term c.args.ty.now) (map name_of c.args.labels.now) e
    (subst (λ k. Reaches E n (so_wide k G.clauses) tt) c.width-width.ensures c.in_ok-so_wide.ensures)
    c.in_err-clauses_full.ensures)

pub returns-in_err-opened : goal.returns-in_err-opened
returns-in_err-opened g c =
    let E = env (entries c.args.self.now.unifier.globals.now) in
    let n = c.args.self.now.unifier.budget in
    let G = group_of c.args.self.now in
    let A = term c.args.ty.now in
    let e = c.in_err-opened.field-0.0 in
    passed E n _ _ c.from_residual-in_err-opened.result e c.from_residual-in_err-opened.ensures.1
    (opened-refused E n G A (map name_of c.args.labels.now) e
    (subst (λ k. Reaches E n (so_wide k G.clauses) tt) c.width-width.ensures c.in_ok-so_wide.ensures)
    c.in_ok-clauses_full.ensures
    (subst (λ k. Refuses E n (opened G.first k [] A) e) c.width-width.ensures c.in_err-opened.ensures))

pub returns-in_err-grown : goal.returns-in_err-grown
returns-in_err-grown g c =
    let E = env (entries c.args.self.now.unifier.globals.now) in
    let n = c.args.self.now.unifier.budget in
    let G = group_of c.args.self.now in
    let A = term c.args.ty.now in
    let labels = map name_of c.args.labels.now in
    let O = opened_of c.in_ok-opened.opened in
    let e = c.in_err-grown.field-0.0 in
    let k = all_constructors G.clauses in
    let splits : c.in_ok-splits.splits ≡ suc k =
    c.in_ok-splits.ensures ∙ ap (λ m. m + 1) c.in_ok-all_constructors.ensures ∙ omega arith in
    passed E n _ _ c.from_residual-in_err-grown.result e c.from_residual-in_err-grown.ensures.1
    (grown-refused E n G A labels O e
    (subst (λ k. Reaches E n (so_wide k G.clauses) tt) c.width-width.ensures c.in_ok-so_wide.ensures)
    c.in_ok-clauses_full.ensures
    (subst (λ k. Reaches E n (opened G.first k [] A) O) c.width-width.ensures c.in_ok-opened.ensures)
    (subst (λ N. Refuses E n (grow_below (suc k) G N G.limit) e) c.in_ok-node.ensures
    (subst (λ m. Refuses E n (grow_below m G (node_of c.in_ok-node.node) G.limit) e) splits c.in_err-grown.ensures)))

pub returns : goal.returns
returns g c =
    let E = env (entries c.args.self.now.unifier.globals.now) in
    let n = c.args.self.now.unifier.budget in
    let G = group_of c.args.self.now in
    let A = term c.args.ty.now in
    let labels = map name_of c.args.labels.now in
    let O = opened_of c.in_ok-opened.opened in
    let T = grown_of c.in_ok-grown.grown in
    let k = all_constructors G.clauses in
    let splits : c.in_ok-splits.splits ≡ suc k =
    c.in_ok-splits.ensures ∙ ap (λ m. m + 1) c.in_ok-all_constructors.ensures ∙ omega arith in
    all-planned E n G A labels O T
    (subst (λ k. Reaches E n (so_wide k G.clauses) tt) c.width-width.ensures c.in_ok-so_wide.ensures)
    c.in_ok-clauses_full.ensures
    (subst (λ k. Reaches E n (opened G.first k [] A) O) c.width-width.ensures c.in_ok-opened.ensures)
    (subst (λ N. Reaches E n (grow_below (suc k) G N G.limit) T) c.in_ok-node.ensures
    (subst (λ m. Reaches E n (grow_below m G (node_of c.in_ok-node.node) G.limit) T) splits c.in_ok-grown.ensures))
