use Rattle.std.proofs.Common.{◌≡◌, ◌∙◌, map, rules, ap, sym}
use mathlib.Core.Path.{ap₂}
use Rattle.qtt_syntax.specs.View.{shape_of}
use Rattle.qtt_term.specs.Ask.{Ask}
use Rattle.qtt_term.specs.Entries.{entries, env}
use Rattle.qtt_term.specs.View.{term}
use Rattle.qtt_split.specs.declared.tree.Tree.{the_lemmas}
use Rattle.qtt_split.specs.declared.tree.Tree.TheVariants as code
use Rattle.qtt_split.specs.Calls.{group_of}
use Rattle.qtt_split.specs.Nodes.{node_of}
use Rattle.qtt_split.specs.Seen.{pattern_list}
use Rattle.qtt_split.specs.Sights.{sights_of}
use Rattle.qtt_split.specs.Split.{count_leaf, grown}
use Rattle.qtt_split.specs.Tree.{Tree}
use Rattle.qtt_split.specs.View.{tree_of}
use Rattle.qtt_split.proofs.Within.{on, on_done, passed, here, reached}
use Rattle.qtt_split.proofs.planner.Planner.no_clause.Goals as goal

pub returns-in_err-less : goal.returns-in_err-less
returns-in_err-less g c =
    let E = env (entries c.args.self.now.unifier.globals.now) in
    let n = c.args.self.now.unifier.budget in
    let G = group_of c.args.self.now in
    let N = node_of c.args.node.now in
    let e = c.in_err-less.field-0.0 in
    passed E n _ _ c.from_residual.result e c.from_residual.ensures.1
    (here E n (count_leaf G c.args.left)
    (λ less. Ask.done (grown (Tree.missing N.goal (pattern_list G.globals G.first N.seen)) less)) e
    c.in_err-less.ensures)

pub returns : goal.returns
returns g c =
    let E = env (entries c.args.self.now.unifier.globals.now) in
    let n = c.args.self.now.unifier.budget in
    let G = group_of c.args.self.now in
    let N = node_of c.args.node.now in
    let A = c.in_ok-goal.goal in
    let ps = c.in_ok-patterns.patterns in
    let seen : tree_of (code.Missing A ps) ≡ Tree.missing (term A) (map shape_of ps.items) =
    search (rules, the_lemmas) in
    let whole : tree_of (code.Missing A ps) ≡ Tree.missing N.goal (pattern_list G.globals G.first N.seen) =
    seen ∙
    ap₂ Tree.missing c.in_ok-goal.ensures
    (c.in_ok-patterns.ensures ∙
    ap (λ xs. pattern_list G.globals G.first (sights_of xs)) c.deref.ensures.value) in
    reached
    (on {E = E} {n = n} {m = count_leaf G c.args.left}
    (λ less. Ask.done (grown (Tree.missing N.goal (pattern_list G.globals G.first N.seen)) less))
    c.in_ok-less.ensures on_done) (ap (λ t. grown t c.in_ok-less.less) (sym whole))
