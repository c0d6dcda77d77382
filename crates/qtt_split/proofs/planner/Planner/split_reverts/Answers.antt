use Rattle.std.proofs.Common.{◌≡◌, ◌∙◌, ap, subst}
use Rattle.qtt_term.specs.Entries.{entries, env}
use Rattle.qtt_unify.specs.View.{all_terms}
use Rattle.qtt_split.specs.Answers.{Gives}
use Rattle.qtt_split.specs.Divisions.{division_of}
use Rattle.qtt_split.specs.Nodes.{node_of}
use Rattle.qtt_split.specs.Prepared.{reverts}
use Rattle.qtt_split.specs.Split.{free_variables}
use Rattle.qtt_split.specs.Tests.{Test, at}
use Rattle.qtt_split.proofs.planner.Planner.split_reverts.Goals as goal

pub returns : goal.returns
returns g c =
    let E = env (entries c.args.self.now.unifier.globals.now) in
    let n = c.args.self.now.unifier.budget in
    let N = node_of c.args.node.now in
    let D = division_of N.context c.args.division.now in
    let S = D.over in
    let p = at D.span Test.parameters in
    let free : c.deref.result.now ≡ free_variables S =
    c.deref.ensures.value ∙ c.in_ok-free.ensures ∙ ap free_variables c.over.ensures in
    subst (λ xs. Gives E n (reverts p N S.variable xs S.params) (λ rs. rs.items) c.reverts.result) free
    (subst (λ ps. Gives E n (reverts p N S.variable c.deref.result.now (all_terms ps)) (λ rs. rs.items)
    c.reverts.result) c.deref-2.ensures.value c.reverts.ensures)
