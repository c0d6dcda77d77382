use Rattle.std.proofs.Common.{◌≡◌, ◌∙◌, [], rules, ap, sym, subst}
use Rattle.qtt_term.specs.Ask.{Ask}
use Rattle.qtt_term.specs.Entries.{entries, env}
use Rattle.qtt_term.specs.Signature.{Refl}
use Rattle.qtt_term.specs.Telescopes.{tele}
use Rattle.qtt_term.specs.Term.{ε, ◌▸◌}
use Rattle.qtt_term.specs.View.{term}
use Rattle.qtt_unify.specs.View.{all_terms, binders, deletion}
use Rattle.qtt_split.specs.Answers.{Reaches, Refuses}
use Rattle.qtt_split.specs.Branch.{again, branch_node, stands}
use Rattle.qtt_split.specs.Divisions.{division_of}
use Rattle.qtt_split.specs.Motive.{deletion_motive, reverted_goal}
use Rattle.qtt_split.specs.Nodes.{node_of}
use Rattle.qtt_split.specs.Prepared.{deleted, reverts}
use Rattle.qtt_split.specs.Split.{refl_id}
use Rattle.qtt_split.specs.Tests.{Test, at}
use Rattle.qtt_split.proofs.Preparing.{deleted-as}
use Rattle.qtt_split.proofs.Within.{on, on_done, passed, here, reached}
use Rattle.qtt_split.proofs.planner.Planner.deletion_parts.Goals as goal

pub returns-in_err-reverted : goal.returns-in_err-reverted
returns-in_err-reverted g c =
    let E = env (entries c.args.self.now.unifier.globals.now) in
    let n = c.args.self.now.unifier.budget in
    let N = node_of c.args.node.now in
    let D = division_of N.context c.args.division.now in
    let d = deletion c.args.found.now in
    let p = at D.span Test.endpoints in
    let e = c.in_err-reverted.field-0.0 in
    let ends : all_terms c.in_ok-ends.ends.items ≡ d.type ▸ d.point ▸ ε = search rules in
    passed E n _ _ c.from_residual-in_err-reverted.result e c.from_residual-in_err-reverted.ensures.1
    (here E n (reverts p N D.over.variable [] (d.type ▸ d.point ▸ ε)) (λ rs. Ask.done (deleted N D d rs)) e
    (subst (λ ts. Refuses E n (reverts p N D.over.variable [] ts) e) (ap all_terms c.deref.ensures.value ∙ ends)
    c.in_err-reverted.ensures))

pub returns : goal.returns
returns g c =
    let E = env (entries c.args.self.now.unifier.globals.now) in
    let n = c.args.self.now.unifier.budget in
    let N = node_of c.args.node.now in
    let D = division_of N.context c.args.division.now in
    let d = deletion c.args.found.now in
    let p = at D.span Test.endpoints in
    let x = D.over.variable in
    let rs = c.in_ok-reverted.reverted.items in
    let ends : all_terms c.in_ok-ends.ends.items ≡ d.type ▸ d.point ▸ ε = search rules in
    let reverted : Reaches E n (reverts p N x [] (d.type ▸ d.point ▸ ε)) rs =
    subst (λ ts. Reaches E n (reverts p N x [] ts) rs) (ap all_terms c.deref.ensures.value ∙ ends)
    c.in_ok-reverted.ensures in
    let goal : term c.in_ok-goal.goal ≡ reverted_goal N.context rs N.goal =
    c.in_ok-goal.ensures ∙
    ap (λ xs. reverted_goal (binders xs) c.deref-3.result.now N.goal) c.deref-2.ensures.value ∙
    ap (λ bs. reverted_goal N.context bs N.goal) c.deref-3.ensures.value in
    let motive : term c.in_ok-motive.motive ≡ deletion_motive x (reverted_goal N.context rs N.goal) =
    c.in_ok-motive.ensures ∙ ap (deletion_motive x) goal in
    let node : node_of c.in_ok-entered.entered.node
    ≡ branch_node N [] [] x refl_id (Refl d.type d.point) [] rs =
    c.in_ok-entered.ensures.node ∙
    ap (λ bs. branch_node N [] [] x refl_id (term c.in_ok-proof.proof) [] bs) c.deref-4.ensures.value ∙
    ap (λ t. branch_node N [] [] x refl_id t [] rs) c.in_ok-proof.ensures in
    let behind : tele c.in_ok-entered.entered.again.items
    ≡ again N.context rs (stands x (Refl d.type d.point) [] 0) =
    c.in_ok-entered.ensures.again ∙
    ap (λ bs. again N.context bs (stands x (term c.in_ok-proof.proof) [] 0)) c.deref-4.ensures.value ∙
    ap (λ t. again N.context rs (stands x t [] 0)) c.in_ok-proof.ensures in
    reached
    (on {E = E} {n = n} {m = reverts p N x [] (d.type ▸ d.point ▸ ε)} (λ rs. Ask.done (deleted N D d rs)) reverted
    on_done)
    (sym (deleted-as N D d rs (term c.in_ok-copy-3.field-0) (term c.in_ok-copy-4.field-0) (term c.in_ok-motive.motive)
    (node_of c.in_ok-entered.entered.node) (tele c.in_ok-entered.entered.again.items) c.in_ok-copy-3.ensures
    c.in_ok-copy-4.ensures motive node behind))
