use Rattle.std.proofs.Common.{◌≡◌, ◌∙◌, None, Some, Ok, Err, map, ap, sym, subst}
use Rattle.qtt_term.specs.Entries.{entries, env}
use Rattle.qtt_unify.specs.View.{verdict}
use Rattle.qtt_split.specs.declared.prepared.Prepared.TheVariants as code
use Rattle.qtt_split.specs.Answers.{Reaches, Refuses, Gives}
use Rattle.qtt_split.specs.Calls.{group_of}
use Rattle.qtt_split.specs.Columns.{examined_of}
use Rattle.qtt_split.specs.Divisions.{division_of, stuck_cause}
use Rattle.qtt_split.specs.Nodes.{node_of}
use Rattle.qtt_split.specs.Preparations.{prepared_of, split_in}
use Rattle.qtt_split.specs.Prepared.{parts_by, stuck_parts}
use Rattle.qtt_split.specs.Split.{first_stuck}
use Rattle.qtt_split.proofs.Preparing.{division-refused, verdicts-refused, after-verdicts}
use Rattle.qtt_split.proofs.Within.{passed}
use Rattle.qtt_split.proofs.planner.Planner.parts_at.Goals as goal

pub returns-in_err-division : goal.returns-in_err-division
returns-in_err-division g c =
    let E = env (entries c.args.self.now.unifier.globals.now) in
    let n = c.args.self.now.unifier.budget in
    let G = group_of c.args.self.now in
    let e = c.in_err-division.field-0.0 in
    passed E n _ _ c.from_residual.result e c.from_residual.ensures.1
    (division-refused E n G (node_of c.args.node) (examined_of c.args.x.now) e c.in_err-division.ensures)

pub returns-in_err-verdicts : goal.returns-in_err-verdicts
returns-in_err-verdicts g c =
    let E = env (entries c.args.self.now.unifier.globals.now) in
    let n = c.args.self.now.unifier.budget in
    let G = group_of c.args.self.now in
    let N = node_of c.args.node in
    let D = division_of N.context c.in_ok-division.division in
    let e = c.in_err-verdicts.field-0.0 in
    passed E n _ _ c.from_residual-in_err-verdicts.result e c.from_residual-in_err-verdicts.ensures.1
    (verdicts-refused E n G N (examined_of c.args.x.now) D e c.in_ok-division.ensures c.in_err-verdicts.ensures)

pub returns-in-Some : goal.returns-in-Some
returns-in-Some g c =
    let E = env (entries c.args.self.now.unifier.globals.now) in
    let n = c.args.self.now.unifier.budget in
    let G = group_of c.args.self.now in
    let N = node_of c.args.node in
    let D = division_of N.context c.in_ok-division.division in
    let vs = map verdict c.in_ok-verdicts.verdicts.items in
    let stuck : first_stuck vs ≡ Some (stuck_cause c.in-Some.stuck) =
    ap (λ xs. first_stuck (map verdict xs)) (sym c.deref.ensures.value) ∙ sym c.in-Some.ensures in
    after-verdicts E n G N (examined_of c.args.x.now) D vs (prepared_of G) c.stuck_parts.result
    c.in_ok-division.ensures c.in_ok-verdicts.ensures
    (subst (λ o. Gives E n (parts_by G N D vs o) (prepared_of G) c.stuck_parts.result) (sym stuck)
    c.stuck_parts.ensures)

pub returns-in_err-split : goal.returns-in_err-split
returns-in_err-split g c =
    let E = env (entries c.args.self.now.unifier.globals.now) in
    let n = c.args.self.now.unifier.budget in
    let G = group_of c.args.self.now in
    let N = node_of c.args.node in
    let D = division_of N.context c.in_ok-division.division in
    let vs = map verdict c.in_ok-verdicts.verdicts.items in
    let e = c.in_err-split.field-0.0 in
    let none : first_stuck vs ≡ None =
    ap (λ xs. first_stuck (map verdict xs)) (sym c.deref.ensures.value) ∙ sym c.in_default.ensures in
    passed E n _ _ c.from_residual-in_err-split.result e c.from_residual-in_err-split.ensures.1
    (after-verdicts E n G N (examined_of c.args.x.now) D vs (prepared_of G) (Err e)
    c.in_ok-division.ensures c.in_ok-verdicts.ensures
    (subst (λ o. Refuses E n (parts_by G N D vs o) e) (sym none) c.in_err-split.ensures))

pub returns : goal.returns
returns g c =
    let E = env (entries c.args.self.now.unifier.globals.now) in
    let n = c.args.self.now.unifier.budget in
    let G = group_of c.args.self.now in
    let N = node_of c.args.node in
    let D = division_of N.context c.in_ok-division.division in
    let vs = map verdict c.in_ok-verdicts.verdicts.items in
    let none : first_stuck vs ≡ None =
    ap (λ xs. first_stuck (map verdict xs)) (sym c.deref.ensures.value) ∙ sym c.in_default.ensures in
    let S = c.in_ok-split.split in
    after-verdicts E n G N (examined_of c.args.x.now) D vs (prepared_of G) (Ok (code.Split c.args.node S))
    c.in_ok-division.ensures c.in_ok-verdicts.ensures
    (subst (λ o. Reaches E n (parts_by G N D vs o) (split_in G c.args.node S)) (sym none) c.in_ok-split.ensures)
