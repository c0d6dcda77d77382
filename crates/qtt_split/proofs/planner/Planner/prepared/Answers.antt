use Rattle.std.proofs.Common.{◌≡◌, ◌∙◌, ◌∷◌, drop, length, None, Some, Ok, Err, map, ap, sym, subst}
use Rattle.qtt_term.specs.Entries.{entries, env}
use Rattle.qtt_term.specs.View.{term}
use Rattle.qtt_rules.specs.Refusal.{Cause}
use Rattle.qtt_split.specs.declared.prepared.Prepared.TheVariants as code
use Rattle.qtt_split.specs.Answers.{Fails, Refuses, Gives}
use Rattle.qtt_split.specs.Calls.{group_of}
use Rattle.qtt_split.specs.Columns.{row_of, column_of, decision_of, examined_of}
use Rattle.qtt_split.specs.Ends.{grown_of}
use Rattle.qtt_split.specs.Node.{Decision, decide, examined}
use Rattle.qtt_split.specs.Nodes.{node_of}
use Rattle.qtt_split.specs.Plan.{with_rows}
use Rattle.qtt_split.specs.Preparations.{prepared_of}
use Rattle.qtt_split.specs.Prepared.{prepared_by, parts_at}
use Rattle.qtt_split.specs.Tests.{Test, at}
use Rattle.qtt_split.proofs.Preparing.{by-decision, by-examined, none-refused, none-left, stuck-on, leaf-refused, leaf-there}
use Rattle.qtt_split.proofs.Within.{passed}
use Rattle.qtt_split.proofs.planner.Planner.prepared.Goals as goal

pub returns-in_err-no_clause-in-NoneLeft : goal.returns-in_err-no_clause-in-NoneLeft
returns-in_err-no_clause-in-NoneLeft g c =
    let E = env (entries c.args.self.now.unifier.globals.now) in
    let n = c.args.self.now.unifier.budget in
    let G = group_of c.args.self.now in
    let N = node_of c.args.node in
    let left = c.args.left in
    let e = c.in_err-no_clause-in-NoneLeft.field-0.0 in
    let is : decide G.globals N.rows ≡ Decision.none_left =
    ap (λ xs. decide G.globals (map row_of xs)) (sym c.deref.ensures.value) ∙ sym c.in_ok-decision.ensures ∙
    ap (decision_of c.deref.result.now) c.in-NoneLeft.is in
    passed E n _ _ c.from_residual-in_err-no_clause-in-NoneLeft.result e
    c.from_residual-in_err-no_clause-in-NoneLeft.ensures.1
    (by-decision E n G N left Decision.none_left (prepared_of G) (Err e) is
    (none-refused E n G N left e c.in_err-no_clause-in-NoneLeft.ensures))

pub returns-in-NoneLeft : goal.returns-in-NoneLeft
returns-in-NoneLeft g c =
    let E = env (entries c.args.self.now.unifier.globals.now) in
    let n = c.args.self.now.unifier.budget in
    let G = group_of c.args.self.now in
    let N = node_of c.args.node in
    let left = c.args.left in
    let T = c.in_ok-no_clause-in-NoneLeft.field-0 in
    let is : decide G.globals N.rows ≡ Decision.none_left =
    ap (λ xs. decide G.globals (map row_of xs)) (sym c.deref.ensures.value) ∙ sym c.in_ok-decision.ensures ∙
    ap (decision_of c.deref.result.now) c.in-NoneLeft.is in
    by-decision E n G N left Decision.none_left (prepared_of G) (Ok (code.Ended T)) is
    (none-left E n G N left (grown_of T) c.in_ok-no_clause-in-NoneLeft.ensures)

pub returns-in-StuckOn : goal.returns-in-StuckOn
returns-in-StuckOn g c =
    let E = env (entries c.args.self.now.unifier.globals.now) in
    let n = c.args.self.now.unifier.budget in
    let G = group_of c.args.self.now in
    let N = node_of c.args.node in
    let left = c.args.left in
    let s = c.in-StuckOn.span in
    let t = term c.in-StuckOn.term in
    let p = at s Test.on_variable in
    let is : decide G.globals N.rows ≡ Decision.stuck_on s t =
    ap (λ xs. decide G.globals (map row_of xs)) (sym c.deref.ensures.value) ∙ sym c.in_ok-decision.ensures ∙
    ap (decision_of c.deref.result.now) c.in-StuckOn.is in
    let m = prepared_by G N left (Decision.stuck_on s t) in
    by-decision E n G N left (Decision.stuck_on s t) (prepared_of G) (Err c.refused.result) is
    (subst (λ e. Refuses E n m e) (sym c.refused.ensures)
    (subst (λ k. Fails E n m (Cause.pattern_stuck k (term c.in_ok-copy-in-StuckOn.field-0) t) p)
    (sym c.in_ok-depth-in-StuckOn.ensures)
    (subst (λ u. Fails E n m (Cause.pattern_stuck (length N.context) u t) p) (sym c.in_ok-copy-in-StuckOn.ensures)
    (stuck-on E n G N left s t))))

pub returns-in-Some : goal.returns-in-Some
returns-in-Some g c =
    let E = env (entries c.args.self.now.unifier.globals.now) in
    let n = c.args.self.now.unifier.budget in
    let G = group_of c.args.self.now in
    let N = node_of c.args.node in
    let left = c.args.left in
    let r = row_of c.in-Decides.row in
    let rows = map row_of (drop c.in-Decides.behind c.args.node.rows.items) in
    let x = examined_of c.in-Some.x in
    let is : decide G.globals N.rows ≡ Decision.decides r rows =
    ap (λ xs. decide G.globals (map row_of xs)) (sym c.deref.ensures.value) ∙ sym c.in_ok-decision.ensures ∙
    ap (decision_of c.deref.result.now) c.in-Decides.is ∙
    ap (λ xs. Decision.decides r (map row_of (drop c.in-Decides.behind xs))) c.deref.ensures.value in
    by-decision E n G N left (Decision.decides r rows) (prepared_of G) c.parts_at.result is
    (by-examined E n G N left r rows (Some x) (prepared_of G) c.parts_at.result
    (ap (λ xs. examined (map column_of xs)) (sym c.deref-in-Decides.ensures.value) ∙ sym c.in-Some.ensures)
    (subst (λ M. Gives E n (parts_at G M x) (prepared_of G) c.parts_at.result) c.in_ok-decided-in-Some.ensures
    c.parts_at.ensures))

pub returns-in_err-leaf-in-None : goal.returns-in_err-leaf-in-None
returns-in_err-leaf-in-None g c =
    let E = env (entries c.args.self.now.unifier.globals.now) in
    let n = c.args.self.now.unifier.budget in
    let G = group_of c.args.self.now in
    let N = node_of c.args.node in
    let left = c.args.left in
    let r = row_of c.in-Decides.row in
    let rows = map row_of (drop c.in-Decides.behind c.args.node.rows.items) in
    let e = c.in_err-leaf-in-None.field-0.0 in
    let is : decide G.globals N.rows ≡ Decision.decides r rows =
    ap (λ xs. decide G.globals (map row_of xs)) (sym c.deref.ensures.value) ∙ sym c.in_ok-decision.ensures ∙
    ap (decision_of c.deref.result.now) c.in-Decides.is ∙
    ap (λ xs. Decision.decides r (map row_of (drop c.in-Decides.behind xs))) c.deref.ensures.value in
    passed E n _ _ c.from_residual-in_err-leaf-in-None.result e c.from_residual-in_err-leaf-in-None.ensures.1
    (by-decision E n G N left (Decision.decides r rows) (prepared_of G) (Err e) is
    (by-examined E n G N left r rows None (prepared_of G) (Err e)
    (ap (λ xs. examined (map column_of xs)) (sym c.deref-in-Decides.ensures.value) ∙ sym c.in-None.ensures)
    (leaf-refused E n G (with_rows N (r ∷ rows)) left r e c.in_err-leaf-in-None.ensures)))

pub returns : goal.returns
returns g c =
    let E = env (entries c.args.self.now.unifier.globals.now) in
    let n = c.args.self.now.unifier.budget in
    let G = group_of c.args.self.now in
    let N = node_of c.args.node in
    let left = c.args.left in
    let r = row_of c.in-Decides.row in
    let rows = map row_of (drop c.in-Decides.behind c.args.node.rows.items) in
    let T = c.in_ok-leaf-in-None.field-0 in
    let is : decide G.globals N.rows ≡ Decision.decides r rows =
    ap (λ xs. decide G.globals (map row_of xs)) (sym c.deref.ensures.value) ∙ sym c.in_ok-decision.ensures ∙
    ap (decision_of c.deref.result.now) c.in-Decides.is ∙
    ap (λ xs. Decision.decides r (map row_of (drop c.in-Decides.behind xs))) c.deref.ensures.value in
    by-decision E n G N left (Decision.decides r rows) (prepared_of G) (Ok (code.Ended T)) is
    (by-examined E n G N left r rows None (prepared_of G) (Ok (code.Ended T))
    (ap (λ xs. examined (map column_of xs)) (sym c.deref-in-Decides.ensures.value) ∙ sym c.in-None.ensures)
    (leaf-there E n G (with_rows N (r ∷ rows)) left r (grown_of T) c.in_ok-leaf-in-None.ensures))
