use Rattle.std.proofs.Common.{◌∙◌, ◌++◌, map, ap, subst}
use Rattle.qtt_term.specs.Entries.{env}
use Rattle.qtt_bidi.specs.Answers.{Reaches, Refuses}
use Rattle.qtt_bidi.proofs.Within.{passed}
use Rattle.qtt_split.specs.Group.{reaches}
use Rattle.qtt_split.specs.Planned.{planned_of}
use Rattle.qtt_split.specs.Tree.{leaves}
use Rattle.qtt_module.specs.GroupCalls.{globals_of, defined_of, leaf_at}
use Rattle.qtt_module.proofs.Retold.{refused}
use Rattle.qtt_module.proofs.Treeing.{plan-refused, covers-refused, reaches-refused, tree-made}
use Rattle.qtt_module.proofs.groups.Group.tree.Goals as goal

pub returns-in_err-planned : goal.returns-in_err-planned
returns-in_err-planned g c =
    let E = env (globals_of c.args.self.now) in
    let n = c.args.self.now.elaborator.budget in
    let e = c.in_err-planned.field-0.0 in
    passed _ _ _ _ c.from_residual.result e c.from_residual.ensures.1
    (plan-refused E n (defined_of c.args.self.now) e (refused E n _ e c.in_err-planned.ensures.gives))

pub returns-in_err-covers : goal.returns-in_err-covers
returns-in_err-covers g c =
    let E = env (globals_of c.args.self.now) in
    let n = c.args.self.now.elaborator.budget in
    let e = c.in_err-covers.field-0.0 in
    passed _ _ _ _ c.from_residual-in_err-covers.result e c.from_residual-in_err-covers.ensures.1
    (covers-refused E n (defined_of c.args.self.now) (planned_of c.in_ok-planned.planned)
    (record { is = c.in_ok-planned.ensures.gives.is }) e c.in_err-covers.ensures)

pub returns-in_err-reaches : goal.returns-in_err-reaches
returns-in_err-reaches g c =
    let E = env (globals_of c.args.self.now) in
    let n = c.args.self.now.elaborator.budget in
    let D = defined_of c.args.self.now in
    let P = planned_of c.in_ok-planned.planned in
    let e = c.in_err-reaches.field-0.0 in
    let seen = ap (map leaf_at) c.deref.ensures.value ∙ c.in_ok-leaves_in.ensures
    ∙ ap (λ xs. map leaf_at xs ++ leaves P.tree) c.new.ensures.items in
    passed _ _ _ _ c.from_residual-in_err-reaches.result e c.from_residual-in_err-reaches.ensures.1
    (reaches-refused E n D P (record { is = c.in_ok-planned.ensures.gives.is }) e c.in_ok-covers.ensures
    (subst (λ ls. Refuses E n (reaches D ls 0 D.group.clauses) e) seen c.in_err-reaches.ensures))

pub returns : goal.returns
returns g c =
    let E = env (globals_of c.args.self.now) in
    let n = c.args.self.now.elaborator.budget in
    let D = defined_of c.args.self.now in
    let P = planned_of c.in_ok-planned.planned in
    let seen = ap (map leaf_at) c.deref.ensures.value ∙ c.in_ok-leaves_in.ensures
    ∙ ap (λ xs. map leaf_at xs ++ leaves P.tree) c.new.ensures.items in
    tree-made E n D P (record { is = c.in_ok-planned.ensures.gives.is }) c.in_ok-covers.ensures
    (subst (λ ls. Reaches E n (reaches D ls 0 D.group.clauses) tt) seen c.in_ok-reaches.ensures)
