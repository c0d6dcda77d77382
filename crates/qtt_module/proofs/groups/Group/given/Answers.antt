use Rattle.std.proofs.Common.{◌≡◌, ◌∙◌, ◌++◌, length, map, rules, ap, sym, subst}
use Rattle.std.specs.Bool.{◌==◌}
use Rattle.std.specs.Vec.{vec_len}
use Rattle.qtt_term.specs.Entries.{env}
use Rattle.qtt_bidi.specs.Answers.{Reaches, Refuses}
use Rattle.qtt_bidi.proofs.Within.{passed}
use Rattle.qtt_split.specs.Group.{all_sides, body_with, body_holds}
use Rattle.qtt_split.specs.Planned.{planned_of}
use Rattle.qtt_split.specs.Tree.{leaves}
use Rattle.qtt_holes.specs.View.{hole}
use Rattle.qtt_module.specs.Sides.{side_or_hole, Given, group_of}
use Rattle.qtt_module.specs.GroupCalls.{globals_of, defined_of, leaf_at, right_side}
use Rattle.qtt_module.proofs.Grouping.{some-holes, no-holes, tree-refused, sides-refused, holes-given, body-refused, body-given}
use Rattle.qtt_module.proofs.groups.Group.given.Goals as goal

pub returns-in_err-planned : goal.returns-in_err-planned
returns-in_err-planned g c =
    let e = c.in_err-planned.field-0.0 in
    passed _ _ _ _ c.from_residual.result e c.from_residual.ensures.1
    (tree-refused (env (globals_of c.args.self.now)) c.args.self.now.elaborator.budget (defined_of c.args.self.now) e
    c.in_err-planned.ensures)

pub returns-in_err-cores : goal.returns-in_err-cores
returns-in_err-cores g c =
    let E = env (globals_of c.args.self.now) in
    let n = c.args.self.now.elaborator.budget in
    let D = defined_of c.args.self.now in
    let P = planned_of c.in_ok-planned.planned in
    let p = c.in_ok-planned.ensures in
    let seen = ap (map leaf_at) c.deref.ensures.value ∙ c.in_ok-leaves.ensures
    ∙ ap (λ xs. map leaf_at xs ++ leaves P.tree) c.new.ensures.items in
    let e = c.in_err-cores.field-0.0 in
    passed _ _ _ _ c.from_residual-in_err-cores.result e c.from_residual-in_err-cores.ensures.1
    (sides-refused E n D P p e
    (subst (λ ls. Refuses E n (all_sides (side_or_hole D.group.globals D.group.part) 0 D.group.clauses ls) e) seen
    c.in_err-cores.ensures))

pub returns-then-not-is_empty : goal.returns-then-not-is_empty
returns-then-not-is_empty g c =
    let E = env (globals_of c.args.self.now) in
    let n = c.args.self.now.elaborator.budget in
    let D = defined_of c.args.self.now in
    let P = planned_of c.in_ok-planned.planned in
    let p = c.in_ok-planned.ensures in
    let seen = ap (map leaf_at) c.deref.ensures.value ∙ c.in_ok-leaves.ensures
    ∙ ap (λ xs. map leaf_at xs ++ leaves P.tree) c.new.ensures.items in
    let got = c.in_ok-cores.ensures in
    let hs = c.in_ok-cores.field-0.holes in
    let side = side_or_hole D.group.globals D.group.part in
    let s = subst (λ ls. Reaches E n (all_sides side 0 D.group.clauses ls) got.sides) seen got.reaches in
    let count : vec_len hs ≡ length hs.items = search rules in
    holes-given E n D P p got.sides s (map hole hs.items)
    (some-holes hs.items (ap (λ k. k == 0) (sym count) ∙ sym c.is_empty.ensures ∙ c.if-not-is_empty.true))
    (sym (ap (λ T. T.holes) got.are))

pub returns-in_err-body_holds : goal.returns-in_err-body_holds
returns-in_err-body_holds g c =
    let E = env (globals_of c.args.self.now) in
    let n = c.args.self.now.elaborator.budget in
    let D = defined_of c.args.self.now in
    let P = planned_of c.in_ok-planned.planned in
    let p = c.in_ok-planned.ensures in
    let seen = ap (map leaf_at) c.deref.ensures.value ∙ c.in_ok-leaves.ensures
    ∙ ap (λ xs. map leaf_at xs ++ leaves P.tree) c.new.ensures.items in
    let got = c.in_ok-cores.ensures in
    let hs = c.in_ok-cores.field-0.holes in
    let side = side_or_hole D.group.globals D.group.part in
    let s = subst (λ ls. Reaches E n (all_sides side 0 D.group.clauses ls) got.sides) seen got.reaches in
    let count : vec_len hs ≡ length hs.items = search rules in
    let none = sym (ap (λ T. T.holes) got.are)
    ∙ no-holes hs.items (ap (λ k. k == 0) (sym count) ∙ sym c.is_empty.ensures ∙ c.if-not-is_empty.false) in
    let seen_so = ap (map leaf_at) c.deref-2.ensures.value ∙ c.in_ok-leaves.ensures
    ∙ ap (λ xs. map leaf_at xs ++ leaves P.tree) c.new.ensures.items in
    let given : c.deref-3.result.now ≡ c.in_ok-cores.field-0.cores.items = search rules in
    let whole = c.in_ok-body.ensures seen_so ∙ ap (λ es. body_with P (map right_side es)) given
    ∙ ap (body_with P) (ap (λ T. T.cores) got.are) in
    let e = c.in_err-body_holds.field-0.0 in
    passed _ _ _ _ c.from_residual-in_err-body_holds.result e c.from_residual-in_err-body_holds.ensures.1
    (body-refused E n D P p got.sides s e none
    (subst (λ b. Refuses E n (body_holds D b) e) whole c.in_err-body_holds.ensures))

pub returns : goal.returns
returns g c =
    let E = env (globals_of c.args.self.now) in
    let n = c.args.self.now.elaborator.budget in
    let D = defined_of c.args.self.now in
    let P = planned_of c.in_ok-planned.planned in
    let p = c.in_ok-planned.ensures in
    let seen = ap (map leaf_at) c.deref.ensures.value ∙ c.in_ok-leaves.ensures
    ∙ ap (λ xs. map leaf_at xs ++ leaves P.tree) c.new.ensures.items in
    let got = c.in_ok-cores.ensures in
    let hs = c.in_ok-cores.field-0.holes in
    let side = side_or_hole D.group.globals D.group.part in
    let s = subst (λ ls. Reaches E n (all_sides side 0 D.group.clauses ls) got.sides) seen got.reaches in
    let count : vec_len hs ≡ length hs.items = search rules in
    let none = sym (ap (λ T. T.holes) got.are)
    ∙ no-holes hs.items (ap (λ k. k == 0) (sym count) ∙ sym c.is_empty.ensures ∙ c.if-not-is_empty.false) in
    let seen_so = ap (map leaf_at) c.deref-2.ensures.value ∙ c.in_ok-leaves.ensures
    ∙ ap (λ xs. map leaf_at xs ++ leaves P.tree) c.new.ensures.items in
    let given : c.deref-3.result.now ≡ c.in_ok-cores.field-0.cores.items = search rules in
    let whole = c.in_ok-body.ensures seen_so ∙ ap (λ es. body_with P (map right_side es)) given
    ∙ ap (body_with P) (ap (λ T. T.cores) got.are) in
    subst (λ b. Reaches E n (group_of D) (Given.body b)) (sym whole)
    (body-given E n D P p got.sides s none
    (subst (λ b. Reaches E n (body_holds D b) tt) whole c.in_ok-body_holds.ensures))
