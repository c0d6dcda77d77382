-- What stands in a slot, and in the slots behind it.
use Rattle.std.proofs.Common.{◌≡◌, ◌∙◌, ap, sym, subst, IfOk, suc, arith, Some, None}
use Rattle.qtt_syntax.specs.Tree.{Tree}
use Rattle.qtt_implicit.specs.Moving.{shifted}
use Rattle.qtt_implicit.specs.Nodes.{node_tree}
use Rattle.qtt_implicit.specs.Slots.{IsSound, Resolves, seen, slot_list, stands}
use Rattle.qtt_syntax.specs.declared.expr.Named.{Named}
use Rattle.qtt_implicit.specs.declared.filling.slots.Rest.{Rest}
use Rattle.qtt_implicit.specs.declared.filling.slots.Shared.{Shared}
use Rattle.qtt_implicit.proofs.Standing.{first_resolves, moved_resolves, resolves_itself, resolves_filled, resolves_unfilled}
use Rattle.qtt_implicit.proofs.Weights.{later_stands}
use Rattle.qtt_implicit.proofs.filling.standing.+standing.Goals as goal

pub returns-in-Some : goal.returns-in-Some
returns-in-Some t c = λ r n.
    let P : Tree → Type 0 = λ x. IfOk c.standing.result (Resolves (shifted c.args.moved x)) in
    let e : c.args.index ≡ suc c.in-Some.index = omega arith in
    subst P
    (sym (ap (λ s. stands r (slot_list s) c.args.index n) c.in-Empty.is
    ∙ later_stands r None (slot_list c.in-Empty.older.now) c.args.index c.in-Some.index n e))
    (c.standing.ensures r n)

pub returns-in-Some-checked_sub : goal.returns-in-Some-checked_sub
returns-in-Some-checked_sub t c = λ r n.
    let P : Tree → Type 0 = λ x. IfOk c.standing-in-Some-checked_sub.result (Resolves (shifted c.args.moved x)) in
    let e : c.args.index ≡ suc c.in-Some-checked_sub.index = omega arith in
    subst P
    (sym (ap (λ s. stands r (slot_list s) c.args.index n) c.in-Filled.is
    ∙ later_stands r (Some (seen c.in-Filled.text.rest c.in-Filled.text.moved
    (slot_list c.in-Filled.text.slots.now) (node_tree c.in-Filled.text.tree.now)))
    (slot_list c.in-Filled.older.now) c.args.index c.in-Some-checked_sub.index n e))
    (c.standing-in-Some-checked_sub.ensures r n)

pub returns-in-None-local : goal.returns-in-None-local
returns-in-None-local t c = λ r n.
    let s : Shared = record {
      tree = c.in-Filled.text.tree;
      slots = c.in-Filled.text.slots;
      rest = c.in-Filled.text.rest;
      moved = c.in_ok-deeper-in-None-checked_sub.field-0;
    } in
    let here : Tree = seen c.in-Filled.text.rest c.in-Filled.text.moved (slot_list c.in-Filled.text.slots.now)
    (node_tree c.in-Filled.text.tree.now) in
    let h = subst IsSound c.in-Filled.is c.requires in
    let e : c.args.index ≡ 0 = omega arith in
    subst (λ x. Resolves (shifted c.args.moved (stands r (slot_list x) c.args.index n)) (Some s))
    (sym c.in-Filled.is)
    (first_resolves r here (slot_list c.in-Filled.older.now) c.args.index c.args.moved n (Some s) e
    (moved_resolves s c.in-Filled.text.moved c.args.moved (Some s) c.in_ok-deeper-in-None-checked_sub.ensures
    (resolves_itself s h.1.0 (sym c.in-None-local.ensures))))

pub returns-in-None-2 : goal.returns-in-None-2
returns-in-None-2 t c = λ r n.
    let s : Shared = record {
      tree = c.in-Filled.text.tree;
      slots = c.in-Filled.text.slots;
      rest = c.in-Filled.text.rest;
      moved = c.in_ok-deeper-in-None-checked_sub.field-0;
    } in
    let here : Tree = seen c.in-Filled.text.rest c.in-Filled.text.moved (slot_list c.in-Filled.text.slots.now)
    (node_tree c.in-Filled.text.tree.now) in
    let h = subst IsSound c.in-Filled.is c.requires in
    let e : c.args.index ≡ 0 = omega arith in
    let all = λ (q : Rest) (m : Named). subst (Resolves (shifted s.moved
    (stands q (slot_list s.slots.now) c.in-Some-local.index m))) c.in-None-2.is
    (c.in_ok-standing-in-Some-local.ensures q m) in
    subst (λ x. Resolves (shifted c.args.moved (stands r (slot_list x) c.args.index n)) (Some s))
    (sym c.in-Filled.is)
    (first_resolves r here (slot_list c.in-Filled.older.now) c.args.index c.args.moved n (Some s) e
    (moved_resolves s c.in-Filled.text.moved c.args.moved (Some s) c.in_ok-deeper-in-None-checked_sub.ensures
    (resolves_unfilled s c.in-Some-local.index h.1.0 (sym c.in-Some-local.ensures) all)))

pub returns-in-Some-2 : goal.returns-in-Some-2
returns-in-Some-2 t c = λ r n.
    let s : Shared = record {
      tree = c.in-Filled.text.tree;
      slots = c.in-Filled.text.slots;
      rest = c.in-Filled.text.rest;
      moved = c.in_ok-deeper-in-None-checked_sub.field-0;
    } in
    let here : Tree = seen c.in-Filled.text.rest c.in-Filled.text.moved (slot_list c.in-Filled.text.slots.now)
    (node_tree c.in-Filled.text.tree.now) in
    let h = subst IsSound c.in-Filled.is c.requires in
    let e : c.args.index ≡ 0 = omega arith in
    let all = λ (q : Rest) (m : Named). subst (Resolves (shifted s.moved
    (stands q (slot_list s.slots.now) c.in-Some-local.index m))) c.in-Some-2.is
    (c.in_ok-standing-in-Some-local.ensures q m) in
    subst (λ x. Resolves (shifted c.args.moved (stands r (slot_list x) c.args.index n)) (Some c.in-Some-2.text))
    (sym c.in-Filled.is)
    (first_resolves r here (slot_list c.in-Filled.older.now) c.args.index c.args.moved n (Some c.in-Some-2.text) e
    (moved_resolves s c.in-Filled.text.moved c.args.moved (Some c.in-Some-2.text)
    c.in_ok-deeper-in-None-checked_sub.ensures
    (resolves_filled s c.in-Some-2.text c.in-Some-local.index (sym c.in-Some-local.ensures) all)))
