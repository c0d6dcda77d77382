-- One slot more that is filled.
use Rattle.std.proofs.Common.{◌≡◌, ◌∙◌, sym, subst, ℕ, suc, ◌+◌, ◌-◌, ◌<◌, arith, take, sum_by}
use mathlib.Core.Path.{ap₂}
use Rattle.std.specs.Prelude.{min}
use Rattle.qtt_implicit.specs.Nodes.{node_tree}
use Rattle.qtt_implicit.specs.Slots.{IsSound, seen, slot_list}
use Rattle.qtt_implicit.specs.Solving.{solved}
use Rattle.qtt_implicit.specs.Walk.{binder_names, inserted_nodes}
use Rattle.qtt_implicit.proofs.Braces.{counted_first, counted_later}
use Rattle.qtt_implicit.proofs.filling.applying.+inserted.Goals as goal

pub returns-then-written-eq0-clause-ok : goal.returns-then-written-eq0-clause-ok
returns-then-written-eq0-clause-ok t c = λ s.
    let x = c.in-Pi.name.now in
    let b = c.in-Some.braces in
    let text = c.in-Filled.text in
    let T = seen text.rest text.moved (slot_list text.slots.now) (node_tree text.tree.now) in
    let NS = binder_names b (node_tree c.in-Pi.codomain.now) in
    let OS = take b (slot_list c.in-Filled.older.now) in
    let kb : c.args.braces ≡ suc b = omega arith in
    let names = ap₂ (λ (k : ℕ) n. binder_names k (node_tree n)) kb c.in-Pi.is in
    let slots = ap₂ (λ (k : ℕ) σ. take k (slot_list σ)) kb c.in-Filled.is in
    let h = subst IsSound c.in-Filled.is c.requires in
    let total : c.min.result ≡ min (c.in-Filled.weight.nodes + c.in_ok-others-in-Filled.others) 1000001 =
    omega (arith, c.min.ensures, c.saturating_add.ensures) in
    counted_first s c.args.written c.saturating_sub.result c.in-Filled.weight x NS T OS
    c.in_ok-others-in-Filled.others c.min.result c.if-written-eq0.true c.saturating_sub.ensures h.0
    (c.in_ok-others-in-Filled.ensures.ok s) total
    ∙ sym (ap₂ (λ ns os. min (sum_by inserted_nodes (solved s c.args.written ns os)) 1000001) names slots)

pub returns-else-written-eq0-clause-ok : goal.returns-else-written-eq0-clause-ok
returns-else-written-eq0-clause-ok t c = λ s.
    let x = c.in-Pi.name.now in
    let b = c.in-Some.braces in
    let text = c.in-Filled.text in
    let T = seen text.rest text.moved (slot_list text.slots.now) (node_tree text.tree.now) in
    let NS = binder_names b (node_tree c.in-Pi.codomain.now) in
    let OS = take b (slot_list c.in-Filled.older.now) in
    let kb : c.args.braces ≡ suc b = omega arith in
    let names = ap₂ (λ (k : ℕ) n. binder_names k (node_tree n)) kb c.in-Pi.is in
    let slots = ap₂ (λ (k : ℕ) σ. take k (slot_list σ)) kb c.in-Filled.is in
    let some : 0 < c.args.written = omega (arith, c.if-written-eq0.false) in
    counted_later s c.args.written c.saturating_sub.result x NS T OS c.in_ok-others-in-Filled.others some
    c.saturating_sub.ensures (c.in_ok-others-in-Filled.ensures.ok s)
    ∙ sym (ap₂ (λ ns os. min (sum_by inserted_nodes (solved s c.args.written ns os)) 1000001) names slots)
