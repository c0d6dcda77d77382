use Rattle.std.proofs.Common.{arith, ◌≡◌, ◌∙◌, sym, subst, length}
use Rattle.std.proofs.lemmas.Bool.{eqb-true}
use Rattle.std.proofs.lemmas.List.{nil_from_length}
use Rattle.qtt_graph.specs.Modules.{graph_of, name_at}
use Rattle.qtt_graph.specs.Near.{Near, Widened, imports_one}
use Rattle.qtt_graph.proofs.NamePlaces.{graph-length}
use Rattle.qtt_graph.proofs.Searching.{Frontier, widened-near, widened-frontier, near-all}
use Rattle.qtt_graph.proofs.modules.Modules.nearness.Goals as goal

pub returns-then-is_empty : goal.returns-then-is_empty
returns-then-is_empty c =
    let self = c.args.self.now in
    let g = graph_of self.texts.now in
    let target = c.args.target in
    let count = c.loop-count.count in
    let near = c.loop-count.near.items in
    let long = graph-length self.texts.now in
    let there = c.requires.there in
    let more = c.loop-count-test.true in
    let end = c.len-count-end.ensures in
    let none = eqb-true _ 0 (sym c.is_empty.ensures ∙ c.if-is_empty.true) in
    let ok = c.loop-count.frontier.ok in
    let empty = nil_from_length c.loop-count.frontier.items (omega (arith, none, ok.0)) in
    subst (λ n. Near g (name_at g target) n near) long
    (near-all g near target count self.closed (omega (arith, there, long)) (omega (arith, more, end, long))
    c.loop-count.invariant.0 (subst (Frontier g near target count) empty c.loop-count.invariant.1))

pub loop-count-preserved : goal.loop-count-preserved
loop-count-preserved c =
    let self = c.args.self.now in
    let g = graph_of self.texts.now in
    let target = c.args.target in
    let count = c.loop-count.count in
    let near = c.loop-count.near.items in
    let after = c.widen.new.near.items in
    let frontier = c.loop-count.frontier.items in
    let next = c.in_ok-frontier-2.frontier.items in
    let long = graph-length self.texts.now in
    let there = c.requires.there in
    let widened = subst (λ row. Widened (imports_one g row) count near after next) c.deref.ensures.value
    c.in_ok-frontier-2.ensures in (
      widened-near g near after target count frontier next self.closed (omega (arith, there, long))
          c.loop-count.invariant.0 c.loop-count.invariant.1 widened,
      widened-frontier g near after target count frontier next c.loop-count.invariant.0 widened,
    )

pub returns : goal.returns
returns c =
    let self = c.args.self.now in
    let g = graph_of self.texts.now in
    let end = c.len-count-end.ensures in
    let all = c.loop-count-test.false in
    let auto = c.loop-count.auto.count-end in
    let is : c.loop-count.count ≡ length self.texts.now = omega (arith, end, all, auto) in
    subst (λ n. Near g (name_at g c.args.target) n c.loop-count.near.items) is c.loop-count.invariant.0
