use Rattle.std.proofs.Common.{arith, ◌+◌, ◌∙◌, refl, sym, ap, length, map, slice_index_or, Some, None}
use Rattle.std.proofs.lemmas.List.{take_all}
use Rattle.qtt_graph.specs.Modules.{graph_of, name_at}
use Rattle.qtt_graph.specs.Ranks.{one_above, rank}
use Rattle.qtt_graph.specs.Ranking.{LeadsOn}
use Rattle.qtt_graph.proofs.NamePlaces.{graph-length}
use Rattle.qtt_graph.proofs.Levelled.{whatever-else}
use Rattle.qtt_graph.proofs.Following.{within-at, row-imports, unranked, rank-below, rank-step, rank-done, max-is}
use Rattle.qtt_graph.proofs.Visiting.{found-before, found-kept, visiting-begun, visiting-import, visiting-on, visiting-none, visiting-ranked}
use Rattle.qtt_graph.proofs.modules.Modules.+rank.Goals as goal

pub returns-in-Some-clause-known : goal.returns-in-Some-clause-known
returns-in-Some-clause-known t c =
    let g = graph_of c.args.self.now.texts.now in
    found-kept g (LeadsOn g c.args.place) c.args.known.now.items c.requires.known

pub returns-in-Some-clause-found : goal.returns-in-Some-clause-found
returns-in-Some-clause-found t c =
    let g = graph_of c.args.self.now.texts.now in
    let there = c.requires.there in
    let long = graph-length c.args.self.now.texts.now in
    let all = c.requires.known.all in
    found-before g c.args.place c.args.known.now.items c.in-Some.found c.requires.known (omega (arith, there, long))
    (whatever-else c.args.known.now.items c.args.place None c.index.result.now (omega (arith, there, long, all)) ∙
    sym c.index.ensures ∙ c.in-Some.is)

pub loop-below-init : goal.loop-below-init
loop-below-init t c =
    let g = graph_of c.args.self.now.texts.now in
    let known = c.args.known.now.items in
    let there = c.requires.there in
    let long = graph-length c.args.self.now.texts.now in
    let all = c.requires.known.all in (
      visiting-begun g c.args.place known (omega (arith, there, long))
          (whatever-else known c.args.place None c.index.result.now (omega (arith, there, long, all)) ∙
          sym c.index.ensures ∙ c.in_default.is)
          c.requires.known,
      refl,
    )

pub rank-requires : goal.rank-requires
rank-requires t c =
    let g = graph_of c.args.self.now.texts.now in
    let row = c.imports-below-items.result.now in
    let less = c.loop-below.invariant.0.fewer in
    let there = within-at
    (length g) row c.loop-below.below-index c.imports-below-items.ensures.within c.loop-below-test.true in
    let long = graph-length c.args.self.now.texts.now in (
      omega (arith, less, c.decreases),
      (
        omega (arith, there, long),
        visiting-import g c.args.place (slice_index_or row c.loop-below.below-index 0) c.args.known.now.items
            c.loop-below.known.items (row-imports g row (name_at g c.args.place) c.loop-below.below-index
            c.imports-below-items.ensures c.loop-below-test.true) c.requires.known c.loop-below.invariant.0,
      ),
    )

pub loop-below-preserved : goal.loop-below-preserved
loop-below-preserved t c =
    let g = graph_of c.args.self.now.texts.now in
    let row = c.imports-below-items.result.now in (
      visiting-on g c.args.place c.args.known.now.items c.loop-below.known.items c.rank.new.known.items
          c.loop-below.invariant.0 c.in_ok-next.ensures.known c.in_ok-next.ensures.fewer,
      rank-step (λ i. rank g (name_at g i)) row c.loop-below.below-index c.loop-below.rank c.in_ok-next.next
          c.loop-below-test.true c.loop-below.invariant.1 (sym c.in_ok-next.ensures.found) ∙ ap Some
          (max-is c.loop-below.rank (c.in_ok-next.next + 1) ∙ sym c.max-rank.ensures),
    )

pub returns-in_err-next-clause-known : goal.returns-in_err-next-clause-known
returns-in_err-next-clause-known t c =
    let g = graph_of c.args.self.now.texts.now in
    let row = c.imports-below-items.result.now in
    let none = unranked g row (name_at g c.args.place) c.loop-below.below-index c.imports-below-items.ensures
    c.loop-below-test.true (sym c.in_err-next.ensures.found) in
    visiting-none g c.args.place c.args.known.now.items c.rank.new.known.items none
    (visiting-on g c.args.place c.args.known.now.items c.loop-below.known.items c.rank.new.known.items
    c.loop-below.invariant.0 c.in_err-next.ensures.known c.in_err-next.ensures.fewer)

pub returns-in_err-next-clause-found : goal.returns-in_err-next-clause-found
returns-in_err-next-clause-found t c =
    let g = graph_of c.args.self.now.texts.now in
    let row = c.imports-below-items.result.now in
    c.from_residual.ensures ∙
    sym (unranked g row (name_at g c.args.place) c.loop-below.below-index c.imports-below-items.ensures
    c.loop-below-test.true (sym c.in_err-next.ensures.found))

pub overflow_add-next : goal.overflow_add-next
overflow_add-next t c =
    let g = graph_of c.args.self.now.texts.now in
    let row = c.imports-below-items.result.now in
    let there = within-at
    (length g) row c.loop-below.below-index c.imports-below-items.ensures.within c.loop-below-test.true in
    let below = rank-below g c.args.self.now.closed _ c.in_ok-next.next there (sym c.in_ok-next.ensures.found) in
    let long = graph-length c.args.self.now.texts.now in
    let all = c.requires.known.all in
    let small = c.args.known.now.small in
    let ok = c.args.known.now.ok in
    omega (arith, below, all, small, ok.0, ok.1)

pub returns-clause-found : goal.returns-clause-found
returns-clause-found t c =
    let g = graph_of c.args.self.now.texts.now in
    let row = c.imports-below-items.result.now in
    let there = c.requires.there in
    let long = graph-length c.args.self.now.texts.now in
    let all = c.loop-below-test.false in
    sym (rank-done g c.args.self.now.closed row c.args.place c.loop-below.rank (omega (arith, there, long))
    c.imports-below-items.ensures
    (ap (λ ps. one_above (map (λ i. rank g (name_at g i)) ps)) (sym (take_all c.loop-below.below-index row all)) ∙
    c.loop-below.invariant.1))

pub returns-clause-known : goal.returns-clause-known
returns-clause-known t c =
    let g = graph_of c.args.self.now.texts.now in
    let there = c.requires.there in
    let long = graph-length c.args.self.now.texts.now in
    visiting-ranked g c.args.place c.loop-below.rank c.args.known.now.items c.loop-below.known.items
    (omega (arith, there, long)) (sym (returns-clause-found t c)) c.loop-below.invariant.0
