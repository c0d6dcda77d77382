use Rattle.std.proofs.Common.{◌≡◌, ℕ, ◌<◌, Ordering, true, rules, arith}
use Rattle.std.specs.Ordering.{MatchOrdering, ordering_then, nat_cmp}
use Rattle.std.specs.declared.cmp.Ordering.TheVariants.{Less, Equal, Greater}
use Rattle.std.specs.Cmp.{ranks}
use Rattle.qtt_base.specs.declared.place.GlobalId.{GlobalId}
use Rattle.std.proofs.lemmas.List.Sorted.{answers_always}
use Rattle.std.proofs.lemmas.Bool.Decides.{nat_tests}
use Rattle.qtt_base.specs.contracts.place.GlobalIdOrd.TheImpl as ord
use Rattle.qtt_term.specs.Keyed.{id_before}
use Rattle.qtt_term.proofs.Order.{IsIdOrder, searched}
use Rattle.qtt_term.proofs.keyed.search.Goals as goal

by_ids : IsIdOrder (ord.ghosts).cmp
by_ids a b =
    by_parts a.module.0 b.module.0 a.item b.item (nat_cmp a.module.0 b.module.0) (nat_cmp a.item b.item)
    (ranks a.module.0 b.module.0) (ranks a.item b.item)
  where
    id : ℕ → ℕ → GlobalId
    id m i = record { «module» = record { 0 = m }; item = i }

    by_parts : (m n i j : ℕ) (o r : Ordering) → MatchOrdering o (m < n) (m ≡ n) (n < m) →
        MatchOrdering r (i < j) (i ≡ j) (j < i) →
        MatchOrdering (ordering_then o r) (id_before (id m i) (id n j) ≡ true) (id m i ≡ id n j)
        (id_before (id n j) (id m i) ≡ true)
    by_parts m n i j Less r lt h = grind (arith, nat_tests)
    by_parts m n i j Greater r lt h = grind (arith, nat_tests)
    by_parts m n i j Equal Less e lt = grind (arith, nat_tests)
    by_parts m n i j Equal Equal e f = cc
    by_parts m n i j Equal Greater e lt = grind (arith, nat_tests)

pub returns-clause-found : goal.returns-clause-found
returns-clause-found g c =
    let facts = c.binary_search_by_key.ensures in
    let by_key = facts.position g.T.Keyed.key (answers_always _ _ _ (λ f a r h called. search rules)) in
    (searched (ord.ghosts).cmp by_ids g.T.Keyed.key c.args.id c.args.items.now c.requires
    c.binary_search_by_key.result facts.bound by_key).0

pub returns-clause-absent : goal.returns-clause-absent
returns-clause-absent g c =
    let facts = c.binary_search_by_key.ensures in
    let by_key = facts.position g.T.Keyed.key (answers_always _ _ _ (λ f a r h called. search rules)) in
    (searched (ord.ghosts).cmp by_ids g.T.Keyed.key c.args.id c.args.items.now c.requires
    c.binary_search_by_key.result facts.bound by_key).1
