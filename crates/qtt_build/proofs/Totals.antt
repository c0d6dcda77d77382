-- The ranks of a graph hold no more modules than there are.
use Rattle.std.proofs.Common.{◌≡◌, ℕ, zero, suc, ◌+◌, ◌<◌, ◌≤◌, Bool, true, false, cond, List, [], ◌∷◌, map, length, Option, Some, None, Ok, refl, ap, subst, ◌∙◌, arith}
use Rattle.std.specs.Prelude.{◌==◌, filter}
use Rattle.std.specs.Option.{option_map_or}
use Rattle.std.proofs.lemmas.List.{length-map}
use Rattle.std.proofs.lemmas.Bool.{eqb-true}
use Rattle.qtt_graph.specs.Graph.{Name, Graph, names, in_front, inserted, in_byte_order}
use Rattle.qtt_graph.specs.Ring.{ring}
use Rattle.qtt_graph.specs.Ranks.{rank, has_rank, of_rank, put_first, by_rank, place, ranked, unless, ranks}
use Rattle.qtt_build.specs.Answer.{total}

-- ---- sorting keeps them
length-inserted : (a : Name) (bs : List Name) → length (inserted a bs) ≡ suc (length bs)
length-inserted a [] = refl
length-inserted a (b ∷ bs) = by_order (in_front a b) (length-inserted a bs)
  where
    by_order : (t : Bool) → length (inserted a bs) ≡ suc (length bs) →
        length (cond t (a ∷ b ∷ bs) (b ∷ inserted a bs)) ≡ suc (suc (length bs))
    by_order true e = refl
    by_order false e = ap suc e

length-sorted : (bs : List Name) → length (in_byte_order bs) ≡ length bs
length-sorted [] = refl
length-sorted (b ∷ bs) = length-inserted b (in_byte_order bs) ∙ ap suc (length-sorted bs)

-- ---- one name has at most one of the ranks
abbrev one_if : Bool → ℕ
one_if b = cond b 1 0

abbrev hits : Option ℕ → ℕ → ℕ → ℕ
hits o r zero = 0
hits o r (suc n) = one_if (option_map_or (λ k. k == r) o false) + hits o (suc r) n

above-none : (k r n : ℕ) → k < r → hits (Some k) r n ≡ 0
above-none k r zero l = refl
above-none k r (suc n) l = by_test (k == r) refl (above-none k (suc r) n (omega arith))
  where
    by_test : (b : Bool) → (k == r) ≡ b → hits (Some k) (suc r) n ≡ 0 → one_if b + hits (Some k) (suc r) n ≡ 0
    by_test true e later = let same : k ≡ r = eqb-true k r e in absurd (omega (arith, same, l))
    by_test false e later = omega (arith, later)

at-most-one : (o : Option ℕ) (r n : ℕ) → hits o r n ≤ 1
at-most-one o r zero = omega arith
at-most-one None r (suc n) = omega (arith, at-most-one None (suc r) n)
at-most-one (Some k) r (suc n) = by_test (k == r) refl (at-most-one (Some k) (suc r) n)
  where
    by_test : (b : Bool) → (k == r) ≡ b → hits (Some k) (suc r) n ≤ 1 →
        one_if b + hits (Some k) (suc r) n ≤ 1
    by_test true e later =
        let same : k ≡ r = eqb-true k r e in
        let none = above-none k (suc r) n (omega (arith, same)) in
        omega (arith, none)
    by_test false e later = omega (arith, later)

-- ---- names by ranks
module _ (g : Graph) where
  abbrev levels : List Name → ℕ → ℕ → ℕ
  levels ns r zero = 0
  levels ns r (suc n) = length (filter (has_rank g r) ns) + levels ns (suc r) n

  no-names : (r n : ℕ) → levels [] r n ≡ 0
  no-names r zero = refl
  no-names r (suc n) = omega (arith, no-names (suc r) n)

  one-more : (a : Name) (ns : List Name) (r n : ℕ) → levels (a ∷ ns) r n ≡ hits (rank g a) r n + levels ns r n
  one-more a ns r zero = omega arith
  one-more a ns r (suc n) = by_test (has_rank g r a) (one-more a ns (suc r) n)
    where
      by_test : (b : Bool) → levels (a ∷ ns) (suc r) n ≡ hits (rank g a) (suc r) n + levels ns (suc r) n →
          length (cond b (a ∷ filter (has_rank g r) ns) (filter (has_rank g r) ns)) + levels (a ∷ ns) (suc r) n
          ≡ (one_if b + hits (rank g a) (suc r) n) + (length (filter (has_rank g r) ns) + levels ns (suc r) n)
      by_test true later = omega (arith, later)
      by_test false later = omega (arith, later)

  few : (ns : List Name) (r n : ℕ) → levels ns r n ≤ length ns
  few [] r n = omega (arith, no-names r n)
  few (a ∷ ns) r n = omega (arith, one-more a ns r n, at-most-one (rank g a) r n, few ns r n)

  total-ranks : (r n : ℕ) → total (by_rank g r n) ≡ levels (in_byte_order (names g)) r n
  total-ranks r zero = refl
  total-ranks r (suc n) =
      of_rank_first (of_rank g r) ∙ ap (λ k. length (of_rank g r) + k) (total-ranks (suc r) n)
    where
      of_rank_first : (ns : List Name) →
          total (put_first ns (by_rank g (suc r) n)) ≡ length ns + total (by_rank g (suc r) n)
      of_rank_first [] = omega arith
      of_rank_first (a ∷ ns) = refl

total-map : {X Y : Type 0} (f : X → Y) (xss : List (List X)) → total (map (map f) xss) ≡ total xss
total-map f [] = refl
total-map f (xs ∷ more) = omega (arith, length-map xs f, total-map f more)

pub few-ranked : (g : Graph) → total (ranked g) ≤ length g
few-ranked g = omega (
  arith,
  total-map (place g) (by_rank g 0 (length g)),
  total-ranks g 0 (length g),
  few g (in_byte_order (names g)) 0 (length g),
  length-sorted (names g),
  length-map g (λ h. h.name),
)

-- those that are given are few
pub few-levels : (g : Graph) (levels : List (List ℕ)) → ranks g ≡ Ok levels → total levels ≤ length g
few-levels g levels e = by_ring (ring g) e
  where
    by_ring : (o : Option (List Name)) → unless o (ranked g) ≡ Ok levels → total levels ≤ length g
    by_ring None h = let same : ranked g ≡ levels = cc h in subst (λ ls. total ls ≤ length g) same (few-ranked g)
    by_ring (Some way) h = absurd (cc h)
