-- Without a ring each module has a rank, one above the greatest of its imports'.
use Rattle.std.proofs.Common.{◌≡◌, ℕ, zero, suc, ◌+◌, ◌≤◌, ◌<◌, Bool, true, false, List, [], ◌∷◌, map, length, Option, Some, None, refl, sym, ap, ◌∙◌, subst, ◌⊎◌, inl, inr, arith}
use Rattle.std.specs.Prelude.{max, option_map}
use Rattle.std.specs.Option.{option_and_then}
use Rattle.std.proofs.lemmas.Bool.{cases_lt}
use Rattle.std.proofs.lemmas.List.{length-map}
use Rattle.qtt_graph.specs.Graph.{Name, Graph, header_name, below, names, is_among}
use Rattle.qtt_graph.specs.Ring.{Imports, Leads}
use Rattle.qtt_graph.specs.Ring.Leads.{by_import, onward}
use Rattle.qtt_graph.specs.Ranks.{one_above, rank_within, rank}
use Rattle.qtt_graph.specs.Laws.{Closed, IsRank, RanksAreAbove}
use Rattle.qtt_graph.proofs.Among.{none≢some, some-injective, in-head, in-tail, in-cases, Once, AllAmong, once-fits}
use Rattle.qtt_graph.proofs.Rings.{leads-found}

-- ---- one above the greatest
abbrev pub joined : Option ℕ → Option ℕ → Option ℕ
joined r rest = option_and_then (λ n. option_map (max (suc n)) rest) r

pub joined-parts : (r rest : Option ℕ) (m : ℕ) → joined r rest ≡ Some m →
    (n : ℕ) × (k : ℕ) × (r ≡ Some n) × (rest ≡ Some k) × (max (suc n) k ≡ m)
joined-parts None rest m e = absurd (none≢some e)
joined-parts (Some n) None m e = absurd (none≢some e)
joined-parts (Some n) (Some k) m e = (n, k, refl, refl, some-injective e)

joined-none : (r rest : Option ℕ) → joined r rest ≡ None → (r ≡ None) ⊎ (rest ≡ None)
joined-none None rest e = inl refl
joined-none (Some n) None e = inr refl
joined-none (Some n) (Some k) e = absurd (none≢some (sym e))

abbrev pub Unranked : (Name → Option ℕ) → List Name → Type 0
Unranked f ns = (b : Name) × (is_among ns b ≡ true) × (f b ≡ None)

pub one_above-none : (f : Name → Option ℕ) (ns : List Name) → one_above (map f ns) ≡ None → Unranked f ns
one_above-none f [] e = absurd (none≢some (sym e))
one_above-none f (n ∷ ns) e = by_part (one_above-none f ns) (joined-none (f n) (one_above (map f ns)) e)
  where
    by_part : (one_above (map f ns) ≡ None → Unranked f ns) → (f n ≡ None) ⊎ (one_above (map f ns) ≡ None) →
        Unranked f (n ∷ ns)
    by_part further (inl here) = (n, in-head n n ns refl, here)
    by_part further (inr later) = let r = further later in (r.0, in-tail r.0 n ns r.1, r.2)

max-left : (a b : ℕ) → a ≤ max a b
max-left a b = omega arith

max-right : (a b : ℕ) → b ≤ max a b
max-right a b = omega arith

max-is : (a b : ℕ) → (max a b ≡ a) ⊎ (max a b ≡ b)
max-is a b = by_order (cases_lt a b)
  where
    by_order : (a < b) ⊎ (b ≤ a) → (max a b ≡ a) ⊎ (max a b ≡ b)
    by_order (inl h) = inr (omega (arith, h))
    by_order (inr h) = inl (omega (arith, h))

abbrev pub Below : (Name → Option ℕ) → ℕ → Name → Type 0
Below f r b = (s : ℕ) × (f b ≡ Some s) × (s < r)

pub one_above-all : (f : Name → Option ℕ) (ns : List Name) (r : ℕ) → one_above (map f ns) ≡ Some r →
    (b : Name) → is_among ns b ≡ true → Below f r b
one_above-all f [] r e b i = absurd (cc i)
one_above-all f (n ∷ ns) r e b i =
    by_case (λ k d j. one_above-all f ns k d b j) (joined-parts (f n) (one_above (map f ns)) r e) (in-cases b n ns i)
  where
    by_case : ((k : ℕ) → one_above (map f ns) ≡ Some k → is_among ns b ≡ true → Below f k b) → (m : ℕ) × (k : ℕ) ×
        (f n ≡ Some m) × (one_above (map f ns) ≡ Some k) × (max (suc m) k ≡ r) →
        (b ≡ n) ⊎ (is_among ns b ≡ true) → Below f r b
    by_case further (m, k, here, rest, is) (inl same) =
        let left = max-left (suc m) k in
        (m, subst (λ c. f c ≡ Some m) (sym same) here, omega (arith, left, is))
    by_case further (m, k, here, rest, is) (inr later) =
        let found = further k rest later in
        let right = max-right (suc m) k in
        (found.0, found.1, omega (arith, right, is, found.2))

abbrev Reaches : (Name → Option ℕ) → List Name → ℕ → Type 0
Reaches f ns s = (b : Name) × (is_among ns b ≡ true) × (f b ≡ Some s)

pub one_above-reached : (f : Name → Option ℕ) (ns : List Name) (s : ℕ) → one_above (map f ns) ≡ Some (suc s) →
    Reaches f ns s
one_above-reached f [] s e = absurd (omega (arith, some-injective e))
one_above-reached f (n ∷ ns) s e =
    by_parts (one_above-reached f ns s) (joined-parts (f n) (one_above (map f ns)) (suc s) e)
  where
    by_max : (one_above (map f ns) ≡ Some (suc s) → Reaches f ns s) → (m k : ℕ) → f n ≡ Some m →
        one_above (map f ns) ≡ Some k → max (suc m) k ≡ suc s → (max (suc m) k ≡ suc m) ⊎ (max (suc m) k ≡ k) →
        Reaches f (n ∷ ns) s
    by_max further m k here rest is (inl left) =
        let same : m ≡ s = omega (arith, left, is) in
        (n, in-head n n ns refl, here ∙ ap Some same)
    by_max further m k here rest is (inr right) =
        let r = further (rest ∙ ap Some (sym right ∙ is)) in
        (r.0, in-tail r.0 n ns r.1, r.2)

    by_parts : (one_above (map f ns) ≡ Some (suc s) → Reaches f ns s) →
        (m : ℕ) × (k : ℕ) × (f n ≡ Some m) × (one_above (map f ns) ≡ Some k) × (max (suc m) k ≡ suc s) →
        Reaches f (n ∷ ns) s
    by_parts further (m, k, here, rest, is) = by_max further m k here rest is (max-is (suc m) k)

one_above-more : (f g : Name → Option ℕ) → ((b : Name) (s : ℕ) → f b ≡ Some s → g b ≡ Some s) →
    (ns : List Name) (r : ℕ) → one_above (map f ns) ≡ Some r → one_above (map g ns) ≡ Some r
one_above-more f g more [] r e = e
one_above-more f g more (n ∷ ns) r e =
    by_parts (one_above-more f g more ns) (joined-parts (f n) (one_above (map f ns)) r e)
  where
    by_parts : ((k : ℕ) → one_above (map f ns) ≡ Some k → one_above (map g ns) ≡ Some k) → (m : ℕ) × (k : ℕ) × (f n ≡
        Some m) × (one_above (map f ns) ≡ Some k) × (max (suc m) k ≡ r) →
        joined (g n) (one_above (map g ns)) ≡ Some r
    by_parts further (m, k, here, rest, is) =
        ap (λ o. joined o (one_above (map g ns))) (more n m here) ∙
        ap (λ o. joined (Some m) o) (further k rest) ∙ ap Some is

-- ---- more steps change no rank
pub one_step_more : (g : Graph) (n : ℕ) (a : Name) (r : ℕ) → rank_within g n a ≡ Some r →
    rank_within g (suc n) a ≡ Some r
one_step_more g zero a r e = absurd (none≢some e)
one_step_more g (suc n) a r e =
    one_above-more (rank_within g n) (rank_within g (suc n)) (λ b s d. one_step_more g n b s d) (below g a) r e

pub steps_more : (g : Graph) (k n : ℕ) (a : Name) (r : ℕ) → rank_within g n a ≡ Some r →
    rank_within g (k + n) a ≡ Some r
steps_more g zero n a r e = subst (λ m. rank_within g m a ≡ Some r) (omega arith) e
steps_more g (suc k) n a r e =
    let there : suc (k + n) ≡ suc k + n = omega arith in
    subst (λ m. rank_within g m a ≡ Some r) there (one_step_more g (k + n) a r (steps_more g k n a r e))

-- ---- without a rank the imports go on
abbrev pub Along : Graph → Name → List Name → Type 0
Along g a [] = Unit {0}
Along g a (b ∷ bs) = Imports g a b × Along g b bs

goes_on : (g : Graph) (n : ℕ) (a : Name) → rank_within g n a ≡ None →
    (bs : List Name) × (length bs ≡ n) × Along g a bs
goes_on g zero a e = ([], refl, tt)
goes_on g (suc n) a e =
    let next = one_above-none (rank_within g n) (below g a) e in
    let rest = goes_on g n next.0 next.2 in
    (next.0 ∷ rest.0, ap suc rest.1, (next.1, rest.2))

pub along-leads : (g : Graph) (a c : Name) (bs : List Name) → Along g a bs → is_among bs c ≡ true → Leads g a c
along-leads g a c [] w i = absurd (cc i)
along-leads g a c (b ∷ bs) w i = by_case (along-leads g b c bs w.1) (in-cases c b bs i)
  where
    by_case : (is_among bs c ≡ true → Leads g b c) → (c ≡ b) ⊎ (is_among bs c ≡ true) → Leads g a c
    by_case further (inl e) = by_import (subst (λ d. Imports g a d) (sym e) w.0)
    by_case further (inr later) = onward w.0 (further later)

once_or_leads : (g : Graph) (a : Name) (bs : List Name) → Along g a bs → Once (a ∷ bs) ⊎ ((c : Name) × Leads g c c)
once_or_leads g a [] w = inl (refl, tt)
once_or_leads g a (b ∷ bs) w = by_rest (once_or_leads g b bs w.1)
  where
    by_test : Once (b ∷ bs) → (t : Bool) → is_among (b ∷ bs) a ≡ t → Once (a ∷ b ∷ bs) ⊎ ((c : Name) × Leads g c c)
    by_test o true e = inr (a, along-leads g a a (b ∷ bs) w e)
    by_test o false e = inl (e, o)

    by_rest : Once (b ∷ bs) ⊎ ((c : Name) × Leads g c c) → Once (a ∷ b ∷ bs) ⊎ ((c : Name) × Leads g c c)
    by_rest (inl o) = by_test o (is_among (b ∷ bs) a) refl
    by_rest (inr l) = inr l

pub along-named : (g : Graph) → Closed g → (a : Name) (bs : List Name) → Along g a bs → AllAmong (names g) bs
along-named g closed a [] w = tt
along-named g closed a (b ∷ bs) w = (closed a b w.0, along-named g closed b bs w.1)

-- where a module has no rank, a module leads back to itself
pub no_rank-leads : (g : Graph) → Closed g → (a : Name) → is_among (names g) a ≡ true → rank g a ≡ None →
    (c : Name) × Leads g c c
no_rank-leads g closed a i e = by_chain (goes_on g (length g) a e)
  where
    by_chain : (bs : List Name) × (length bs ≡ length g) × Along g a bs → (c : Name) × Leads g c c
    by_chain (bs, long, w) = by_case (once_or_leads g a bs w)
      where
        by_case : Once (a ∷ bs) ⊎ ((c : Name) × Leads g c c) → (c : Name) × Leads g c c
        by_case (inl o) =
            let fits = once-fits (a ∷ bs) (names g) o (i, along-named g closed a bs w) in
            let many : length (names g) ≡ length g = length-map g header_name in
            absurd (omega (arith, fits, many, long))
        by_case (inr l) = l

-- ---- the rank
rank_is : (g : Graph) (n : ℕ) (a : Name) (r : ℕ) → length g ≡ n → rank_within g n a ≡ Some r → IsRank g a r
rank_is g zero a r many e = absurd (none≢some e)
rank_is g (suc n) a r many e = record {
  above = λ b i.
      let s = one_above-all (rank_within g n) (below g a) r e b i in
      (s.0, subst (λ m. rank_within g m b ≡ Some s.0) (sym many) (one_step_more g n b s.0 s.1), s.2);
  reached = λ s is.
      let b = one_above-reached (rank_within g n) (below g a) s (e ∙ ap Some is) in
      (b.0, b.1, subst (λ m. rank_within g m b.0 ≡ Some s) (sym many) (one_step_more g n b.0 s b.2));
}

pub ranks_are_above : RanksAreAbove
ranks_are_above g closed none a i = by_rank (rank g a) refl
  where
    by_rank : (o : Option ℕ) → rank g a ≡ o → (r : ℕ) × (rank g a ≡ Some r) × IsRank g a r
    by_rank None e =
        let l = no_rank-leads g closed a i e in
        absurd (none≢some (sym none ∙ (leads-found g l.0 l.1).1))
    by_rank (Some r) e = (r, e, rank_is g (length g) a r refl e)
