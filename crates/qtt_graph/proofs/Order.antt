-- Names in byte order.
use Rattle.std.proofs.Common.{◌≡◌, Bool, true, false, cond, List, [], ◌∷◌, refl, sym, ap, ◌∙◌, subst, ◌⊎◌, inl, inr, Ordering, Less, Equal, Greater}
use Rattle.std.specs.Ordering.{nat_cmp, is_le, is_eq, ordering_reverse}
use Rattle.std.specs.List.{AllByRecursion}
use Rattle.std.specs.Cmp.Lexicographic.{slice_cmp, nat_list_cmp_total, texts_ties}
use mathlib.Core.Path.{ap₂}
use Rattle.qtt_graph.specs.Graph.{Name, is_among, in_front, inserted, in_byte_order}
use Rattle.qtt_graph.proofs.Among.{same-is, in-head, in-tail, in-cases, Once}

abbrev pub compared : Name → Name → Ordering
compared = slice_cmp nat_cmp

less≢greater : Less ≡ Greater → ⊥
less≢greater e = absurd (cc e)

not-below-itself : (a : Name) → compared a a ≡ Less → ⊥
not-below-itself a e = less≢greater (sym e ∙ nat_list_cmp_total.antisymm a a ∙ ap ordering_reverse e)

one-way-below : (a b : Name) → compared a b ≡ Less → compared b a ≡ Less → ⊥
one-way-below a b e d = less≢greater (sym e ∙ nat_list_cmp_total.antisymm a b ∙ ap ordering_reverse d)

pub equal-is : (a b : Name) → compared a b ≡ Equal → a ≡ b
equal-is a b e = same-is a b (texts_ties a b ∙ ap is_eq e)

-- each below those behind it
abbrev pub Ascends : List Name → Type 0
Ascends [] = Unit {0}
Ascends (a ∷ more) = AllByRecursion (λ b. compared a b ≡ Less) more × Ascends more

below-all : (a q : Name) (ns : List Name) → AllByRecursion (λ b. compared a b ≡ Less) ns → is_among ns q ≡ true →
    compared a q ≡ Less
below-all a q [] h i = absurd (cc i)
below-all a q (n ∷ ns) h i = by_case (below-all a q ns h.1) (in-cases q n ns i)
  where
    by_case : (is_among ns q ≡ true → compared a q ≡ Less) → (q ≡ n) ⊎ (is_among ns q ≡ true) → compared a q ≡ Less
    by_case later (inl e) = subst (λ b. compared a b ≡ Less) (sym e) h.0
    by_case later (inr i) = later i

-- ---- sorting by insertion
in-front-cases : (a b : Name) → in_front a b ≡ true → (compared a b ≡ Less) ⊎ (a ≡ b)
in-front-cases a b i = by_order (compared a b) refl
  where
    by_order : (o : Ordering) → compared a b ≡ o → (compared a b ≡ Less) ⊎ (a ≡ b)
    by_order Less e = inl e
    by_order Equal e = inr (equal-is a b e)
    by_order Greater e = absurd (cc (sym i ∙ ap is_le e))

behind-is-above : (a b : Name) → in_front a b ≡ false → compared b a ≡ Less
behind-is-above a b i = by_order (compared a b) refl
  where
    by_order : (o : Ordering) → compared a b ≡ o → compared b a ≡ Less
    by_order Less e = absurd (cc (sym i ∙ ap is_le e))
    by_order Equal e = absurd (cc (sym i ∙ ap is_le e))
    by_order Greater e = nat_list_cmp_total.antisymm b a ∙ ap ordering_reverse e

all-above : (a b : Name) (ns : List Name) → compared a b ≡ Less → AllByRecursion (λ c. compared b c ≡ Less) ns →
    AllByRecursion (λ c. compared a c ≡ Less) ns
all-above a b [] l h = tt
all-above a b (n ∷ ns) l h = (nat_list_cmp_total.trans a b n l h.0, all-above a b ns l h.1)

all-inserted : (a b : Name) (ns : List Name) → compared b a ≡ Less → AllByRecursion (λ c. compared b c ≡ Less) ns →
    AllByRecursion (λ c. compared b c ≡ Less) (inserted a ns)
all-inserted a b [] l h = (l, tt)
all-inserted a b (n ∷ ns) l h = by_test (all-inserted a b ns l h.1) (in_front a n) refl
  where
    by_test : AllByRecursion (λ c. compared b c ≡ Less) (inserted a ns) → (t : Bool) → in_front a n ≡ t →
        AllByRecursion (λ c. compared b c ≡ Less) (inserted a (n ∷ ns))
    by_test later true e =
        subst (λ t. AllByRecursion (λ c. compared b c ≡ Less) (cond t (a ∷ n ∷ ns) (n ∷ inserted a ns))) (sym e) (l, h)
    by_test later false e =
        subst (λ t. AllByRecursion (λ c. compared b c ≡ Less) (cond t (a ∷ n ∷ ns) (n ∷ inserted a ns))) (sym e)
        (h.0, later)

ascends-inserted : (a : Name) (ns : List Name) → Ascends ns → is_among ns a ≡ false → Ascends (inserted a ns)
ascends-inserted a [] h n = (tt, tt)
ascends-inserted a (b ∷ bs) h n =
    by_test (λ m. ascends-inserted a bs h.1 m) (in_front a b) refl
  where
    absent : is_among bs a ≡ false
    absent = by_value (is_among bs a) refl
      where
        by_value : (t : Bool) → is_among bs a ≡ t → is_among bs a ≡ false
        by_value false e = e
        by_value true e = absurd (cc (sym n ∙ in-tail a b bs e))

    in_front_of_all : (compared a b ≡ Less) ⊎ (a ≡ b) → Ascends (a ∷ b ∷ bs)
    in_front_of_all (inl l) = ((l, all-above a b bs l h.0), h)
    in_front_of_all (inr e) = absurd (cc (sym n ∙ in-head a b bs e))

    by_test : (is_among bs a ≡ false → Ascends (inserted a bs)) → (t : Bool) → in_front a b ≡ t →
        Ascends (inserted a (b ∷ bs))
    by_test later true e =
        subst (λ t. Ascends (cond t (a ∷ b ∷ bs) (b ∷ inserted a bs))) (sym e) (in_front_of_all (in-front-cases a b e))
    by_test later false e =
        subst (λ t. Ascends (cond t (a ∷ b ∷ bs) (b ∷ inserted a bs))) (sym e)
        (all-inserted a b bs (behind-is-above a b e) h.0, later absent)

pub inserted-among : (q a : Name) (ns : List Name) → is_among (inserted a ns) q ≡ true → is_among (a ∷ ns) q ≡ true
inserted-among q a [] i = i
inserted-among q a (n ∷ ns) i = by_test (inserted-among q a ns) (in_front a n) refl
  where
    deeper : (is_among (inserted a ns) q ≡ true → is_among (a ∷ ns) q ≡ true) →
        (q ≡ n) ⊎ (is_among (inserted a ns) q ≡ true) → is_among (a ∷ n ∷ ns) q ≡ true
    deeper later (inl e) = in-tail q a (n ∷ ns) (in-head q n ns e)
    deeper later (inr j) = among_one (in-cases q a ns (later j))
      where
        among_one : (q ≡ a) ⊎ (is_among ns q ≡ true) → is_among (a ∷ n ∷ ns) q ≡ true
        among_one (inl e) = in-head q a (n ∷ ns) e
        among_one (inr k) = in-tail q a (n ∷ ns) (in-tail q n ns k)

    by_test : (is_among (inserted a ns) q ≡ true → is_among (a ∷ ns) q ≡ true) → (t : Bool) → in_front a n ≡ t →
        is_among (a ∷ n ∷ ns) q ≡ true
    by_test later true e = subst (λ t. is_among (cond t (a ∷ n ∷ ns) (n ∷ inserted a ns)) q ≡ true) e i
    by_test later false e =
        deeper later (in-cases q n (inserted a ns)
        (subst (λ t. is_among (cond t (a ∷ n ∷ ns) (n ∷ inserted a ns)) q ≡ true) e i))

pub in_order-among : (q : Name) (ns : List Name) → is_among (in_byte_order ns) q ≡ true → is_among ns q ≡ true
in_order-among q [] i = i
in_order-among q (n ∷ ns) i =
    by_case (in_order-among q ns) (in-cases q n (in_byte_order ns) (inserted-among q n (in_byte_order ns) i))
  where
    by_case : (is_among (in_byte_order ns) q ≡ true → is_among ns q ≡ true) →
        (q ≡ n) ⊎ (is_among (in_byte_order ns) q ≡ true) → is_among (n ∷ ns) q ≡ true
    by_case later (inl e) = in-head q n ns e
    by_case later (inr j) = in-tail q n ns (later j)

pub in_order-ascends : (ns : List Name) → Once ns → Ascends (in_byte_order ns)
in_order-ascends [] o = tt
in_order-ascends (n ∷ ns) o = ascends-inserted n (in_byte_order ns) (in_order-ascends ns o.1) absent
  where
    absent : is_among (in_byte_order ns) n ≡ false
    absent = by_value (is_among (in_byte_order ns) n) refl
      where
        by_value : (t : Bool) → is_among (in_byte_order ns) n ≡ t → is_among (in_byte_order ns) n ≡ false
        by_value false e = e
        by_value true e = absurd (cc (sym o.0 ∙ in_order-among n ns e))

-- ---- one ascending list of given names
abbrev pub Within : List Name → List Name → Type 0
Within ms ns = (q : Name) → is_among ms q ≡ true → is_among ns q ≡ true

same-first : (a b : Name) (ms ns : List Name) → Ascends (a ∷ ms) → Ascends (b ∷ ns) → Within (a ∷ ms) (b ∷ ns) →
    Within (b ∷ ns) (a ∷ ms) → a ≡ b
same-first a b ms ns h k into back =
    by_cases (in-cases a b ns (into a (in-head a a ms refl))) (in-cases b a ms (back b (in-head b b ns refl)))
  where
    by_cases : (a ≡ b) ⊎ (is_among ns a ≡ true) → (b ≡ a) ⊎ (is_among ms b ≡ true) → a ≡ b
    by_cases (inl e) c = e
    by_cases (inr i) (inl e) = sym e
    by_cases (inr i) (inr j) = absurd (one-way-below b a (below-all b a ns k.0 i) (below-all a b ms h.0 j))

rest-within : (a : Name) (ms ns : List Name) → AllByRecursion (λ b. compared a b ≡ Less) ms →
    Within (a ∷ ms) (a ∷ ns) → Within ms ns
rest-within a ms ns h into q i = by_case (in-cases q a ns (into q (in-tail q a ms i)))
  where
    by_case : (q ≡ a) ⊎ (is_among ns q ≡ true) → is_among ns q ≡ true
    by_case (inl e) = absurd (not-below-itself a (subst (λ b. compared a b ≡ Less) e (below-all a q ms h i)))
    by_case (inr j) = j

pub ascending-is-one : (ms ns : List Name) → Ascends ms → Ascends ns → Within ms ns → Within ns ms → ms ≡ ns
ascending-is-one [] [] h k into back = refl
ascending-is-one [] (b ∷ ns) h k into back = absurd (cc (back b (in-head b b ns refl)))
ascending-is-one (a ∷ ms) [] h k into back = absurd (cc (into a (in-head a a ms refl)))
ascending-is-one (a ∷ ms) (b ∷ ns) h k into back =
    let same = same-first a b ms ns h k into back in
    let front = λ (c : Name). c ∷ ns in
    let into' : Within (a ∷ ms) (a ∷ ns) = subst (λ c. Within (a ∷ ms) (c ∷ ns)) (sym same) into in
    let back' : Within (a ∷ ns) (a ∷ ms) = subst (λ c. Within (c ∷ ns) (a ∷ ms)) (sym same) back in
    let above = subst (λ c. AllByRecursion (λ d. compared c d ≡ Less) ns) (sym same) k.0 in
    ap₂ (λ c cs. c ∷ cs) same
    (ascending-is-one ms ns h.1 k.1 (rest-within a ms ns h.0 into') (rest-within a ns ms above back'))
