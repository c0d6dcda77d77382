-- The own items of a text: each name that is declared has the number of its first declaration.
use Rattle.std.proofs.Common.{◌≡◌, ℕ, suc, ◌+◌, ◌<◌, ◌≤◌, Bool, true, false, List, [], ◌∷◌, ◌++◌, length, Option, Some, None, is_some, cond, refl, sym, ap, ◌∙◌, arith}
use Rattle.qtt_names.specs.declared.scope.OwnItem.{OwnItem}
use Rattle.qtt_names.specs.Scope.{same_name, entry_of, with_item, with_items}
use Rattle.qtt_accepted.proofs.Outlines.{same-self}

none≢some : {A : Type 0} {a : A} → None ≡ Some a → ⊥
none≢some e = absurd (cc e)

-- ---- an entry
entry-stays : (n : List ℕ) (known more : List (List ℕ × OwnItem)) (i : OwnItem) → entry_of n known ≡ Some i →
    entry_of n (known ++ more) ≡ Some i
entry-stays n [] more i e = absurd (none≢some e)
entry-stays n (k ∷ known) more i e = by_test (same_name n k.0) (entry-stays n known more i) e
  where
    by_test : (b : Bool) → (entry_of n known ≡ Some i → entry_of n (known ++ more) ≡ Some i) →
        cond b (Some k.1) (entry_of n known) ≡ Some i → cond b (Some k.1) (entry_of n (known ++ more)) ≡ Some i
    by_test true rest e = e
    by_test false rest e = rest e

entry-last : (n : List ℕ) (known : List (List ℕ × OwnItem)) (i : OwnItem) → entry_of n known ≡ None →
    entry_of n (known ++ (n, i) ∷ []) ≡ Some i
entry-last n [] i e = ap (λ b. cond b (Some i) None) (same-self n)
entry-last n (k ∷ known) i e = by_test (same_name n k.0) (entry-last n known i) e
  where
    by_test : (b : Bool) → (entry_of n known ≡ None → entry_of n (known ++ (n, i) ∷ []) ≡ Some i) →
        cond b (Some k.1) (entry_of n known) ≡ None →
        cond b (Some k.1) (entry_of n (known ++ (n, i) ∷ [])) ≡ Some i
    by_test true rest e = absurd (none≢some (sym e))
    by_test false rest e = rest e

-- ---- the number of a name
-- an entry with a number below this
abbrev pub Numbered : List ℕ → List (List ℕ × OwnItem) → ℕ → Type 0
Numbered n known k = (i : OwnItem) × (entry_of n known ≡ Some i) × (i.number < k)

pub later : (n : List ℕ) (known : List (List ℕ × OwnItem)) (k l : ℕ) → k ≤ l → Numbered n known k →
    Numbered n known l
later n known k l h (i, e, b) = (i, e, omega (arith, h, b))

with-stays : (n m : List ℕ) (known : List (List ℕ × OwnItem)) (i j : OwnItem) → entry_of n known ≡ Some i →
    entry_of n (with_item known m j) ≡ Some i
with-stays n m known i j e = by_test (is_some (entry_of m known))
  where
    by_test : (b : Bool) → entry_of n (cond b known (known ++ (m, j) ∷ [])) ≡ Some i
    by_test true = e
    by_test false = entry-stays n known ((m, j) ∷ []) i e

all-stay : (n : List ℕ) (known : List (List ℕ × OwnItem)) (k : ℕ) (ds : List (List ℕ × Bool)) (i : OwnItem) →
    entry_of n known ≡ Some i → entry_of n (with_items known k ds) ≡ Some i
all-stay n known k [] i e = e
all-stay n known k (d ∷ ds) i e =
    let j : OwnItem = record { number = k; is_definition = d.1 } in
    all-stay n (with_item known d.0 j) (suc k) ds i (with-stays n d.0 known i j e)

-- what is known has numbers below this
abbrev Below : ℕ → List (List ℕ × OwnItem) → Type 0
Below k known = (n : List ℕ) (i : OwnItem) → entry_of n known ≡ Some i → i.number < k

entry-of-more : (n m : List ℕ) (known : List (List ℕ × OwnItem)) (i j : OwnItem) →
    entry_of n (known ++ (m, j) ∷ []) ≡ Some i → entry_of n known ≡ None → j ≡ i
entry-of-more n m [] i j e h = by_test (same_name n m) e
  where
    by_test : (b : Bool) → cond b (Some j) None ≡ Some i → j ≡ i
    by_test true e = cc e
    by_test false e = absurd (none≢some e)
entry-of-more n m (k ∷ known) i j e h = by_test (same_name n k.0) (entry-of-more n m known i j) e h
  where
    by_test : (b : Bool) → (entry_of n (known ++ (m, j) ∷ []) ≡ Some i → entry_of n known ≡ None → j ≡ i) →
        cond b (Some k.1) (entry_of n (known ++ (m, j) ∷ [])) ≡ Some i →
        cond b (Some k.1) (entry_of n known) ≡ None → j ≡ i
    by_test true rest e h = absurd (none≢some (sym h))
    by_test false rest e h = rest e h

one-below : (k : ℕ) (known : List (List ℕ × OwnItem)) (m : List ℕ) (b : Bool) → Below k known →
    Below (suc k) (with_item known m (record { number = k; is_definition = b }))
one-below k known m b below n i = by_test (is_some (entry_of m known))
  where
    j : OwnItem
    j = record { number = k; is_definition = b }

    is-new : (o : Option OwnItem) → entry_of n known ≡ o → entry_of n (known ++ (m, j) ∷ []) ≡ Some i → i.number < suc k
    is-new None h e = ap_number (entry-of-more n m known i j e h)
      where
        ap_number : j ≡ i → i.number < suc k
        ap_number s = let t : k ≡ i.number = ap (λ (x : OwnItem). x.number) s in omega (arith, t)
    is-new (Some x) h e =
        let s : Some x ≡ Some i = sym (entry-stays n known ((m, j) ∷ []) x h) ∙ e in
        let t : x ≡ i = cc s in
        let u : x.number < k = below n x h in
        let v : x.number ≡ i.number = ap (λ (y : OwnItem). y.number) t in omega (arith, u, v)

    by_test : (c : Bool) → entry_of n (cond c known (known ++ (m, j) ∷ [])) ≡ Some i → i.number < suc k
    by_test true e = let u : i.number < k = below n i e in omega (arith, u)
    by_test false e = is-new (entry_of n known) refl e

all-below : (k : ℕ) (known : List (List ℕ × OwnItem)) (ds : List (List ℕ × Bool)) → Below k known →
    Below (k + length ds) (with_items known k ds)
all-below k known [] below = λ n i e. let u : i.number < k = below n i e in omega (arith, u)
all-below k known (d ∷ ds) below = λ n i e.
    let j : OwnItem = record { number = k; is_definition = d.1 } in
    let u : i.number < suc k + length ds =
    all-below (suc k) (with_item known d.0 j) ds (one-below k known d.0 d.1 below) n i e in
    omega (arith, u)

-- a name that is added is there, with its number or an earlier one
is-added : (n : List ℕ) (b : Bool) (known : List (List ℕ × OwnItem)) (k : ℕ) → Below k known →
    Numbered n (with_item known n (record { number = k; is_definition = b })) (suc k)
is-added n b known k below = by_entry (entry_of n known) refl
  where
    j : OwnItem
    j = record { number = k; is_definition = b }

    by_entry : (o : Option OwnItem) → entry_of n known ≡ o → Numbered n (with_item known n j) (suc k)
    by_entry None h =
        let e : with_item known n j ≡ known ++ (n, j) ∷ [] =
        ap (λ (o : Option OwnItem). cond (is_some o) known (known ++ (n, j) ∷ [])) h in
        (j, ap (entry_of n) e ∙ entry-last n known j h, omega arith)
    by_entry (Some i) h =
        let e : with_item known n j ≡ known =
        ap (λ (o : Option OwnItem). cond (is_some o) known (known ++ (n, j) ∷ [])) h in
        let u : i.number < k = below n i h in
        (i, ap (entry_of n) e ∙ h, omega (arith, u))

-- names that are added behind others
with-more : (known : List (List ℕ × OwnItem)) (k : ℕ) (xs ys : List (List ℕ × Bool)) →
    with_items known k (xs ++ ys) ≡ with_items (with_items known k xs) (k + length xs) ys
with-more known k [] ys =
    let e : k ≡ k + 0 = omega arith in ap (λ (j : ℕ). with_items known j ys) e
with-more known k (x ∷ xs) ys =
    let e : suc k + length xs ≡ k + length (x ∷ xs) = omega arith in
    let first = with_item known x.0 (record { number = k; is_definition = x.1 }) in
    with-more first (suc k) xs ys ∙ ap (λ (j : ℕ). with_items (with_items first (suc k) xs) j ys) e

-- a name that is declared behind others
pub declared-so : (front back : List (List ℕ × Bool)) (n : List ℕ) (b : Bool) →
    Numbered n (with_items [] 0 (front ++ (n, b) ∷ back)) (suc (length front))
declared-so front back n b =
    let known : List (List ℕ × OwnItem) = with_items [] 0 front in
    let below : Below (0 + length front) known = all-below 0 [] front (λ m i e. absurd (none≢some e)) in
    let j : OwnItem = record { number = 0 + length front; is_definition = b } in
    let (i, e, u) = is-added n b known (0 + length front) below in (
      i,
      ap (entry_of n) (with-more [] 0 front ((n, b) ∷ back))
          ∙ all-stay n (with_item known n j) (suc (0 + length front)) back i e,
      omega (arith, u),
    )
