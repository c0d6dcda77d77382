-- Which modules import which, by their places.
use Rattle.std.proofs.Common.{◌≡◌, ℕ, ◌+◌, ◌≤◌, ◌<◌, Bool, true, false, ◌||◌, List, [], ◌∷◌, ◌++◌, map, length, take, slice_index_or, slice_set, refl, sym, ap, ◌∙◌, subst, ◌⊎◌, inl, inr, arith}
use Rattle.std.specs.Prelude.{◌==◌}
use Rattle.std.specs.List.{list_any}
use Rattle.std.proofs.lemmas.Bool.{cases_eq, cases_lt, eqb-true, eq-eqb, ne_eqb, or_cases, or_left, or_right}
use Rattle.std.proofs.lemmas.List.{length-map, length-set, get_or-set_same, get_or-set_other, get_or_past, map-set}
use Rattle.std.proofs.lemmas.List.Folds.{list_any-append, list_any_more, list_any_at}
use mathlib.Core.Path.{ap₂}
use Rattle.qtt_graph.specs.Graph.{Graph, Header, header_name, below, names, same_name, is_among}
use Rattle.qtt_graph.specs.Modules.{name_at, has_place, IsWithin, AreWithin, AreTurned, AreImporters, places_imported, rows_of}
use Rattle.qtt_graph.specs.Laws.{Closed}
use Rattle.qtt_graph.proofs.Among.{same-is, same-as, Once}
use Rattle.qtt_graph.proofs.Following.{Within, row-is, mapped}
use Rattle.qtt_graph.proofs.Nearer.{one-place}

-- ---- places in a row
pub or-false : (t : Bool) → (t || false) ≡ t
or-false true = refl
or-false false = refl

has-behind : (row : List ℕ) (q p : ℕ) → has_place (row ++ q ∷ []) p ≡ (has_place row p || (p == q))
has-behind row q p =
    list_any-append (λ r. p == r) row (q ∷ []) ∙ ap (λ t. has_place row p || t) (or-false (p == q))

pub other-behind : (row : List ℕ) (q p : ℕ) → (p ≡ q → ⊥) → has_place (row ++ q ∷ []) p ≡ has_place row p
other-behind row q p other =
    has-behind row q p ∙ ap (λ t. has_place row p || t) (ne_eqb p q other) ∙ or-false (has_place row p)

pub this-behind : (row : List ℕ) (q p : ℕ) → p ≡ q → has_place (row ++ q ∷ []) p ≡ true
this-behind row q p same = has-behind row q p ∙ or_right (has_place row p) (p == q) (eq-eqb p q same)

pub has-at : (row : List ℕ) (k : ℕ) → k < length row → has_place row (slice_index_or row k 0) ≡ true
has-at row k l = list_any_at (λ q. slice_index_or row k 0 == q) row k 0 l (eq-eqb _ _ refl)

-- some place of a row passes a test
abbrev pub Passes : (ℕ → Bool) → List ℕ → Type 0
Passes test row = (p : ℕ) × (has_place row p ≡ true) × (test p ≡ true)

pub any-passes : (test : ℕ → Bool) (row : List ℕ) → list_any test row ≡ true → Passes test row
any-passes test [] e = absurd (cc e)
any-passes test (q ∷ row) e = by_case (any-passes test row) (or_cases (test q) (list_any test row) e)
  where
    by_case : (list_any test row ≡ true → Passes test row) → (test q ≡ true) ⊎ (list_any test row ≡ true) →
        Passes test (q ∷ row)
    by_case further (inl here) = (q, or_left (q == q) (has_place row q) (eq-eqb q q refl), here)
    by_case further (inr later) =
        let r = further later in
        (r.0, or_right (r.0 == q) (has_place row r.0) r.1, r.2)

pub passes-any : (test : ℕ → Bool) (row : List ℕ) (p : ℕ) → has_place row p ≡ true → test p ≡ true →
    list_any test row ≡ true
passes-any test [] p h t = absurd (cc h)
passes-any test (q ∷ row) p h t =
    by_case (λ i. passes-any test row p i t) (or_cases (p == q) (has_place row p) h)
  where
    by_case : (has_place row p ≡ true → list_any test row ≡ true) → ((p == q) ≡ true) ⊎ (has_place row p ≡ true) →
        list_any test (q ∷ row) ≡ true
    by_case further (inl same) =
        or_left (test q) (list_any test row) (subst (λ r. test r ≡ true) (eqb-true p q same) t)
    by_case further (inr later) = or_right (test q) (list_any test row) (further later)

row-within : (n : ℕ) (row : List ℕ) → Within n row → IsWithin n row
row-within n [] w p h = absurd (cc h)
row-within n (q ∷ row) w p h = by_case (row-within n row w.1 p) (or_cases (p == q) (has_place row p) h)
  where
    by_case : (has_place row p ≡ true → p < n) → ((p == q) ≡ true) ⊎ (has_place row p ≡ true) → p < n
    by_case further (inl same) = subst (λ r. r < n) (sym (eqb-true p q same)) w.0
    by_case further (inr later) = further later

pub within-row : (n : ℕ) (row : List ℕ) (k : ℕ) → IsWithin n row → k < length row → slice_index_or row k 0 < n
within-row n row k w l = w (slice_index_or row k 0) (has-at row k l)

-- ---- rows that are turned, one place after another
abbrev pub at : List (List ℕ) → ℕ → List ℕ
at rows p = slice_index_or rows p []

-- the first n rows are turned, and k places of the next one
pub record Turning (rows turned : List (List ℕ)) (n k : ℕ) : Type 0 where
  pub all : length turned ≡ length rows
  pub before : (p i : ℕ) → p < length rows → i < n → has_place (at turned p) i ≡ has_place (at rows i) p
  pub here : (p : ℕ) → p < length rows → has_place (at turned p) n ≡ has_place (take k (at rows n)) p
  pub beyond : (p i : ℕ) → p < length rows → n < i → has_place (at turned p) i ≡ false

-- a place more in the row of t
abbrev pub put : List (List ℕ) → ℕ → ℕ → List (List ℕ)
put turned t n = slice_set turned t (at turned t ++ n ∷ [])

put-other : (turned : List (List ℕ)) (t n p i : ℕ) → t < length turned → (i ≡ n → ⊥) →
    has_place (at (put turned t n) p) i ≡ has_place (at turned p) i
put-other turned t n p i l other = by_row (cases_eq p t)
  where
    by_row : (p ≡ t) ⊎ (p ≡ t → ⊥) → has_place (at (put turned t n) p) i ≡ has_place (at turned p) i
    by_row (inl same) =
        subst (λ q. has_place (at (put turned t n) q) i ≡ has_place (at turned q) i) (sym same)
        (ap (λ row. has_place row i) (get_or-set_same turned t (at turned t ++ n ∷ []) [] l) ∙
        other-behind (at turned t) n i other)
    by_row (inr more) = ap (λ row. has_place row i) (get_or-set_other turned t p (at turned t ++ n ∷ []) [] more)

put-here : (turned : List (List ℕ)) (t n p : ℕ) → t < length turned →
    has_place (at (put turned t n) p) n ≡ (has_place (at turned p) n || (p == t))
put-here turned t n p l = by_row (cases_eq p t)
  where
    by_row : (p ≡ t) ⊎ (p ≡ t → ⊥) → has_place (at (put turned t n) p) n ≡ (has_place (at turned p) n || (p == t))
    by_row (inl same) =
        subst (λ q. has_place (at (put turned t n) q) n ≡ true) (sym same)
        (ap (λ row. has_place row n) (get_or-set_same turned t (at turned t ++ n ∷ []) [] l) ∙
        this-behind (at turned t) n n refl) ∙
        sym (or_right (has_place (at turned p) n) (p == t) (eq-eqb p t same))
    by_row (inr more) =
        ap (λ row. has_place row n) (get_or-set_other turned t p (at turned t ++ n ∷ []) [] more) ∙
        sym (ap (λ b. has_place (at turned p) n || b) (ne_eqb p t more) ∙ or-false (has_place (at turned p) n))

pub turning-more : (rows turned : List (List ℕ)) (n k t : ℕ) → k < length (at rows n) →
    t ≡ slice_index_or (at rows n) k 0 → t < length rows → Turning rows turned n k →
    Turning rows (put turned t n) n (k + 1)
turning-more rows turned n k t low is l h =
    let inside : t < length turned = omega (arith, l, h.all) in
    record {
      all = length-set turned t (at turned t ++ n ∷ []) ∙ h.all;
      before = λ p i m z. put-other turned t n p i inside (λ e. omega (arith, z, e)) ∙ h.before p i m z;
      here = λ p m.
          put-here turned t n p inside ∙ ap (λ b. b || (p == t)) (h.here p m) ∙
          ap (λ q. has_place (take k (at rows n)) p || (p == q)) is ∙
          sym (list_any_more (λ q. p == q) (at rows n) k 0 low);
      beyond = λ p i m z. put-other turned t n p i inside (λ e. omega (arith, z, e)) ∙ h.beyond p i m z;
    }

-- a row of the code's
pub row-there : {A : Type 0} (items : A → List ℕ) (below : List A) (held : A) (row : List ℕ) (n : ℕ) →
    n < length below → held ≡ slice_index_or below n held → row ≡ items held → row ≡ at (map items below) n
row-there items below held row n l there is = is ∙ ap items there ∙ sym (mapped items below n held l)

-- with a place behind
pub row-put : {A : Type 0} (items : A → List ℕ) (turned : List A) (row held : A) (t n : ℕ) → t < length turned →
    held ≡ slice_index_or turned t held → items row ≡ items held ++ n ∷ [] →
    map items (slice_set turned t row) ≡ put (map items turned) t n
row-put items turned row held t n l there is =
    map-set items turned t row ∙
    ap (slice_set (map items turned) t) (is ∙
    ap (λ r. r ++ n ∷ []) (ap items there ∙ sym (mapped items turned t held l)))

-- ---- the rows of a graph
header-length : (g : Graph) → length (names g) ≡ length g
header-length g = length-map g header_name

pub rows-length : (g : Graph) → length (rows_of g) ≡ length g
rows-length g = length-map g (λ (h : Header). places_imported (names g) h.imports)

pub rows-within : (g : Graph) → Closed g → Once (names g) → AreWithin (rows_of g)
rows-within g closed o i = by_order (cases_lt i (length g))
  where
    by_order : (i < length g) ⊎ (length g ≤ i) → IsWithin (length (rows_of g)) (at (rows_of g) i)
    by_order (inl l) =
        subst (λ n. IsWithin n (at (rows_of g) i)) (header-length g ∙ sym (rows-length g))
        (row-within (length (names g)) (at (rows_of g) i) (row-is g closed o i l).1)
    by_order (inr far) = λ p h.
        absurd (cc (sym (ap (λ row. has_place row p) (get_or_past (rows_of g) i [] (omega
        (arith, far, rows-length g)))) ∙ h))

same-place : (g : Graph) (p q : ℕ) → Once (names g) → p < length g → q < length g →
    (p == q) ≡ same_name (name_at g p) (name_at g q)
same-place g p q o l m = by_place (cases_eq p q)
  where
    by_name : (p ≡ q → ⊥) → (t : Bool) → same_name (name_at g p) (name_at g q) ≡ t →
        same_name (name_at g p) (name_at g q) ≡ false
    by_name other false e = e
    by_name other true e =
        absurd (other (one-place (names g) p q o (omega (arith, l, header-length g)) (omega
        (arith, m, header-length g)) (same-is _ _ e)))

    by_place : (p ≡ q) ⊎ (p ≡ q → ⊥) → (p == q) ≡ same_name (name_at g p) (name_at g q)
    by_place (inl same) = eq-eqb p q same ∙ sym (same-as _ _ (ap (name_at g) same))
    by_place (inr other) = ne_eqb p q other ∙ sym (by_name other (same_name (name_at g p) (name_at g q)) refl)

named-place : (g : Graph) (row : List ℕ) (p : ℕ) → Once (names g) → p < length g → Within (length g) row →
    has_place row p ≡ is_among (map (name_at g) row) (name_at g p)
named-place g [] p o l w = refl
named-place g (q ∷ row) p o l w =
    ap₂ (λ s t. s || t) (same-place g p q o l w.0) (named-place g row p o l w.1)

-- rows that are turned have the importers
pub turned-importers : (g : Graph) (turned : List (List ℕ)) (p : ℕ) → Closed g → Once (names g) →
    AreTurned (rows_of g) turned → p < length g → AreImporters g p (at turned p)
turned-importers g turned p closed o h l = record {
  within = λ i e. by_order i e (cases_lt i (length g));
  each = λ i m.
      let row = row-is g closed o i m in
      h.each p i inside ∙
      named-place g (at (rows_of g) i) p o l (subst (λ n. Within n (at (rows_of g) i)) (header-length g) row.1) ∙
      ap (λ bs. is_among bs (name_at g p)) row.0;
}
  where
    inside : p < length (rows_of g)
    inside = omega (arith, l, rows-length g)

    by_order : (i : ℕ) → has_place (at turned p) i ≡ true → (i < length g) ⊎ (length g ≤ i) → i < length g
    by_order i e (inl m) = m
    by_order i e (inr far) =
        absurd (cc (sym (h.each p i inside ∙
        ap (λ row. has_place row p) (get_or_past (rows_of g) i [] (omega (arith, far, rows-length g)))) ∙ e))

-- the same in the code's lists
pub importers-at : {A : Type 0} (items : A → List ℕ) (below above : List A) (g : Graph) (p : ℕ) (d : A) → Closed g →
    Once (names g) → map items below ≡ rows_of g → AreTurned (map items below) (map items above) → p < length g →
    AreImporters g p (items (slice_index_or above p d))
importers-at items below above g p d closed o is turned l =
    let h = subst (λ rows. AreTurned rows (map items above)) is turned in
    let inside : p < length above = omega (arith, l, h.all, rows-length g, length-map above items) in
    subst (AreImporters g p) (mapped items above p d inside) (turned-importers g (map items above) p closed o h l)
