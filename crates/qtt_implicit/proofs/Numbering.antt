-- Numbers of local names.
use Rattle.std.proofs.Common.{◌≡◌, ◌∙◌, ap, sym, refl, ℕ, zero, suc, ◌+◌, ◌-◌, ◌≤◌, arith, List, [], ◌∷◌, ◌++◌, length, take, get_or, zero-add, add-one, ◌<◌, below_more, nat_lt, if◌then◌else◌, Bool, true, false}
use Rattle.std.proofs.lemmas.List.{get_or_append_left, get_or_at, take_all}
use Rattle.qtt_syntax.specs.declared.expr.Mark.{Mark}
use Rattle.qtt_syntax.specs.declared.expr.Mark.TheVariants.{Written, Braced, Inserted}
use Rattle.qtt_implicit.specs.Walk.{is_inserted}
use Rattle.qtt_implicit.specs.Forget.{number_among}

-- how many were written
abbrev pub written_in : List Mark → ℕ
written_in [] = 0
written_in (Inserted ∷ ms) = written_in ms
written_in (Written ∷ ms) = suc (written_in ms)
written_in (Braced ∷ ms) = suc (written_in ms)

pub written_in-append : (xs ys : List Mark) → written_in (xs ++ ys) ≡ written_in xs + written_in ys
written_in-append [] ys = sym (zero-add (written_in ys))
written_in-append (Inserted ∷ xs) ys = written_in-append xs ys
written_in-append (Written ∷ xs) ys = let e = written_in-append xs ys in omega (arith, e)
written_in-append (Braced ∷ xs) ys = let e = written_in-append xs ys in omega (arith, e)

pub number_is : (ms : List Mark) (i : ℕ) → number_among ms i ≡ written_in (take i ms) + (i - length ms)
number_is [] zero = refl
number_is [] (suc i) = omega arith
number_is (k ∷ ms) zero = omega arith
number_is (Inserted ∷ ms) (suc i) = let e = number_is ms i in omega (arith, e)
number_is (Written ∷ ms) (suc i) = let e = number_is ms i in omega (arith, e)
number_is (Braced ∷ ms) (suc i) = let e = number_is ms i in omega (arith, e)

-- ---- a table of such numbers grows
pub table_more : (ms : List Mark) (t : List ℕ) (i w : ℕ) → length t ≡ i →
    ((k : ℕ) → k < i → get_or t k 0 ≡ written_in (take k ms)) → w ≡ written_in (take i ms) →
    (k : ℕ) → k < i + 1 → get_or (t ++ w ∷ []) k 0 ≡ written_in (take k ms)
table_more ms t i w size table e =
    below_more _ _ (λ k h. get_or_append_left t (w ∷ []) 0 k (omega arith) ∙ table k h)
    (get_or_at t w [] 0 i size ∙ e)

pub written_more : (ms : List Mark) (i : ℕ) (d : Mark) → i < length ms →
    written_in (take (i + 1) ms) ≡ written_in (take i ms) + written_in (get_or ms i d ∷ [])
written_more ms i d h = rw add-one (go ms i h)
  where
    go : (ms : List Mark) (i : ℕ) → i < length ms →
        written_in (take (suc i) ms) ≡ written_in (take i ms) + written_in (get_or ms i d ∷ [])
    go [] i h = absurd (omega arith)
    go (x ∷ ms) zero h = sym (zero-add (written_in (x ∷ [])))
    go (Inserted ∷ ms) (suc i) h = go ms i (omega arith)
    go (Written ∷ ms) (suc i) h = let f = go ms i (omega arith) in omega (arith, f)
    go (Braced ∷ ms) (suc i) h = let f = go ms i (omega arith) in omega (arith, f)

pub none_written : (m : Mark) → is_inserted m ≡ true → written_in (m ∷ []) ≡ 0
none_written Inserted e = refl
none_written Written e = absurd cc
none_written Braced e = absurd cc

pub one_written : (m : Mark) → is_inserted m ≡ false → written_in (m ∷ []) ≡ 1
one_written Inserted e = absurd cc
one_written Written e = refl
one_written Braced e = refl

pub table_is : (ms : List Mark) (t : List ℕ) (m : ℕ) → length t ≡ length ms →
    ((k : ℕ) → k < length ms → get_or t k 0 ≡ written_in (take k ms)) → m + written_in ms ≡ length ms →
    (i : ℕ) → (if nat_lt i (length t) then get_or t i 0 else i - m) ≡ number_among ms i
table_is ms t m size table all i = by (nat_lt i (length t)) refl
  where
    by : (b : Bool) → nat_lt i (length t) ≡ b → (if b then get_or t i 0 else i - m) ≡ number_among ms i
    by true e =
        let h : i < length ms = grind (arith, e, size) in
        let here = table i h in
        let n = number_is ms i in
        omega (arith, here, n)
    by false e =
        let h : length ms ≤ i = grind (arith, e, size) in
        let n = number_is ms i in
        let whole = ap written_in (take_all i ms h) in
        omega (arith, n, whole)
