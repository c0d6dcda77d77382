-- Names in sight, one more at a time.
use Rattle.std.proofs.Common.{◌≡◌, ℕ, zero, suc, ◌+◌, ◌-◌, ◌<◌, ◌≤◌, Bool, true, false, List, [], ◌∷◌, ◌++◌, length, map, reverse, take, drop, get_or, Some, None, option_map, slice_get, refl, sym, ap, ◌∙◌, arith}
use Rattle.std.specs.Prelude.{cond}
use Rattle.std.proofs.lemmas.List.{map-append, reverse-append, take-append-drop, drop_more, drop_all}
use Rattle.std.proofs.lemmas.Grind.{common_steps}
use mathlib.Core.Path.{ap₂}
use Rattle.qtt_term.specs.declared.term.Term as code
use Rattle.qtt_term.specs.Term.{Term}
use Rattle.qtt_term.specs.View.{term}
use Rattle.qtt_bidi.specs.Seen.{stands, risen}
use Rattle.qtt_bidi.proofs.Scopes.{name-here}
use Rattle.qtt_holes.specs.Calls.{untold, untold_sight}
use Rattle.qtt_holes.specs.Hole.{Seen, is_written, sight}

-- ---- entries of a list
drop-past : {A : Type 0} (xs : List A) (i : ℕ) → slice_get xs i ≡ None → drop i xs ≡ []
drop-past [] zero h = refl
drop-past [] (suc i) h = refl
drop-past (x ∷ xs) zero h = absurd (cc h)
drop-past (x ∷ xs) (suc i) h = drop-past xs i h

drop-at : {A : Type 0} (xs : List A) (i : ℕ) (x : A) → slice_get xs i ≡ Some x → drop i xs ≡ x ∷ drop (suc i) xs
drop-at [] i x h = absurd (cc h)
drop-at (y ∷ xs) zero x h = let e : y ≡ x = cc h in ap (λ z. z ∷ xs) e
drop-at (y ∷ xs) (suc i) x h = drop-at xs i x h

next-dropped : {A : Type 0} (xs : List A) (i : ℕ) → drop (suc i) xs ≡ drop 1 (drop i xs)
next-dropped [] zero = refl
next-dropped [] (suc i) = refl
next-dropped (x ∷ xs) zero = refl
next-dropped (x ∷ xs) (suc i) = next-dropped xs i

-- ---- one name more
abbrev pub told_of : List ℕ → Term × Term → Seen
told_of n x = record { name = n; type = x.1; stands = x.0; left = None }

by-written : (b : Bool) (x : Seen) (xs : List Seen) →
    map untold (reverse (cond b (x ∷ xs) xs)) ≡
    map untold (reverse xs) ++ map untold (reverse (cond b (x ∷ []) []))
by-written true x xs = ap (map untold) (reverse-append (x ∷ []) xs) ∙ map-append untold (reverse xs) (x ∷ [])
by-written false x xs = simp common_steps

one-name-more : (n : List ℕ) (ns : List (List ℕ)) (xs : List (Term × Term)) →
    untold_sight (n ∷ ns) xs ≡ untold_sight ns (drop 1 xs) ++ untold_sight (n ∷ []) xs
one-name-more n [] [] = refl
one-name-more n (m ∷ ns) [] = refl
one-name-more n ns (x ∷ xs) = by-written (is_written n) _ (sight [] ns xs)

pub name-more : (n : List ℕ) (ns : List (List ℕ)) (xs : List (Term × Term)) (i : ℕ) →
    untold_sight (n ∷ ns) (drop i xs) ≡ untold_sight ns (drop (suc i) xs) ++ untold_sight (n ∷ []) (drop i xs)
name-more n ns xs i =
    one-name-more n ns (drop i xs)
    ∙ ap (λ ys. untold_sight ns ys ++ untold_sight (n ∷ []) (drop i xs)) (sym (next-dropped xs i))

-- ---- a name alone
unwritten : (n : List ℕ) (xs : List (Term × Term)) → is_written n ≡ false → untold_sight (n ∷ []) xs ≡ []
unwritten n [] h = refl
unwritten n (x ∷ xs) h = rw h refl

behind-nothing : (ys zs : List Seen) → zs ≡ [] → ys ≡ ys ++ zs
behind-nothing [] zs e = sym e
behind-nothing (y ∷ ys) zs e = ap (λ ws. y ∷ ws) (behind-nothing ys zs e)

pub put-unwritten : (n : List ℕ) (xs : List (Term × Term)) (ys : List Seen) → is_written n ≡ false →
    ys ≡ ys ++ untold_sight (n ∷ []) xs
put-unwritten n xs ys h = behind-nothing ys (untold_sight (n ∷ []) xs) (unwritten n xs h)

pub put-nothing : (n : List ℕ) (xs : List (Term × Term)) (i : ℕ) (ys : List Seen) →
    option_map stands None ≡ option_map (risen 0) (slice_get xs i) → ys ≡ ys ++ untold_sight (n ∷ []) (drop i xs)
put-nothing n xs i ys h =
    behind-nothing ys (untold_sight (n ∷ []) (drop i xs))
    (ap (untold_sight (n ∷ [])) (drop-past xs i (name-here None xs i h)))

written : (n : List ℕ) (x : Term × Term) (xs : List (Term × Term)) → is_written n ≡ true →
    untold_sight (n ∷ []) (x ∷ xs) ≡ told_of n x ∷ []
written n x xs h = rw h refl

pub put-name : (n : List ℕ) (xs : List (Term × Term)) (i : ℕ) (ys : List Seen) (t A : code.Term) →
    is_written n ≡ true → option_map stands (Some (t, A)) ≡ option_map (risen 0) (slice_get xs i) →
    ys ++ told_of n (term t, term A) ∷ [] ≡ ys ++ untold_sight (n ∷ []) (drop i xs)
put-name n xs i ys t A w h =
    ap (λ zs. ys ++ zs)
    (sym (ap (untold_sight (n ∷ [])) (drop-at xs i (term t, term A) (name-here (Some (t, A)) xs i h))
    ∙ written n (term t, term A) (drop (suc i) xs) w))

-- ---- names that a walk began with
last-first : (ns : List (List ℕ)) (n : List ℕ) → 1 ≤ length ns → n ≡ get_or ns (length ns - 1) n →
    reverse ns ≡ n ∷ reverse (take (length ns - 1) ns)
last-first ns n h e =
    let k = length ns - 1 in
    let l : k < length ns = omega (arith, h) in
    let m : length ns ≤ k + 1 = omega (arith, h) in
    ap reverse (sym (take-append-drop k ns)
    ∙ ap (λ zs. take k ns ++ zs) (drop_more ns k n l ∙ ap₂ (λ x zs. x ∷ zs) (sym e) (drop_all (k + 1) ns m)))
    ∙ reverse-append (take k ns) (n ∷ [])

pub outer-more : (ns : List (List ℕ)) (n : List ℕ) (xs : List (Term × Term)) (i k : ℕ) (ys : List Seen) →
    1 ≤ length ns → n ≡ get_or ns (length ns - 1) n → k ≡ i + 1 →
    ys ≡ untold_sight (reverse (take (length ns - 1) ns)) (drop k xs) →
    ys ++ untold_sight (n ∷ []) (drop i xs) ≡ untold_sight (reverse ns) (drop i xs)
outer-more ns n xs i k ys h l e s =
    let j : k ≡ suc i = omega (arith, e) in
    ap (λ zs. zs ++ untold_sight (n ∷ []) (drop i xs))
    (s ∙ ap (λ k. untold_sight (reverse (take (length ns - 1) ns)) (drop k xs)) j)
    ∙ sym (name-more n (reverse (take (length ns - 1) ns)) xs i)
    ∙ ap (λ ms. untold_sight ms (drop i xs)) (sym (last-first ns n h l))

pub inner-more : (n : List ℕ) (ns : List (List ℕ)) (xs : List (Term × Term)) (i k : ℕ) (ys : List Seen) →
    k ≡ i + 1 → ys ≡ untold_sight ns (drop k xs) →
    ys ++ untold_sight (n ∷ []) (drop i xs) ≡ untold_sight (n ∷ ns) (drop i xs)
inner-more n ns xs i k ys e s =
    let j : k ≡ suc i = omega (arith, e) in
    ap (λ zs. zs ++ untold_sight (n ∷ []) (drop i xs)) (s ∙ ap (λ k. untold_sight ns (drop k xs)) j)
    ∙ sym (name-more n ns xs i)
