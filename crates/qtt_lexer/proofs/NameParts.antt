-- The parts of a name, read byte by byte.
use Rattle.std.proofs.Common.{◌≡◌, ℕ, ◌+◌, ◌<◌, ◌==◌, Bool, true, false, cond, not, ◌||◌, List, [], ◌∷◌, length, refl, sym, ap, ◌∙◌, arith}
use Rattle.std.proofs.lemmas.Bool.Decides.{nat_tests}
use Rattle.std.proofs.lemmas.List.Splits.{length-slice_split}
use Rattle.std.proofs.lemmas.List.Sums.{sum_by-cons}
use Rattle.std.specs.List.{list_any, count_by, slice_split, onto_first}
use Rattle.std.specs.Char.{is_ascii_uppercase}
use Rattle.qtt_lexer.specs.Names.{is_big, is_simple, last_part, begins_big}

abbrev is_dot : ℕ → Bool
is_dot b = b == 46

one_more : (b any : Bool) (n : ℕ) → not any ≡ (n + 1 == 1) → not (b || any) ≡ ((cond b 1 0 + n) + 1 == 1)
one_more true any n h = grind (arith, nat_tests)
one_more false any n h = h ∙ ap (λ (m : ℕ). m + 1 == 1) (omega arith)

none_counted : (xs : List ℕ) → not (list_any is_dot xs) ≡ (count_by is_dot xs + 1 == 1)
none_counted [] = refl
none_counted (x ∷ xs) =
    one_more (is_dot x) (list_any is_dot xs) (count_by is_dot xs) (none_counted xs)
    ∙ ap (λ (n : ℕ). n + 1 == 1) (sym (sum_by-cons (λ (b : ℕ). cond (is_dot b) 1 0) x xs))

-- a name without a dot has one part
pub simple_without_dot : (name : List ℕ) → not (list_any is_dot name) ≡ is_simple name
simple_without_dot name = none_counted name ∙ ap (λ (n : ℕ). n == 1) (sym (length-slice_split is_dot name))

-- whether the last part is big, where s says that a part begins here and g that the part before is big
abbrev pub scan : Bool → Bool → List ℕ → Bool
scan s g [] = g
scan s g (x ∷ xs) = scan (is_dot x) (cond (is_dot x) false (cond s (is_ascii_uppercase x) g)) xs

abbrev grown : Bool → Bool → List ℕ → Bool
grown s g [] = g
grown s g (x ∷ part) = cond s (is_ascii_uppercase x) g

abbrev by_parts : Bool → Bool → List (List ℕ) → Bool
by_parts s g [] = g
by_parts s g (part ∷ []) = grown s g part
by_parts s g (part ∷ next ∷ others) = begins_big (last_part (next ∷ others))

by_last : (ps : List (List ℕ)) → by_parts true false ps ≡ begins_big (last_part ps)
by_last [] = refl
by_last ([] ∷ []) = refl
by_last ((x ∷ part) ∷ []) = refl
by_last (part ∷ next ∷ others) = refl

at_dot : (s g : Bool) (ps : List (List ℕ)) → 0 < length ps → by_parts true false ps ≡ by_parts s g ([] ∷ ps)
at_dot s g [] h = absurd (omega arith)
at_dot s g (part ∷ others) h = by_last (part ∷ others)

kept : (g : Bool) (part : List ℕ) → grown false g part ≡ g
kept g [] = refl
kept g (x ∷ part) = refl

in_part : (s g : Bool) (x : ℕ) (ps : List (List ℕ)) → 0 < length ps →
    by_parts false (cond s (is_ascii_uppercase x) g) ps ≡ by_parts s g (onto_first x ps)
in_part s g x [] h = absurd (omega arith)
in_part s g x (part ∷ []) h = kept (cond s (is_ascii_uppercase x) g) part
in_part s g x (part ∷ next ∷ others) h = refl

some_part : (xs : List ℕ) → 0 < length (slice_split is_dot xs)
some_part xs = omega (arith, length-slice_split is_dot xs)

scan_step : (b s g : Bool) (x : ℕ) (xs : List ℕ) →
    ((t h : Bool) → scan t h xs ≡ by_parts t h (slice_split is_dot xs)) →
    scan b (cond b false (cond s (is_ascii_uppercase x) g)) xs ≡ by_parts s g
    (cond b ([] ∷ slice_split is_dot xs) (onto_first x (slice_split is_dot xs)))
scan_step true s g x xs rest = rest true false ∙ at_dot s g (slice_split is_dot xs) (some_part xs)
scan_step false s g x xs rest =
    rest false (cond s (is_ascii_uppercase x) g) ∙ in_part s g x (slice_split is_dot xs) (some_part xs)

scan_parts : (xs : List ℕ) (s g : Bool) → scan s g xs ≡ by_parts s g (slice_split is_dot xs)
scan_parts [] s g = refl
scan_parts (x ∷ xs) s g = scan_step (is_dot x) s g x xs (scan_parts xs)

-- a name is big where its last part is
pub scan_big : (name : List ℕ) → scan true false name ≡ is_big name
scan_big name = scan_parts name true false ∙ by_last (slice_split is_dot name)
