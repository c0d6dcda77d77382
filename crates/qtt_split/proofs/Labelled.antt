-- Labels of binders, one after another.
use Rattle.std.proofs.Common.{◌≡◌, ◌∙◌, ℕ, zero, suc, ◌+◌, ◌-◌, ◌<◌, ◌≤◌, List, [], ◌∷◌, ◌++◌, length, get_or, map, drop, Option, None, Bor, refl, sym, ap, arith, append_assoc, append-nil}
use Rattle.std.proofs.lemmas.List.{length-map, length-reverse, get_or-reverse, map-append}
use Rattle.std.specs.Option.{option_copied}
use Rattle.qtt_term.specs.Scope.{name_of}
use Rattle.qtt_split.specs.Branch.{label_at}
use Rattle.qtt_split.specs.Labels.{labels_of, newest_labels}
use Rattle.qtt_split.specs.Plan.{labels_for}

pub label-got : (ls : List (Option (List ℕ))) (i : ℕ) (d : Option (List ℕ)) → i < length ls →
    label_at ls i ≡ get_or ls i d
label-got [] i d h = absurd (omega arith)
label-got (l ∷ ls) zero d h = refl
label-got (l ∷ ls) (suc i) d h = label-got ls i d (omega arith)

pub label-past : (ls : List (Option (List ℕ))) (i : ℕ) → length ls ≤ i → label_at ls i ≡ None
label-past [] i h = refl
label-past (l ∷ ls) zero h = absurd (omega arith)
label-past (l ∷ ls) (suc i) h = label-past ls i (omega arith)

pub name-got : (names : List (List ℕ)) (i : ℕ) (name : List ℕ) → i < length names → name ≡ get_or names i name →
    name_of name ≡ label_at (map name_of names) i
name-got names i name h e =
    let l : length (map name_of names) ≡ length names = length-map names name_of in
    ap name_of e ∙ sym (got-map names i) ∙ sym (label-got (map name_of names) i (name_of name) (omega (arith, l)))
  where
    got-map : (ns : List (List ℕ)) (k : ℕ) → get_or (map name_of ns) k (name_of name) ≡ name_of (get_or ns k name)
    got-map [] k = refl
    got-map (n ∷ ns) zero = refl
    got-map (n ∷ ns) (suc k) = got-map ns k

pub name-past : (names : List (List ℕ)) (i : ℕ) → length names ≤ i → None ≡ label_at (map name_of names) i
name-past names i h =
    let l : length (map name_of names) ≡ length names = length-map names name_of in
    sym (label-past (map name_of names) i (omega (arith, l)))

pub record LabelsSoFar (n : ℕ) (names : List (List ℕ)) (i : ℕ) (ls : List (Option (Bor (List ℕ)))) : Type 0 where
  pub is : labels_for n (map name_of names) ≡ labels_of ls ++ labels_for (n - i) (map name_of (drop i names))

pub no-label : (n : ℕ) (names : List (List ℕ)) → LabelsSoFar n names 0 []
no-label n names =
    let whole : n ≡ n - 0 = omega arith in
    record { is = ap (λ m. labels_for m (map name_of names)) whole }

next-label : (k : ℕ) (names : List (List ℕ)) (i : ℕ) →
    labels_for (suc k) (map name_of (drop i names))
    ≡ label_at (map name_of names) i ∷ labels_for k (map name_of (drop (suc i) names))
next-label k [] zero = refl
next-label k [] (suc i) = refl
next-label k (name ∷ names) zero = refl
next-label k (name ∷ names) (suc i) = next-label k names i

pub one-label : (n : ℕ) (names : List (List ℕ)) (i : ℕ) (ls : List (Option (Bor (List ℕ))))
    (l : Option (Bor (List ℕ))) → i < n → option_copied l ≡ label_at (map name_of names) i →
    LabelsSoFar n names i ls → LabelsSoFar n names (i + 1) (ls ++ l ∷ [])
one-label n names i ls l h e so =
    let m : n - i ≡ suc (n - (i + 1)) = omega arith in
    let one : suc i ≡ i + 1 = omega arith in
    let rest = labels_for (n - (i + 1)) (map name_of (drop (i + 1) names)) in
    record {
      is =
          so.is ∙
          ap (λ xs. labels_of ls ++ xs)
          (ap (λ j. labels_for j (map name_of (drop i names))) m ∙ next-label (n - (i + 1)) names i ∙
          ap (λ j. label_at (map name_of names) i ∷ labels_for (n - (i + 1)) (map name_of (drop j names))) one ∙
          ap (λ x. x ∷ rest) (sym e)) ∙
          sym (append_assoc (labels_of ls) (option_copied l ∷ []) rest) ∙
          ap (λ xs. xs ++ rest) (sym (map-append option_copied ls (l ∷ [])));
    }

pub all-labels : (n : ℕ) (names : List (List ℕ)) (i : ℕ) (ls : List (Option (Bor (List ℕ)))) → n ≤ i →
    LabelsSoFar n names i ls → labels_of ls ≡ labels_for n (map name_of names)
all-labels n names i ls h so =
    let none : n - i ≡ 0 = omega arith in
    sym (so.is ∙
    ap (λ xs. labels_of ls ++ xs) (ap (λ m. labels_for m (map name_of (drop i names))) none) ∙
    append-nil (labels_of ls))

-- ---- the label of a variable
copied-at : (ls : List (Option (Bor (List ℕ)))) (i : ℕ) (d : Option (Bor (List ℕ))) →
    get_or (labels_of ls) i (option_copied d) ≡ option_copied (get_or ls i d)
copied-at [] i d = refl
copied-at (l ∷ ls) zero d = refl
copied-at (l ∷ ls) (suc i) d = copied-at ls i d

newest-length : (ls : List (Option (Bor (List ℕ)))) → length (newest_labels ls) ≡ length ls
newest-length ls = length-reverse (labels_of ls) ∙ length-map ls option_copied

pub label-of : (ls : List (Option (Bor (List ℕ)))) (i : ℕ) (l : Option (Bor (List ℕ))) → i < length ls →
    l ≡ get_or ls (length ls - 1 - i) l → option_copied l ≡ label_at (newest_labels ls) i
label-of ls i l h e =
    let n : length (labels_of ls) ≡ length ls = length-map ls option_copied in
    let k : i < length (labels_of ls) = omega (arith, n) in
    let j : i < length (newest_labels ls) = omega (arith, newest-length ls) in
    ap option_copied e ∙
    sym (label-got (newest_labels ls) i (option_copied l) j ∙ get_or-reverse (labels_of ls) i (option_copied l) k ∙
    ap (λ m. get_or (labels_of ls) (m - 1 - i) (option_copied l)) n ∙ copied-at ls (length ls - 1 - i) l)

pub label-past_all : (ls : List (Option (Bor (List ℕ)))) (i : ℕ) → length ls ≤ i → None ≡ label_at (newest_labels ls) i
label-past_all ls i h = sym (label-past (newest_labels ls) i (omega (arith, newest-length ls)))
