-- The names of generated modules.
use Rattle.std.proofs.Common.{◌≡◌, ℕ, zero, suc, ◌-◌, ◌<◌, ◌≤◌, false, List, [], ◌∷◌, ◌++◌, flat_map, codes, refl, sym, subst, ◌⊎◌, inl, inr, arith}
use Rattle.std.proofs.lemmas.Bool.{cases_lt}
use Rattle.std.proofs.lemmas.Grind.{flat_map-append}
use Rattle.qtt_gen.specs.Generated.{below, numbered, module_name, main_text, modules_of, generated}
use Rattle.qtt_graph.specs.Graph.{Name, same_name}

-- one of the texts has this name
abbrev pub HasName : List (Name × List ℕ) → Name → Type 0
HasName [] a = ⊥
HasName (x ∷ xs) a = (x.0 ≡ a) ⊎ HasName xs a

-- ---- names

name_front : (xs ys : List (Name × List ℕ)) (a : Name) → HasName xs a → HasName (xs ++ ys) a
name_front [] ys a h = absurd h
name_front (x ∷ xs) ys a (inl e) = inl e
name_front (x ∷ xs) ys a (inr h) = inr (name_front xs ys a h)

name_back : (xs ys : List (Name × List ℕ)) (a : Name) → HasName ys a → HasName (xs ++ ys) a
name_back [] ys a h = h
name_back (x ∷ xs) ys a h = inr (name_back xs ys a h)

-- the four of a number
of_four : (i j : ℕ) → j < 4 → HasName (modules_of i) (module_name i j)
of_four i zero h = inl refl
of_four i (suc zero) h = inr (inl refl)
of_four i (suc (suc zero)) h = inr (inr (inl refl))
of_four i (suc (suc (suc zero))) h = inr (inr (inr (inl refl)))
of_four i (suc (suc (suc (suc j)))) h = absurd (omega (arith, h))

below_there : (n i j : ℕ) → i < n → j < 4 → HasName (flat_map modules_of (below n)) (module_name i j)
below_there zero i j h k = absurd (omega (arith, h))
below_there (suc n) i j h k =
    subst (λ (xs : List (Name × List ℕ)). HasName xs (module_name i j))
    (sym (flat_map-append modules_of (below n) (n ∷ []))) (by_case (below_there n i j) (cases_lt i n))
  where
    by_case : (i < n → j < 4 → HasName (flat_map modules_of (below n)) (module_name i j)) → (i < n) ⊎ (n ≤ i) →
        HasName (flat_map modules_of (below n) ++ flat_map modules_of (n ∷ [])) (module_name i j)
    by_case later (inl l) =
        name_front (flat_map modules_of (below n)) (flat_map modules_of (n ∷ [])) (module_name i j) (later l k)
    by_case later (inr l) =
        let same : n ≡ i = omega (arith, l, h) in
        subst (λ (m : ℕ). HasName (flat_map modules_of (below n) ++ flat_map modules_of (n ∷ [])) (module_name m j))
        same
        (name_back (flat_map modules_of (below n)) (flat_map modules_of (n ∷ [])) (module_name n j)
        (name_front (modules_of n) [] (module_name n j) (of_four n j k)))

-- each module below a number is there, and so is Main
pub module_there : (n i j : ℕ) → i < n → j < 4 → HasName (generated n) (module_name i j)
module_there n i j h k =
    name_front (flat_map modules_of (below n)) ((codes "Main", main_text (n - 1)) ∷ []) (module_name i j)
    (below_there n i j h k)

pub main_there : (n : ℕ) → HasName (generated n) (codes "Main")
main_there n =
    name_back (flat_map modules_of (below n)) ((codes "Main", main_text (n - 1)) ∷ []) (codes "Main") (inl refl)

-- ---- none has the name of Prim

-- the names of the texts have it
abbrev AllNames : (Name → Type 0) → List (Name × List ℕ) → Type 0
AllNames P [] = Unit {0}
AllNames P (x ∷ xs) = P x.0 × AllNames P xs

names_append : (P : Name → Type 0) (xs ys : List (Name × List ℕ)) → AllNames P xs → AllNames P ys →
    AllNames P (xs ++ ys)
names_append P [] ys h k = k
names_append P (x ∷ xs) ys h k = (h.0, names_append P xs ys h.1 k)

by_name : (P : Name → Type 0) (xs : List (Name × List ℕ)) (a : Name) → AllNames P xs → HasName xs a → P a
by_name P [] a all h = absurd h
by_name P (x ∷ xs) a all (inl e) = subst P e all.0
by_name P (x ∷ xs) a all (inr h) = by_name P xs a all.1 h

abbrev pub Not_prim : Name → Type 0
Not_prim a = same_name a (codes "Prim") ≡ false

four_not_prim : (i : ℕ) → AllNames Not_prim (modules_of i)
unfolding numbered
four_not_prim i = (refl, (refl, (refl, (refl, tt))))

below_not_prim : (n : ℕ) → AllNames Not_prim (flat_map modules_of (below n))
below_not_prim zero = tt
below_not_prim (suc n) =
    subst (AllNames Not_prim) (sym (flat_map-append modules_of (below n) (n ∷ [])))
    (names_append Not_prim (flat_map modules_of (below n)) (flat_map modules_of (n ∷ [])) (below_not_prim n)
    (names_append Not_prim (modules_of n) [] (four_not_prim n) tt))

pub not_prim : (n : ℕ) (a : Name) → HasName (generated n) a → Not_prim a
not_prim n a h =
    by_name Not_prim (generated n) a
    (names_append Not_prim (flat_map modules_of (below n)) ((codes "Main", main_text (n - 1)) ∷ []) (below_not_prim n)
    (refl, tt)) h
