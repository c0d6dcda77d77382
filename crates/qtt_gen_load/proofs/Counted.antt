-- How many names there are: names that all differ are no more than the texts that have them.
use Rattle.std.proofs.Common.{◌≡◌, ℕ, zero, suc, ◌+◌, ◌*◌, ◌-◌, ◌≤◌, List, [], ◌∷◌, ◌++◌, flat_map, length, codes, refl, sym, ap, ◌∙◌, inl, inr, arith}
use Rattle.std.proofs.lemmas.Grind.{flat_map-append}
use Rattle.std.proofs.lemmas.List.{length-append}
use Rattle.qtt_gen.specs.Generated.{below, main_text, modules_of, generated}
use Rattle.qtt_graph.specs.Graph.{Name}
use Rattle.qtt_gen_load.proofs.Given.{HasName}

-- it holds of each name
abbrev pub AllOf : (Name → Type 0) → List Name → Type 0
AllOf P [] = Unit {0}
AllOf P (a ∷ more) = P a × AllOf P more

pub all_append : (P : Name → Type 0) (xs ys : List Name) → AllOf P xs → AllOf P ys → AllOf P (xs ++ ys)
all_append P [] ys h k = k
all_append P (x ∷ xs) ys h k = (h.0, all_append P xs ys h.1 k)

-- each name stands once
abbrev pub Once : List Name → Type 0
Once [] = Unit {0}
Once (a ∷ more) = AllOf (λ b. a ≡ b → ⊥) more × Once more

-- ---- names among those of texts

-- the texts but for the one of this name
abbrev without : (xs : List (Name × List ℕ)) (a : Name) → HasName xs a → List (Name × List ℕ)
without [] a h = []
without (x ∷ xs) a (inl e) = xs
without (x ∷ xs) a (inr h) = x ∷ without xs a h

one_less : (xs : List (Name × List ℕ)) (a : Name) (h : HasName xs a) → length xs ≡ suc (length (without xs a h))
one_less [] a h = absurd h
one_less (x ∷ xs) a (inl e) = refl
one_less (x ∷ xs) a (inr h) = ap suc (one_less xs a h)

others_kept : (xs : List (Name × List ℕ)) (a : Name) (h : HasName xs a) (b : Name) → (a ≡ b → ⊥) → HasName xs b →
    HasName (without xs a h) b
others_kept [] a h b n k = k
others_kept (x ∷ xs) a (inl e) b n (inl f) = absurd (n (sym e ∙ f))
others_kept (x ∷ xs) a (inl e) b n (inr k) = k
others_kept (x ∷ xs) a (inr h) b n (inl f) = inl f
others_kept (x ∷ xs) a (inr h) b n (inr k) = inr (others_kept xs a h b n k)

all_kept : (xs : List (Name × List ℕ)) (a : Name) (h : HasName xs a) (bs : List Name) → AllOf (λ b. a ≡ b → ⊥) bs →
    AllOf (HasName xs) bs → AllOf (HasName (without xs a h)) bs
all_kept xs a h [] n k = tt
all_kept xs a h (b ∷ bs) n k = (others_kept xs a h b n.0 k.0, all_kept xs a h bs n.1 k.1)

pub names_few : (ns : List Name) (xs : List (Name × List ℕ)) → Once ns → AllOf (HasName xs) ns → length ns ≤ length xs
names_few [] xs o h = omega arith
names_few (a ∷ ns) xs o h =
    let few = names_few ns (without xs a h.0) o.1 (all_kept xs a h.0 ns o.0 h.1) in
    let one = one_less xs a h.0 in
    omega (arith, few, one)

-- ---- the number of generated modules

below_length : (n : ℕ) → length (flat_map modules_of (below n)) ≡ 4 * n
below_length zero = refl
below_length (suc n) =
    let parts = ap length (flat_map-append modules_of (below n) (n ∷ [])) ∙
    length-append (flat_map modules_of (below n)) (flat_map modules_of (n ∷ [])) in
    let before = below_length n in
    omega (arith, parts, before)

pub generated_length : (n : ℕ) → length (generated n) ≡ 4 * n + 1
generated_length n =
    let parts = length-append (flat_map modules_of (below n)) ((codes "Main", main_text (n - 1)) ∷ []) in
    let before = below_length n in
    omega (arith, parts, before)
