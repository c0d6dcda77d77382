-- Ids put into a map, name by name, and the own items that they are those of.
use Rattle.std.proofs.Common.{◌≡◌, ℕ, suc, ◌+◌, List, [], ◌∷◌, ◌++◌, Bool, true, false, cond, Option, Some, None, is_some, if◌then◌else◌, length, map, ap, sym, refl, ◌∙◌, arith}
use Rattle.std.proofs.lemmas.Grind.{common_steps}
use Rattle.std.proofs.lemmas.List.{map-append}
use Rattle.indexmap.specs.IndexMap.{insert_entry}
use Rattle.qtt_base.specs.declared.place.GlobalId.{GlobalId}
use Rattle.qtt_base.specs.declared.place.ModuleId.{ModuleId}
use Rattle.qtt_names.specs.declared.scope.OwnItem.{OwnItem}
use Rattle.qtt_names.specs.Scope.{same_name, entry_of, with_item, with_items}
use Rattle.qtt_module.specs.Exported.{own_export, with_export, with_exports}

-- ---- a map is written as the list is
-- a name that is not there goes last
put_last : (es : List (List ℕ × GlobalId)) (n : List ℕ) (id : GlobalId) → entry_of n es ≡ None →
    insert_entry same_name es n id ≡ es ++ (n, id) ∷ []
put_last [] n id h = refl
put_last (e ∷ es) n id h = by (same_name n e.0) (put_last es n id) h
  where
    by : (b : Bool) → (entry_of n es ≡ None → insert_entry same_name es n id ≡ es ++ (n, id) ∷ []) →
        cond b (Some e.1) (entry_of n es) ≡ None
        → (if b then (e.0, id) ∷ es else e ∷ insert_entry same_name es n id) ≡ e ∷ (es ++ (n, id) ∷ [])
    by true ih h = cc
    by false ih h = ap (λ (l : List (List ℕ × GlobalId)). e ∷ l) (ih h)

pub with_export-new : (es : List (List ℕ × GlobalId)) (n : List ℕ) (id : GlobalId) → entry_of n es ≡ None →
    insert_entry same_name es n id ≡ with_export es n id
with_export-new es n id h =
    put_last es n id h ∙ sym (ap (λ (r : Option GlobalId). cond (is_some r) es (es ++ (n, id) ∷ [])) h)

-- ids that are added behind others
pub with_exports-append : (known : List (List ℕ × GlobalId)) (home : ModuleId) (k : ℕ) (xs ys : List (List ℕ × Bool))
    → with_exports known home k (xs ++ ys) ≡ with_exports (with_exports known home k xs) home (k + length xs) ys
with_exports-append known home k [] ys =
    let e : k ≡ k + 0 = omega arith in
    ap (λ (j : ℕ). with_exports known home j ys) e
with_exports-append known home k (x ∷ xs) ys =
    let e : suc k + length xs ≡ k + length (x ∷ xs) = omega arith in
    let first = with_export known x.0 (record { «module» = home; item = k }) in
    with_exports-append first home (suc k) xs ys
    ∙ ap (λ (j : ℕ). with_exports (with_exports first home (suc k) xs) home j ys) e

-- ---- the ids are those of the own items
-- a name has an id where it is that of an item
is_exported : (home : ModuleId) (known : List (List ℕ × OwnItem)) (n : List ℕ)
    → is_some (entry_of n (map (own_export home) known)) ≡ is_some (entry_of n known)
is_exported home [] n = refl
is_exported home (e ∷ known) n = by (same_name n e.0) (is_exported home known n)
  where
    by : (b : Bool) → is_some (entry_of n (map (own_export home) known)) ≡ is_some (entry_of n known)
        → is_some (cond b (Some (own_export home e).1) (entry_of n (map (own_export home) known)))
        ≡ is_some (cond b (Some e.1) (entry_of n known))
    by true ih = refl
    by false ih = ih

map-with_item : (home : ModuleId) (known : List (List ℕ × OwnItem)) (n : List ℕ) (x : OwnItem)
    → map (own_export home) (with_item known n x)
    ≡ with_export (map (own_export home) known) n (record { «module» = home; item = x.number })
map-with_item home known n x =
    by (is_some (entry_of n known))
    ∙ sym (ap (λ (b : Bool). cond b ids (ids ++ (own_export home (n, x)) ∷ [])) (is_exported home known n))
  where
    ids : List (List ℕ × GlobalId)
    ids = map (own_export home) known

    by : (b : Bool)
        → map (own_export home) (cond b known (known ++ (n, x) ∷ []))
        ≡ cond b ids (ids ++ (own_export home (n, x)) ∷ [])
    by true = refl
    by false = map-append (own_export home) known ((n, x) ∷ [])

pub map-with_items : (home : ModuleId) (known : List (List ℕ × OwnItem)) (k : ℕ) (ds : List (List ℕ × Bool))
    → map (own_export home) (with_items known k ds) ≡ with_exports (map (own_export home) known) home k ds
map-with_items home known k [] = refl
map-with_items home known k (d ∷ ds) =
    let x : OwnItem = record { number = k; is_definition = d.1 } in
    map-with_items home (with_item known d.0 x) (suc k) ds
    ∙ ap (λ (l : List (List ℕ × GlobalId)). with_exports l home (suc k) ds) (map-with_item home known d.0 x)

pub exported-items : (home : ModuleId) (ds : List (List ℕ × Bool))
    → with_exports [] home 0 ds ≡ map (own_export home) (with_items [] 0 ds)
exported-items home ds = sym (map-with_items home [] 0 ds)

pub ruleset exporting = (common_steps, with_export-new, with_exports-append, exported-items)
