-- Maps of items, name by name.
use Rattle.std.proofs.Common.{◌≡◌, ℕ, suc, ◌+◌, List, [], ◌∷◌, ◌++◌, Bool, true, false, cond, Option, Some, None, is_some, if◌then◌else◌, length, ap, sym, refl, ◌∙◌, arith, Bor}
use Rattle.std.proofs.lemmas.Grind.{common_steps}
use Rattle.indexmap.specs.IndexMap.{insert_entry}
use Rattle.qtt_base.specs.declared.place.GlobalId.{GlobalId}
use Rattle.qtt_names.specs.declared.scope.OwnItem.{OwnItem}
use Rattle.qtt_names.specs.Scope.{same_name, entry_of, with_item, with_items}
use Rattle.qtt_names.specs.PrimNames.{prim_id, with_names}

-- a name that is not there goes last
put_last : (es : List (List ℕ × OwnItem)) (n : List ℕ) (item : OwnItem) → entry_of n es ≡ None →
    insert_entry same_name es n item ≡ es ++ (n, item) ∷ []
put_last [] n item h = refl
put_last (e ∷ es) n item h = by (same_name n e.0) (put_last es n item) h
  where
    by : (b : Bool) → (entry_of n es ≡ None → insert_entry same_name es n item ≡ es ++ (n, item) ∷ []) →
        cond b (Some e.1) (entry_of n es) ≡ None
        → (if b then (e.0, item) ∷ es else e ∷ insert_entry same_name es n item) ≡ e ∷ (es ++ (n, item) ∷ [])
    by true ih h = cc
    by false ih h = ap (λ (l : List (List ℕ × OwnItem)). e ∷ l) (ih h)

pub with_item-new : (es : List (List ℕ × OwnItem)) (n : List ℕ) (item : OwnItem) → entry_of n es ≡ None →
    insert_entry same_name es n item ≡ with_item es n item
with_item-new es n item h =
    put_last es n item h ∙ sym (ap (λ (r : Option OwnItem). cond (is_some r) es (es ++ (n, item) ∷ [])) h)

-- names that are added behind others
pub with_items-append : (known : List (List ℕ × OwnItem)) (k : ℕ) (xs ys : List (List ℕ × Bool))
    → with_items known k (xs ++ ys) ≡ with_items (with_items known k xs) (k + length xs) ys
with_items-append known k [] ys =
    let e : k ≡ k + 0 = omega arith in
    ap (λ (j : ℕ). with_items known j ys) e
with_items-append known k (x ∷ xs) ys =
    let e : suc k + length xs ≡ k + length (x ∷ xs) = omega arith in
    let first = with_item known x.0 (record { number = k; is_definition = x.1 }) in
    with_items-append first (suc k) xs ys ∙ ap (λ (j : ℕ). with_items (with_items first (suc k) xs) j ys) e

pub with_names-one_more : (known : List (List ℕ × GlobalId)) (k : ℕ) (xs : List (Bor (List ℕ))) (x : Bor (List ℕ))
    → with_names known k (xs ++ x ∷ []) ≡ insert_entry same_name (with_names known k xs) x.now (prim_id (k + length xs))
with_names-one_more known k [] x =
    let e : k ≡ k + 0 = omega arith in
    ap (λ (j : ℕ). insert_entry same_name known x.now (prim_id j)) e
with_names-one_more known k (y ∷ xs) x =
    let e : suc k + length xs ≡ k + length (y ∷ xs) = omega arith in
    with_names-one_more (insert_entry same_name known y.now (prim_id k)) (suc k) xs x
    ∙ ap (λ (j : ℕ). insert_entry same_name
    (with_names (insert_entry same_name known y.now (prim_id k)) (suc k) xs) x.now (prim_id j)) e

pub ruleset owning = (common_steps, with_item-new, with_items-append, with_names-one_more)
