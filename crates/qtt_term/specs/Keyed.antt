-- Lists in the order of ids.
use Rattle.std.specs.Prelude.{◌≡◌, ℕ, ◌<◌, ◌≤◌, List, [], ◌∷◌, length, Option, Some, None, Bool, true, ◌&&◌, ◌||◌, cond, not, eqb, nat_lt, find, slice_get}
use Rattle.std.specs.List.{list_all, insert}
use Rattle.qtt_base.specs.declared.place.GlobalId.{GlobalId}
use Rattle.qtt_base.specs.declared.place.ModuleId.{ModuleId}
use Rattle.qtt_term.specs.Term.{same_id}

-- the ids of one module, or all
abbrev pub is_of : Option ModuleId → GlobalId → Bool
is_of None id = true
is_of (Some m) id = eqb id.module.0 m.0

-- of an earlier module, or earlier in one module
abbrev pub id_before : GlobalId → GlobalId → Bool
id_before a b = nat_lt a.module.0 b.module.0 || (eqb a.module.0 b.module.0 && nat_lt a.item b.item)

-- no two are the same
abbrev pub ids_differ : List GlobalId → Bool
ids_differ [] = true
ids_differ (a ∷ ids) = list_all (λ b. not (same_id a b)) ids && ids_differ ids

-- each id stands before those behind it
abbrev pub ascends : {X : Type 0} → (X → GlobalId) → List X → Bool
ascends key [] = true
ascends key (x ∷ xs) = list_all (λ y. id_before (key x) (key y)) xs && ascends key xs

-- the element of this id
abbrev pub with_id : {X : Type 0} → (X → GlobalId) → GlobalId → List X → Option X
with_id key id xs = find (λ x. same_id (key x) id) xs

-- x before the first element with a later id
abbrev pub inserted : {X : Type 0} → (X → GlobalId) → X → List X → List X
inserted key x [] = x ∷ []
inserted key x (y ∷ ys) = cond (id_before (key x) (key y)) (x ∷ y ∷ ys) (y ∷ inserted key x ys)

-- each of the elements, one after another
abbrev pub all_inserted : {X : Type 0} → (X → GlobalId) → List X → List X → List X
all_inserted key [] ys = ys
all_inserted key (x ∷ xs) ys = all_inserted key xs (inserted key x ys)

-- none of the ids is there when its element's turn comes
abbrev pub CanInsertAll : {X : Type 0} → (X → GlobalId) → List X → List X → Type 0
CanInsertAll key [] ys = Unit {0}
CanInsertAll key (x ∷ xs) ys = (with_id key (key x) ys ≡ None) × CanInsertAll key xs (inserted key x ys)

-- the element of this id stands at place i
pub record IsPlaceOf {X : Type 0} (key : X → GlobalId) (id : GlobalId) (xs : List X) (i : ℕ) : Type 0 where
  pub in_range : i < length xs
  pub there : with_id key id xs ≡ slice_get xs i

-- no element has this id, and one that had it would stand at place i
pub record IsGapFor {X : Type 0} (key : X → GlobalId) (id : GlobalId) (xs : List X) (i : ℕ) : Type 0 where
  pub in_range : i ≤ length xs
  pub absent : with_id key id xs ≡ None
  pub next : (x : X) → key x ≡ id → insert xs i x ≡ inserted key x xs
