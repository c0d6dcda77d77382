-- Look-ups among families, definitions and constructors.
use Rattle.std.proofs.Common.{◌≡◌, List, map, Option, Some, None, option_map, true, refl, sym, ap, ◌∙◌, Bor}
use Rattle.std.specs.Option.{option_copied}
use Rattle.qtt_base.specs.declared.place.GlobalId.{GlobalId}
use Rattle.qtt_term.specs.Keyed.{with_id, ascends, inserted, all_inserted}
use Rattle.qtt_term.proofs.Order.{with_id-map, ascends-map, inserted-map, all_inserted-map}

copied_then : {X Y : Type 0} (f : X → Y) (o : Option (Bor X)) →
    option_map (λ r. f r.now) o ≡ option_map f (option_copied o)
copied_then f None = refl
copied_then f (Some r) = refl

-- what a look-up among things says of what they stand for
pub looked_up : {X Y : Type 0} (f : X → Y) (key : Y → GlobalId) (id : GlobalId) (xs : List X) (o : Option (Bor X)) →
    option_copied o ≡ with_id (λ x. key (f x)) id xs → option_map (λ r. f r.now) o ≡ with_id key id (map f xs)
looked_up f key id xs o e = copied_then f o ∙ ap (option_map f) e ∙ sym (with_id-map f key id xs)

pub then_map : {X Y Z : Type 0} (f : X → Y) (g : Y → Z) (o : Option (Bor X)) →
    option_map (λ r. g (f r.now)) o ≡ option_map g (option_map (λ r. f r.now) o)
then_map f g None = refl
then_map f g (Some r) = refl

-- an id that nothing stands for is not there
pub absent_below : {X Y : Type 0} (f : X → Y) (key : Y → GlobalId) (id : GlobalId) (xs : List X) →
    with_id key id (map f xs) ≡ None → with_id (λ x. key (f x)) id xs ≡ None
absent_below {X = X} f key id xs e = by_case (with_id (λ x. key (f x)) id xs) (sym (with_id-map f key id xs) ∙ e)
  where
    by_case : (o : Option X) → option_map f o ≡ None → o ≡ None
    by_case None h = refl
    by_case (Some x) h = absurd (cc h)

-- the order of things is that of what they stand for
pub ascends_below : {X Y : Type 0} (f : X → Y) (key : Y → GlobalId) (xs same : List X) → same ≡ xs →
    ascends key (map f xs) ≡ true → ascends (λ x. key (f x)) same ≡ true
ascends_below f key xs same e up = ap (ascends (λ x. key (f x))) e ∙ sym (ascends-map f key xs) ∙ up

-- one more thing, and what it stands for
pub grown : {X Y : Type 0} (f : X → Y) (key : Y → GlobalId) (x : X) (old same new : List X) →
    new ≡ inserted (λ y. key (f y)) x same → same ≡ old →
    map f new ≡ inserted key (f x) (map f old)
grown f key x old same new e h = ap (map f) (e ∙ ap (inserted (λ y. key (f y)) x) h) ∙ inserted-map f key x old

pub grown_all : {X Y : Type 0} (f : X → Y) (key : Y → GlobalId) (xs old same new : List X) →
    new ≡ all_inserted (λ y. key (f y)) xs same → same ≡ old →
    map f new ≡ all_inserted key (map f xs) (map f old)
grown_all f key xs old same new e h =
    ap (map f) (e ∙ ap (all_inserted (λ y. key (f y)) xs) h) ∙ all_inserted-map f key xs old
