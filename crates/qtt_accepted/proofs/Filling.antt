-- Filling in implicit arguments keeps the outlines of items.
use Rattle.std.proofs.Common.{◌≡◌, ℕ, ◌+◌, ◌-◌, nat_le, Bool, true, false, if◌then◌else◌, List, [], ◌∷◌, Result, Ok, Err, refl}
use mathlib.Core.Path.{ap₂}
use Rattle.qtt_base.specs.Limits.{standard}
use Rattle.qtt_base.specs.declared.place.ModuleId.{ModuleId}
use Rattle.qtt_syntax.specs.Tree.{Item, Module}
use Rattle.qtt_syntax.specs.Tree.Module.{module_text}
use Rattle.qtt_names.specs.Exports.{Exports}
use Rattle.qtt_implicit.specs.Known.{Known}
use Rattle.qtt_implicit.specs.Filling.{Stop, Filling, done, goes_on, ◌>>=◌}
use Rattle.qtt_implicit.specs.Filled.{Grown, walk_item, item_nodes, place_of, Refusal, grown, filled_item, Filled, and_item, item_then, with_own, filled_items, FilledText, with_items, at_start, filled}
use Rattle.qtt_module.specs.Declarations.{declarations}
use Rattle.qtt_module.specs.Text.{items_in}
use Rattle.qtt_accepted.proofs.Outlines.{outline, outlines, SameHeads, same-heads}
use Rattle.qtt_accepted.proofs.Passing.{Gives, ok_gives, of_value}

-- ---- what holds of the value, where there is one
abbrev OfFilled : {A : Type 0} → (A → Type 0) → Result (A × ℕ) Stop → Type 0
OfFilled P (Ok r) = P r.0
OfFilled P (Err s) = Unit {0}

record Always {A : Type 0} (P : A → Type 0) (m : Filling A) : Type 0 where
  at : (left : ℕ) → OfFilled P (m left)

then_always : {A B : Type 0} {P : A → Type 0} {Q : B → Type 0} {m : Filling A} {k : A → Filling B} →
    Always P m → ((a : A) → P a → Always Q (k a)) → Always Q (m >>= k)
unfolding ◌>>=◌
then_always {A} {B} {P} {Q} {m} {k} h next = record { at = λ left. by (m left) (h.at left) }
  where
    by : (r : Result (A × ℕ) Stop) → OfFilled P r → OfFilled Q (goes_on r k)
    by (Ok r) p = (next r.0 p).at r.1
    by (Err s) p = tt

done_always : {A : Type 0} {P : A → Type 0} {a : A} → P a → Always P (done a)
done_always p = record { at = λ left. p }

anything : {A : Type 0} {m : Filling A} → Always (λ (a : A). Unit {0}) m
anything {A} {m} = record { at = λ left. by (m left) }
  where
    by : (r : Result (A × ℕ) Stop) → OfFilled (λ (a : A). Unit {0}) r
    by (Ok r) = tt
    by (Err s) = tt

-- ---- items
item-keeps : (K : Known) (i : Item) → Always (λ (g : Grown). outline g.item ≡ outline i) (walk_item K i)
unfolding walk_item
item-keeps K (Item.family n ns ps t cs s) =
    then_always anything (λ ps' u. then_always anything (λ t' v. then_always anything (λ cs' w. done_always refl)))
item-keeps K (Item.signature p m n ns t s) = then_always anything (λ t' u. done_always refl)
item-keeps K (Item.clause n ps side s) =
    then_always anything (λ ps' u. then_always anything (λ side' v. done_always refl))

item-filled : (limit : ℕ) (K : Known) (i : Item) →
    Gives (λ (g : Grown). outline g.item ≡ outline i) (filled_item limit K i)
item-filled limit K i = by_test (nat_le (item_nodes i) limit)
  where
    by : (r : Result (Grown × ℕ) Stop) → OfFilled (λ (g : Grown). outline g.item ≡ outline i) r →
        Gives (λ (g : Grown). outline g.item ≡ outline i) (grown limit (place_of i) r)
    by (Ok r) p = ok_gives p
    by (Err s) p = record { it = tt }

    by_test : (b : Bool) → Gives (λ (g : Grown). outline g.item ≡ outline i)
        (if b then grown limit (place_of i) (walk_item K i (limit - item_nodes i))
        else Err (Refusal.too_large (limit + 1) (place_of i)))
    by_test true = by (walk_item K i (limit - item_nodes i)) ((item-keeps K i).at (limit - item_nodes i))
    by_test false = record { it = tt }

items-filled : (limit : ℕ) (K : Known) (is : List Item) →
    Gives (λ (r : Filled). outlines r.items ≡ outlines is) (filled_items limit K is)
items-filled limit K [] = ok_gives refl
items-filled limit K (i ∷ is) =
    by (filled_item limit K i) (item-filled limit K i) (λ g. items-filled limit (with_own g.own K) is)
  where
    by_rest : (g : Grown) (r : Result Filled Refusal) → outline g.item ≡ outline i →
        Gives (λ (f : Filled). outlines f.items ≡ outlines is) r →
        Gives (λ (f : Filled). outlines f.items ≡ outlines (i ∷ is)) (and_item g.item r)
    by_rest g (Ok f) p h = ok_gives (ap₂ (λ o os. o ∷ os) p h.it)
    by_rest g (Err e) p h = record { it = tt }

    by : (r : Result Grown Refusal) → Gives (λ (g : Grown). outline g.item ≡ outline i) r →
        ((g : Grown) → Gives (λ (f : Filled). outlines f.items ≡ outlines is)
        (filled_items limit (with_own g.own K) is)) →
        Gives (λ (f : Filled). outlines f.items ≡ outlines (i ∷ is))
        (item_then r (λ g. filled_items limit (with_own g.own K) is))
    by (Ok g) h rest = by_rest g (filled_items limit (with_own g.own K) is) h.it (rest g)
    by (Err e) h rest = record { it = tt }

text-filled : (home : ModuleId) (imports : List Exports) (m : Module) →
    Gives (λ (f : FilledText). outlines (items_in f.text) ≡ outlines (items_in m)) (filled home imports m)
text-filled home imports (module_text h n ns is items) =
    by (filled_items standard.filled_nodes (at_start home imports) items)
    (items-filled standard.filled_nodes (at_start home imports) items)
  where
    by : (r : Result Filled Refusal) → Gives (λ (f : Filled). outlines f.items ≡ outlines items) r →
        Gives (λ (f : FilledText). outlines (items_in f.text) ≡ outlines items) (with_items (module_text h n ns is) r)
    by (Ok f) p = ok_gives p.it
    by (Err e) p = record { it = tt }

pub filling-keeps-heads : (home : ModuleId) (imports : List Exports) (m : Module) (f : FilledText) →
    filled home imports m ≡ Ok f → SameHeads (declarations (items_in m)) (declarations (items_in f.text))
filling-keeps-heads home imports m f e =
    same-heads (items_in m) (items_in f.text) (of_value (text-filled home imports m) e)
