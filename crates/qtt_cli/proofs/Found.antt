-- Looking along a list for the first element that a test takes, from a place on.
use Rattle.std.proofs.Common.{◌≡◌, ◌∙◌, ◌<◌, ◌+◌, ℕ, Bool, true, false, cond, List, [], ◌∷◌, ◌++◌, map, flat_map, find, length, drop, get_or, slice_get, Option, Some, sym, ap}
use Rattle.std.proofs.lemmas.List.{at_drop_more}
use Rattle.qtt_graph.specs.Graph.{Name}
use Rattle.qtt_holes.specs.Hole.{Hole}
use Rattle.qtt_holes.specs.View.{hole}
use Rattle.qtt_module.specs.declared.checked.Checked.{Checked}
use Rattle.qtt_module.specs.TextCalls.{accepted_of}
use Rattle.qtt_outcome.specs.Stop.{holes_of}

-- what is left from a place on begins with what stands there
pub from-here : {X Y : Type 0} (F : List X → Y) (xs : List X) (at : ℕ) (x : X) → at < length xs → x ≡ get_or xs at x →
    F (drop at xs) ≡ F (x ∷ drop (at + 1) xs)
from-here F xs at x lt is = at_drop_more F xs at x lt ∙ ap (λ y. F (y ∷ drop (at + 1) xs)) (sym is)

module _ {X Y : Type 0} (view : X → Y) (p : Y → Bool) (xs : List X) (at : ℕ) (x : X) (lt : at < length xs)
    (is : x ≡ get_or xs at x) where
  abbrev rest : Option Y
  rest = find p (map view (drop (at + 1) xs))

  pub found-here : p (view x) ≡ true → find p (map view (drop at xs)) ≡ Some (view x)
  found-here t =
      from-here (λ (ys : List X). find p (map view ys)) xs at x lt is
      ∙ ap (λ (b : Bool). cond b (Some (view x)) rest) t

  pub found-later : p (view x) ≡ false → find p (map view (drop at xs)) ≡ rest
  found-later t =
      from-here (λ (ys : List X). find p (map view ys)) xs at x lt is
      ∙ ap (λ (b : Bool). cond b (Some (view x)) rest) t

-- ---- the first hole
abbrev pub first_of : List Checked → Option (Name × Hole)
first_of order = slice_get (flat_map holes_of (map accepted_of order)) 0

module _ (order : List Checked) (at : ℕ) (checked : Checked) (lt : at < length order)
    (is : checked ≡ get_or order at checked) where
  abbrev holes_here : List Hole → Option (Name × Hole)
  holes_here hs =
      slice_get (map (λ h. (checked.exports.name, h)) hs ++ flat_map holes_of (map accepted_of (drop (at + 1) order))) 0

  first-here : first_of (drop at order) ≡ holes_here (map hole checked.holes.items)
  first-here = from-here first_of order at checked lt is

  pub hole-here : (h : Hole) → slice_get (map hole checked.holes.items) 0 ≡ Some h →
      first_of (drop at order) ≡ Some (checked.exports.name, h)
  hole-here h e = first-here ∙ by (map hole checked.holes.items) e
    where
      by : (hs : List Hole) → slice_get hs 0 ≡ Some h → holes_here hs ≡ Some (checked.exports.name, h)
      by [] e = absurd (cc e)
      by (x ∷ hs) e = ap (λ (y : Hole). Some (checked.exports.name, y)) (let g : Some x ≡ Some h = e in cc g)
