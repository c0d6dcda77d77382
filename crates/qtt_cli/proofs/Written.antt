-- A text that is written element by element.
use Rattle.std.proofs.Common.{◌≡◌, ◌∙◌, ◌<◌, ◌≤◌, ◌+◌, ℕ, Bool, true, false, cond, List, [], ◌∷◌, ◌++◌, map, filter, flat_map, length, sum_by, drop, get_or, refl, sym, ap}
use Rattle.std.proofs.lemmas.List.{append-nil, append_assoc, at_drop_all, map-append}
use Rattle.std.proofs.lemmas.List.Sums.{sum_by-cons}
use Rattle.std.proofs.lemmas.Simd.{map-map}
use Rattle.qtt_holes.specs.declared.hole.Hole.{Hole}
use Rattle.qtt_holes.specs.View.{hole}
use Rattle.qtt_module.specs.declared.checked.Checked.{Checked}
use Rattle.qtt_module.specs.Text.{Accepted}
use Rattle.qtt_module.specs.TextCalls.{accepted_of}
use Rattle.qtt_outcome.specs.Stop.{hole_name, holes_of}
use Rattle.qtt_cli.specs.Views.{name_of, names_in}
use Rattle.qtt_cli.proofs.Found.{from-here}

-- behind the elements before a place the text goes on with the rest
module _ {X Y : Type 0} (F : List X → List Y) (xs : List X) (at : ℕ) where
  pub written-on : (x : X) (here : List Y) → F (x ∷ drop (at + 1) xs) ≡ here ++ F (drop (at + 1) xs) →
      at < length xs → x ≡ get_or xs at x → (old new whole : List Y) → new ≡ old ++ here →
      old ++ F (drop at xs) ≡ whole → new ++ F (drop (at + 1) xs) ≡ whole
  written-on x here step lt is old new whole e before =
      let rest = F (drop (at + 1) xs) in
      ap (λ (ys : List Y). ys ++ rest) e
      ∙ append_assoc old here rest
      ∙ ap (λ (ys : List Y). old ++ ys) (sym step)
      ∙ ap (λ (ys : List Y). old ++ ys) (sym (from-here F xs at x lt is))
      ∙ before

  pub written-all : F [] ≡ [] → length xs ≤ at → (text whole : List Y) → text ++ F (drop at xs) ≡ whole → text ≡ whole
  written-all none le text whole before =
      sym (append-nil text)
      ∙ ap (λ (ys : List Y). text ++ ys) (sym none)
      ∙ sym (at_drop_all (λ (ys : List X). text ++ F ys) xs at le)
      ∙ before

-- ---- of those that a test takes
abbrev pub taken : {A : Type 0} → Bool → List A → List A
taken t bytes = cond t bytes []

pub taken-first : {A Y : Type 0} (test : A → Bool) (text : A → List Y) (a : A) (later : List A) →
    flat_map text (filter test (a ∷ later)) ≡ taken (test a) (text a) ++ flat_map text (filter test later)
taken-first test text a later = by (test a)
  where
    by : (t : Bool) → flat_map text (cond t (a ∷ filter test later) (filter test later))
        ≡ taken t (text a) ++ flat_map text (filter test later)
    by true = refl
    by false = refl

-- ---- counts
pub definitions-of : (order : List Checked) →
    sum_by (λ (A : Accepted). A.checked.definitions) (map accepted_of order)
    ≡ sum_by (λ (c : Checked). c.definitions) order
definitions-of [] = refl
definitions-of (c ∷ order) =
    sum_by-cons (λ (A : Accepted). A.checked.definitions) (accepted_of c) (map accepted_of order)
    ∙ ap (λ n. c.definitions + n) (definitions-of order)
    ∙ sym (sum_by-cons (λ (d : Checked). d.definitions) c order)

-- ---- names of holes
pub names-first : (c : Checked) (order : List Checked) →
    names_in (c ∷ order) ≡ map name_of c.holes.items ++ names_in order
names-first c order = map-append hole_name (holes_of (accepted_of c)) (flat_map holes_of (map accepted_of order))
    ∙ ap (λ (ns : List (List ℕ)). ns ++ names_in order) (named c.holes.items)
  where
    named : (hs : List Hole) → map hole_name (map (λ h. (c.exports.name, h)) (map hole hs)) ≡ map name_of hs
    named hs = map-map hole_name (λ h. (c.exports.name, h)) (map hole hs) ∙ map-map (λ h. h.name) hole hs
