use Rattle.std.proofs.Common.{◌≡◌, ◌∙◌, ◌++◌, ◌∷◌, [], true, false, bytes_eq, map, rules, ap, sym}
use Rattle.std.proofs.lemmas.List.{map-append}
use Rattle.std.specs.List.{list_any}
use Rattle.qtt_holes.specs.Hole.{Hole}
use Rattle.qtt_holes.specs.View.{hole}
use Rattle.qtt_module.specs.GroupCalls.{collected, side_of, right_side, with_sides}
use Rattle.qtt_module.proofs.Gathering.{collecting, told-before, told-new}
use Rattle.qtt_module.proofs.sides.Sides.with.Goals as goal

pub returns-then-has_name : goal.returns-then-has_name
returns-then-has_name c =
    let s = c.args.self in
    let h = hole c.in-Hole.hole in
    let test : list_any (λ (x : Hole). bytes_eq x.name h.name) (map hole s.holes.items) ≡ true =
    ap (λ hs. list_any (λ (x : Hole). bytes_eq x.name h.name) (map hole hs)) (sym c.deref.ensures.value)
    ∙ sym c.has_name.ensures ∙ c.if-has_name.true in
    told-before (collected s) c.args.leaf h test
    ∙ ap (λ x. with_sides (collected s) ((c.args.leaf, side_of x) ∷ [])) (sym c.in-Hole.is)

pub returns-in_ok-push-in-Hole : goal.returns-in_ok-push-in-Hole
returns-in_ok-push-in-Hole c =
    let s = c.args.self in
    let h = hole c.in-Hole.hole in
    let test : list_any (λ (x : Hole). bytes_eq x.name h.name) (map hole s.holes.items) ≡ false =
    ap (λ hs. list_any (λ (x : Hole). bytes_eq x.name h.name) (map hole hs)) (sym c.deref.ensures.value)
    ∙ sym c.has_name.ensures ∙ c.if-has_name.false in
    let now : c.push-in-Hole.new.self.items ≡ s.holes.items ++ c.in-Hole.hole ∷ [] = search rules in
    ap (collecting (map right_side s.cores.items))
    (ap (map hole) now ∙ map-append hole s.holes.items (c.in-Hole.hole ∷ []))
    ∙ told-new (collected s) c.args.leaf h test
    ∙ ap (λ x. with_sides (collected s) ((c.args.leaf, side_of x) ∷ [])) (sym c.in-Hole.is)
