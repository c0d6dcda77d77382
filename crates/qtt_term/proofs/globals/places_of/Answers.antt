use Rattle.std.proofs.Common.{◌≡◌, ◌+◌, ◌<◌, ◌∷◌, ◌++◌, [], length, map, take, ap, sym, ◌∙◌, arith}
use Rattle.std.proofs.lemmas.List.{take_more, map-append, length-map, length-take}
use Rattle.qtt_term.specs.Items.{constructor_entry}
use Rattle.qtt_term.specs.Places.{places_from}
use Rattle.qtt_term.proofs.Constructors.{places_from-more}
use Rattle.qtt_term.proofs.globals.places_of.Goals as goal

pub loop-place-preserved : goal.loop-place-preserved
loop-place-preserved c =
    let f = c.args.family in
    let cs = c.args.constructors.now in
    let k = c.loop-place.place in
    let x = c.index-constructors-place.result in
    let so_far = map constructor_entry (take k cs) in
    let more = places_from-more f 0 so_far (constructor_entry x) in
    let lt : k < length cs = c.loop-place-test.true in
    let count : 0 + length so_far ≡ k = omega (arith, length-map (take k cs) constructor_entry, length-take k cs, lt) in
    let here = c.index-constructors-place.is in
    let at : map constructor_entry (take (k + 1) cs) ≡ so_far ++ constructor_entry x ∷ [] =
    ap (map constructor_entry) (take_more cs k x lt ∙ ap (λ y. take k cs ++ y ∷ []) (sym here)) ∙
    map-append constructor_entry (take k cs) (x ∷ []) in
    c.in_ok-push.ensures.items ∙
    ap (λ ps. ps ++ record { id = x.id; con = record { family = f; place = k } } ∷ []) c.loop-place.invariant
    ∙ sym (ap (λ n. places_from f 0 so_far ++ record { id = x.id; con = record { family = f; place = n } } ∷ []) count)
    ∙ sym more ∙ sym (ap (places_from f 0) at)
