use Rattle.std.proofs.Common.{◌≡◌, ◌∙◌, ◌+◌, ◌-◌, ◌++◌, suc, [], ◌∷◌, get_or, ap, sym, rules, arith}
use Rattle.qtt_split.specs.Motive.{field_places}
use Rattle.qtt_split.proofs.Waying.{one-place, one-further}
use Rattle.qtt_split.proofs.ways.field_places.Goals as goal

pub loop-field-preserved : goal.loop-field-preserved
loop-field-preserved c =
    let k = c.loop-field.field - 1 in
    let ps = c.loop-field.places.items in
    let p = c.in_ok-sum.field-0 in
    let e : c.loop-field.field ≡ suc k = omega (arith, c.loop-field-test.true) in
    let now : c.push.new.self.items ≡ ps ++ p ∷ [] = search rules in
    c.loop-field.invariant ∙
    ap (λ j. ps ++ field_places 1 j) e ∙
    one-place k ps p c.in_ok-sum.ensures ∙
    ap (λ xs. xs ++ field_places 1 k) (sym now)

pub loop-place-preserved : goal.loop-place-preserved
loop-place-preserved c =
    let n = c.args.count in
    let behind = c.args.behind.now in
    let i = c.loop-place.place-index in
    let ps = c.loop-place.places.items in
    let q = c.in_ok-sum-2.field-0 in
    let sum : q ≡ get_or behind i 0 + (n + 1) = omega (arith, c.in_ok-sum-2.ensures, c.in_ok-by.ensures) in
    c.in_ok-push-2.ensures.items ∙
    one-further n (field_places 1 n) ps behind i q c.loop-place-test.true sum c.loop-place.invariant
