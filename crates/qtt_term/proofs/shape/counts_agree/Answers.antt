use Rattle.std.proofs.Common.{◌≡◌, ◌∙◌, length, rules, sym}
use Rattle.qtt_term.specs.View.{branch}
use Rattle.qtt_term.proofs.Shaped.{counts-unequal, counts-same, counts-apart, counts-end}
use Rattle.qtt_term.proofs.shape.counts_agree.Goals as goal

pub returns-then-branches-constructors : goal.returns-then-branches-constructors
returns-then-branches-constructors c =
    let h : length c.args.branches.now ≡ length c.args.constructors.now → ⊥ =
    search rules in sym (counts-unequal c.args.branches.now c.args.constructors.now h)

pub returns-then-fields-len : goal.returns-then-fields-len
returns-then-fields-len c =
    let x = c.index-branches-place.result in
    let y = c.index-constructors-place.result in
    let h : (branch x).0 ≡ length y.fields.items → ⊥ = search rules in
    sym (c.loop-place.invariant ∙ counts-apart c.args.branches.now c.args.constructors.now c.loop-place.place x y
    (search rules) (search rules)
    c.index-branches-place.is c.index-constructors-place.is h)

pub loop-place-preserved : goal.loop-place-preserved
loop-place-preserved c =
    let x = c.index-branches-place.result in
    let y = c.index-constructors-place.result in
    let h : (branch x).0 ≡ length y.fields.items = search rules in
    c.loop-place.invariant ∙ counts-same c.args.branches.now c.args.constructors.now c.loop-place.place x y
    (search rules) (search rules)
    c.index-branches-place.is c.index-constructors-place.is h

pub returns : goal.returns
returns c = sym (c.loop-place.invariant ∙ counts-end c.args.branches.now c.args.constructors.now
    c.loop-place.place (search rules) (search rules))
