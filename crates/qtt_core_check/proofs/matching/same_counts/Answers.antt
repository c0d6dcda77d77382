use Rattle.std.proofs.Common.{◌≡◌, ◌+◌, ◌∙◌, length, drop, rules, sym}
use Rattle.qtt_term.specs.View.{branch}
use Rattle.qtt_core_check.proofs.Matches.{counts-unequal, counts-at, counts-differ, counts-agree, counts-end, binders_of, fields_of}
use Rattle.qtt_core_check.proofs.matching.same_counts.Goals as goal

pub returns-then-branches-constructors : goal.returns-then-branches-constructors
returns-then-branches-constructors c =
    let h : length c.args.branches.now ≡ length c.args.constructors.now → ⊥ =
    search rules in sym (counts-unequal c.args.branches.now c.args.constructors.now h)

pub returns-then-fields-len : goal.returns-then-fields-len
returns-then-fields-len c =
    let x = c.index-branches-place.result in
    let y = c.index-constructors-place.result in
    let h : (branch x).0 ≡ length y.fields.items → ⊥ = search rules in
    sym (c.loop-place.invariant ∙ counts-at c.args.branches.now c.args.constructors.now c.loop-place.place x y
    (search rules) (search rules) c.index-branches-place.is c.index-constructors-place.is
    ∙ counts-differ (branch x).0 (length y.fields.items)
    (binders_of (drop (c.loop-place.place + 1) c.args.branches.now))
    (fields_of (drop (c.loop-place.place + 1) c.args.constructors.now)) h)

pub loop-place-preserved : goal.loop-place-preserved
loop-place-preserved c =
    let x = c.index-branches-place.result in
    let y = c.index-constructors-place.result in
    let h : (branch x).0 ≡ length y.fields.items = search rules in
    c.loop-place.invariant ∙ counts-at c.args.branches.now c.args.constructors.now c.loop-place.place x y
    (search rules) (search rules) c.index-branches-place.is c.index-constructors-place.is
    ∙ counts-agree (branch x).0 (length y.fields.items)
    (binders_of (drop (c.loop-place.place + 1) c.args.branches.now))
    (fields_of (drop (c.loop-place.place + 1) c.args.constructors.now)) h

pub returns : goal.returns
returns c = sym (c.loop-place.invariant ∙ counts-end c.args.branches.now c.args.constructors.now
    c.loop-place.place (search rules) (search rules))
