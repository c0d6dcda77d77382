use Rattle.std.proofs.Common.{◌≡◌, ◌∙◌, ◌+◌, suc, map, ap, sym, arith}
use Rattle.qtt_syntax.specs.Tree.{shapes}
use Rattle.qtt_syntax.specs.Tree.Shape.{constructor}
use Rattle.qtt_syntax.specs.View.{shape_of}
use Rattle.qtt_syntax.proofs.Rows.{constructor_view}
use Rattle.qtt_split.specs.Node.{constructors_in, constructors_of}
use Rattle.qtt_split.proofs.Numbered.{among-fields}
use Rattle.qtt_split.proofs.patterns.+constructors.Goals as goal

pub constructors_in-returns-in_ok-sum-in-Constructor : goal.constructors_in-returns-in_ok-sum-in-Constructor
constructors_in-returns-in_ok-sum-in-Constructor t c =
    let x = c.in-Constructor in
    let ps = map shape_of x.arguments.items in
    let k = c.in_ok-constructors_of-in-Constructor.field-0 in
    let form : shape_of c.args.pattern.now ≡ constructor x.mark x.head (shapes ps) x.span =
    ap shape_of x.is ∙ constructor_view x.mark x.head x.arguments x.span in
    let inner : k ≡ constructors_of ps =
    c.in_ok-constructors_of-in-Constructor.ensures ∙
    ap (λ xs. constructors_of (map shape_of xs)) c.deref.ensures.value in
    let more : c.in_ok-sum-in-Constructor.field-0 ≡ 1 + k = c.in_ok-sum-in-Constructor.ensures in
    let total : c.in_ok-sum-in-Constructor.field-0 ≡ suc (constructors_of ps) = omega (arith, more, inner) in
    total ∙ ap suc (sym (among-fields ps)) ∙ ap constructors_in (sym form)
