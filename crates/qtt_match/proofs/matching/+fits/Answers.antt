use Rattle.std.proofs.Common.{◌≡◌, ◌∙◌, ap, map, arith}
use Rattle.qtt_syntax.specs.Tree.{shapes}
use Rattle.qtt_syntax.specs.Tree.Shape.{constructor}
use Rattle.qtt_syntax.specs.View.{shape_of}
use Rattle.qtt_syntax.proofs.Rows.{constructor_view}
use Rattle.qtt_match.proofs.Components.{fitting}
use Rattle.qtt_match.proofs.matching.+fits.Goals as goal

pub fits-returns-then-names_constructor : goal.fits-returns-then-names_constructor
fits-returns-then-names_constructor t c =
    let a = c.in-Constructor-Con in
    let form : shape_of c.args.pattern.now ≡ constructor a.mark-0 a.head
    (shapes (map shape_of a.arguments.items)) a.span-0 =
    ap shape_of a.is-0 ∙ constructor_view a.mark-0 a.head a.arguments a.span-0 in
    rw form (grind (arith, fitting))
