-- The patterns of a constructor.
use Rattle.std.proofs.Common.{◌≡◌, ◌∙◌, ap, sym, arith, map, Some}
use Rattle.std.specs.Prelude.{filter_map}
use Rattle.std.proofs.lemmas.Grind.{common_steps}
use Rattle.qtt_syntax.specs.declared.expr.Named.{Named}
use Rattle.qtt_syntax.specs.declared.pattern.Pattern.TheVariants as pattern
use Rattle.qtt_syntax.specs.View.{shape_of}
use Rattle.qtt_implicit.specs.Forgetting.{number_of, shape_without}
use Rattle.qtt_implicit.proofs.ForgottenParts.{constructor_without}
use Rattle.qtt_implicit.proofs.forgetting.numbers.Numbers.+patterns.Goals as goal

pub pattern-returns-in_ok-copied_name-in-Constructor : goal.pattern-returns-in_ok-copied_name-in-Constructor
pattern-returns-in_ok-copied_name-in-Constructor t c =
    let f = number_of c.args.self.now in
    let row : map shape_of c.in_ok-arguments-in-Constructor.arguments.items ≡
    filter_map (shape_without f) (map shape_of c.in-Constructor.arguments.items) = grind (arith, common_steps) in
    let head : c.in_ok-copied_name-in-Constructor.field-0 ≡ c.in-Constructor.head = grind (arith, common_steps) in
    let whole = λ (h : Named). Some
    (shape_of (pattern.Constructor c.in-Constructor.mark h c.in_ok-arguments-in-Constructor.arguments
    c.in-Constructor.span)) in
    ap whole head
    ∙ constructor_without f c.in-Constructor.mark c.in-Constructor.head c.in_ok-arguments-in-Constructor.arguments
    c.in-Constructor.arguments c.in-Constructor.span row
    ∙ sym (ap (λ p. shape_without f (shape_of p)) c.in-Constructor.is)
