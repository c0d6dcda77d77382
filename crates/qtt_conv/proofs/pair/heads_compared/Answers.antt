use Rattle.std.proofs.Common.{refl}
use Rattle.qtt_term.specs.View.{term}
use Rattle.qtt_conv.proofs.Outlines.{outline-tested, outline-apart}
use Rattle.qtt_conv.proofs.pair.heads_compared.Goals as goal

pub returns-in_ok-components-2 : goal.returns-in_ok-components-2
returns-in_ok-components-2 c = (
  outline-tested (term c.args.left) (term c.args.right) (c.if-same_outline.ensures.0 refl),
  refl,
  c.in_ok-components.ensures,
  c.in_ok-components-2.ensures,
)

pub returns-else-same_outline : goal.returns-else-same_outline
returns-else-same_outline c =
    outline-apart (term c.args.left) (term c.args.right) (λ e. absurd (cc (c.if-same_outline.ensures.1 e)))
