-- A literal is its own head.
use Rattle.std.proofs.Common.{◌≡◌, None, ap, sym, ◌∙◌}
use Rattle.qtt_term.specs.Globals.{env}
use Rattle.qtt_term.specs.Question.{head_step}
use Rattle.qtt_conv.proofs.Stepping.{head_from-ends}
use Rattle.qtt_envconv.specs.Nodes.{node}
use Rattle.qtt_envconv.specs.Shapes.{literal}
use Rattle.qtt_envconv.proofs.Contracting.{literal-rests}
use Rattle.qtt_envconv.proofs.heads.head_within.Goals as goal

pub returns-in-Literal-clause-found : goal.returns-in-Literal-clause-found
returns-in-Literal-clause-found c =
    let E = env c.args.env.now in
    let rests : head_step E (node c.args.node) ≡ None =
    ap (λ k. head_step E (node k)) c.in-Literal.is ∙ sym (literal-rests E (literal c.in-Literal.field-0)) in
    sym (head_from-ends E c.args.n 0 (node c.args.node) rests)
