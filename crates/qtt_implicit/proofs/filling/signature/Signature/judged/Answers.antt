-- The chain behind the parameters, and behind the binders in braces.
use Rattle.std.proofs.Common.{◌∙◌, ap, sym, subst, IfOk}
use mathlib.Core.Path.{ap₂}
use Rattle.qtt_syntax.specs.Tree.{Tree}
use Rattle.qtt_implicit.specs.Judging.{AreJudged}
use Rattle.qtt_implicit.specs.Matching.{Slots}
use Rattle.qtt_implicit.specs.Nodes.{node_tree}
use Rattle.qtt_implicit.specs.TextTypes.{given_list}
use Rattle.qtt_implicit.specs.Walk.{behind_binders, given_to, not_in_braces}
use Rattle.qtt_implicit.proofs.Braces.{behind_both}
use Rattle.qtt_implicit.proofs.filling.signature.Signature.judged.Goals as goal

pub returns : goal.returns
returns c =
    let gs = not_in_braces (given_list c.args.call.givens.now) in
    let p = c.args.self.params in
    let b = c.args.self.braces in
    let T = node_tree c.args.self.ty.now in
    let chain = c.behind_binders-chain.ensures ∙ ap (behind_binders b) c.behind_binders.ensures
    ∙ sym (behind_both p b T) in
    let P : Slots × Tree → Type 0 = λ x. IfOk c.given_to.result (λ j. AreJudged j x) in
    subst P (ap₂ (λ (σ : Slots) (t : Tree). given_to σ t gs) c.in_ok-slots.ensures chain) c.given_to.ensures
