use Rattle.std.proofs.Common.{◌≡◌, refl, subst}
use Rattle.qtt_split.specs.View.{tree_of}
use Rattle.qtt_cover.specs.Ends.{IsMissing}
use Rattle.qtt_cover.proofs.Numbering.{some-missing, covered}
use Rattle.qtt_cover.proofs.ends.first_missing.Goals as goal

pub returns-in-Missing-clause-some : goal.returns-in-Missing-clause-some
returns-in-Missing-clause-some c =
    let T = tree_of c.args.tree.now in
    let k = c.in-Missing.number in
    λ n e. let same : k ≡ n = cc in subst (IsMissing T) same (some-missing T k c.in-Missing.ensures)

pub returns-in-Missing-clause-none : goal.returns-in-Missing-clause-none
returns-in-Missing-clause-none c =
    let T = tree_of c.args.tree.now in
    let k = c.in-Missing.number in
    (λ e. absurd (cc e), λ none. absurd (none k (some-missing T k c.in-Missing.ensures)))

pub returns-in-Behind-clause-none : goal.returns-in-Behind-clause-none
returns-in-Behind-clause-none c =
    let none = c.in-Behind.ensures.0 in (λ e. covered (tree_of c.args.tree.now) none, λ all. refl)
