use Rattle.std.proofs.Common.{◌≡◌, ◌∙◌, suc, ap}
use mathlib.Core.Path.{fun_ext}
use Rattle.qtt_term.specs.Term.{var}
use Rattle.qtt_term.specs.Substitution.{sub}
use Rattle.qtt_term.specs.View.{term}
use Rattle.qtt_term.proofs.Binders.{if-ok, var-seen}
use Rattle.qtt_split.specs.Branch.{put}
use Rattle.qtt_split.specs.Motive.{deletion_motive}
use Rattle.qtt_split.specs.Substitution.{stands_for}
use Rattle.qtt_split.proofs.Substituted.{put-along}
use Rattle.qtt_split.proofs.motive.deletion_motive.Goals as goal

pub returns : goal.returns
returns c =
    let x = c.args.variable in
    let t = term c.args.goal.now in
    let σ = stands_for c.put.new.self in
    let raising = stands_for c.raising-stands.result in
    let same : σ ≡ put x (var 0) (λ i. var (suc i)) =
    fun_ext (λ i. c.in_ok-put.ensures i ∙ ap (λ u. put x u raising i) (var-seen 0) ∙
    put-along x (var 0) raising (λ j. var (suc j)) c.raising-stands.ensures i) in
    if-ok (λ u. term u ≡ sub σ t) (λ u. term u ≡ deletion_motive x t) c.apply.result
    (λ u h. h ∙ ap (λ τ. sub τ t) same) c.apply.ensures
