use Rattle.std.proofs.Common.{◌≡◌, ◌∙◌, ap}
use mathlib.Core.Path.{fun_ext}
use Rattle.qtt_term.specs.Term.{var}
use Rattle.qtt_term.specs.Substitution.{sub}
use Rattle.qtt_term.specs.View.{term}
use Rattle.qtt_term.proofs.Binders.{if-ok, var-seen}
use Rattle.qtt_split.specs.Branch.{put}
use Rattle.qtt_split.specs.Substitution.{stands_for}
use Rattle.qtt_split.proofs.motive.goal_behind.Goals as goal

pub returns : goal.returns
returns c =
    let x = c.args.variable in
    let t = term c.args.goal.now in
    let w = c.args.way in
    let σ = stands_for c.put.new.self in
    let same : σ ≡ put x (var w.scrutinee) (stands_for w.stands) =
    fun_ext (λ i. c.in_ok-put.ensures i ∙ ap (λ u. put x u (stands_for w.stands) i) (var-seen w.scrutinee)) in
    if-ok (λ u. term u ≡ sub σ t) (λ u. term u ≡ sub (put x (var w.scrutinee) (stands_for w.stands)) t)
    c.apply.result (λ u h. h ∙ ap (λ τ. sub τ t) same) c.apply.ensures
