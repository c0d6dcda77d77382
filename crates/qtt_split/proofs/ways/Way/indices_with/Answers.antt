use Rattle.std.proofs.Common.{◌≡◌, ◌∙◌, [], ap}
use mathlib.Core.Path.{fun_ext}
use Rattle.std.proofs.lemmas.List.{take_all}
use Rattle.qtt_term.specs.Term.{var}
use Rattle.qtt_term.specs.Substitution.{subs, shift}
use Rattle.qtt_term.specs.View.{term}
use Rattle.qtt_unify.specs.View.{all_terms}
use Rattle.qtt_split.specs.Branch.{put}
use Rattle.qtt_split.specs.Motive.{first_place}
use Rattle.qtt_split.specs.Substitution.{stands_for}
use Rattle.qtt_split.proofs.Substituted.{put-along}
use Rattle.qtt_split.proofs.Waying.{one-put}
use Rattle.qtt_split.proofs.ways.Way.indices_with.Goals as goal

pub loop-index-preserved : goal.loop-index-preserved
loop-index-preserved c =
    ap all_terms c.in_ok-push.ensures.items ∙
    one-put (stands_for c.put.new.self) c.deref-index-items.result.now c.loop-index.indices.items
    c.loop-index.index-index c.index-item.result c.in_ok-apply.field-0 c.loop-index-test.true c.index-item.is
    c.in_ok-apply.ensures c.loop-index.invariant

pub returns : goal.returns
returns c =
    let n = c.args.count in
    let w = c.args.self.now in
    let t = term c.args.target in
    let x = c.first_place.result in
    let σ = stands_for c.put.new.self in
    let raising = stands_for c.raising-values.result in
    let list = c.deref-index-items.result.now in
    let same : σ ≡ put (first_place w.places.items) t (λ i. var (shift n i)) =
    fun_ext (λ i. c.in_ok-put.ensures i ∙
    put-along x t raising (λ j. var (shift n j)) c.raising-values.ensures i ∙
    ap (λ y. put y t (λ j. var (shift n j)) i) c.first_place.ensures) in
    c.loop-index.invariant ∙
    ap (λ xs. subs [] σ (all_terms xs))
    (take_all c.loop-index.index-index list c.loop-index-test.false ∙ c.deref-index-items.ensures.value) ∙
    ap (λ τ. subs [] τ (all_terms w.indices.items)) same
