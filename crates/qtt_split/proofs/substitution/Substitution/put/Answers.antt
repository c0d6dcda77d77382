use Rattle.std.proofs.Common.{◌≡◌, ◌∙◌, ◌-◌, length, set, ap, arith}
use Rattle.std.proofs.lemmas.Grind.{common_steps}
use Rattle.qtt_term.specs.View.{term}
use Rattle.qtt_split.specs.Substitution.{stands_for, values_or_raised}
use Rattle.qtt_split.proofs.Substituted.{placed, put-along}
use Rattle.qtt_split.proofs.substitution.Substitution.put.Goals as goal

pub returns : goal.returns
returns c =
    let s = c.reach.new.self in
    let vs = s.values.items in
    let x = c.args.variable in
    let count : c.len.result ≡ length vs = grind (arith, common_steps, c.len.ensures) in
    λ i. ap (λ m. values_or_raised (set vs (m - 1 - x) c.args.value) s.by i) count ∙
    placed vs s.by x c.args.value c.in_ok-reach.ensures.long i ∙
    put-along x (term c.args.value) (stands_for s) (stands_for c.args.self.now) c.in_ok-reach.ensures.same i
