use Rattle.std.proofs.Common.{◌≡◌, ◌∙◌, ◌+◌, ◌∷◌, length, ap, arith}
use Rattle.std.proofs.lemmas.Grind.{common_steps}
use Rattle.qtt_term.specs.declared.term.Term.TheVariants as form
use Rattle.qtt_term.proofs.Binders.{var-seen}
use Rattle.qtt_term.specs.Term.{var}
use Rattle.qtt_split.specs.Substitution.{values_or_raised}
use Rattle.qtt_split.proofs.Substituted.{roomier}
use Rattle.qtt_split.proofs.substitution.Substitution.reach.Goals as goal

pub loop-self-preserved : goal.loop-self-preserved
loop-self-preserved c =
    let s = c.loop-self.self in
    let vs = s.values.items in
    let v = form.Var c.in_ok-newest.newest in
    let now : c.insert.new.self.items ≡ v ∷ vs = grind (arith, common_steps, c.in_ok-insert.ensures.items) in
    let newest : c.in_ok-newest.newest ≡ length vs + s.by =
    grind (arith, common_steps, c.in_ok-newest.ensures, c.in_ok-number.ensures, c.len-in-loop-self.ensures) in
    λ i. ap (λ ws. values_or_raised ws s.by i) now ∙
    roomier vs s.by v (var-seen c.in_ok-newest.newest ∙ ap var newest) i ∙ c.loop-self.invariant i
