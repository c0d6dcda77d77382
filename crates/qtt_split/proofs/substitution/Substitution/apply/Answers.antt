use Rattle.std.proofs.Common.{◌≡◌, ◌∙◌, length, ap, arith}
use Rattle.std.proofs.lemmas.Grind.{common_steps}
use Rattle.qtt_term.specs.Shift.{values_in}
use Rattle.qtt_term.specs.Substitution.{sub}
use Rattle.qtt_term.specs.View.{term, terms}
use Rattle.qtt_term.proofs.Binders.{if-ok}
use Rattle.qtt_split.specs.Substitution.{stands_for}
use Rattle.qtt_split.proofs.Substituted.{applied}
use Rattle.qtt_split.proofs.substitution.Substitution.apply.Goals as goal

pub returns : goal.returns
returns c =
    let s = c.args.self.now in
    let vs = s.values.items in
    let n = c.in_ok-count.count in
    let t = term c.args.t.now in
    let r = term c.in_ok-raised.raised in
    let count : n ≡ length vs = grind (arith, common_steps, c.len.ensures, c.in_ok-count.ensures) in
    if-ok (λ u. term u ≡ sub (values_in (terms c.deref.result.now)) r) (λ u. term u ≡ sub (stands_for s) t)
    c.subst.result
    (λ u h. applied vs s.by n c.in_ok-sum.field-0 t r (term u) count c.in_ok-sum.ensures c.in_ok-raised.ensures
    (h ∙ ap (λ ws. sub (values_in (terms ws)) r) c.deref.ensures.value))
    c.subst.ensures
