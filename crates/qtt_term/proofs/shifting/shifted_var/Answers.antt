use Rattle.std.proofs.Common.{◌≡◌, ℕ, IfOk, sym, subst}
use Rattle.qtt_term.specs.Substitution.{shift}
use Rattle.qtt_term.proofs.Moves.{lifts_ren-below, lifts_ren-above}
use Rattle.qtt_term.proofs.shifting.shifted_var.Goals as goal

pub returns-then-index-from : goal.returns-then-index-from
returns-then-index-from c = sym (lifts_ren-below c.args.from (shift c.args.by) c.args.index c.if-index-from.true)

pub returns-else-index-from : goal.returns-else-index-from
returns-else-index-from c =
    let above = lifts_ren-above c.args.from c.args.by c.args.index c.if-index-from.false in
    subst (λ (k : ℕ). IfOk c.raised.result (λ i. i ≡ k)) (sym above) c.raised.ensures
