use Rattle.std.proofs.Common.{◌≡◌, ℕ, IfOk, subst}
use Rattle.qtt_term.specs.Substitution.{ren}
use Rattle.qtt_term.specs.View.{term}
use Rattle.qtt_term.proofs.Moves.{raised-lifts}
use Rattle.qtt_term.proofs.term.Term.shift.Goals as goal

pub returns : goal.returns
returns c =
    let P : (ℕ → ℕ) → Type 0 = λ ρ. IfOk c.shifted.result (λ t. term t ≡ ren ρ (term c.args.self.now)) in
    subst P (raised-lifts c.args.from c.args.by) c.shifted.ensures
