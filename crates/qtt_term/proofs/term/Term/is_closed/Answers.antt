use Rattle.std.proofs.Common.{ℕ, ◌↔◌, eqb, IsTrue, sym, subst}
use Rattle.qtt_term.specs.Substitution.{Closed}
use Rattle.qtt_term.specs.View.{term}
use Rattle.qtt_term.proofs.Kept.{closed-decided}
use Rattle.qtt_term.proofs.term.Term.is_closed.Goals as goal

pub returns : goal.returns
returns c =
    let t = term c.args.self.now in subst (λ (r : ℕ). IsTrue (eqb r 0) ↔ Closed t) (sym c.reach.ensures)
    (closed-decided t)
