-- The program with a budget of one contraction.
use Rattle.std.proofs.Common.{inl, ◌≡◌, codes, [], refl, ap}
use Rattle.qtt_outcome.specs.Outcome.{Outcome, line, puts, tells}
use Rattle.qtt_outcome.specs.Headline.{IsGoing, came, AcceptedIsDerived}
use Rattle.qtt_worked.specs.Budget.{texts, checks, BudgetAsWorked}
use Rattle.qtt_worked.proofs.Calls.{on_texts}

is-accepted : came texts [] (checks 2) ≡ puts (line (codes "checked Main 3"))
unfolding on_texts
is-accepted = refl

is-spent : came texts [] (checks 1) ≡ tells 1 (codes "Main:7:5: 24 BudgetSpent 1 compare Int Main.b")
unfolding on_texts
is-spent = refl

pub budget-as-worked : AcceptedIsDerived → BudgetAsWorked
budget-as-worked accepted =
    let going : IsGoing (came texts [] (checks 2)).status = inl (ap (λ (o : Outcome). o.status) is-accepted) in
    let B = accepted texts [] (checks 2) going in
    record {
      accepted = is-accepted;
      spent = is-spent;
      built = B.0;
      derived = record {
        declares = B.1.declares;
        formed = B.1.formed;
        alone = B.1.alone;
        clauses = B.1.clauses;
      };
    }
