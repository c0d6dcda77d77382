-- The program that is refused.
use Rattle.std.proofs.Common.{◌≡◌, codes, [], Ok, Err, Some, None, refl, ap, subst}
use Rattle.std.specs.Prelude.{Option, IfSome}
use Rattle.qtt_term.specs.Signature.{IntTy, StringTy}
use Rattle.qtt_rules.specs.Refusal.{Cause}
use Rattle.qtt_diag.specs.Kept.{Detail}
use Rattle.qtt_accepted.specs.Texts.{IsSpent}
use Rattle.qtt_graph.specs.Rows.{M}
use Rattle.qtt_load.specs.Reading.{read_in}
use Rattle.qtt_build.specs.Build.{Stop, Outcome, build}
use Rattle.qtt_build.specs.Built.{Built}
use Rattle.qtt_build.specs.Laws.{BuildLaws, StoppedByBudget}
use Rattle.qtt_outcome.specs.Outcome.{tells}
use Rattle.qtt_outcome.specs.Outcome as call
use Rattle.qtt_outcome.specs.Headline.{came, Declares, RefusedForReason}
use Rattle.qtt_worked.specs.Mismatch.{texts, runs, MismatchAsWorked}
use Rattle.qtt_worked.proofs.Calls.{on_texts}

is-told : came texts [] runs ≡ tells 1 (codes "Main:3:16: 16 TypeMismatch expected String found Int")
unfolding on_texts
is-told = refl

-- where an outcome stops
stop-of : Outcome Built → Stop
stop-of (Ok b) = Stop.absent []
stop-of (Err s) = s

stop : Stop
stop = stop-of (build (read_in texts) M 100)

is-stopped : build (read_in texts) M 100 ≡ Err stop
unfolding on_texts stop stop-of
is-stopped = refl

-- what is kept of a refusal
kept-of : Stop → Option Detail
kept-of (Stop.absent a) = None
kept-of (Stop.refused r) = Some r.kept.detail

is-mismatch : kept-of stop ≡ Some (Detail.premise (Cause.mismatch 0 StringTy IntTy))
unfolding on_texts stop stop-of kept-of
is-mismatch = refl

no-budget : IsSpent (Detail.premise (Cause.mismatch 0 StringTy IntTy)) → ⊥
no-budget s = elim s [ ]

not-spent : (s : Stop) → kept-of s ≡ Some (Detail.premise (Cause.mismatch 0 StringTy IntTy)) → StoppedByBudget s → ⊥
unfolding kept-of
not-spent (Stop.absent a) e h = h
not-spent (Stop.refused r) e h = no-budget (subst (λ o. IfSome o IsSpent) e h)

is-underived : BuildLaws → (B : Built) → Declares texts runs B → ⊥
is-underived laws B d =
    let stopped = laws.judged.stopped (read_in texts) M 100 stop is-stopped in
    not-spent stop is-mismatch (laws.once.spent texts M 100 stop B stopped d)

pub mismatch-as-worked : BuildLaws → RefusedForReason → MismatchAsWorked
mismatch-as-worked laws refused = record {
  told = is-told;
  refused = refused texts [] runs (ap (λ (o : call.Outcome). o.status) is-told);
  underived = is-underived laws;
}
