use Rattle.std.proofs.Common.{◌≡◌, ◌++◌}
use Rattle.qtt_term.specs.Substitution.{lifts}
use Rattle.qtt_term.specs.Telescopes.{filled}
use Rattle.qtt_term.proofs.Binders.{if-ok}
use Rattle.qtt_split.proofs.Targeted.{lifted-values}
use Rattle.qtt_split.proofs.verdicts.lifted.Goals as goal

pub returns : goal.returns
returns c =
    let vs = c.args.values.now in
    let rs = c.in_ok-raised.field-0.items in
    let ws = c.in_ok-above.field-0.items in
    if-ok (λ v. v.items ≡ rs ++ ws) (λ v. filled v.items ≡ lifts c.args.by (filled vs)) c.joined.result
    (λ v e. lifted-values c.args.by vs rs ws v.items e c.in_ok-raised.ensures c.in_ok-above.ensures) c.joined.ensures
