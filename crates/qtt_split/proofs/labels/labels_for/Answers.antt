use Rattle.std.proofs.Common.{◌≡◌, ◌+◌, ◌++◌, [], ◌∷◌, rules, subst, sym}
use Rattle.qtt_split.proofs.Labelled.{LabelsSoFar, one-label}
use Rattle.qtt_split.proofs.labels.labels_for.Goals as goal

pub loop-place-preserved : goal.loop-place-preserved
loop-place-preserved c =
    let ls = c.loop-place.labels.items in
    let now : c.push.new.self.items ≡ ls ++ c.written_label.result ∷ [] = search rules in
    subst (λ xs. LabelsSoFar c.args.count c.args.written.now (c.loop-place.place + 1) xs) (sym now)
    (one-label c.args.count c.args.written.now c.loop-place.place ls c.written_label.result c.loop-place-test.true
    c.written_label.ensures c.loop-place.invariant)
