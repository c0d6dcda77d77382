use Rattle.std.proofs.Common.{◌≡◌, ◌∙◌, ◌++◌, [], ◌∷◌, ap, rules}
use Rattle.qtt_unify.specs.View.{all_terms}
use Rattle.qtt_split.proofs.Waying.{one-raised}
use Rattle.qtt_split.proofs.constructors.raised.Goals as goal

pub loop-source-preserved : goal.loop-source-preserved
loop-source-preserved c =
    let done = c.loop-source.terms.items in
    let u = c.in_ok-shift.field-0 in
    let now : c.push.new.self.items ≡ done ++ u ∷ [] = search rules in
    ap all_terms now ∙
    one-raised c.args.by c.args.sources.now done c.loop-source.source-index c.source-item.result u
    c.loop-source-test.true c.source-item.is c.in_ok-shift.ensures c.loop-source.invariant
