use Rattle.std.proofs.Common.{◌≡◌, map, arith}
use Rattle.std.proofs.lemmas.Grind.{common_steps}
use Rattle.qtt_term.specs.View.{branches}
use Rattle.qtt_envconv.proofs.Fields.{fields-at}
use Rattle.qtt_envconv.proofs.shape.same_fields.Goals as goal

pub returns-then-one-others : goal.returns-then-one-others
returns-then-one-others c =
    let xs = c.args.ones.now in
    let ys = c.args.others.now in
    let differ : map (λ b. b.0) (branches xs) ≡ map (λ b. b.0) (branches ys) →
    c.index-ones-i.result.fields ≡ c.index-others-i.result.fields =
    λ e. fields-at xs ys c.loop-i.i c.index-ones-i.result c.index-others-i.result (omega arith)
    (omega arith) c.index-ones-i.is c.index-others-i.is e in
    grind (arith, common_steps, differ)
