use Rattle.std.proofs.Common.{◌≡◌, map, get_or, arith}
use Rattle.std.proofs.lemmas.Grind.{common_steps}
use Rattle.qtt_term.specs.Items.{field}
use Rattle.qtt_term.proofs.Components.{same_at}
use Rattle.qtt_term.proofs.environment_shape.same_fields.Goals as goal

pub returns-then-not-same_field : goal.returns-then-not-same_field
returns-then-not-same_field c =
    let xs = c.args.ones.now in
    let ys = c.args.others.now in
    let i = c.loop-i.i in
    let d = c.index-others-i.result in
    let differ : map field xs ≡ map field ys → field (get_or xs i d) ≡ field (get_or ys i d) =
    λ e. same_at field xs ys i d e (omega arith) (omega arith) in
    grind (arith, common_steps, differ, c.index-others-i.is)
