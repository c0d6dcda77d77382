use Rattle.std.proofs.Common.{◌≡◌, ◌∷◌, [], ◌++◌, length, option_to_list, ap, ◌∙◌, arith}
use Rattle.std.proofs.lemmas.Grind.{common_steps}
use Rattle.qtt_conv.specs.declared.comparing.Pair.{Pair}
use Rattle.qtt_conv.proofs.Stacking.{pushed-goes}
use Rattle.qtt_conv.proofs.comparing.push_pairs.Goals as goal

pub loop-left-preserved : goal.loop-left-preserved
loop-left-preserved c =
    let ls = c.pop.new.self.items in
    let rs = c.pop-in-Some.new.self.items in
    let p : Pair = record { path = c.push.new.self; left = c.in-Some.left; right = c.unwrap-right.result } in
    let right_is : c.loop-left.rights.items ≡ rs ++ c.unwrap-right.result ∷ [] =
    c.pop-in-Some.ensures.items ∙ ap (λ o. rs ++ option_to_list o) c.unwrap-right.ensures in
    let as_many : length ls ≡ length rs = grind (arith, common_steps) in
    let number : c.in-Ok.number ≡ length ls = grind (arith, common_steps) in
    let place : c.push.new.self.items ≡ c.args.path.now ++ c.in-Ok.number ∷ [] = grind (arith, common_steps) in
    let stacked : c.push-in-Some.new.self.items ≡ c.loop-left.stack.items ++ p ∷ [] = grind (arith, common_steps) in
    record {
      as_many = omega arith;
      pushed =
          pushed-goes c.args.path.now c.loop-left.lefts.items c.loop-left.rights.items ls rs p
          c.loop-left.stack.items c.push-in-Some.new.self.items
          c.in-Some.ensures.items right_is as_many (place ∙ ap (λ k. c.args.path.now ++ k ∷ []) number) stacked
          ∙ c.loop-left.invariant.pushed;
    }
