use Rattle.std.proofs.Common.{◌≡◌, ◌∷◌, [], ◌++◌, length, option_to_list, ap, ◌∙◌, arith}
use Rattle.std.proofs.lemmas.Grind.{common_steps}
use Rattle.qtt_envconv.specs.declared.comparing.Pair.{Pair}
use Rattle.qtt_envconv.specs.declared.route.Route.TheVariants as way
use Rattle.qtt_envconv.specs.Stacks.{path}
use Rattle.qtt_envconv.proofs.Stacking.{pushed-goes, ready-last, ready-pushed}
use Rattle.qtt_envconv.proofs.comparing.push_pairs.Goals as goal

pub returns-clause-ready : goal.returns-clause-ready
returns-clause-ready c = λ E s l r. (c.loop-left.invariant.ready E s l r).0

pub loop-left-preserved : goal.loop-left-preserved
loop-left-preserved c =
    let ls = c.pop.new.self.items in
    let rs = c.pop-in-Some.new.self.items in
    let p : Pair = record {
      route = way.Below c.in-Ok.number c.args.route;
      left = c.in-Some.left;
      right = c.unwrap-right.result;
    } in
    let right_is : c.loop-left.rights.items ≡ rs ++ c.unwrap-right.result ∷ [] =
    c.pop-in-Some.ensures.items ∙ ap (λ o. rs ++ option_to_list o) c.unwrap-right.ensures in
    let as_many : length ls ≡ length rs = grind (arith, common_steps) in
    let number : c.in-Ok.number ≡ length ls = grind (arith, common_steps) in
    record {
      as_many = omega arith;
      pushed =
          pushed-goes (path c.args.route.now) c.loop-left.lefts.items c.loop-left.rights.items ls rs p
          c.loop-left.stack.items c.push.new.self.items
          c.in-Some.ensures.items right_is as_many (ap (λ k. path c.args.route.now ++ k ∷ []) number)
          c.in_ok-push.ensures.items
          ∙ c.loop-left.invariant.pushed;
      ready = λ E s l r.
          let (stack, lefts, rights) = c.loop-left.invariant.ready E s l r in
          let left = ready-last E c.loop-left.lefts.items ls c.in-Some.left c.in-Some.ensures.items lefts in
          let right = ready-last E c.loop-left.rights.items rs c.unwrap-right.result right_is rights in (
            ready-pushed E c.loop-left.stack.items p c.push.new.self.items c.in_ok-push.ensures.items stack left.1
                right.1,
            left.0,
            right.0,
          );
    }
