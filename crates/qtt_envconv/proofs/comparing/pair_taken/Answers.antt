use Rattle.std.proofs.Common.{◌≡◌, ◌-◌, ◌++◌, ap, ◌∙◌, sym, arith}
use Rattle.qtt_term.specs.Globals.{env}
use Rattle.qtt_term.specs.Question.{beside, weight_of, within_count}
use Rattle.qtt_term.specs.View.{side_by_side}
use Rattle.qtt_confluence.proofs.Count.{weight-positive, weight-append, beside-light}
use Rattle.qtt_envconv.specs.Nodes.{node, nodes}
use Rattle.qtt_envconv.specs.Stacks.{path, pairs}
use Rattle.qtt_envconv.proofs.comparing.pair_taken.Goals as goal

pub returns-in-Same : goal.returns-in-Same
returns-in-Same c =
    let leads = rw c.in-Same.is at c.in_ok-compared_pair.ensures in (
      sym (leads (path c.args.pair.route) (pairs c.args.stack.items)),
      omega arith,
      λ e. omega (arith, weight-positive (node c.args.pair.left)),
      c.requires.stack,
    )

pub returns : goal.returns
returns c =
    let E = env c.args.env.now in
    let splits = rw c.in-Splits.is at c.in_ok-compared_pair.ensures in
    let way = path c.args.pair.route in
    let ls = side_by_side (nodes c.in-Splits.lefts.items) in
    let rs = side_by_side (nodes c.in-Splits.rights.items) in
    let rest = pairs c.args.stack.items in
    let pushed : pairs c.push_pairs.new.stack.items ≡ beside way 0 ls rs ++ rest =
    c.in_ok-push_pairs-in-Splits.ensures.pushed
    ∙ ap (λ r. beside (path r) 0 ls rs ++ rest) c.in_ok-placed-in-Splits.ensures in (
      ap (within_count E (c.args.n - c.in-Splits.made)) pushed ∙ sym (splits.goes_on way rest),
      omega arith,
      λ e.
          let within = splits.within in
          let none : c.in-Splits.made ≡ 0 = omega (arith, within, e) in
          omega (
            arith,
            ap weight_of pushed,
            weight-append (beside way 0 ls rs) rest,
            beside-light way 0 ls rs,
            splits.lighter none,
          ),
      c.in_ok-push_pairs-in-Splits.ensures.ready E c.requires.stack splits.left_ready splits.right_ready,
    )
