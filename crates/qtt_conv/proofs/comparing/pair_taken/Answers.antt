use Rattle.std.proofs.Common.{◌≡◌, ◌+◌, ◌-◌, ◌++◌, ap, ◌∙◌, sym, arith}
use Rattle.qtt_term.specs.Globals.{env}
use Rattle.qtt_term.specs.Question.{beside, weight_of, within_count}
use Rattle.qtt_term.specs.View.{term, terms, side_by_side}
use Rattle.qtt_confluence.proofs.Count.{weight-positive, weight-append, beside-light}
use Rattle.qtt_conv.specs.Stacks.{pairs}
use Rattle.qtt_conv.proofs.comparing.pair_taken.Goals as goal

pub returns-in-Same : goal.returns-in-Same
returns-in-Same c =
    let leads = rw c.in-Same.is at c.in_ok-compared_pair.ensures in (
      sym (leads c.args.pair.path.items (pairs c.args.stack.items)),
      omega arith,
      λ e. omega (arith, weight-positive (term c.args.pair.left)),
    )

pub returns-in_ok-push_pairs-in-Splits : goal.returns-in_ok-push_pairs-in-Splits
returns-in_ok-push_pairs-in-Splits c =
    let E = env c.args.env.now in
    let splits = rw c.in-Splits.is at c.in_ok-compared_pair.ensures in
    let path = c.args.pair.path.items in
    let ls = side_by_side (terms c.in-Splits.lefts.items) in
    let rs = side_by_side (terms c.in-Splits.rights.items) in
    let rest = pairs c.args.stack.items in
    let pushed : pairs c.push_pairs.new.stack.items ≡ beside path 0 ls rs ++ rest =
    c.in_ok-push_pairs-in-Splits.ensures ∙ ap (λ p. beside p 0 ls rs ++ rest) c.deref.ensures.value in (
      ap (within_count E (c.args.n - c.in-Splits.made)) pushed ∙ sym (splits.goes_on path rest),
      omega arith,
      λ e.
          let within = splits.within in
          let none : c.in-Splits.made ≡ 0 = omega (arith, within, e) in
          omega (
            arith,
            ap weight_of pushed,
            weight-append (beside path 0 ls rs) rest,
            beside-light path 0 ls rs,
            splits.lighter none,
          ),
    )
