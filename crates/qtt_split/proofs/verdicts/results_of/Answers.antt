use Rattle.std.proofs.Common.{◌≡◌, ◌∙◌, length, map, rules, ap}
use Rattle.std.proofs.lemmas.List.{take_all}
use Rattle.qtt_term.specs.Substitution.{sub}
use Rattle.qtt_term.specs.Telescopes.{filled}
use Rattle.qtt_term.specs.View.{terms}
use Rattle.qtt_split.proofs.Targeted.{results-are}
use Rattle.qtt_split.proofs.verdicts.results_of.Goals as goal

pub returns : goal.returns
returns c =
    let ts = c.in_ok-targets.targets.items in
    let inner = c.in_ok-inner.inner.items in
    let list = c.deref-target-items.result.now in
    let rs = c.loop-target.results.items in
    let all : terms rs ≡ map (sub (filled inner)) (terms ts) =
    c.loop-target.invariant ∙
    ap (λ xs. map (sub (filled inner)) (terms xs))
    (take_all c.loop-target.target-index list c.loop-target-test.false ∙ c.deref-target-items.ensures.value) in
    let count : c.in_ok-number.field-0 ≡ length c.args.constructor.now.fields.items = search rules in
    results-are c.args.constructor.now c.args.con c.args.count c.in_ok-number.field-0 c.args.params.now inner ts rs
    count c.in_ok-inner.ensures c.in_ok-targets.ensures all
