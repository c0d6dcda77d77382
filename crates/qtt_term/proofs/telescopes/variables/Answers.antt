use Rattle.std.proofs.Common.{◌≡◌, ◌+◌, ◌-◌, ◌++◌, [], ◌∷◌, rules}
use Rattle.qtt_term.specs.declared.term.Term.TheVariants as form
use Rattle.qtt_term.specs.Substitution.{above}
use Rattle.qtt_term.proofs.Binders.{var-seen, length-push, variables-step, variables-all}
use Rattle.qtt_term.proofs.telescopes.variables.Goals as goal

pub loop-place-preserved : goal.loop-place-preserved
loop-place-preserved c =
    let vs = c.loop-place.variables.items in
    let ws = c.push.new.self.items in
    let x = form.Var c.in_ok-index.field-0 in
    let e : ws ≡ vs ++ x ∷ [] = search rules in
    let i : c.in_ok-index.field-0 ≡ c.args.newest + (c.args.count - 1 - c.loop-place.place) = search rules in (
      variables-step vs ws x c.args.newest c.args.count c.loop-place.place c.in_ok-index.field-0
          (above c.args.newest c.args.count) c.loop-place-test.true e
          (var-seen c.in_ok-index.field-0) i c.loop-place.invariant.0,
      length-push vs ws x c.loop-place.place e c.loop-place.invariant.1,
    )

pub returns-clause-above : goal.returns-clause-above
returns-clause-above c =
    variables-all c.loop-place.variables.items c.args.newest c.args.count c.loop-place.place
    (above c.args.newest c.args.count) c.loop-place-test.false c.loop-place.invariant.0
