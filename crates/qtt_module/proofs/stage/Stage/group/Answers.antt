use Rattle.std.proofs.Common.{◌≡◌, ◌∙◌, Some, option_map, map, length, sym, ap, arith, rules}
use Rattle.std.proofs.lemmas.List.{map-append, length-map, with_items_is}
use Rattle.qtt_term.specs.Ask.{within}
use Rattle.qtt_term.specs.Entries.{entries, env}
use Rattle.qtt_holes.specs.View.{hole}
use Rattle.qtt_module.specs.GivenBodies.{signed_of}
use Rattle.qtt_module.specs.Module.{declare, signed_as, with_clauses}
use Rattle.qtt_module.specs.Stages.{home, stage_of}
use Rattle.qtt_module.specs.Text.{standing}
use Rattle.qtt_module.proofs.Passing.{clauses-stop, clauses-pass, passes-on}
use Rattle.qtt_module.proofs.stage.Stage.group.Goals as goal

pub returns-in_err-holes : goal.returns-in_err-holes
returns-in_err-holes g c = λ d h.
    let S = stage_of c.args.self.now in
    let M = home c.args.judge.now in
    let n = c.args.judge.now.budget in
    let y = signed_of c.in-Some.signed.now in
    let e = c.in_err-holes.field-0.0 in
    let named : signed_as c.first-item.result.name S.signed ≡ Some y =
    sym (rw c.deref.ensures.value at c.signed_as.ensures) ∙ ap (option_map (λ x. signed_of x.now)) c.in-Some.is in
    passes-on M n (within (env S.globals) n (declare M S d)) (standing M n S d) _ c.from_residual.result e
    c.from_residual.ensures.1
    (clauses-stop M n S y c.args.clauses.now c.first-item.result d c.first-item.is named h
    (entries c.add_body.new.globals) e c.in_err-holes.ensures.gives c.in_err-holes.ensures.err)

pub returns : goal.returns
returns g c = λ d h.
    let S = stage_of c.args.self.now in
    let y = signed_of c.in-Some.signed.now in
    let hs = c.in_ok-holes.holes in
    let named : signed_as c.first-item.result.name S.signed ≡ Some y =
    sym (rw c.deref.ensures.value at c.signed_as.ensures) ∙ ap (option_map (λ x. signed_of x.now)) c.in-Some.is in
    let old = c.args.self.now.signed.items in
    let ws = c.mark.new.signed in
    let marked : map signed_of ws ≡ map (with_clauses c.first-item.result.name) (map signed_of old) =
    rw c.deref_mut.ensures.value at c.mark.ensures in
    let count : c.args.self.now.signed.len ≡ length old = search rules in
    let same : length ws ≡ c.args.self.now.signed.len =
    omega (
      arith,
      ap length marked,
      length-map ws signed_of,
      length-map old signed_of,
      length-map (map signed_of old) (with_clauses c.first-item.result.name),
      count,
    ) in
    clauses-pass (home c.args.judge.now) c.args.judge.now.budget S y c.args.clauses.now c.first-item.result d
    c.first-item.is named h (entries c.add_body.new.globals) (map hole hs.items) _ _ c.in_ok-holes.ensures.gives
    (ap (map signed_of) (with_items_is c.args.self.now.signed ws same) ∙ marked)
    (ap (map hole) c.in_ok-append.ensures.items ∙ map-append hole c.args.self.now.holes.items hs.items)
