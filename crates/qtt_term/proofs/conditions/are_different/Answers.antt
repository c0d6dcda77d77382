use Rattle.std.proofs.Common.{◌+◌, map, drop, ◌&&◌, ap, sym, ◌∙◌}
use Rattle.qtt_term.specs.Keyed.{ids_differ}
use Rattle.qtt_term.proofs.Tests.{differ-here}
use Rattle.qtt_term.proofs.conditions.are_different.Goals as goal

pub returns-then-not-is_apart : goal.returns-then-not-is_apart
returns-then-not-is_apart c =
    let cs = c.args.constructors.now in
    let i = c.loop-place.place in
    let x = c.index-constructors-place.result in
    sym (c.loop-place.invariant ∙ differ-here cs i x c.is_apart.result c.loop-place-test.true
    c.index-constructors-place.is c.is_apart.ensures
    ∙ ap (λ b. b && ids_differ (map (λ d. d.id) (drop (i + 1) cs))) c.if-not-is_apart.true)

pub loop-place-preserved : goal.loop-place-preserved
loop-place-preserved c =
    let cs = c.args.constructors.now in
    let i = c.loop-place.place in
    let x = c.index-constructors-place.result in
    c.loop-place.invariant ∙ differ-here cs i x c.is_apart.result c.loop-place-test.true
    c.index-constructors-place.is c.is_apart.ensures
    ∙ ap (λ b. b && ids_differ (map (λ d. d.id) (drop (i + 1) cs))) c.if-not-is_apart.false
