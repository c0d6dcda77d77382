use Rattle.std.proofs.Common.{◌≡◌, Ok, ap, subst, ◌∙◌, arith}
use Rattle.qtt_prims.specs.Lines.{line_of}
use Rattle.qtt_edge.specs.LineCutter.{all_told, Cuts}
use Rattle.qtt_edge.specs.declared.line_cutter.Next.TheVariants.{TooLong}
use Rattle.qtt_edge.proofs.LineLemmas.{cut_told, long_told, last_told, same_if_none}
use Rattle.qtt_edge.proofs.line_cutter.next_line.Goals as goal

pub returns-in-Some-clause-cuts : goal.returns-in-Some-clause-cuts
returns-in-Some-clause-cuts g c =
    let content = g.S.Source.content c.turns.source in
    let now = c.turns.held.items in
    subst (λ all. Cuts all (all_told c.cut.new.held.items content) c.cut.result) c.turns.invariant.2
    (cut_told now c.cut.new.held.items content c.in-Some.len c.cut.result
    (rw c.as_slice.ensures.value at c.in-Some.ensures) c.cut.ensures.cuts)

pub returns-then-seen-gt-MAX_LINE-clause-cuts : goal.returns-then-seen-gt-MAX_LINE-clause-cuts
returns-then-seen-gt-MAX_LINE-clause-cuts g c =
    let content = g.S.Source.content c.turns.source in
    let now = c.turns.held.items in
    let whole : line_of now ≡ now = rw c.as_slice.ensures.value at c.in_default.ensures in
    subst (λ all. Cuts all (all_told now content) (Ok TooLong)) c.turns.invariant.2
    (long_told now content whole (omega (arith, c.turns.held.ok.0)))

pub returns-then-branch-eq0-clause-cuts : goal.returns-then-branch-eq0-clause-cuts
returns-then-branch-eq0-clause-cuts g c =
    let content = g.S.Source.content c.fill.new.source in
    let before = c.turns.held.items in
    let now = c.fill.new.held.items in
    let whole : line_of before ≡ before = rw c.as_slice.ensures.value at c.in_default.ensures in
    let same : now ≡ before =
    same_if_none before now c.in_ok-fill.ensures.front
    (omega (arith, c.in_ok-fill.ensures.count, c.if-branch-eq0.true)) in
    let whole_now : line_of now ≡ now = rw same whole in
    subst (λ all. Cuts all (all_told c.last.new.held.items content) c.last.result)
    (c.in_ok-fill.ensures.all ∙ c.turns.invariant.2)
    (last_told now c.last.new.held.items content c.last.result whole_now
    (c.in_ok-fill.ensures.end (ap Ok c.if-branch-eq0.true)) c.last.ensures.cuts)
