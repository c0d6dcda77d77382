use Rattle.qtt_envconv.specs.Opened.{opened}
use Rattle.qtt_envconv.proofs.Likeness.{last-differs, last-joined}
use Rattle.qtt_envconv.proofs.sameness.same.Goals as goal

pub returns-then-not-branch : goal.returns-then-not-branch
returns-then-not-branch c = (
  λ h. absurd (cc h),
  λ e. absurd (last-differs c.in-Some.twins c.pop.new.self.items c.loop-twins.rest.items
      c.joined.new.rest.items (opened c.in_ok-left.left) (opened c.in_ok-right.right) c.in_ok-joined.field-0
      c.in-Some.ensures.items c.in_ok-left.ensures.means c.in_ok-right.ensures.means c.in_ok-joined.ensures
      c.if-not-branch.true (c.loop-twins.invariant.1 e)),
)

pub loop-twins-smaller : goal.loop-twins-smaller
loop-twins-smaller c = (last-joined c.in-Some.twins c.pop.new.self.items c.loop-twins.rest.items
    c.joined.new.rest.items (opened c.in_ok-left.left) (opened c.in_ok-right.right) c.in_ok-joined.field-0
    c.in-Some.ensures.items c.in_ok-left.ensures.means c.in_ok-right.ensures.means c.in_ok-joined.ensures
    c.if-not-branch.false).1

pub loop-twins-preserved : goal.loop-twins-preserved
loop-twins-preserved c =
    let goes = last-joined c.in-Some.twins c.pop.new.self.items c.loop-twins.rest.items
    c.joined.new.rest.items (opened c.in_ok-left.left) (opened c.in_ok-right.right) c.in_ok-joined.field-0
    c.in-Some.ensures.items c.in_ok-left.ensures.means c.in_ok-right.ensures.means c.in_ok-joined.ensures
    c.if-not-branch.false in
    (λ h. c.loop-twins.invariant.0 (goes.0.0 h), λ e. goes.0.1 (c.loop-twins.invariant.1 e))
