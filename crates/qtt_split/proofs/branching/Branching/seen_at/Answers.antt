use Rattle.std.proofs.Common.{◌∙◌, map, ap, sym}
use Rattle.qtt_unify.specs.View.{solution}
use Rattle.qtt_split.specs.Branch.{seen_as}
use Rattle.qtt_split.specs.Seen.{Seen, seen_deeper}
use Rattle.qtt_split.specs.Sights.{seen_of}
use Rattle.qtt_split.proofs.Branched.{rebound_at, rebound-at, one-rebound, all-rebound}
use Rattle.qtt_split.proofs.branching.Branching.seen_at.Goals as goal

pub loop-bound-init : goal.loop-bound-init
loop-bound-init c =
    let b = c.args.self.now in
    rebound-at (Seen.open_at 0) seen_deeper b.reverted.now
    (seen_as b.variable b.con (map solution b.solved.now) b.fields) c.args.variable ∙
    ap (rebound_at (Seen.open_at 0) seen_deeper b.reverted.now c.args.variable) (sym c.in_ok-seen.ensures)

pub loop-bound-preserved : goal.loop-bound-preserved
loop-bound-preserved c =
    let b = c.args.self.now in
    c.loop-bound.invariant ∙
    one-rebound (Seen.open_at 0) seen_deeper b.reverted.now c.loop-bound.bound-index _ c.args.variable
    (seen_of c.loop-bound.seen) (seen_of c.in_ok-seen-2.seen) c.loop-bound-test.true c.in_ok-seen-2.ensures

pub returns : goal.returns
returns c =
    let b = c.args.self.now in
    sym (c.loop-bound.invariant ∙
    all-rebound (Seen.open_at 0) seen_deeper b.reverted.now c.loop-bound.bound-index c.args.variable
    (seen_of c.loop-bound.seen) c.loop-bound-test.false)
