use Rattle.std.proofs.Common.{map, arith}
use Rattle.std.proofs.lemmas.List.{length-map}
use Rattle.qtt_holes.specs.Calls.{told, all_remains}
use Rattle.qtt_holes.specs.View.{seen as seen_of}
use Rattle.qtt_holes.proofs.Left.{tell-one, all-changed}
use Rattle.qtt_holes.proofs.remains.Remains.tell.Goals as goal

pub loop-one-preserved : goal.loop-one-preserved
loop-one-preserved c =
    tell-one (all_remains c.args.self.now) c.loop-one.seen (map seen_of c.args.seen.now) c.loop-one.one-index
    c.one-item.result c.at-one.result c.loop-one.invariant (omega arith) c.at-one.ensures

pub returns : goal.returns
returns c =
    all-changed (told (all_remains c.args.self.now)) c.loop-one.one-index (map seen_of c.args.seen.now)
    (map seen_of c.loop-one.seen) c.loop-one.invariant (omega (arith, length-map c.args.seen.now seen_of))
