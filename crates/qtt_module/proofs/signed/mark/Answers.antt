use Rattle.std.proofs.Common.{map, arith}
use Rattle.std.proofs.lemmas.List.{length-map}
use Rattle.qtt_holes.proofs.Left.{all-changed}
use Rattle.qtt_module.specs.GivenBodies.{signed_of}
use Rattle.qtt_module.specs.Module.{with_clauses}
use Rattle.qtt_module.proofs.Marking.{mark-one}
use Rattle.qtt_module.proofs.signed.mark.Goals as goal

pub loop-one-preserved : goal.loop-one-preserved
loop-one-preserved c =
    mark-one c.args.name.now c.loop-one.signed (map signed_of c.args.signed.now) c.loop-one.one-index
    c.one-item.result c.marked-one.result c.loop-one.invariant (omega arith) c.marked-one.ensures

pub returns : goal.returns
returns c =
    all-changed (with_clauses c.args.name.now) c.loop-one.one-index (map signed_of c.args.signed.now)
    (map signed_of c.loop-one.signed) c.loop-one.invariant (omega (arith, length-map c.args.signed.now signed_of))
