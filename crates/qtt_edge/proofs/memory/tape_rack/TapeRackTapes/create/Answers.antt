use Rattle.std.proofs.Common.{arith, refl}
use Rattle.std.proofs.lemmas.List.{length-map}
use Rattle.qtt_edge.specs.TapeRack.{taped}
use Rattle.qtt_edge.proofs.memory.tape_rack.TapeRackTapes.create.Goals as goal

pub overflow_cast-number : goal.overflow_cast-number
overflow_cast-number g c =
    omega (arith, c.requires _ refl, length-map c.args.self.now.tapes.items taped, c.args.self.now.tapes.ok.0)
