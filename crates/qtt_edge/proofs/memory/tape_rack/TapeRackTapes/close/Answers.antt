use Rattle.std.proofs.Common.{◌<◌, length, map, refl, ap, arith, Some}
use Rattle.std.proofs.lemmas.List.{length-map}
use Rattle.qtt_prims.specs.Tapes.{shut}
use Rattle.qtt_edge.specs.TapeRack.{taped}
use Rattle.qtt_edge.proofs.TapeLemmas.{open_within, map-slice_set}
use Rattle.qtt_edge.proofs.memory.tape_rack.TapeRackTapes.close.Goals as goal

pub index_mut-requires : goal.index_mut-requires
index_mut-requires g c =
    let tapes = c.args.self.now.tapes.items in
    omega (
      arith,
      open_within c.args.number (map taped tapes) (c.requires _ refl),
      length-map tapes taped,
      c.args.self.now.tapes.ok.0,
    )

pub returns-clause-ok : goal.returns-clause-ok
returns-clause-ok g c =
    let tapes = c.args.self.now.tapes.items in
    let within : c.args.number < length tapes =
    omega (arith, open_within c.args.number (map taped tapes) (c.requires _ refl), length-map tapes taped) in
    ap Some (map-slice_set taped shut c.args.number tapes c.index_mut.result.now _ within
    c.index_mut.ensures.value refl)
