use Rattle.std.proofs.Common.{◌<◌, ◌≡◌, length, map, slice_set, refl, ap, ◌∙◌, arith, Some}
use Rattle.std.proofs.lemmas.List.{length-map}
use Rattle.std.proofs.Math.Seq.{map-set_same}
use Rattle.qtt_prims.specs.Tapes.{with_line}
use Rattle.qtt_edge.specs.TapeRack.{taped}
use Rattle.qtt_edge.proofs.TapeLemmas.{open_within, map-slice_set}
use Rattle.qtt_edge.proofs.memory.tape_rack.TapeRackTapes.append.Goals as goal

pub index_mut-tape-requires : goal.index_mut-tape-requires
index_mut-tape-requires g c =
    let tapes = c.args.self.now.tapes.items in
    omega (
      arith,
      open_within c.args.number (map taped tapes) (c.requires _ refl),
      length-map tapes taped,
      c.args.self.now.tapes.ok.0,
    )

pub returns-in-Ok-clause-ok : goal.returns-in-Ok-clause-ok
returns-in-Ok-clause-ok g c =
    let tapes = c.args.self.now.tapes.items in
    let within : c.args.number < length tapes =
    omega (arith, open_within c.args.number (map taped tapes) (c.requires _ refl), length-map tapes taped) in
    ap Some (map-slice_set taped (with_line c.args.text.now) c.args.number tapes c.index_mut-tape.result.now _
    within c.index_mut-tape.ensures.value c.in-Ok.ensures.ok)

pub returns-in-Err-clause-kept : goal.returns-in-Err-clause-kept
returns-in-Err-clause-kept g c =
    ap Some (map-set_same taped c.args.self.now.tapes.items c.args.number c.write.new.self
    c.index_mut-tape.result.now (c.in-Err.ensures.err ∙ ap taped c.index_mut-tape.ensures.value))

pub returns-in-Err-clause-err : goal.returns-in-Err-clause-err
returns-in-Err-clause-err g c =
    let same : map taped (slice_set c.args.self.now.tapes.items c.args.number c.write.new.self) ≡ map taped
    c.args.self.now.tapes.items =
    map-set_same taped c.args.self.now.tapes.items c.args.number c.write.new.self c.index_mut-tape.result.now
    (c.in-Err.ensures.err ∙ ap taped c.index_mut-tape.ensures.value) in
    record { count = ap length same; others = λ other differs. rw same refl }
