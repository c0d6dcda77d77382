use Rattle.std.proofs.Common.{◌≡◌, ◌≤◌, length, take, drop, ap, Some, refl, arith}
use Rattle.qtt_edge.proofs.SourceLemmas.{copied_front, rest_from}
use Rattle.qtt_edge.proofs.memory.byte_source.ByteSourceSource.pull.Goals as goal

pub returns-clause-gives : goal.returns-clause-gives
returns-clause-gives g c =
    let bytes = c.args.self.now.bytes.items in
    let at = c.args.self.now.at in
    let count = c.min-count.result in
    let copied : c.copy_from_slice.new.self ≡ take count (drop at bytes) =
    rw (c.copy_from_slice.ensures.after, rest_from, c.deref.ensures.value) refl in
    let within : count ≤ length (drop at bytes) = rw (← c.deref.ensures.value, ← rest_from) (omega arith) in
    ap Some (copied_front bytes c.copy_from_slice.new.self _ at count copied within)
