use Rattle.std.proofs.Common.{true, arith, ap, ◌∙◌}
use Rattle.qtt_edge.specs.FileTapes.{open_flags}
use Rattle.qtt_edge.proofs.FlagLemmas.{open_flags-same, open_flags-at}
use Rattle.qtt_edge.proofs.adapters.file_tapes.FileTapes.write.Goals as goal

pub returns-in-Ok-clause-ok : goal.returns-in-Ok-clause-ok
returns-in-Ok-clause-ok g c =
    open_flags-at c.args.self.now.tapes.items c.args.number c.index_mut.result.now true
    (omega (arith, c.args.self.now.tapes.ok.0)) c.index_mut.ensures.value c.in-Ok.ensures.ok

pub returns-in-Ok-clause-kept : goal.returns-in-Ok-clause-kept
returns-in-Ok-clause-kept g c =
    open_flags-same c.args.self.now.tapes.items c.args.number c.index_mut.result.now _ c.index_mut.ensures.value
    c.in-Ok.ensures.kept

pub returns-in-Err-clause-kept : goal.returns-in-Err-clause-kept
returns-in-Err-clause-kept g c =
    ap (λ tapes. open_flags tapes.items) c.fault-in-Err.ensures.tapes
    ∙ open_flags-same c.args.self.now.tapes.items c.args.number c.index_mut.result.now _ c.index_mut.ensures.value
    c.in-Err.ensures.kept
