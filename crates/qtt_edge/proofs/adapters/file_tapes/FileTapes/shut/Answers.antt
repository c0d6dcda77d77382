use Rattle.std.proofs.Common.{false, true, refl, arith, ap, sym, ◌∙◌}
use Rattle.qtt_edge.specs.FileTapes.{open_flags}
use Rattle.qtt_edge.proofs.FlagLemmas.{open_flags-same, open_flags-set, open_flags-at}
use Rattle.qtt_edge.proofs.adapters.file_tapes.FileTapes.shut.Goals as goal

pub returns-then-not-close-clause-err : goal.returns-then-not-close-clause-err
returns-then-not-close-clause-err g c =
    ap (λ tapes. open_flags tapes.items) c.fault-then-not-close.ensures.tapes
    ∙ open_flags-same c.args.self.now.tapes.items c.args.number c.index_mut.result.now _ c.index_mut.ensures.value
    (c.close.ensures.closed ∙ sym (sym c.close.ensures.was ∙ c.if-not-close.true))

pub returns-clause-open : goal.returns-clause-open
returns-clause-open g c = (
  λ _. open_flags-at c.args.self.now.tapes.items c.args.number c.index_mut.result.now true
      (omega (arith, c.args.self.now.tapes.ok.0)) c.index_mut.ensures.value
      (sym c.close.ensures.was ∙ c.if-not-close.false),
  λ _. refl,
)

pub returns-clause-ok : goal.returns-clause-ok
returns-clause-ok g c = open_flags-set c.args.self.now.tapes.items c.args.number c.close.new.self false
    c.close.ensures.closed
