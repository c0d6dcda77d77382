use Rattle.std.proofs.Common.{◌≡◌, Some, Err, subst}
use Rattle.qtt_graph.specs.Modules.{graph_of}
use Rattle.qtt_graph.specs.Ranks.{ranks}
use Rattle.qtt_diag.specs.Kept.{refusal as kept_of}
use Rattle.qtt_load.specs.Order.{ring_refusal}
use Rattle.qtt_load.proofs.order.by_rank.Goals as goal

pub returns-in_ok-refusal-in-Err-Cycle : goal.returns-in_ok-refusal-in-Err-Cycle
returns-in_ok-refusal-in-Err-Cycle c =
    let way = c.in-Err-Cycle.way.items in
    let made = c.in_ok-refusal-in-Err-Cycle.refusal in
    let told = c.in_ok-refusal-in-Err-Cycle.ensures in (
      way,
      subst (λ ts. ranks (graph_of ts) ≡ Err way) c.texts.ensures
          (rw c.in-Err-Cycle.field-0-is at c.in-Err-Cycle.ensures),
      subst (λ ts. ring_refusal (graph_of ts) way ≡ Some (kept_of made)) c.texts-in-Err-Cycle.ensures told.kept,
      told.named,
      told.numbered,
    )
