use Rattle.std.proofs.Common.{◌≡◌, drop}
use Rattle.qtt_term.specs.Keyed.{with_id}
use Rattle.qtt_lower.specs.Programs.{base_id}
use Rattle.qtt_lower.specs.View.{base_list}
use Rattle.qtt_lower.proofs.bases.Bases.first.Given as goal

abbrev pub invariant-loop-owner : goal.invariant-loop-owner
invariant-loop-owner l =
    with_id base_id l.id (base_list (drop l.owner-index l.self.firsts.items)) ≡ with_id base_id l.id
    (base_list l.self.firsts.items)
