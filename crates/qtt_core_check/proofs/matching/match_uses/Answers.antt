use Rattle.std.proofs.Common.{◌∙◌, length, sym}
use Rattle.qtt_usage.specs.Usage.{usage_scale}
use Rattle.qtt_core_check.proofs.Lists.{length-scaled}
use Rattle.qtt_core_check.proofs.ArgumentLists.{sum-none}
use Rattle.qtt_core_check.proofs.matching.match_uses.Goals as goal

pub returns-in-None-clause-uses : goal.returns-in-None-clause-uses
returns-in-None-clause-uses c =
    rw c.in-None.is (c.scale.ensures.uses ∙
    sym (sum-none (length c.args.scrutinee) (usage_scale c.args.mult c.args.scrutinee)
    (length-scaled c.args.mult c.args.scrutinee)))
