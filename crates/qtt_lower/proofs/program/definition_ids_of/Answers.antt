use Rattle.qtt_term.specs.Globals.{definitions}
use Rattle.qtt_term.specs.Items.{definition_id}
use Rattle.qtt_term.proofs.Order.{ascending-differ}
use Rattle.qtt_lower.proofs.program.definition_ids_of.Goals as goal

pub returns-clause-differ : goal.returns-clause-differ
returns-clause-differ c =
    ascending-differ definition_id (definitions c.args.env.now) c.definitions-definitions.ensures.ascend
