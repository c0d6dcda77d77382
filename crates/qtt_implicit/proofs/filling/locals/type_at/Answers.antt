-- Behind no more binder nothing is moved.
use Rattle.std.proofs.Common.{◌∙◌}
use Rattle.qtt_implicit.specs.TextTypes.{local_types}
use Rattle.qtt_implicit.specs.Walk.{type_at}
use Rattle.qtt_implicit.proofs.Moves.{shifted_none}
use Rattle.qtt_implicit.proofs.Standing.{if_ok}
use Rattle.qtt_implicit.proofs.filling.locals.type_at.Goals as goal

pub returns : goal.returns
returns c =
    if_ok c.type_behind.result _ _
    (λ t h. h ∙ shifted_none (type_at (local_types c.args.locals.now) c.args.index)) c.type_behind.ensures
