-- What the walk over expressions gives in code.
use Rattle.qtt_syntax.specs.Tree.{Binders}
use Rattle.qtt_implicit.specs.Nodes.{binder_row}
use Rattle.qtt_implicit.specs.TextTypes.{local_types}
use Rattle.qtt_implicit.specs.Walk.{Then, with_types}
use Rattle.qtt_implicit.specs.declared.filling.judging.BindersThen.{BindersThen}

abbrev pub then_of : BindersThen → Then Binders
then_of b = with_types (binder_row b.binders.now) (local_types b.locals.now)
