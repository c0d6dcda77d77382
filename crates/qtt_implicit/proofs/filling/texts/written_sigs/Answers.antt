-- All has been passed.
use Rattle.std.proofs.Common.{◌∙◌, ap, map}
use Rattle.std.proofs.lemmas.List.{take_all}
use Rattle.qtt_implicit.specs.Answering.{sig_of_own}
use Rattle.qtt_implicit.proofs.filling.texts.written_sigs.Goals as goal

pub returns : goal.returns
returns c =
    c.loop-item.invariant
    ∙ ap (map sig_of_own) (take_all c.loop-item.item-index c.args.own.now c.loop-item-test.false)
