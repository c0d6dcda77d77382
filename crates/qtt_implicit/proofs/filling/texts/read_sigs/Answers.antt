-- All has been passed.
use Rattle.std.proofs.Common.{◌∙◌, ap, map}
use Rattle.std.proofs.lemmas.List.{take_all}
use Rattle.qtt_names.specs.Exports.{sig_of}
use Rattle.qtt_implicit.proofs.filling.texts.read_sigs.Goals as goal

pub returns : goal.returns
returns c =
    c.loop-sig.invariant
    ∙ ap (map sig_of) (take_all c.loop-sig.sig-index c.args.source.now c.loop-sig-test.false)
