use Rattle.std.proofs.Common.{◌∙◌, sym}
use Rattle.qtt_module.proofs.Finding.{found, passed}
use Rattle.qtt_module.proofs.signed.signed_as.Goals as goal

pub returns-then-is_named : goal.returns-then-is_named
returns-then-is_named c =
    found c.args.name.now c.args.signed.now c.loop-one.one-index c.one-item.result c.one-item.is c.loop-one-test.true
    c.loop-one.invariant (sym c.is_named.ensures ∙ c.if-is_named.true)

pub loop-one-preserved : goal.loop-one-preserved
loop-one-preserved c =
    passed c.args.name.now c.args.signed.now c.loop-one.one-index c.one-item.result c.one-item.is
    c.loop-one-test.true c.loop-one.invariant (sym c.is_named.ensures ∙ c.if-is_named.false)
