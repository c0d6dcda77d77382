use Rattle.std.proofs.Common.{refl, flat_map}
use Rattle.qtt_gen.specs.Generated.{below, modules_of}
use Rattle.qtt_gen.proofs.Pieces.{module_more}
use Rattle.qtt_gen.proofs.generating.generate.Goals as goal

pub loop-j-preserved : goal.loop-j-preserved
loop-j-preserved c =
    rw c.in_ok-push.ensures.items (module_more c.loop-j.modules.items
    (c.in_ok-module_name.field-0, c.in_ok-module_text.field-0) (flat_map modules_of (below c.loop-i.i)) c.loop-i.i
    c.loop-j.j c.loop-j.invariant (rw (c.in_ok-module_name.ensures, c.in_ok-module_text.ensures) refl))
