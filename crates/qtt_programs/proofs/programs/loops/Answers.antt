use Rattle.std.proofs.Common.{[]}
use Rattle.qtt_term.specs.Globals.{env}
use Rattle.qtt_programs.proofs.Growing.{if_ok-then, three-listed}
use Rattle.qtt_programs.proofs.programs.loops.Goals as goal

pub returns : goal.returns
returns c =
    if_ok-then c.plain.result c.plain.ensures
    (λ g h. three-listed [] _ (env g) _ _ _ _ _ _ _ h
    c.in_ok-vec.ensures.items c.in_ok-main.ensures c.in_ok-using.ensures c.in_ok-loopy.ensures)
