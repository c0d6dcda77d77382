use Rattle.std.proofs.Common.{[], ◌∙◌}
use Rattle.qtt_programs.proofs.Growing.{if_ok-then, prim-program}
use Rattle.qtt_programs.proofs.building.plain.Goals as goal

pub returns : goal.returns
returns c = if_ok-then c.define_all.result c.define_all.ensures (λ g h. h [] (c.in_ok-prim.ensures.env ∙ prim-program))
