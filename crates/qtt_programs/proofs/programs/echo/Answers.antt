use Rattle.qtt_term.specs.Globals.{env}
use Rattle.qtt_programs.proofs.Growing.{if_ok-then, two-listed}
use Rattle.qtt_programs.proofs.programs.echo.Goals as goal

pub returns : goal.returns
returns c =
    if_ok-then c.plain.result c.plain.ensures
    (λ g h. two-listed _ (env g) _ _ _ _ _ h c.in_ok-vec.ensures.items c.in_ok-main.ensures c.in_ok-step.ensures)
