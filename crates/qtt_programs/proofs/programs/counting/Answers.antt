use Rattle.std.proofs.Common.{◌≡◌, ◌∙◌, ap, rules, w64, to_z, of_z, FitsSigned}
use Rattle.std.proofs.lemmas.Int.{to_z-of_z}
use Rattle.qtt_term.specs.Globals.{env}
use Rattle.qtt_programs.specs.Programs.{counting}
use Rattle.qtt_programs.proofs.Growing.{if_ok-then, two-listed}
use Rattle.qtt_programs.proofs.programs.counting.Goals as goal

pub returns : goal.returns
returns c =
    let fits : FitsSigned w64 c.args.turns = search rules in
    let turns : to_z w64 (of_z w64 c.args.turns) ≡ c.args.turns = to_z-of_z w64 c.args.turns fits in
    if_ok-then c.plain.result c.plain.ensures
    (λ g h. two-listed _ (env g) _ _ _ _ _ h c.in_ok-vec.ensures.items c.in_ok-main.ensures c.in_ok-count.ensures
    ∙ ap counting turns)
