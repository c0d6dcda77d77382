use Rattle.std.proofs.Common.{ℕ, List, [], ◌∷◌}
use Rattle.qtt_term.specs.Globals.{env}
use Rattle.qtt_term.specs.Signature.{Family}
use Rattle.qtt_programs.specs.Programs.{tree_family}
use Rattle.qtt_programs.proofs.Growing.{if_ok-then, four-listed}
use Rattle.qtt_programs.proofs.families.doubling.Goals as goal

-- the families of the program
abbrev own : List (ℕ × Family)
own = (0, tree_family) ∷ []

pub returns : goal.returns
returns c =
    if_ok-then c.define_all.result c.define_all.ensures
    (λ g h. four-listed own _ (env g) _ _ _ _ _ _ _ _ _ (h own c.in_ok-trees.ensures)
    c.in_ok-vec.ensures.items c.in_ok-main.ensures c.in_ok-left.ensures c.in_ok-four.ensures c.in_ok-dbl.ensures)
