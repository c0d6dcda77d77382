use Rattle.std.proofs.Common.{ℕ, List, [], ◌∷◌}
use Rattle.qtt_usage.specs.Mult.{𝟘, 𝟙}
use Rattle.qtt_term.specs.Globals.{env}
use Rattle.qtt_term.specs.Signature.{Family, plain_constructor, plain_family, IntTy}
use Rattle.qtt_programs.proofs.Growing.{if_ok-then, three-listed}
use Rattle.qtt_programs.proofs.families.boxed.Goals as goal

-- the families of the program
abbrev own : List (ℕ × Family)
own = (0, plain_family (plain_constructor ((𝟘, IntTy) ∷ (𝟙, IntTy) ∷ []) ∷ [])) ∷ []

pub returns : goal.returns
returns c =
    if_ok-then c.define_all.result c.define_all.ensures
    (λ g h. three-listed own _ (env g) _ _ _ _ _ _ _ (h own c.in_ok-boxes.ensures)
    c.in_ok-vec.ensures.items c.in_ok-main.ensures c.in_ok-using.ensures c.in_ok-b.ensures)
