-- Values of the machine: plain trees.
use Rattle.std.specs.Prelude.{ℕ, List, [], ◌∷◌}
use Rattle.qtt_prims.specs.declared.lit.Lit.{Lit}
use Rattle.qtt_term.specs.Term.{Action}

infixr 50 ◌▹◌
mutual
  pub data Value : Type 0 where
    literal : Lit → Value
    -- a tag and fields
    con : ℕ → Values → Value
    -- a block and what is captured
    closure : ℕ → Values → Value
    -- an action and its arguments
    action : Action → Values → Value
    tape : ℕ → Value
    type : Value

  pub data Values : Type 0 where
    none : Values
    ◌▹◌ : Value → Values → Values

abbrev pub listed : Values → List Value
listed Values.none = []
listed (v ▹ vs) = v ∷ listed vs

abbrev pub side_by_side : List Value → Values
side_by_side [] = Values.none
side_by_side (v ∷ vs) = v ▹ side_by_side vs
