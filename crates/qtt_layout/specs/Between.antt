-- What the code keeps between two tokens, and what it does at a token.
use Rattle.std.specs.Prelude.{◌≡◌, Bool, true, false, List, ◌++◌, Option, Some, None}
use Rattle.qtt_base.specs.declared.place.Span.{Span}
use Rattle.qtt_lexer.specs.declared.token.Token.{Token}
use Rattle.qtt_layout.specs.Rules.{State, Put, added, behind, next_at}
use Rattle.qtt_layout.specs.Written.{Adds}
use Rattle.qtt_layout.specs.declared.block.Block.{Block}
use Rattle.qtt_layout.specs.declared.marks.Marks.{Marks}
use Rattle.qtt_layout.specs.declared.between.Between.{Between}
use Rattle.qtt_layout.specs.declared.role.Role.{Role}

-- the state without where its blocks lie in memory
abbrev pub state_of : Between → State
state_of b = record { blocks = b.blocks.items; brackets = b.brackets; line = b.line; awaits = b.awaits }

-- the state with other blocks
abbrev pub with_blocks : State → List Block → State
with_blocks s blocks = record { blocks = blocks; brackets = s.brackets; line = s.line; awaits = s.awaits }

-- a Next was put where the block stands at the column, and nothing was found where there is no block
abbrev pub PutsNext : Option Block → Span → Marks → Marks → Bool → Type 0
PutsNext None span old new found = found ≡ false
PutsNext (Some block) span old new found = (found ≡ true) × Adds old new (next_at block span)

-- the marks before a token were put, or there are none since it stands left of the outermost block
abbrev pub PutsBefore : State → Option Put → Marks → Marks → State → Bool → Type 0
PutsBefore s None old new after found = found ≡ false
PutsBefore s (Some put) old new after found =
    (found ≡ true) × Adds old new put.marks × (after ≡ with_blocks s put.blocks)

-- the same for the token and the marks before it
abbrev pub Lays : Role → State → Token → Option Put → Marks → Marks → State → Bool → Type 0
Lays r s t None old new after found = found ≡ false
Lays r s t (Some put) old new after found =
    (found ≡ true) × Adds old new (put.marks ++ added r s t put.blocks) × (after ≡ behind r s t put.blocks)
