-- The program of an environment, and when it is too large.
use Rattle.std.specs.Prelude.{ℕ, ◌+◌, List, [], ◌∷◌, ◌++◌, length, map, cond, eqb, nat_lt, Option, Some, None}
use Rattle.qtt_base.specs.declared.place.GlobalId.{GlobalId}
use Rattle.qtt_base.specs.declared.limits.Quantity.TheVariants.{Blocks, Instructions}
use Rattle.qtt_base.specs.Limits.{standard}
use Rattle.qtt_term.specs.Signature.{Env}
use Rattle.qtt_term.specs.declared.globals.Globals.{Globals}
use Rattle.qtt_term.specs.Globals.{env, definitions}
use Rattle.qtt_term.specs.Items.{definition_id}
use Rattle.qtt_erase.specs.Erasure.{erased_bodies}
use Rattle.qtt_code.specs.Instruction.{Block, Program}
use Rattle.qtt_lower.specs.declared.definition.Size.{Size}
use Rattle.qtt_lower.specs.declared.program.LowerError.{LowerError}
use Rattle.qtt_lower.specs.declared.program.LowerError.TheVariants.{Limit}
use Rattle.qtt_lower.specs.Programs.{Base, Body, bodies, program, instructions}
use Rattle.qtt_lower.specs.Sizes.{size, blocks_of}

-- ---- all definitions, in the order of modules and items
abbrev pub definition_ids : Globals → List GlobalId
definition_ids g = map definition_id (definitions g)

abbrev pub bodies_of : Globals → List Body
bodies_of g = bodies (env g) (definition_ids g)

abbrev pub program_of : Globals → Program
program_of g = program (bodies_of g)

-- ---- the limit that so many blocks and instructions pass, blocks first, with one above its number
abbrev pub excess : ℕ → ℕ → Option LowerError
excess blocks instrs =
    cond (nat_lt standard.blocks blocks) (Some (Limit Blocks (standard.blocks + 1)))
    (cond (nat_lt standard.instructions instrs) (Some (Limit Instructions (standard.instructions + 1))) None)

abbrev pub excess_of : Program → Option LowerError
excess_of P = excess (length P) (instructions P)

-- ---- sizes, each with its definition
abbrev pub sized : Env → GlobalId → GlobalId × Size
sized E d = (d, size E d)

abbrev pub total_blocks : List (GlobalId × Size) → ℕ
total_blocks [] = 0
total_blocks (s ∷ ss) = s.1.blocks + total_blocks ss

abbrev pub total_instructions : List (GlobalId × Size) → ℕ
total_instructions [] = 0
total_instructions (s ∷ ss) = s.1.instrs + total_instructions ss

-- the first block of each, where the first of all has number n
abbrev pub firsts_from : ℕ → List (GlobalId × Size) → List (GlobalId × ℕ)
firsts_from n [] = []
firsts_from n (s ∷ ss) = cond (eqb s.1.blocks 0) (firsts_from n ss) ((s.0, n) ∷ firsts_from (n + s.1.blocks) ss)

-- ---- the blocks of definitions, one after another
abbrev pub joined : List (List Block) → List Block
joined [] = []
joined (b ∷ bs) = b ++ joined bs

abbrev pub blocks_in_turn : Env → List Base → List GlobalId → List Block
blocks_in_turn E bs ds = joined (map (λ d. blocks_of bs d (erased_bodies E d)) ds)
