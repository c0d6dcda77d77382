-- Instructions, blocks and programs. A frame has what its block's closure captured and locals; local 0 is the
-- argument where the block takes one. Places count from 0 in a block.
use Rattle.std.specs.Prelude.{ℕ, List}
use Rattle.qtt_base.specs.declared.place.GlobalId.{GlobalId}
use Rattle.qtt_prims.specs.declared.prim.Primitive.{Primitive}
use Rattle.qtt_prims.specs.declared.lit.Lit.{Lit}
use Rattle.qtt_term.specs.Term.{Action}

-- whether the frame goes on with the value of a call, or gives it back as its own
pub data Position : Type 0 where
  inner tail : Position

pub data Instr : Type 0 where
  -- pushes a local, a captured value, a literal, or a type
  local captured : ℕ → Instr
  literal : Lit → Instr
  type : Instr
  -- takes so many values, and pushes a closure of a block, a constructor's tag with its fields, or an action
  closure con : ℕ → ℕ → Instr
  action : Action → ℕ → Instr
  -- takes an argument and a function, and enters the function
  call : Position → Instr
  -- takes a closure without argument, and enters it
  force : Position → Instr
  -- enters a definition's block
  enter : Position → ℕ → Instr
  -- takes the arguments, and pushes the answer or traps
  prim : Primitive → Instr
  -- takes a constructor, adds its fields to the locals, and goes to the tag's place
  switch : List ℕ → Instr
  -- drops the last so many locals
  leave : ℕ → Instr
  -- goes to a place
  jump : ℕ → Instr
  -- gives the newest value back
  return : Instr
  -- traps
  trap : Instr

-- the definition that a block is of, how many values its closure captures, how many arguments it takes, 0 or 1,
-- and its instructions
pub record Block : Type 0 where
  pub owner : GlobalId
  pub captured : ℕ
  pub takes : ℕ
  pub code : List Instr

abbrev pub Program : Type 0
Program = List Block
