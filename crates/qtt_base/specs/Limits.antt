-- The limits of a build, and the words for what they count.
use Rattle.std.specs.Prelude.{ℕ, List, codes}
use Rattle.qtt_base.specs.declared.limits.Limits.{Limits}
use Rattle.qtt_base.specs.declared.limits.Quantity.{Quantity}
use Rattle.qtt_base.specs.declared.limits.Quantity.TheVariants.{TextBytes, Modules, Items, Constructors, Parts, Clauses, Leaves, Statements, LiteralBytes, TypeNumber, Blocks, Instructions, FilledNodes}

-- the limits that every build has
abbrev pub standard : Limits
standard = record {
  text_bytes = 1048576;
  modules = 1000;
  items = 10000;
  constructors = 200;
  parts = 100;
  clauses = 1000;
  leaves = 10000;
  statements = 500;
  literal_bytes = 65536;
  type_number = 99;
  blocks = 1000000;
  instructions = 10000000;
  filled_nodes = 1000000;
}

-- the greatest number of a quantity
abbrev pub limit_of : Limits → Quantity → ℕ
limit_of limits TextBytes = limits.text_bytes
limit_of limits Modules = limits.modules
limit_of limits Items = limits.items
limit_of limits Constructors = limits.constructors
limit_of limits Parts = limits.parts
limit_of limits Clauses = limits.clauses
limit_of limits Leaves = limits.leaves
limit_of limits Statements = limits.statements
limit_of limits LiteralBytes = limits.literal_bytes
limit_of limits TypeNumber = limits.type_number
limit_of limits Blocks = limits.blocks
limit_of limits Instructions = limits.instructions
limit_of limits FilledNodes = limits.filled_nodes

-- the words by which a refusal names a quantity
abbrev pub words_of : Quantity → List ℕ
words_of TextBytes = codes "bytes of a module text"
words_of Modules = codes "modules of a build"
words_of Items = codes "items of a module"
words_of Constructors = codes "constructors of a family"
words_of Parts = codes "parameters, indices, fields, or patterns of one thing"
words_of Clauses = codes "clauses of a definition"
words_of Leaves = codes "leaves of a clause tree"
words_of Statements = codes "statements of a do"
words_of LiteralBytes = codes "bytes of a text literal"
words_of TypeNumber = codes "number after Type"
words_of Blocks = codes "blocks of a program"
words_of Instructions = codes "instructions of a program"
words_of FilledNodes = codes "nodes of a filled item"
