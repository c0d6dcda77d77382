-- What the code's instructions, blocks and programs stand for.
use Rattle.std.specs.Prelude.{List, map}
use Rattle.qtt_prims.specs.declared.lit.Lit.TheVariants as lit
use Rattle.qtt_term.specs.View.{action}
use Rattle.qtt_code.specs.declared.instr.Instr as code_instr
use Rattle.qtt_code.specs.declared.instr.Instr.TheVariants as code
use Rattle.qtt_code.specs.declared.block.Block as code_block
use Rattle.qtt_code.specs.declared.block.Program as code_program
use Rattle.qtt_code.specs.Instruction.{Position, Instr, Block, Program}

abbrev pub instr : code_instr.Instr → Instr
instr (code.Local k) = Instr.local k
instr (code.Captured k) = Instr.captured k
instr (code.Int n) = Instr.literal (lit.Int n)
instr (code.Text s) = Instr.literal (lit.Text s)
instr code.Type = Instr.type
instr (code.Closure b k) = Instr.closure b k
instr (code.Con c k) = Instr.con c k
instr (code.Action a k) = Instr.action (action a) k
instr code.Call = Instr.call Position.inner
instr code.TailCall = Instr.call Position.tail
instr code.Force = Instr.force Position.inner
instr code.TailForce = Instr.force Position.tail
instr (code.Enter b) = Instr.enter Position.inner b
instr (code.TailEnter b) = Instr.enter Position.tail b
instr (code.Prim p) = Instr.prim p
instr (code.Switch qs) = Instr.switch qs.items
instr (code.Leave k) = Instr.leave k
instr (code.Jump q) = Instr.jump q
instr code.Return = Instr.return
instr code.Trap = Instr.trap

abbrev pub instrs : List code_instr.Instr → List Instr
instrs = map instr

abbrev pub block : code_block.Block → Block
block B = record { owner = B.owner; captured = B.captured; takes = B.takes; code = instrs B.code.items }

abbrev pub blocks : List code_block.Block → List Block
blocks = map block

abbrev pub program : code_program.Program → Program
program P = blocks P.blocks.items
