-- A small program: a closure that captured 7, and its block, which takes its argument from that.
use Rattle.std.specs.Prelude.{[], ◌∷◌}
use Rattle.qtt_prims.specs.declared.prim.Primitive.TheVariants as prim
use Rattle.qtt_term.specs.Programs.{item}
use Rattle.qtt_code.specs.Instruction.{Instr, Program}
use Rattle.qtt_code.specs.Rows.{int, plain}

abbrev pub closing : Program
closing =
    plain 0 (int 7 ∷ Instr.closure 1 1 ∷ Instr.return ∷ [])
    ∷ record {
      owner = item 0;
      captured = 1;
      takes = 1;
      code = Instr.captured 0 ∷ Instr.local 0 ∷
          Instr.prim prim.SubInt ∷ Instr.return ∷ [];
    } ∷ []
