-- Worked examples of lowering: the whole listing of a program, and the blocks of two recursive functions.
use Rattle.std.specs.Prelude.{◌≡◌, ℕ, List, [], ◌∷◌, ◌++◌, map, take, codes}
use Rattle.std.specs.List.{concat}
use Rattle.qtt_base.specs.declared.place.GlobalId.{GlobalId}
use Rattle.qtt_term.specs.Programs.{item, identity, boxed}
use Rattle.qtt_term.specs.Signature.{Env, definition_at}
use Rattle.qtt_term.specs.Items.{DefinitionEntry}
use Rattle.qtt_term.specs.Vectors.{vectors}
use Rattle.qtt_code.specs.Instruction.{Position, Instr, Block, Program}
use Rattle.qtt_code.specs.Listing.{listing}
use Rattle.qtt_lower.specs.Programs.{bodies, program}

abbrev pub lowering : Env → List GlobalId → Program
lowering E ds = program (bodies E ds)

abbrev pub named : Env → GlobalId → List ℕ → DefinitionEntry
named E d name = record { id = d; name = name; definition = definition_at E d }

abbrev pub lines : List (List ℕ) → List ℕ
lines ls = concat (map (λ l. l ++ 10 ∷ []) ls)

abbrev pub of_item : ℕ → ℕ → ℕ → List Instr → Block
of_item i captured takes code = record { owner = item i; captured = captured; takes = takes; code = code }

pub record LoweringRows : Type 0 where
  -- id x = x; main = putLine (showInt (id 3))
  pub identity_listed : listing
      (named identity (item 0) (codes "Main.id") ∷ named identity (item 1) (codes "Main.main") ∷ [])
      (lowering identity (item 0 ∷ item 1 ∷ []))
      ≡ lines (
      codes "block 0 Main.id captured 0 takes 0"
      ∷ codes "  closure 1 0"
      ∷ codes "  return"
      ∷ codes "block 1 Main.id captured 0 takes 1"
      ∷ codes "  local 0"
      ∷ codes "  return"
      ∷ codes "block 2 Main.main captured 0 takes 0"
      ∷ codes "  enter 0"
      ∷ codes "  int 3"
      ∷ codes "  call"
      ∷ codes "  prim showInt"
      ∷ codes "  action putLine 1"
      ∷ codes "  return" ∷ [])
  -- plus and append
  pub vectors_lowered : take 11 (lowering vectors (item 3 ∷ item 7 ∷ item 8 ∷ item 9 ∷ [])) ≡
      of_item 3 0 0 (Instr.closure 1 0 ∷ Instr.return ∷ [])
      ∷ of_item 3 0 1 (Instr.local 0 ∷ Instr.closure 2 1 ∷ Instr.return ∷ [])
      ∷ of_item 3 1 1 (
      Instr.captured 0
      ∷ Instr.switch (2 ∷ 4 ∷ [])
      ∷ Instr.local 0
      ∷ Instr.return
      ∷ Instr.enter Position.inner 0
      ∷ Instr.local 1
      ∷ Instr.call Position.inner
      ∷ Instr.local 0
      ∷ Instr.call Position.inner
      ∷ Instr.con 1 1
      ∷ Instr.return ∷ [])
      ∷ of_item 7 0 0 (Instr.closure 4 0 ∷ Instr.return ∷ [])
      ∷ of_item 7 0 0 (Instr.closure 5 0 ∷ Instr.return ∷ [])
      ∷ of_item 7 0 0 (Instr.closure 6 0 ∷ Instr.return ∷ [])
      ∷ of_item 7 0 0 (Instr.closure 7 0 ∷ Instr.return ∷ [])
      ∷ of_item 7 0 1 (Instr.local 0 ∷ Instr.closure 8 1 ∷ Instr.return ∷ [])
      ∷ of_item 7 1 1 (
      Instr.captured 0
      ∷ Instr.switch (2 ∷ 4 ∷ [])
      ∷ Instr.closure 9 0
      ∷ Instr.jump 8
      ∷ Instr.local 1
      ∷ Instr.local 2
      ∷ Instr.closure 10 2
      ∷ Instr.leave 2
      ∷ Instr.local 0
      ∷ Instr.call Position.tail ∷ [])
      ∷ of_item 7 0 1 (Instr.local 0 ∷ Instr.return ∷ [])
      ∷ of_item 7 2 1 (
      Instr.captured 0
      ∷ Instr.enter Position.inner 3
      ∷ Instr.force Position.inner
      ∷ Instr.force Position.inner
      ∷ Instr.force Position.inner
      ∷ Instr.captured 1
      ∷ Instr.call Position.inner
      ∷ Instr.local 0
      ∷ Instr.call Position.inner
      ∷ Instr.con 1 2
      ∷ Instr.return ∷ []) ∷ []
  -- b = MkBox (divInt 1 0) 4, whose first field is at 0
  pub box_listed : listing (named boxed (item 2) (codes "Main.b") ∷ []) (lowering boxed (item 2 ∷ [])) ≡
      lines (codes "block 0 Main.b captured 0 takes 0" ∷ codes "  int 4" ∷ codes "  con 0 1" ∷ codes "  return" ∷ [])
