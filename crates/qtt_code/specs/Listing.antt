-- The listing of a program. For each block the line `block B OWNER captured C takes T`, then its instructions,
-- each with two blanks before it; an owner that the names don't have is `_`.
use Rattle.std.specs.Prelude.{ℕ, suc, List, [], ◌∷◌, ◌++◌, flat_map, cond, eqb, Option, Some, None, codes, decimal}
use Rattle.std.specs.Fmt.{signed_decimal}
use Rattle.qtt_base.specs.declared.place.GlobalId.{GlobalId}
use Rattle.qtt_prims.specs.declared.prim.ActKind.{ActKind}
use Rattle.qtt_prims.specs.declared.prim.ActKind.TheVariants as act_kind
use Rattle.qtt_prims.specs.declared.lit.Lit.{Lit}
use Rattle.qtt_prims.specs.declared.lit.Lit.TheVariants as lit
use Rattle.qtt_prims.specs.PrimNames.{prim_name, action_name}
use Rattle.qtt_term.specs.Term.{Io, Action}
use Rattle.qtt_term.specs.Items.{DefinitionEntry, definition_id}
use Rattle.qtt_term.specs.Keyed.{with_id}
use Rattle.qtt_code.specs.Instruction.{Position, Instr, Block, Program}

-- ---- texts, between quotes and with four escapes
abbrev pub escaped : ℕ → List ℕ
escaped b =
    cond (eqb b 10) (92 ∷ 110 ∷ [])
    (cond (eqb b 9) (92 ∷ 116 ∷ [])
    (cond (eqb b 92) (92 ∷ 92 ∷ [])
    (cond (eqb b 34) (92 ∷ 34 ∷ [])
    (b ∷ []))))

abbrev pub quoted : List ℕ → List ℕ
quoted s = 34 ∷ flat_map escaped s ++ 34 ∷ []

-- ---- names
abbrev pub kind : Action → ActKind
kind (Action.pure Io.io) = act_kind.Pure
kind (Action.pure Io.io1) = act_kind.Pure1
kind (Action.bind Io.io Io.io) = act_kind.BindIoIo
kind (Action.bind Io.io Io.io1) = act_kind.BindIoIo1
kind (Action.bind Io.io1 Io.io) = act_kind.BindIo1Io
kind (Action.bind Io.io1 Io.io1) = act_kind.BindIo1Io1
kind Action.put_line = act_kind.PutLine
kind Action.get_line = act_kind.GetLine
kind Action.opens = act_kind.Open
kind Action.writes = act_kind.Write
kind Action.closes = act_kind.Close

abbrev pub shown_name : Option DefinitionEntry → List ℕ
shown_name None = codes "_"
shown_name (Some d) = d.name

abbrev pub owner_name : List DefinitionEntry → GlobalId → List ℕ
owner_name names d = shown_name (with_id definition_id d names)

-- ---- instructions
-- in tail position a call, a force or an enter has `tail-` before its word
abbrev pub tailed : Position → List ℕ → List ℕ
tailed Position.inner text = text
tailed Position.tail text = codes "tail-" ++ text

abbrev pub literal_text : Lit → List ℕ
literal_text (lit.Int n) = codes "int " ++ signed_decimal n
literal_text (lit.Text s) = codes "text " ++ quoted s

-- a number behind a blank
abbrev pub next_number : ℕ → List ℕ
next_number n = 32 ∷ decimal n

abbrev pub instr_text : Instr → List ℕ
instr_text (Instr.local k) = codes "local" ++ next_number k
instr_text (Instr.captured k) = codes "captured" ++ next_number k
instr_text (Instr.literal l) = literal_text l
instr_text Instr.type = codes "type"
instr_text (Instr.closure b k) = codes "closure" ++ next_number b ++ next_number k
instr_text (Instr.con c k) = codes "con" ++ next_number c ++ next_number k
instr_text (Instr.action a k) = codes "action " ++ action_name (kind a) ++ next_number k
instr_text (Instr.call o) = tailed o (codes "call")
instr_text (Instr.force o) = tailed o (codes "force")
instr_text (Instr.enter o b) = tailed o (codes "enter") ++ next_number b
instr_text (Instr.prim p) = codes "prim " ++ prim_name p
instr_text (Instr.switch qs) = codes "switch" ++ flat_map next_number qs
instr_text (Instr.leave k) = codes "leave" ++ next_number k
instr_text (Instr.jump q) = codes "jump" ++ next_number q
instr_text Instr.return = codes "return"
instr_text Instr.trap = codes "trap"

-- ---- lines, each ended by the byte 10
abbrev pub line : List ℕ → List ℕ
line text = text ++ 10 ∷ []

abbrev pub instr_line : Instr → List ℕ
instr_line i = line (codes "  " ++ instr_text i)

abbrev pub block_text : List DefinitionEntry → ℕ → Block → List ℕ
block_text names b B =
    codes "block" ++ next_number b ++ codes " " ++ owner_name names B.owner ++ codes " captured" ++ next_number
    B.captured ++ codes " takes" ++ next_number B.takes

abbrev pub block_lines : List DefinitionEntry → ℕ → Block → List ℕ
block_lines names b B = line (block_text names b B) ++ flat_map instr_line B.code

-- of blocks from number b on
abbrev pub listing_from : List DefinitionEntry → ℕ → Program → List ℕ
listing_from names b [] = []
listing_from names b (B ∷ Bs) = block_lines names b B ++ listing_from names (suc b) Bs

abbrev pub listing : List DefinitionEntry → Program → List ℕ
listing names Bs = listing_from names 0 Bs
