-- The names of primitives and of actions, as a text and a listing write them.
use Rattle.std.specs.Prelude.{ℕ, List, codes}
use Rattle.qtt_prims.specs.declared.prim.Primitive.{Primitive}
use Rattle.qtt_prims.specs.declared.prim.Primitive.TheVariants.{AddInt, SubInt, MulInt, DivInt, ModInt, EqInt, LtInt, AppendString, EqString, ShowInt}
use Rattle.qtt_prims.specs.declared.prim.ActKind.{ActKind}
use Rattle.qtt_prims.specs.declared.prim.ActKind.TheVariants.{Pure, Pure1, PutLine, GetLine, Open, Write, Close, BindIoIo, BindIoIo1, BindIo1Io, BindIo1Io1}

abbrev pub prim_name : Primitive → List ℕ
prim_name AddInt = codes "addInt"
prim_name SubInt = codes "subInt"
prim_name MulInt = codes "mulInt"
prim_name DivInt = codes "divInt"
prim_name ModInt = codes "modInt"
prim_name EqInt = codes "eqInt"
prim_name LtInt = codes "ltInt"
prim_name AppendString = codes "appendString"
prim_name EqString = codes "eqString"
prim_name ShowInt = codes "showInt"

-- a bind has no name in a text; it is printed by the kinds of its first action and its result
abbrev pub action_name : ActKind → List ℕ
action_name Pure = codes "pure"
action_name Pure1 = codes "pure1"
action_name PutLine = codes "putLine"
action_name GetLine = codes "getLine"
action_name Open = codes "open"
action_name Write = codes "write"
action_name Close = codes "close"
action_name BindIoIo = codes "bind"
action_name BindIoIo1 = codes "bind-1"
action_name BindIo1Io = codes "bind1"
action_name BindIo1Io1 = codes "bind1-1"
