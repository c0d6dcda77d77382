-- Values by their form.
use Rattle.std.specs.Prelude.{ℕ, ℤ, List, Option, Some, None}
use Rattle.qtt_prims.specs.declared.prim.Primitive.{Primitive}
use Rattle.qtt_prims.specs.declared.prim.Primitive.TheVariants.{AddInt, SubInt, MulInt, DivInt, ModInt, EqInt, LtInt, AppendString, EqString, ShowInt}
use Rattle.qtt_prims.specs.declared.lit.Lit.{Lit}
use Rattle.qtt_prims.specs.declared.lit.Lit.TheVariants as lit
use Rattle.qtt_code.specs.Value.{Value, listed}

-- the block and what is captured, and the tag and the fields
abbrev pub as_closure : Value → Option (ℕ × List Value)
as_closure (Value.literal l) = None
as_closure (Value.con c vs) = None
as_closure (Value.closure b vs) = Some (b, listed vs)
as_closure (Value.action a vs) = None
as_closure (Value.tape n) = None
as_closure Value.type = None

abbrev pub as_con : Value → Option (ℕ × List Value)
as_con (Value.literal l) = None
as_con (Value.con c vs) = Some (c, listed vs)
as_con (Value.closure b vs) = None
as_con (Value.action a vs) = None
as_con (Value.tape n) = None
as_con Value.type = None

abbrev pub number_of : Lit → Option ℤ
number_of (lit.Int n) = Some n
number_of (lit.Text s) = None

abbrev pub text_of : Lit → Option (List ℕ)
text_of (lit.Int n) = None
text_of (lit.Text s) = Some s

abbrev pub as_number : Value → Option ℤ
as_number (Value.literal l) = number_of l
as_number (Value.con c vs) = None
as_number (Value.closure b vs) = None
as_number (Value.action a vs) = None
as_number (Value.tape n) = None
as_number Value.type = None

abbrev pub as_text : Value → Option (List ℕ)
as_text (Value.literal l) = text_of l
as_text (Value.con c vs) = None
as_text (Value.closure b vs) = None
as_text (Value.action a vs) = None
as_text (Value.tape n) = None
as_text Value.type = None

-- the primitive takes two numbers
abbrev pub IsOnNumbers : Primitive → Type 0
IsOnNumbers AddInt = Unit {0}
IsOnNumbers SubInt = Unit {0}
IsOnNumbers MulInt = Unit {0}
IsOnNumbers DivInt = Unit {0}
IsOnNumbers ModInt = Unit {0}
IsOnNumbers EqInt = Unit {0}
IsOnNumbers LtInt = Unit {0}
IsOnNumbers AppendString = ⊥
IsOnNumbers EqString = ⊥
IsOnNumbers ShowInt = ⊥
