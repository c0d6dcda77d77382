-- What the code's values stand for.
use Rattle.std.specs.Prelude.{List, map}
use Rattle.qtt_prims.specs.declared.lit.Lit.TheVariants as lit
use Rattle.qtt_term.specs.View.{action}
use Rattle.qtt_code.specs.Value.{Value, side_by_side}
use Rattle.qtt_value.specs.declared.val.Val as code
use Rattle.qtt_value.specs.declared.val.Val.TheOpen.{Val-F}

-- one level, with each part already seen
abbrev pub value_level : Val-F Value → Value
value_level (Val-F.Int n) = Value.literal (lit.Int n)
value_level (Val-F.Text s) = Value.literal (lit.Text s.now)
value_level (Val-F.Con c vs) = Value.con c (side_by_side vs.now)
value_level (Val-F.Clo b vs) = Value.closure b (side_by_side vs.now)
value_level (Val-F.Act a vs) = Value.action (action a) (side_by_side vs.now)
value_level (Val-F.Tape n) = Value.tape n
value_level Val-F.Ty = Value.type

-- the plain tree of a value
abbrev pub value : code.Val → Value
value = code.fold-Val Value value_level

abbrev pub values : List code.Val → List Value
values = map value
