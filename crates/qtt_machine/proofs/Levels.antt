-- The tree of a value of each form.
use Rattle.std.proofs.Common.{◌≡◌, ℕ, ℤ, List, rules}
use Rattle.std.specs.Borrow.{Bor}
use Rattle.qtt_prims.specs.declared.prim.ActKind.{ActKind}
use Rattle.qtt_prims.specs.declared.lit.Lit.TheVariants as lit
use Rattle.qtt_term.specs.View.{action}
use Rattle.qtt_code.specs.Value.{Value, side_by_side}
use Rattle.qtt_value.specs.declared.val.Val.{Val, the_lemmas}
use Rattle.qtt_value.specs.declared.val.Val.TheVariants as code
use Rattle.qtt_value.specs.View.{value, values}

pub value_of_number : (n : ℤ) → value (code.Int n) ≡ Value.literal (lit.Int n)
value_of_number n = search (rules, the_lemmas)

pub value_of_text : (s : Bor (List ℕ)) → value (code.Text s) ≡ Value.literal (lit.Text s.now)
value_of_text s = search (rules, the_lemmas)

pub value_of_con : (c : ℕ) (vs : Bor (List Val)) → value (code.Con c vs) ≡ Value.con c (side_by_side (values vs.now))
value_of_con c vs = search (rules, the_lemmas)

pub value_of_closure : (b : ℕ) (vs : Bor (List Val)) →
    value (code.Clo b vs) ≡ Value.closure b (side_by_side (values vs.now))
value_of_closure b vs = search (rules, the_lemmas)

pub value_of_action : (a : ActKind) (vs : Bor (List Val)) →
    value (code.Act a vs) ≡ Value.action (action a) (side_by_side (values vs.now))
value_of_action a vs = search (rules, the_lemmas)

pub value_of_tape : (n : ℕ) → value (code.Tape n) ≡ Value.tape n
value_of_tape n = search (rules, the_lemmas)

pub value_of_type : value code.Ty ≡ Value.type
value_of_type = search (rules, the_lemmas)

-- the tree of a value by its form
pub ruleset levels = (
  value_of_number,
  value_of_text,
  value_of_con,
  value_of_closure,
  value_of_action,
  value_of_tape,
  value_of_type,
)
