-- The trees of the values that a run makes.
use Rattle.std.proofs.Common.{◌≡◌, ℕ, List, [], ◌∷◌, ◌∙◌, ap, rules}
use Rattle.std.specs.Borrow.{Bor}
use Rattle.qtt_prims.specs.declared.lit.Lit.TheVariants as literal
use Rattle.qtt_prims.specs.declared.prim.ActKind.{ActKind}
use Rattle.qtt_term.specs.View.{action}
use Rattle.qtt_code.specs.Value.{Value, Values, ◌▹◌, side_by_side}
use Rattle.qtt_value.specs.declared.val.Val.{Val, the_lemmas}
use Rattle.qtt_value.specs.declared.val.Val.TheVariants as code
use Rattle.qtt_value.specs.View.{value, values}
use Rattle.qtt_prims.specs.declared.prim.ActKind.TheVariants as kind
use Rattle.qtt_term.specs.Term.{Io, Action}
use Rattle.qtt_run.specs.CodeRun.{pure_unit, pure_handle}

-- ---- by the form of a value
value_of_text : (s : Bor (List ℕ)) → value (code.Text s) ≡ Value.literal (literal.Text s.now)
value_of_text s = search (rules, the_lemmas)

value_of_con : (c : ℕ) (vs : Bor (List Val)) → value (code.Con c vs) ≡ Value.con c (side_by_side (values vs.now))
value_of_con c vs = search (rules, the_lemmas)

value_of_action : (a : ActKind) (vs : Bor (List Val)) →
    value (code.Act a vs) ≡ Value.action (action a) (side_by_side (values vs.now))
value_of_action a vs = search (rules, the_lemmas)

value_of_tape : (n : ℕ) → value (code.Tape n) ≡ Value.tape n
value_of_tape n = search (rules, the_lemmas)

-- ---- with its parts
pub act-of-one : (k : ActKind) (vs : Bor (List Val)) (v : Val) → vs.now ≡ v ∷ [] →
    value (code.Act k vs) ≡ Value.action (action k) (value v ▹ Values.none)
act-of-one k vs v e = value_of_action k vs ∙ ap (λ l. Value.action (action k) (side_by_side (values l))) e

pub con-of-none : (n : ℕ) (vs : Bor (List Val)) → vs.now ≡ [] → value (code.Con n vs) ≡ Value.con n Values.none
con-of-none n vs e = value_of_con n vs ∙ ap (λ l. Value.con n (side_by_side (values l))) e

pub con-of-text : (n : ℕ) (vs : Bor (List Val)) (s : Bor (List ℕ)) → vs.now ≡ code.Text s ∷ [] →
    value (code.Con n vs) ≡ Value.con n (Value.literal (literal.Text s.now) ▹ Values.none)
con-of-text n vs s e =
    value_of_con n vs ∙ ap (λ l. Value.con n (side_by_side (values l))) e ∙
    ap (λ v. Value.con n (v ▹ Values.none)) (value_of_text s)

-- ---- what actions give
pub gives-unit : {v : Value} (vs : Bor (List Val)) →
    v ≡ Value.action (action kind.Pure) (value (code.Con 0 vs) ▹ Values.none) → vs.now ≡ [] →
    v ≡ pure_unit
gives-unit vs e n = e ∙ ap (λ w. Value.action (Action.pure Io.io) (w ▹ Values.none)) (con-of-none 0 vs n)

pub gives-handle : {v : Value} (n : ℕ) →
    v ≡ Value.action (action kind.Pure1) (value (code.Tape n) ▹ Values.none) → v ≡ pure_handle n
gives-handle n e = e ∙ ap (λ w. Value.action (Action.pure Io.io1) (w ▹ Values.none)) (value_of_tape n)
