-- Worked examples: the bodies of definitions by clauses, and runs of some.
use Rattle.std.specs.Prelude.{◌≡◌, ℕ, pos, [], ◌∷◌, codes, true, false}
use Rattle.qtt_usage.specs.declared.mult.Mult.{Mult}
use Rattle.qtt_usage.specs.Mult.{𝟘, 𝟙, ω}
use Rattle.qtt_term.specs.Term.{Form, Term, var, node, ε, ◌▸◌, Sort, Pi, Lam, App, Delete, Def, IntLit}
use Rattle.qtt_term.specs.Signature.{bool_id, BoolTy, truth, EqTy, IntTy, StringTy, Env}
use Rattle.qtt_term.specs.Ask.{Ending}
use Rattle.qtt_term.specs.FullStep.{Cause as TrapCause}
use Rattle.qtt_term.specs.FullRun.{Event, Verdict, full}
use Rattle.qtt_term.specs.Rows.{Shown, shown as shown_run, shows_so}
use Rattle.qtt_term.specs.Programs.{item, io_unit, put, shown, nat, z, s, plus, plus_body, pred_body}
use Rattle.qtt_term.specs.Vectors.{append_body, head_body}
use Rattle.qtt_term.specs.Entries.{Entries, env}
use Rattle.qtt_split.specs.Programs.{defined_as, with_prim, partial_definition, f_of, with_nat, plus_defined, append_defined, head_defined, pred_group, same_of, cast_defined, deletes_defined, overlapping, two_bools, both_defined, fn, applies_defined, pair_type, keeps_defined}
use Rattle.qtt_split.specs.Rows.{elaborates}

-- ---- bodies
-- \a b p x => case p of MkSame => x, in which b is solved by a: the motive is the index
abbrev pub cast_body : Term
cast_body =
    Lam 𝟘 (Sort 0) (Lam 𝟘 (Sort 0) (Lam ω (same_of (var 1) (var 0)) (Lam ω (var 2)
    (node (Form.case ω (item 0) 1 2 (0 ∷ [])) (var 3 ▸ var 1 ▸ var 0 ▸ var 1 ▸ ε)))))

abbrev pub deletes_body : Term
deletes_body =
    Lam 𝟘 (Sort 0) (Lam 𝟘 (var 0) (Lam ω (EqTy (var 1) (var 0) (var 0)) (Delete ω (var 2) (var 1) IntTy (IntLit (pos 1))
    (var 0))))

-- a match on a Bool: the case of False, then that of True
abbrev pub if_false : Mult → Term → Term → Term → Term → Term
if_false q P f t b = node (Form.case q bool_id 0 1 (0 ∷ 0 ∷ [])) (P ▸ f ▸ t ▸ b ▸ ε)

abbrev pub overlapping_body : Term
overlapping_body =
    Lam ω BoolTy (Lam ω BoolTy
    (if_false ω IntTy (if_false ω IntTy (IntLit (pos 3)) (IntLit (pos 2)) (var 0)) (IntLit (pos 1)) (var 1)))

-- b is linear, so each branch binds it again
abbrev pub both_body : Term
both_body =
    Lam 𝟙 BoolTy (Lam 𝟙 BoolTy (App 𝟙
    (if_false 𝟙 (Pi 𝟙 BoolTy BoolTy) (Lam 𝟙 BoolTy (if_false 𝟙 BoolTy (truth false) (truth false) (var 0)))
    (Lam 𝟙 BoolTy (var 0)) (var 1))
    (var 0)))

-- one right side, g n, has two cores: g is applied at 1 where c is False, and at many, to S k, where it is True
abbrev pub applies_body : Term
applies_body =
    Lam ω BoolTy (Lam ω (fn (var 0)) (Lam ω nat (App ω
    (if_false ω (Pi ω (fn (var 0)) nat)
    (Lam ω (fn (truth false)) (App 𝟙 (var 0) (var 1)))
    (Lam ω (fn (truth true)) (node (Form.case ω (item 0) 0 1 (0 ∷ 1 ∷ []))
    (nat ▸ z ▸ App ω (var 1) (s (var 0)) ▸ var 1 ▸ ε)))
    (var 2))
    (var 1))))

abbrev pub pair : Term → Term → Term
pair n i = node (Form.con (item 7) 0 0) (n ▸ i ▸ ε)

-- y stands for MkP (plus c c) (Other c): its first place is solved by the second
abbrev pub keeps_body : Term
keeps_body =
    Lam ω pair_type (node (Form.case ω (item 7) 0 1 (2 ∷ []))
    (pair_type
    ▸ node (Form.case ω (item 4) 0 2 (0 ∷ 1 ∷ []))
    (pair_type
    ▸ pair z (node (Form.con (item 4) 0 0) ε)
    ▸ pair (plus (var 0) (var 0)) (node (Form.con (item 4) 1 0) (var 0 ▸ ε))
    ▸ var 0
    ▸ ε)
    ▸ var 0
    ▸ ε))

pub record BodyRows : Type 0 where
  pub of_plus : elaborates 0 plus_defined ≡ Ending.ok plus_body
  pub of_append : elaborates 100 append_defined ≡ Ending.ok append_body
  pub of_head : elaborates 100 head_defined ≡ Ending.ok head_body
  pub of_pred : elaborates 0 (partial_definition (codes "pred") pred_group (Pi ω nat nat)) ≡ Ending.ok pred_body
  pub of_cast : elaborates 0 cast_defined ≡ Ending.ok cast_body
  pub of_deletion : elaborates 0 deletes_defined ≡ Ending.ok deletes_body
  pub of_overlapping : elaborates 0 (f_of 3 (with_prim [] []) two_bools overlapping) ≡ Ending.ok overlapping_body
  pub of_both : elaborates 0 both_defined ≡ Ending.ok both_body
  pub two_cores : elaborates 100 applies_defined ≡ Ending.ok applies_body
  pub solved_place : elaborates 100 keeps_defined ≡ Ending.ok keeps_body

-- ---- runs of bodies
-- f, and main = t
abbrev pub runs_with : Entries → Term → Env
runs_with K t =
    env (record { families = K.families; definitions = defined_as 20 (codes "main") io_unit t ∷ K.definitions })

-- putLine (showInt (f True True))
abbrev pub overlapping_run : Env
overlapping_run =
    runs_with (with_prim [] (defined_as 0 (codes "f") two_bools overlapping_body ∷ []))
    (put (shown (App ω (App ω (Def (item 0)) (truth true)) (truth true))))

-- pred Z
abbrev pub pred_run : Env
pred_run = runs_with (with_nat (defined_as 3 (codes "pred") (Pi ω nat nat) pred_body ∷ [])) (App ω (Def (item 3)) z)

-- bad : Same Int String; bad = bad; putLine (cast Int String bad 3)
abbrev pub cast_run : Env
cast_run =
    runs_with
    (with_prim [] (defined_as 2 (codes "bad") (same_of IntTy StringTy) (Def (item 2)) ∷ defined_as 3 (codes "cast")
    (Pi 𝟘 (Sort 0) (Sort 0)) cast_body ∷ []))
    (put (App ω (App ω (App 𝟘 (App 𝟘 (Def (item 3)) IntTy) StringTy) (Def (item 2))) (IntLit (pos 3))))

abbrev pub run_of : ℕ → Env → Shown
run_of n E = shown_run (full n E (item 20) [])

pub record BodyRunRows : Type 0 where
  -- main, f, two arguments, one match, showInt, putLine
  pub first_of_three : run_of 100 overlapping_run ≡ shows_so Verdict.ended 7 (Event.line (codes "1") ∷ []) []
  pub no_clause : run_of 100 pred_run ≡ shows_so (Verdict.trapped TrapCause.missing_clause) 4 [] []
  -- a false proof is evaluated
  pub false_proof : run_of 50 cast_run ≡ shows_so Verdict.running 50 [] []
