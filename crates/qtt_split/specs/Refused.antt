-- Worked examples: each refusal of a group of clauses, with what it keeps, at its place.
use Rattle.std.specs.Prelude.{◌≡◌, ℕ, pos, List, [], ◌∷◌, codes, Some, true}
use Rattle.qtt_base.specs.declared.place.Span.{Span}
use Rattle.qtt_base.specs.declared.limits.Quantity.TheVariants.{Leaves}
use Rattle.qtt_usage.specs.Mult.{𝟘, 𝟙, ω}
use Rattle.qtt_usage.specs.Usage.{no_usage}
use Rattle.qtt_term.specs.declared.rule.Rule.{Rule}
use Rattle.qtt_term.specs.Term.{Form, Term, var, node, ε, ◌▸◌, Pi, Lam, Fam, IntLit}
use Rattle.qtt_term.specs.Signature.{eq_id, BoolTy, truth, EqTy, IntTy}
use Rattle.qtt_term.specs.Judgement.{Part}
use Rattle.qtt_term.specs.Ask.{Question, Ending, Ask, within}
use Rattle.qtt_term.specs.Programs.{item, nat, z, s, plus}
use Rattle.qtt_term.specs.Entries.{Entries, env}
use Rattle.qtt_rules.specs.Refusal.{Cause, Place, Refusal, refused}
use Rattle.qtt_rules.specs.Judged.{Judges, judged}
use Rattle.qtt_split.specs.Tests.{Test, at as test_at}
use Rattle.qtt_split.specs.Split.{count_leaf}
use Rattle.qtt_split.specs.Plan.{plan}
use Rattle.qtt_split.specs.Group.{Defined, body_of}
use Rattle.qtt_split.specs.Programs.{con_entry, family_entry, signature_of, with_prim, at, small, big, local, global, int, clause, limited, group_at, definition, f_of, false_pattern, true_pattern, refl_pattern, zero_pattern, suc_pattern, nat_entry, with_nat, binary, plus_defined, pred_group, overlapping, two_bools, pick_defined, dotted_with, w, with_w, endless_defined}
use Rattle.qtt_term.specs.declared.rule.Rule.TheVariants as rule
use Rattle.qtt_split.specs.Rows.{elaborates, refuses, shown_zero}

-- ---- refusals, in the order of the tests
-- a definition f of one clause or more on lines 3 and following, or, behind Nat, on lines 6 and following
abbrev pub nat_to_int : Term
nat_to_int = Pi ω nat IntTy

-- f Z = 1; f a b = 2
abbrev pub two_widths : Defined
two_widths =
    f_of 6 (with_nat []) nat_to_int
    (clause 6 (zero_pattern (at 6 3) ∷ []) (int 1 (at 6 7)) ∷
    clause 7 (small (codes "a") (at 7 3) ∷ small (codes "b") (at 7 5) ∷ []) (int 2 (at 7 9)) ∷ [])

-- f (S (S a b)) = 1
abbrev pub too_many_fields : Defined
too_many_fields =
    f_of 6 (with_nat []) nat_to_int
    (clause 6 (suc_pattern (at 6 4) (big (item 2) (at 6 7) (small (codes "a") (at 6 9) ∷ small (codes "b") (at 6 11) ∷
    [])) ∷ []) (int 1 (at 6 17)) ∷ [])

-- f a b = 1
abbrev pub too_many_patterns : Defined
too_many_patterns =
    f_of 6 (with_nat []) nat_to_int (clause 6 (small (codes "a") (at 6 3) ∷ small (codes "b") (at 6 5) ∷ [])
    (int 1 (at 6 9)) ∷ [])

-- data O : Nat -> Type where MkO : (c : Nat) -> Bool -> O (plus c c)
abbrev pub sums : Entries
sums =
    with_prim (nat_entry ∷ family_entry 4 (codes "O") [] (nat ∷ [])
    (con_entry 5 (codes "MkO") ((ω, nat) ∷ (ω, BoolTy) ∷ []) (codes "c" ∷ codes "_" ∷ []) (plus (var 1) (var 1) ▸ ε)
    ∷ []) ∷ [])
    (signature_of 3 (codes "plus") binary ∷ [])

-- f : (n : Nat) -> O n -> Int; f n (MkO c True) = 1; f (S k) (MkO c False) = 2
abbrev pub on_a_sum : Defined
on_a_sum =
    f_of 11 sums (Pi ω nat (Pi ω (Fam (item 4) (var 0 ▸ ε)) IntTy))
    (clause 11 (small (codes "n") (at 11 3) ∷ big (item 5) (at 11 6)
    (small (codes "c") (at 11 10) ∷ true_pattern (at 11 12) ∷ []) ∷ []) (int 1 (at 11 20))
    ∷ clause 12 (suc_pattern (at 12 4) (small (codes "k") (at 12 6)) ∷ big (item 5) (at 12 10)
    (small (codes "c") (at 12 14) ∷ false_pattern (at 12 16) ∷ []) ∷ []) (int 2 (at 12 25))
    ∷ [])

-- f True = 1, of a Nat
abbrev pub of_another_family : Defined
of_another_family = f_of 6 (with_nat []) nat_to_int (clause 6 (true_pattern (at 6 3) ∷ []) (int 1 (at 6 10)) ∷ [])

-- g : (0 b : Bool) -> Int; g True = 1; g False = 0
abbrev pub erased_match : Defined
erased_match =
    definition (codes "g") (group_at 3 (with_prim [] []) Part.run
    (clause 3 (true_pattern (at 3 3) ∷ []) (int 1 (at 3 10)) ∷
    clause 4 (false_pattern (at 4 3) ∷ []) (int 0 (at 4 11)) ∷ []))
    (Pi 𝟘 BoolTy IntTy) (Some (codes "b") ∷ [])

-- g : (n : Nat) -> (p : Eq Nat n (S n)) -> Int; g n Refl = 1
abbrev pub no_cycle : Defined
no_cycle =
    f_of 6 (with_nat []) (Pi ω nat (Pi ω (EqTy nat (var 0) (s (var 0))) IntTy))
    (clause 6 (small (codes "n") (at 6 3) ∷ refl_pattern (at 6 5) ∷ []) (int 1 (at 6 12)) ∷ [])

-- f : (1 n : Nat) -> (p : Eq Nat w n) -> Int; f n Refl = 1
abbrev pub linear_index : Defined
linear_index =
    f_of 14 with_w (Pi 𝟙 nat (Pi ω (EqTy nat w (var 0)) IntTy))
    (clause 14 (small (codes "n") (at 14 3) ∷ refl_pattern (at 14 5) ∷ []) (int 1 (at 14 12)) ∷ [])

-- f : (1 n : Nat) -> (p : Eq Nat n n) -> Nat; f n Refl = n
abbrev pub linear_point : Defined
linear_point =
    f_of 6 (with_nat []) (Pi 𝟙 nat (Pi ω (EqTy nat (var 0) (var 0)) nat))
    (clause 6 (small (codes "n") (at 6 3) ∷ refl_pattern (at 6 5) ∷ []) (local 0 (at 6 12)) ∷ [])

-- data In (n : Nat) : Bool -> Type where IT : In n True; f : (1 a : Nat) -> (b : Bool) -> (p : In a b) -> Int; f a b IT
-- = 1
abbrev pub linear_parameter : Defined
linear_parameter =
    f_of 8 (with_prim (nat_entry ∷ family_entry 3 (codes "In") (nat ∷ []) (BoolTy ∷ []) (con_entry 4 (codes "IT") [] []
    (truth true ▸ ε) ∷ []) ∷ []) [])
    (Pi 𝟙 nat (Pi ω BoolTy (Pi ω (Fam (item 3) (var 1 ▸ var 0 ▸ ε)) IntTy)))
    (clause 8 (small (codes "a") (at 8 3) ∷ small (codes "b") (at 8 5) ∷ big (item 4) (at 8 7) [] ∷ [])
    (int 1 (at 8 12)) ∷ [])

-- f x = 1; f True = 2
abbrev pub never_reached : Defined
never_reached =
    f_of 3 (with_prim [] []) (Pi ω BoolTy IntTy)
    (clause 3 (small (codes "x") (at 3 3) ∷ []) (int 1 (at 3 7)) ∷
    clause 4 (true_pattern (at 4 3) ∷ []) (int 2 (at 4 10)) ∷ [])

-- data D : Type where MkD : (1 x : Int) -> D; f : (1 d : D) -> Bool -> Int; f (MkD x) True = x; f y b = 1, which drops
-- y's field
abbrev pub dropped_field : Defined
dropped_field =
    f_of 5 (with_prim (family_entry 0 (codes "D") [] [] (con_entry 1 (codes "MkD") ((𝟙, IntTy) ∷ []) (codes "x" ∷ []) ε
    ∷ []) ∷ []) [])
    (Pi 𝟙 (Fam (item 0) ε) (Pi ω BoolTy IntTy))
    (clause 5 (big (item 1) (at 5 4) (small (codes "x") (at 5 8) ∷ []) ∷ true_pattern (at 5 11) ∷ [])
    (local 0 (at 5 18))
    ∷ clause 6 (small (codes "y") (at 6 3) ∷ small (codes "b") (at 6 5) ∷ []) (int 1 (at 6 9)) ∷ [])

-- each right side is judged to be 3, whatever its type
abbrev pub lies : Judges
lies p S m e = Ask.done (judged IntTy (IntLit (pos 3)) (no_usage 9))

abbrev pub elaborates_by_lies : Defined → Ending Refusal Place Term
elaborates_by_lies D = within (env D.group.globals) 0 (body_of lies D)

abbrev pub core_refused : List ℕ → Span → Rule → ℕ → Ending Refusal Place Term
core_refused n p r k = Ending.fails (refused (Cause.core_refused n) (record { span = p; rule = r; number = k }))

-- the core of dotted_with
abbrev pub dotted_body : Term
dotted_body =
    Lam ω nat (Lam ω nat (Lam ω (EqTy nat (var 1) (var 0))
    (node (Form.case ω eq_id 2 2 (0 ∷ [])) (nat ▸ var 2 ▸ IntTy ▸ IntLit (pos 1) ▸ var 0 ▸ ε))))

pub record RefusedRows : Type 0 where
  pub widths_differ : elaborates 0 two_widths ≡ refuses (Cause.wrong_arity 1 2) (at 7 1) Test.one_width
  pub fields_too_many : elaborates 0 too_many_fields ≡ refuses (Cause.wrong_arity 1 2) (at 6 7) Test.arities
  pub opens_once : elaborates 0 too_many_patterns ≡ refuses (Cause.not_a_function 1 IntTy) (at 6 1) Test.opens
  pub on_no_variable : elaborates 0 on_a_sum ≡ refuses
      (Cause.pattern_stuck 4 (plus (var 1) (var 1)) (plus (var 1) (var 1))) (at 12 4) Test.on_variable
  pub no_such_constructor : elaborates 0 of_another_family ≡ refuses (Cause.not_a_family 1 nat) (at 6 3) Test.of_family
  pub erased : elaborates 0 erased_match ≡ refuses (Cause.erased_match (Some (codes "b"))) (at 3 3) Test.usable
  pub endless_reading : elaborates 50 endless_defined ≡ Ending.spent (test_at (at 14 4) Test.equations)
      (Question.head_of 1 w)
  pub cycle : elaborates 0 no_cycle ≡ refuses (Cause.pattern_stuck 2 (var 1) (s (var 1))) (at 6 5) Test.equations
  pub compared : elaborates 0 linear_index ≡ Ending.spent (test_at (at 14 5) Test.deletion)
      (Question.compared 2 (var 1) w)
  pub not_the_point : elaborates 1 linear_index ≡ refuses (Cause.pattern_stuck 2 w (var 1)) (at 14 5) Test.equations
  pub point_reverted : elaborates 0 linear_point ≡ refuses (Cause.pattern_stuck 2 (var 1) (var 1)) (at 6 5)
      Test.endpoints
  pub parameter_reverted : elaborates 0 linear_parameter ≡ refuses (Cause.pattern_stuck 3 (var 2) (var 2)) (at 8 7)
      Test.parameters
  -- three leaves, where two may be; and by default
  pub two_leaves : within (env (with_prim [] [])) 0
      (plan (limited 2 3 (with_prim [] []) Part.run overlapping) two_bools []) ≡ Ending.fails
      (refused (Cause.limit Leaves 3) (test_at (at 3 1) Test.leaves))
  pub by_default : count_leaf (group_at 3 (with_prim [] []) Part.run overlapping) 0 ≡ Ask.fail
      (refused (Cause.limit Leaves 10001) (test_at (at 3 1) Test.leaves))
  pub not_covered : elaborates 0 (definition (codes "pred") pred_group (Pi ω nat nat) []) ≡ refuses
      (Cause.missing (codes "pred") (shown_zero ∷ [])) (at 6 1) Test.covered
  pub not_reached : elaborates 0 never_reached ≡ refuses (Cause.unreachable (codes "f")) (at 4 1) Test.reached
  pub dot_agrees : elaborates 0 (dotted_with (local 0 (at 6 7))) ≡ Ending.ok dotted_body
  pub dot_differs : elaborates 0 (dotted_with (global (item 1) (at 6 7))) ≡ refuses (Cause.dot_mismatch 3 (var 2) z)
      (at 6 5) Test.dots
  -- the second clause has an h of its own, which is not used
  pub unused : elaborates 0 pick_defined ≡ refuses (Cause.wrong_usage (Some (codes "h")) 𝟙 𝟘) (at 4 12) Test.uses
  pub unused_field : elaborates 0 dropped_field ≡ refuses (Cause.wrong_usage (Some (codes "y")) 𝟙 𝟘) (at 6 3) Test.uses
  -- the body is judged once more
  pub wrong_branch : elaborates_by_lies plus_defined ≡ core_refused (codes "plus") (at 6 1) rule.Case 4
  pub wrong_type : elaborates_by_lies (f_of 6 (with_nat []) nat (clause 6 [] (local 0 (at 6 5)) ∷ [])) ≡ core_refused
      (codes "f") (at 6 1) rule.Conversion 2
