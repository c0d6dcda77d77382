-- Worked examples of runs, heads and questions.
use Rattle.std.specs.Prelude.{◌≡◌, ℕ, suc, pos, negsuc, List, [], ◌∷◌, codes, Bool, false, true, ◌++◌}
use Rattle.qtt_usage.specs.Mult.{𝟘, 𝟙, ω}
use Rattle.qtt_term.specs.Term.{Io, Action, Form, Term, var, node, ε, ◌▸◌, Pi, Lam, App, Delete, Def, IntLit, Act, Trap}
use Rattle.qtt_term.specs.Signature.{bool_id, BoolTy, truth, IntTy, StringTy, IoTy, Refl, EqTy}
use Rattle.qtt_term.specs.FullStep.{Cause}
use Rattle.qtt_term.specs.FullRun.{Event, Verdict, Run, full}
use Rattle.qtt_prims.specs.Tapes.{Taped}
use Rattle.qtt_term.specs.Question.{Head, head, Answer, compare}
use Rattle.qtt_term.specs.Judgement.{Part}
use Rattle.qtt_term.specs.Ask.{Question, Ending, within}
use Rattle.qtt_term.specs.Infer.{Premise, at, Inferred, inferred, infer}
use Rattle.qtt_term.specs.declared.rule.Rule.{Rule}
use Rattle.qtt_term.specs.declared.rule.Rule.TheVariants as rule
use Rattle.qtt_term.specs.PrimEnvironment.{prim_env}
use Rattle.qtt_term.specs.Programs.{item, hello, identity, loops, forever, partial_no, one_by_zero, no_of_false, handles, trapping, echo, shows, box, boxed, deletes, divided, added, nat, s, plus, plus_body, naturals, aliases, circles, io_unit, z, predecessors, pred_body, closing_function, closes_by}

-- what a run shows
pub record Shown : Type 0 where
  pub verdict : Verdict
  pub count : ℕ
  pub events : List Event
  pub tapes : List Taped

abbrev pub shown : Run → Shown
shown r = record { verdict = r.verdict; count = r.count; events = r.last.events; tapes = r.last.tapes }

abbrev pub shows_so : Verdict → ℕ → List Event → List Taped → Shown
shows_so v n es ts = record { verdict = v; count = n; events = es; tapes = ts }

abbrev pub tape_a : Bool → List (List ℕ) → List Taped
tape_a b ls = record { name = codes "a"; lines = ls; is_open = b } ∷ []

-- a default of 10,000,000 contractions
abbrev pub default_steps : ℕ
default_steps = 10000000

abbrev pub handle_events : List Event
handle_events = Event.opened (codes "a") ∷ Event.wrote 0 (codes "x") ∷ Event.wrote 0 (codes "y") ∷ []

pub record RunRows : Type 0 where
  pub hello_ends : shown (full default_steps hello (item 0) []) ≡ shows_so Verdict.ended 2
      (Event.line (codes "hello") ∷ []) []
  pub hello_in_two : shown (full 2 hello (item 0) []) ≡ shows_so Verdict.ended 2 (Event.line (codes "hello") ∷ []) []
  pub hello_in_one : shown (full 1 hello (item 0) []) ≡ shows_so Verdict.running 1 [] []
  pub identity_ends : shown (full default_steps identity (item 1) []) ≡ shows_so Verdict.ended 5
      (Event.line (codes "3") ∷ []) []
  -- a 0 argument that loops is never evaluated
  pub loops_in_five : shown (full 5 loops (item 2) []) ≡ shows_so Verdict.ended 5 (Event.line (codes "ok") ∷ []) []
  pub loops_in_four : shown (full 4 loops (item 2) []) ≡ shows_so Verdict.running 4 [] []
  pub forever_in_ten : shown (full 10 forever (item 1) []) ≡ shows_so Verdict.running 10
      (Event.line (codes "x") ∷ Event.line (codes "x") ∷ []) []
  -- the left argument traps first
  pub zero_first : shown (full default_steps (partial_no one_by_zero no_of_false) (item 1) []) ≡ shows_so
      (Verdict.trapped Cause.division_by_zero) 1 [] []
  pub zero_in_one : shown (full 1 (partial_no one_by_zero no_of_false) (item 1) []) ≡ shows_so
      (Verdict.trapped Cause.division_by_zero) 1 [] []
  pub no_clause_first : shown (full default_steps (partial_no no_of_false one_by_zero) (item 1) []) ≡ shows_so
      (Verdict.trapped Cause.missing_clause) 4 [] []
  pub handles_end : shown (full default_steps handles (item 0) []) ≡ shows_so Verdict.ended 14
      (handle_events ++ Event.closed_tape 0 ∷ []) (tape_a false (codes "x" ∷ codes "y" ∷ []))
  pub handles_in_thirteen : shown (full 13 handles (item 0) []) ≡ shows_so Verdict.running 13 handle_events
      (tape_a true (codes "x" ∷ codes "y" ∷ []))
  -- a run that traps closes its open tapes
  pub trapping_in_five : shown (full 5 trapping (item 0) []) ≡ shows_so (Verdict.trapped Cause.division_by_zero) 5
      (Event.opened (codes "a") ∷ Event.closed_tape 0 ∷ []) (tape_a false [])
  pub trapping_in_four : shown (full 4 trapping (item 0) []) ≡ shows_so Verdict.running 4
      (Event.opened (codes "a") ∷ []) (tape_a true [])
  pub echo_of_a : (shown (full default_steps echo (item 1) (codes "a"))).events ≡ Event.line (codes "a") ∷ []
  pub echo_ends : (shown (full default_steps echo (item 1) (codes "a"))).verdict ≡ Verdict.ended
  pub echo_of_nothing : (shown (full default_steps echo (item 1) [])).verdict ≡ Verdict.ended
  pub echo_of_no_text : (shown (full default_steps echo (item 1) (255 ∷ 10 ∷ []))).verdict ≡ Verdict.trapped
      Cause.bad_input_line
  pub least_by_minus_one : (shown
      (full default_steps (shows (divided (IntLit (negsuc 9223372036854775807)) (IntLit (negsuc 0))))
      (item 0) [])).events ≡ Event.line (codes "-9223372036854775808") ∷ []
  pub greatest_and_one : (shown
      (full default_steps (shows (added (IntLit (pos 9223372036854775807)) (IntLit (pos 1)))) (item 0) [])).events
      ≡ Event.line (codes "-9223372036854775808") ∷ []
  -- a clause that is missing
  pub pred_of_zero : shown (full default_steps predecessors (item 4) []) ≡
      shows_so (Verdict.trapped Cause.missing_clause) 4 [] []
  -- a function that closes a tape, called once
  pub closed_once : shown (full default_steps (closes_by 𝟙) (item 0) []) ≡
      shows_so Verdict.ended 8 (Event.opened (codes "a") ∷ Event.closed_tape 0 ∷ []) (tape_a false [])
  -- a field at 0 that would trap is kept
  pub boxed_ends : shown (full default_steps boxed (item 4) []) ≡ shows_so Verdict.ended 5
      (Event.line (codes "boxed") ∷ []) []
  pub deletes_ends : shown (full default_steps deletes (item 1) []) ≡ shows_so Verdict.ended 8
      (Event.line (codes "1") ∷ []) []

-- (\(x : Int) => x), applied at 1 though it is a function at many
abbrev pub misapplied : Term
misapplied = App 𝟙 (Lam ω IntTy (var 0)) (IntLit (pos 3))

-- case (id at many) True of False => 0; True => 1
abbrev pub case_of_true : Term
case_of_true = node (Form.case ω bool_id 0 1 (0 ∷ 0 ∷ []))
    (IntTy ▸ IntLit (pos 0) ▸ IntLit (pos 1) ▸ App ω (Lam ω BoolTy (var 0)) (truth true) ▸ ε)

abbrev pub delete_of_refl : Term
delete_of_refl = Delete ω IntTy (IntLit (pos 3)) IntTy (IntLit (pos 1)) (Refl IntTy (IntLit (pos 3)))

abbrev pub one_and_two : Term
one_and_two = added (IntLit (pos 1)) (IntLit (pos 2))

-- plus n Z, and the type of its proofs of being equal to a number
abbrev pub sum_with_zero : Term
sum_with_zero = plus (var 0) z

abbrev pub equals_sum : Term → Term
equals_sum t = EqTy nat sum_with_zero t

-- pure {Int} 3, so many of whose two components are type arguments
abbrev pub pure_three : ℕ → Term
pure_three k = Act (Action.pure Io.io) k (IntTy ▸ IntLit (pos 3) ▸ ε)

pub record QuestionRows : Type 0 where
  pub sum_at_none : compare prim_env 0 one_and_two (IntLit (pos 3)) ≡ Answer.spent
  pub sum_at_one : compare prim_env 1 one_and_two (IntLit (pos 3)) ≡ Answer.equal
  pub division_at_none : compare prim_env 0 one_by_zero (IntLit (pos 0)) ≡ Answer.different []
  pub misapplied_is_a_head : head prim_env 1 misapplied ≡ Head.done misapplied 0
  pub case_in_two : head prim_env 2 case_of_true ≡ Head.done (IntLit (pos 1)) 2
  pub case_in_one : head prim_env 1 case_of_true ≡ Head.spent
  pub delete_in_one : head prim_env 1 delete_of_refl ≡ Head.done (IntLit (pos 1)) 1
  pub delete_in_none : head prim_env 0 delete_of_refl ≡ Head.spent
  -- plus (S n) m and S (plus n m): delta, beta, beta, iota
  pub plus_at_four : compare naturals 4 (plus (s (var 1)) (var 0)) (s (plus (var 1) (var 0))) ≡ Answer.equal
  pub plus_at_three : compare naturals 3 (plus (s (var 1)) (var 0)) (s (plus (var 1) (var 0))) ≡ Answer.spent
  -- Eq Nat (plus n Z) (plus n Z) and Eq Nat (plus n Z) n differ at their last components: delta, beta, beta, no
  -- iota
  pub plus_of_zero : (more : ℕ) →
      compare naturals (suc (suc (suc more))) (equals_sum sum_with_zero) (equals_sum (var 0)) ≡ Answer.different
      (2 ∷ [])
  pub plus_of_zero_at_two : compare naturals 2 (equals_sum sum_with_zero) (equals_sum (var 0)) ≡ Answer.spent
  pub aliases_at_eleven : compare (aliases 11) 11 IntTy (Def (item 10)) ≡ Answer.equal
  pub aliases_at_ten : compare (aliases 11) 10 IntTy (Def (item 10)) ≡ Answer.spent
  pub circles_at_ten : compare circles 10 (Def (item 1)) (Def (item 0)) ≡ Answer.spent
  pub texts_are_no_numbers : compare prim_env 0 StringTy IntTy ≡ Answer.different []
  -- a type argument is no argument
  pub types_are_no_arguments : compare prim_env 0 (pure_three 1) (pure_three 0) ≡ Answer.different []

-- ---- the core judgement
-- pick : Bool -> (1 h : Int) -> Int; pick True h = h; pick False h = 0
abbrev pub pick : Term → Term
pick b = Lam ω BoolTy (Lam 𝟙 IntTy (node (Form.case ω bool_id 0 1 (0 ∷ 0 ∷ [])) (IntTy ▸ b ▸ var 0 ▸ var 1 ▸ ε)))

-- one : Box -> Int, over a field that is linear; its only branch is missing
abbrev pub missing_field : Term
missing_field = Lam 𝟙 box (node (Form.case 𝟙 (item 0) 0 1 (2 ∷ [])) (IntTy ▸ Trap IntTy ▸ var 0 ▸ ε))

abbrev pub typed_so : Term → Ending Premise (Unit {0}) Inferred
typed_so A = Ending.ok (inferred A [])

abbrev pub fails_so : Rule → ℕ → Ending Premise (Unit {0}) Inferred
fails_so r k = Ending.fails (at r k)

pub record JudgementRows : Type 0 where
  pub identity_typed : within prim_env 0 (infer prim_env Part.run [] (Lam 𝟙 IntTy (var 0))) ≡ typed_so
      (Pi 𝟙 IntTy IntTy)
  -- a linear variable that is not used
  pub dropped : within prim_env 0 (infer prim_env Part.run [] (Lam 𝟙 IntTy (IntLit (pos 3)))) ≡ fails_so rule.Lam 3
  -- in the erased part no use is tested
  pub dropped_erased : within prim_env 0 (infer prim_env Part.erased [] (Lam 𝟙 IntTy (IntLit (pos 3)))) ≡ typed_so
      (Pi 𝟙 IntTy IntTy)
  pub erased_used : within prim_env 0 (infer prim_env Part.run [] (Lam 𝟘 IntTy (var 0))) ≡ fails_so rule.Var 1
  -- linear in one branch alone: the join is many. A Trap leaves the others as they are
  pub one_branch : within prim_env 0 (infer prim_env Part.run [] (pick (IntLit (pos 0)))) ≡ fails_so rule.Lam 3
  pub beside_a_trap : within prim_env 0 (infer prim_env Part.run [] (pick (Trap IntTy))) ≡ typed_so
      (Pi ω BoolTy (Pi 𝟙 IntTy IntTy))
  pub dead_fields : within boxed 0 (infer boxed Part.run [] missing_field) ≡ typed_so (Pi 𝟙 box IntTy)
  pub plus_typed : within naturals 0 (infer naturals Part.run [] (plus_body)) ≡ typed_so (Pi ω nat (Pi ω nat nat))
  pub pred_typed : within predecessors 0 (infer predecessors Part.run [] pred_body) ≡ typed_so (Pi ω nat nat)
  -- a function that is many times used closes the tape as often
  pub closed_by_many : within prim_env 0 (infer prim_env Part.run [] (closing_function ω)) ≡ fails_so rule.Lam 3
  pub closed_by_one : within prim_env 0 (infer prim_env Part.run [] (closing_function 𝟙)) ≡ typed_so io_unit
  pub not_a_function : within prim_env 0 (infer prim_env Part.run [] (App ω (IntLit (pos 3)) (IntLit (pos 4)))) ≡
      fails_so rule.App 1
  pub wrong_argument : within prim_env 0
      (infer prim_env Part.run [] (App 𝟙 (Lam 𝟙 StringTy (var 0)) (IntLit (pos 4)))) ≡ fails_so rule.App 2
  pub pure_typed : within prim_env 0 (infer prim_env Part.run [] (pure_three 1)) ≡ typed_so (IoTy Io.io IntTy)
  pub pure_without_type : within prim_env 0 (infer prim_env Part.run [] (pure_three 0)) ≡ fails_so rule.Act 1
  pub deletion_typed : within prim_env 0 (infer prim_env Part.run [] delete_of_refl) ≡ typed_so IntTy
  -- the first question that is spent is kept
  pub spent_question : within circles 5
      (infer circles Part.run [] (App ω (Lam ω (Def (item 0)) (var 0)) (IntLit (pos 3)))) ≡ Ending.spent tt
      (Question.compared 0 IntTy (Def (item 0)))
