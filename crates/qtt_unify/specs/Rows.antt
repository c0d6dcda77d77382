-- Worked index equations.
use Rattle.std.specs.Prelude.{◌≡◌, ℕ, [], ◌∷◌}
use Rattle.qtt_usage.specs.declared.mult.Mult.{Mult}
use Rattle.qtt_usage.specs.Mult.{𝟘, 𝟙, ω}
use Rattle.qtt_term.specs.Term.{Form, Term, Terms, var, node, ε, ◌▸◌, Sort, Pi, Def}
use Rattle.qtt_term.specs.Signature.{Family, Env, eq_id, plain_constructor, UnitTy, EqTy, IntTy}
use Rattle.qtt_term.specs.Judgement.{Ctx}
use Rattle.qtt_term.specs.Ask.{Question, Ending, within}
use Rattle.qtt_term.specs.Programs.{item, program, many, nat, nat_family, z, s, plus, plus_body}
use Rattle.qtt_term.specs.Vectors.{vect, vect_family, nil}
use Rattle.qtt_unify.specs.Targets.{Scrutinee}
use Rattle.qtt_unify.specs.Equations.{Verdict, constructor_verdict}
use Rattle.qtt_unify.specs.Problems.{Problem, Solved, solve}

-- data Maybe (a : Type) : Type where Nothing : Maybe a; Just : a -> Maybe a
abbrev pub maybe_family : Family
maybe_family = record {
  params = (𝟘, Sort 0) ∷ [];
  indices = [];
  level = 0;
  constructors = plain_constructor [] ∷ plain_constructor ((ω, var 0) ∷ []) ∷ [];
}

abbrev pub just : Term → Term → Term
just A t = node (Form.con (item 10) 1 1) (A ▸ t ▸ ε)

-- w : Nat; w = S w
abbrev pub w : Term
w = Def (item 8)

-- numbers, vectors, Maybe, plus and w
abbrev pub known : Env
known =
    program ((0, nat_family) ∷ (4, vect_family) ∷ (10, maybe_family) ∷ [])
    ((3, many (Pi ω nat (Pi ω nat nat)) plus_body) ∷ (8, many nat (s w)) ∷ [])

abbrev pub Ended : Type 0
Ended = Ending (Unit {0}) (Unit {0}) Solved

abbrev pub solves : ℕ → Problem → Ended
solves n Q = within known n (solve known tt Q)

abbrev pub ended : Solved → Ended
ended a = Ending.ok a

abbrev pub spends : Question → Ended
spends q = Ending.spent tt q

-- ---- vectors
-- (0 n : Nat), v : Vect Int (S n), (0 k : Nat); the newest variable first
abbrev pub over_vect : Ctx
over_vect = (𝟘, nat) ∷ (ω, vect IntTy (s (var 0))) ∷ (𝟘, nat) ∷ []

-- v is split, where a constructor has this result index
abbrev pub vect_against : Term → Problem
vect_against u = record {
  context = over_vect;
  variable = 1;
  family = item 4;
  params = IntTy ▸ ε;
  indices = s (var 2) ▸ ε;
  results = u ▸ ε;
}

-- ---- equalities
-- n : Nat, m : Nat at this multiplicity, p : Eq Nat a t, against Refl
abbrev pub eq_between : Mult → Term → Term → Problem
eq_between q a t = record {
  context = (ω, EqTy nat a t) ∷ (q, nat) ∷ (ω, nat) ∷ [];
  variable = 0;
  family = eq_id;
  params = nat ▸ a ▸ ε;
  indices = t ▸ ε;
  results = a ▸ ε;
}

-- p : Eq Nat n t
abbrev pub eq_against : Mult → Term → Problem
eq_against q t = eq_between q (var 2) t

-- ---- a family with two indices, both numbers, over four variables, the second of which is split
abbrev pub pair_against : Terms → Terms → Problem
pair_against is us = record {
  context = (ω, nat) ∷ (ω, UnitTy) ∷ (ω, nat) ∷ (ω, nat) ∷ [];
  variable = 1;
  family = item 9;
  params = ε;
  indices = is;
  results = us;
}

abbrev pub double : Term → Term
double n = plus n n

-- ---- a constructor with two fields, of a family with one index, over one variable: under the fields it is variable 2
abbrev pub of_constructor : Term → Term → Ending (Unit {0}) (Unit {0}) Verdict
of_constructor t u =
    let S : Scrutinee = record {
      context = (ω, nat) ∷ [];
      variable = 5;
      params = ε;
      indices = t ▸ ε;
      targets = t ▸ ε;
    } in
    within known 9 (constructor_verdict known tt S 2 (u ▸ ε))

pub record EquationRows : Type 0 where
  pub solved_by_field : solves 0 (vect_against (s (var 0))) ≡ ended (Solved.solution_is ((2, (var 0)) ∷ []))
  pub zero_clashes : solves 0 (vect_against z) ≡ ended Solved.clash_is
  -- a question at its exact count
  pub sum_sticks : solves 3 (vect_against (double (var 0)))
      ≡ ended (Solved.stuck_is (double (var 0)) (s (var 2)))
  pub sum_spent : solves 2 (vect_against (double (var 0)))
      ≡ spends (Question.head_of 3 (double (var 0)))
  -- no head is taken where a variable is solved
  pub sum_solves : solves 0 (eq_against ω (var 1)) ≡ ended (Solved.solution_is ((1, (var 2)) ∷ []))
  pub endless_solves : solves 0 (pair_against (var 3 ▸ var 2 ▸ ε) (w ▸ double (var 0) ▸ ε))
      ≡ ended (Solved.solution_is ((3, w) ∷ (2, (double (var 0))) ∷ []))
  -- a linear variable is not solved, nor one that occurs twice, nor the split one, nor one of a parameter
  pub linear_point : solves 3 (eq_against 𝟙 (var 1)) ≡ ended (Solved.stuck_is (var 2) (var 1))
  pub twice : solves 3 (pair_against (var 3 ▸ var 3 ▸ ε) (z ▸ s z ▸ ε)) ≡ ended (Solved.stuck_is z (var 3))
  pub split_itself : solves 3 (pair_against (var 1 ▸ var 3 ▸ ε) (z ▸ s z ▸ ε)) ≡ ended (Solved.stuck_is z (var 1))
  -- deletion where index and point compare Equal, and the question for that
  pub same_point : solves 3 (eq_against ω (var 2)) ≡ ended Solved.deletion_is
  pub equal_point : solves 0 (eq_against ω (plus z (var 2))) ≡ spends (Question.head_of 3 (plus z (var 2)))
  pub added_point : solves 4 (eq_against ω (plus z (var 2))) ≡ ended Solved.deletion_is
  -- index and point are compared in this order
  pub compared : solves 0 (eq_between 𝟙 w (var 1)) ≡ spends (Question.compared 3 (var 1) w)
  pub other_point : solves 1 (eq_between 𝟙 w (var 1)) ≡ ended (Solved.stuck_is w (var 1))
  -- there is no cycle
  pub next_point : solves 3 (eq_against ω (s (var 2))) ≡ ended (Solved.stuck_is (var 2) (s (var 2)))
  -- an index is read to its end, under one count
  pub endless_index : solves 3 (eq_against ω w) ≡ spends (Question.head_of 3 w)
  -- of several equations one that clashes decides, before one that is stuck and behind it
  pub clash_behind_stuck : solves 9 (pair_against (s (var 3) ▸ s (var 2) ▸ ε) (double (var 0) ▸ z ▸ ε))
      ≡ ended Solved.clash_is
  pub clash_before_stuck : solves 9 (pair_against (s (var 3) ▸ s (var 2) ▸ ε) (z ▸ double (var 0) ▸ ε))
      ≡ ended Solved.clash_is
  pub first_stuck : solves 9 (pair_against (s (var 3) ▸ s (var 2) ▸ ε) (double (var 0) ▸ plus (var 0) z ▸ ε))
      ≡ ended (Solved.stuck_is (double (var 0)) (s (var 3)))
  -- all are read, also behind one that clashes
  pub spent_behind_clash : solves 2 (pair_against (s (var 3) ▸ s (var 2) ▸ ε) (z ▸ double (var 0) ▸ ε))
      ≡ spends (Question.head_of 4 (double (var 0)))
  -- below equal constructors, with the sides as they stand there
  pub nested_clash : solves 0 (pair_against (s (s (var 3)) ▸ var 2 ▸ ε) (s z ▸ z ▸ ε)) ≡ ended Solved.clash_is
  pub nested_stuck : solves 9 (pair_against (s (s (var 3)) ▸ var 2 ▸ ε) (plus (s z) (double (var 0)) ▸ z ▸ ε))
      ≡ ended (Solved.stuck_is (plus z (double (var 0))) (s (var 3)))
  -- an index that is not solvable is kept as it stands, not as it is read
  pub index_as_it_stands : solves 99 (pair_against (var 2 ▸ plus z (double (var 3)) ▸ ε) (z ▸ var 0 ▸ ε))
      ≡ ended (Solved.stuck_is (var 0) (plus z (double (var 3))))
  -- a constructor of a family with indices is not solvable; what stands at a constructor's parameters is not compared
  pub vector_index : solves 0 (pair_against (nil nat ▸ var 2 ▸ ε) (nil nat ▸ z ▸ ε))
      ≡ ended (Solved.stuck_is (nil nat) (nil nat))
  pub parameters_passed : solves 0 (pair_against (just (var 3) (var 2) ▸ z ▸ ε) (just nat (var 0) ▸ z ▸ ε))
      ≡ ended (Solved.solution_is ((2, (var 0)) ∷ []))
  pub also_in_a_parameter : solves 0 (pair_against (just (var 2) (var 2) ▸ z ▸ ε) (just nat (var 0) ▸ z ▸ ε))
      ≡ ended (Solved.stuck_is (just nat (var 0)) (just (var 2) (var 2)))
  -- under the fields of a constructor a target is seen past them
  pub field_solves : of_constructor (s (var 0)) (s (var 1)) ≡ Ending.ok (Verdict.solved ((0, (var 1)) ∷ []))
  pub under_fields : of_constructor (s (var 0)) (var 2) ≡ Ending.ok (Verdict.stuck 3 (var 2) (s (var 2)))
  pub vector_under_fields : of_constructor (vect nat (var 0)) (var 1)
      ≡ Ending.ok (Verdict.stuck 3 (var 1) (vect nat (var 2)))
