-- Worked examples of the readings of indices.
use Rattle.std.specs.Prelude.{◌≡◌, ℕ, pos, [], ◌∷◌, true, false}
use Rattle.qtt_usage.specs.Mult.{ω}
use Rattle.qtt_term.specs.Term.{Term, var, Def, IntLit}
use Rattle.qtt_term.specs.Signature.{Family, Env, plain_constructor, plain_family, line_family, eq_family, IntTy}
use Rattle.qtt_term.specs.Question.{Head, head}
use Rattle.qtt_term.specs.Reading.{is_plain, read}
use Rattle.qtt_term.specs.Ask.{Ending, Question, within}
use Rattle.qtt_term.specs.Premises.{reading_of}
use Rattle.qtt_term.specs.Programs.{item, program, many, added, nat, nat_family, z, s, plus, naturals}
use Rattle.qtt_term.specs.Vectors.{vect, vect_family, nil, cons, vectors}

-- data Nat : Type where Z : Nat; S : Nat -> Nat; w : Nat; w = S w
abbrev pub w : Term
w = Def (item 3)

abbrev pub endless : Env
endless = program ((0, nat_family) ∷ []) ((3, many nat (s w)) ∷ [])

-- data Some : Type where MkSome : (n : Nat) -> Vect Int n -> Some
abbrev pub some_family : Family
some_family = plain_family (plain_constructor ((ω, nat) ∷ (ω, vect IntTy (var 0)) ∷ []) ∷ [])

abbrev pub one_plus_zero : Term
one_plus_zero = plus (s z) z

-- Cons at length plus Z Z and with the element 1 + 2
abbrev pub one_element : Term
one_element = cons IntTy (plus z z) (added (IntLit (pos 1)) (IntLit (pos 2))) (nil IntTy)

abbrev pub kept_question : Question → Ending (Unit {0}) (Unit {0}) Term
kept_question q = Ending.spent tt q

pub record ReadingRows : Type 0 where
  pub numbers_are_plain : is_plain nat_family ≡ true
  pub lines_are_plain : is_plain line_family ≡ true
  -- these have indices
  pub vectors_are_not : is_plain vect_family ≡ false
  pub equalities_are_not : is_plain eq_family ≡ false
  -- a field's type mentions the field before it
  pub some_is_not : is_plain some_family ≡ false
  -- delta, beta, beta and iota at the head, and the same below S
  pub head_in_four : head naturals 4 one_plus_zero ≡ Head.done (s (plus z z)) 4
  pub sum_in_eight : read naturals 8 one_plus_zero ≡ Head.done (s z) 8
  pub sum_in_seven : read naturals 7 one_plus_zero ≡ Head.spent
  -- below a constructor of a family that is not plain nothing is read
  pub vector_in_none : read vectors 0 one_element ≡ Head.done one_element 0
  -- w has a head and no reading, and what is kept is the question for its head
  pub endless_head : head endless 1 w ≡ Head.done (s w) 1
  pub endless_reading : (n : ℕ) → read endless n w ≡ Head.spent
  pub endless_question : within endless 3 (reading_of tt 0 w) ≡ kept_question (Question.head_of 0 w)
