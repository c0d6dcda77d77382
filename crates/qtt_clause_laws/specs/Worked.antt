-- The clause law, worked: two vectors of one number each are appended; and a place is solved.
use Rattle.std.specs.Prelude.{◌≡◌, ℕ, zero, suc, pos, Some}
use Rattle.qtt_usage.specs.Mult.{ω}
use Rattle.qtt_syntax.specs.Tree.{shapes}
use Rattle.qtt_term.specs.Term.{Form, Term, Terms, node, ε, ◌▸◌, App, IntLit}
use Rattle.qtt_term.specs.Substitution.{sub, closed}
use Rattle.qtt_term.specs.Signature.{IntTy}
use Rattle.qtt_term.specs.Contraction.{Conv}
use Rattle.qtt_term.specs.Programs.{item, z, s, plus}
use Rattle.qtt_term.specs.Vectors.{nil, cons, append, append_type, append_body}
use Rattle.qtt_term.specs.Entries.{Entries, env, with_body}
use Rattle.qtt_match.specs.Match.{first_match, all_parts}
use Rattle.qtt_split.specs.Group.{body_of}
use Rattle.qtt_split.specs.Fragment.{fragment}
use Rattle.qtt_split.specs.Programs.{append_items, append_clauses, append_defined, ix_items, keeps_defined}
use Rattle.qtt_split.specs.Laws.{AllDeep, Reaches, all_patterns, applied_to, answers_within}
use Rattle.qtt_split.specs.Plan.{patterns_at}
use Rattle.qtt_split.specs.Rows.{append_binders}
use Rattle.qtt_split.specs.Bodies.{pair, keeps_body}
use Rattle.qtt_clause_laws.specs.Accepted.{Takes, AcceptedBody, GoesOnAs, BodyGoesOn}

-- the environment in which append has this body
abbrev pub with_append : Entries
with_append = with_body (item 7) append_body append_items

-- Cons Z 5 Nil and Cons Z 6 Nil
abbrev pub vector_of : ℕ → Term
vector_of n = cons IntTy z (IntLit (pos n)) (nil IntTy)

-- append Int (S Z) (S Z) (Cons Z 5 Nil) (Cons Z 6 Nil)
abbrev pub two_vectors : Terms
two_vectors = IntTy ▸ s z ▸ s z ▸ vector_of 5 ▸ vector_of 6 ▸ ε

-- Cons (plus Z (S Z)) 5 (append Int Z (S Z) Nil (Cons Z 6 Nil))
abbrev pub reached : Term
reached = cons IntTy (plus z (s z)) (IntLit (pos 5)) (append IntTy z (s z) (nil IntTy) (vector_of 6))

pub record AppendWorked : Type 0 where
  -- the body is accepted, so the laws hold of it
  pub accepted : answers_within (env append_items) 100 (body_of (fragment append_items) append_defined) append_body
  pub laws : AcceptedBody (answers_within (env append_items) 100) (fragment append_items) append_defined append_body
  -- the premises: these are values of append's argument types
  pub deep : AllDeep (env with_append) two_vectors
  pub takes : Takes (env with_append) (sub closed append_type) two_vectors
  -- the second clause is the first that fits, and its pattern variables and wildcards stand for these parts
  pub fits : first_match with_append.families (all_patterns append_clauses) two_vectors ≡ Some 1
  pub parts : all_parts (shapes (patterns_at append_clauses 1)) two_vectors ≡
      IntTy ▸ s z ▸ s z ▸ z ▸ IntLit (pos 5) ▸ nil IntTy ▸ vector_of 6 ▸ ε
  -- what the law says
  pub goes_on : BodyGoesOn laws.made with_append (Conv (env with_append)) two_vectors
  pub applied : GoesOnAs laws.made with_append (Conv (env with_append))
      (append IntTy (s z) (s z) (vector_of 5) (vector_of 6)) two_vectors
  -- and what is computed: the right side of the second clause, over these parts
  pub reaches : Reaches (env with_append) (applied_to append_body append_binders two_vectors) reached

-- ---- f : P -> P; f (MkP n Zero) = MkP Z Zero; f y = y
-- the second clause is reached where the second field is Other c; then n is solved by plus c c
abbrev pub number : ℕ → Term
number zero = z
number (suc n) = s (number n)

abbrev pub other : Term → Term
other c = node (Form.con (item 4) 1 0) (c ▸ ε)

-- MkP (S (S Z)) (Other (S Z))
abbrev pub two_and_one : Term
two_and_one = pair (number 2) (other (s z))

pub record SolvedWorked : Type 0 where
  pub accepted : answers_within (env ix_items) 100 (body_of (fragment ix_items) keeps_defined) keeps_body
  pub laws : AcceptedBody (answers_within (env ix_items) 100) (fragment ix_items) keeps_defined keeps_body
  pub deep : AllDeep (env ix_items) (two_and_one ▸ ε)
  pub takes : Takes (env ix_items) (sub closed keeps_defined.type) (two_and_one ▸ ε)
  pub fits : first_match ix_items.families (all_patterns keeps_defined.group.clauses) (two_and_one ▸ ε) ≡ Some 1
  pub goes_on : BodyGoesOn laws.made ix_items (Conv (env ix_items)) (two_and_one ▸ ε)
  -- y stands for the value in which the solved place holds its solution, plus (S Z) (S Z) for S (S Z)
  pub reaches : Reaches (env ix_items) (App ω keeps_body two_and_one) (pair (plus (s z) (s z)) (other (s z)))
