-- Worked examples of strict positivity: the first bad field.
use Rattle.std.specs.Prelude.{◌≡◌, [], ◌∷◌, Some, None}
use Rattle.qtt_usage.specs.Mult.{𝟘, 𝟙, ω}
use Rattle.qtt_term.specs.Term.{Form, Term, var, node, ε, ◌▸◌, Sort, Pi, Lam, Fam}
use Rattle.qtt_term.specs.Signature.{Family, plain_constructor, plain_family, IntTy, StringTy}
use Rattle.qtt_term.specs.Programs.{item, nat_family}
use Rattle.qtt_term.specs.PositivityRows.{itself, over, list_of}
use Rattle.qtt_term.specs.Vectors.{vect_family}
use Rattle.qtt_positive.specs.FirstBad.{first_bad}

-- D -> Int
abbrev pub consumer : Term
consumer = Pi ω itself IntTy

-- A : Int -> D; B : (1 x : D) -> (D -> Int) -> D; C : (D -> Int) -> D
abbrev pub three : Family
three =
    plain_family (plain_constructor ((ω, IntTy) ∷ []) ∷ plain_constructor ((𝟙, itself) ∷ (ω, consumer) ∷ [])
    ∷ plain_constructor ((ω, consumer) ∷ []) ∷ [])

-- the family at one index
abbrev pub at_index : Term → Term
at_index A = Fam (item 0) (A ▸ ε)

-- a constructor without fields
abbrev pub con_of : Term
con_of = node (Form.con (item 0) 0 0) ε

-- a Case of the family with one branch, which gives a type
abbrev pub case_of : Term → Term
case_of s = node (Form.case ω (item 0) 0 1 (0 ∷ [])) (Sort 0 ▸ IntTy ▸ s ▸ ε)

pub record FirstBadRows : Type 0 where
  -- data Nat : Type where Z : Nat; S : Nat -> Nat
  pub numbers : first_bad (item 0) nat_family ≡ None
  pub vectors : first_bad (item 4) vect_family ≡ None
  -- data Bad : Type where Mk : (Bad -> Int) -> Bad
  pub in_a_domain : first_bad (item 0) (over consumer) ≡ Some (0, 0)
  -- data Big : Type where Mk : Type -> Big: too large, but positive
  pub too_large : first_bad (item 0) (over (Sort 0)) ≡ None
  -- Mk : ((D -> Int) -> Int) -> D: left of two arrows it stands in a domain too
  pub in_a_domain_of_a_domain : first_bad (item 0) (over (Pi ω consumer IntTy)) ≡ Some (0, 0)
  -- Mk : (Int -> String -> D) -> D
  pub behind_arrows : first_bad (item 0) (over (Pi ω IntTy (Pi ω StringTy itself))) ≡ None
  -- Mk : (Int -> D -> D) -> D: the domain behind an arrow
  pub in_a_later_domain : first_bad (item 0) (over (Pi ω IntTy (Pi ω itself itself))) ≡ Some (0, 0)
  -- Mk : List D -> D
  pub in_another_family : first_bad (item 0) (over (list_of itself)) ≡ Some (0, 0)
  -- Mk : D Int -> D Int, and Mk : D (D Int) -> D Int
  pub at_its_arguments : first_bad (item 0) (over (at_index IntTy)) ≡ None
  pub in_its_arguments : first_bad (item 0) (over (at_index (at_index IntTy))) ≡ Some (0, 0)
  -- a constructor and a Case of the family are occurrences too
  pub by_a_constructor : first_bad (item 0) (over (list_of con_of)) ≡ Some (0, 0)
  pub by_a_case : first_bad (item 0) (over (Lam 𝟘 IntTy (case_of (var 0)))) ≡ Some (0, 0)
  -- another family of the same constructors is not looked for
  pub another_family : first_bad (item 1) (over consumer) ≡ None
  -- the first of three constructors is good, and so is the first field of the second
  pub first_of_several : first_bad (item 0) three ≡ Some (1, 1)
