-- Further programs as environments, as the worked programs of core terms are; and what it is to be a program with
-- this main.
use Rattle.std.specs.Prelude.{ℕ, ℤ, pos, negsuc, List, [], ◌∷◌, codes, true}
use Rattle.qtt_base.specs.declared.place.GlobalId.{GlobalId}
use Rattle.qtt_usage.specs.Mult.{𝟘, 𝟙, ω}
use Rattle.qtt_prims.specs.declared.prim.Primitive.TheVariants as prim
use Rattle.qtt_term.specs.Term.{Form, Term, var, node, ε, ◌▸◌, Sort, Pi, Lam, App, Fam, Delete, Def, IntLit, TextLit, Call}
use Rattle.qtt_term.specs.Signature.{Family, Definition, Env, bool_id, plain_constructor, plain_family, BoolTy, truth, EqTy, IntTy, StringTy}
use Rattle.qtt_term.specs.Environment.{WellFormed, Complete, IsMain}
use Rattle.qtt_term.specs.Programs.{item, program, many, io_unit, put, shown, divided, added, then_do, closing_function}

-- a well-formed and complete environment in which this is a main
pub record IsRunnable (E : Env) (main : GlobalId) : Type 0 where
  pub formed : WellFormed E
  pub complete : Complete E
  pub is_main : IsMain E main

-- main = do putLine "a"; putLine "b"
abbrev pub two_lines_items : List (ℕ × Definition)
two_lines_items = (0, many io_unit (then_do (put (TextLit (codes "a"))) (put (TextLit (codes "b"))))) ∷ []

abbrev pub two_lines : Env
two_lines = program [] two_lines_items

-- MkBox (divInt 1 0) 4
abbrev pub filled_box : Term
filled_box = node (Form.con (item 0) 0 0) (divided (IntLit (pos 1)) (IntLit (pos 0)) ▸ IntLit (pos 4) ▸ ε)

-- divInt -9223372036854775808 -1
abbrev pub least_by_minus_one : Term
least_by_minus_one = divided (IntLit (negsuc 9223372036854775807)) (IntLit (negsuc 0))

-- addInt 9223372036854775807 1
abbrev pub greatest_and_one : Term
greatest_and_one = added (IntLit (pos 9223372036854775807)) (IntLit (pos 1))

-- data Tree : Type where Leaf : Tree; Node : Tree -> Tree -> Tree
abbrev pub tree : Term
tree = Fam (item 0) ε

abbrev pub leaf : Term
leaf = node (Form.con (item 0) 0 0) ε

abbrev pub fork : Term → Term → Term
fork a b = node (Form.con (item 0) 1 0) (a ▸ b ▸ ε)

abbrev pub tree_family : Family
tree_family = plain_family (plain_constructor [] ∷ plain_constructor ((ω, tree) ∷ (ω, tree) ∷ []) ∷ [])

-- dbl : Tree -> Tree; dbl t = Node t t
abbrev pub doubled : Term
doubled = Lam ω tree (fork (var 0) (var 0))

-- four : (Tree -> Tree) -> Tree -> Tree; four f t = f (f (f (f t)))
abbrev pub twice : Term → Term
twice t = App ω (var 1) (App ω (var 1) t)

abbrev pub four_times : Term
four_times = Lam ω (Pi ω tree tree) (Lam ω tree (twice (twice (var 0))))

-- left : Tree -> Int; left Leaf = 0; left (Node a b) = addInt 1 (left a)
abbrev pub left_depth : Term
left_depth =
    Lam ω tree (node (Form.case ω (item 0) 0 1 (0 ∷ 2 ∷ []))
    (IntTy ▸ IntLit (pos 0) ▸ added (IntLit (pos 1)) (App ω (Def (item 5)) (var 1)) ▸ var 0 ▸ ε))

-- four f
abbrev pub four : Term → Term
four f = App ω (Def (item 4)) f

-- Tree, dbl, four and left; main = putLine (showInt (left (four (four (four dbl)) Leaf)))
abbrev pub depth_of_doubled : Term
depth_of_doubled = put (shown (App ω (Def (item 5)) (App ω (four (four (four (Def (item 3))))) leaf)))

abbrev pub doubling_items : List (ℕ × Definition)
doubling_items =
    (3, many (Pi ω tree tree) doubled)
    ∷ (4, many (Pi ω (Pi ω tree tree) (Pi ω tree tree)) four_times)
    ∷ (5, many (Pi ω tree IntTy) left_depth)
    ∷ (6, many io_unit depth_of_doubled) ∷ []

abbrev pub doubling : Env
doubling = program ((0, tree_family) ∷ []) doubling_items

-- an Int for False and one for True, by a match on a Bool
abbrev pub choice : Term → Term → Term → Term
choice f t b = node (Form.case ω bool_id 0 1 (0 ∷ 0 ∷ [])) (IntTy ▸ f ▸ t ▸ b ▸ ε)

-- count : Int -> Int; count n is 0 where ltInt n 1, and else count (subInt n 1); main = putLine (showInt (count
-- turns))
abbrev pub counted_down : Term
counted_down =
    Lam ω IntTy
    (choice (App ω (Def (item 0)) (Call prim.SubInt (var 0 ▸ IntLit (pos 1) ▸ ε))) (IntLit (pos 0))
    (Call prim.LtInt (var 0 ▸ IntLit (pos 1) ▸ ε)))

abbrev pub counting_items : ℤ → List (ℕ × Definition)
counting_items turns =
    (0, many (Pi ω IntTy IntTy) counted_down)
    ∷ (1, many io_unit (put (shown (App ω (Def (item 0)) (IntLit turns))))) ∷ []

abbrev pub counting : ℤ → Env
counting turns = program [] (counting_items turns)

-- data Same (x : Type) : Type -> Type where MkSame : Same x x
abbrev pub same : Term → Term → Term
same a b = Fam (item 0) (a ▸ b ▸ ε)

abbrev pub same_family : Family
same_family = record {
  params = (𝟘, Sort 0) ∷ [];
  indices = Sort 0 ∷ [];
  level = 0;
  constructors = record { fields = []; results = var 0 ▸ ε } ∷ [];
}

-- cast : (0 a : Type) -> (0 b : Type) -> (p : Same a b) -> a -> b; cast a _ MkSame x = x
abbrev pub cast_type : Term
cast_type = Pi 𝟘 (Sort 0) (Pi 𝟘 (Sort 0) (Pi ω (same (var 1) (var 0)) (Pi ω (var 2) (var 2))))

abbrev pub cast_body : Term
cast_body =
    Lam 𝟘 (Sort 0) (Lam 𝟘 (Sort 0) (Lam ω (same (var 1) (var 0)) (Lam ω (var 2)
    (node (Form.case ω (item 0) 1 2 (0 ∷ [])) (var 3 ▸ var 1 ▸ var 0 ▸ var 1 ▸ ε)))))

-- cast a b p x
abbrev pub cast : Term → Term → Term → Term → Term
cast a b p x = App ω (App ω (App 𝟘 (App 𝟘 (Def (item 3)) a) b) p) x

-- Same and cast; bad : Same Int String; bad = bad; main = putLine (cast Int String bad 3)
abbrev pub false_proof_items : List (ℕ × Definition)
false_proof_items =
    (2, many (same IntTy StringTy) (Def (item 2)))
    ∷ (3, many cast_type cast_body)
    ∷ (4, many io_unit (put (cast IntTy StringTy (Def (item 2)) (IntLit (pos 3))))) ∷ []

abbrev pub false_proof : Env
false_proof = program ((0, same_family) ∷ []) false_proof_items

-- main = do h <- open "a"; let 1 f : Unit -> IO Unit = \u => close h; f MkUnit
abbrev pub closing_later_items : List (ℕ × Definition)
closing_later_items = (0, many io_unit (closing_function 𝟙)) ∷ []

abbrev pub closing_later : Env
closing_later = program [] closing_later_items

-- f : Bool -> Bool -> Int; f True b = 1; f a True = 2; f a b = 3; main = putLine (showInt (f True True))
abbrev pub overlapping_body : Term
overlapping_body = Lam ω BoolTy
    (Lam ω BoolTy (choice (choice (IntLit (pos 3)) (IntLit (pos 2)) (var 0)) (IntLit (pos 1)) (var 1)))

abbrev pub overlapping_items : List (ℕ × Definition)
overlapping_items =
    (0, many (Pi ω BoolTy (Pi ω BoolTy IntTy)) overlapping_body)
    ∷ (1, many io_unit (put (shown (App ω (App ω (Def (item 0)) (truth true)) (truth true))))) ∷ []

abbrev pub overlapping : Env
overlapping = program [] overlapping_items

-- f : (0 a : Type) -> (0 x : a) -> (p : Eq a x x) -> Int; f a x Refl = 1
abbrev pub deleting_type : Term
deleting_type = Pi 𝟘 (Sort 0) (Pi 𝟘 (var 0) (Pi ω (EqTy (var 1) (var 0) (var 0)) IntTy))

abbrev pub deleting_body : Term
deleting_body = Lam 𝟘 (Sort 0)
    (Lam 𝟘 (var 0) (Lam ω (EqTy (var 1) (var 0) (var 0))
    (Delete ω (var 2) (var 1) IntTy (IntLit (pos 1)) (var 0))))
