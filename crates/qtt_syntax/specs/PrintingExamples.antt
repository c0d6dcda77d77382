-- Worked examples of printed trees.
use Rattle.std.specs.Prelude.{◌≡◌, ℕ, pos, negsuc, false, List, [], ◌∷◌, map, codes}
use Rattle.qtt_base.specs.declared.place.Span.{Span}
use Rattle.qtt_usage.specs.declared.mult.Mult.TheVariants.{Zero, One, Many}
use Rattle.qtt_syntax.specs.declared.expr.Mark.TheVariants.{Written, Braced}
use Rattle.qtt_syntax.specs.declared.expr.Target.TheVariants.{Unknown}
use Rattle.qtt_syntax.specs.declared.expr.Named.{Named}
use Rattle.qtt_syntax.specs.declared.expr.Local.{Local}
use Rattle.qtt_syntax.specs.Tree.{Tree, Item, arguments, statements, shapes}
use Rattle.qtt_syntax.specs.Tree.Tree.{name, number, universe, apply, pi, letting, doing}
use Rattle.qtt_syntax.specs.Tree.Annotation.{untyped}
use Rattle.qtt_syntax.specs.Tree.Argument.{argument}
use Rattle.qtt_syntax.specs.Tree.Statement.{bind, run}
use Rattle.qtt_syntax.specs.Tree.Shape.{variable, wildcard, constructor}
use Rattle.qtt_syntax.specs.Tree.Param.{param}
use Rattle.qtt_syntax.specs.Tree.Con.{con}
use Rattle.qtt_syntax.specs.Tree.Item.{family, signature, clause}
use Rattle.qtt_syntax.specs.Tree.Module.{module_text}
use Rattle.qtt_syntax.specs.Words.{written}
use Rattle.qtt_syntax.specs.Printing.{expr, printed}

abbrev here : Span
here = record { line = 1; col = 1; len = 1 }

abbrev named : List ℕ → Named
named n = record { path = n; target = Unknown; span = here }

abbrev local : List ℕ → Local
local n = record { name = n; span = here }

abbrev var : List ℕ → Tree
var n = name (named n)

-- a function and its arguments
abbrev call : List ℕ → List Tree → Tree
call f ts = apply (var f) (arguments (map (λ t. argument Written t) ts)) here

abbrev to : Tree → Tree → Tree
to a b = pi Written Many (codes "_") a b here

abbrev int : ℕ → Tree
int n = number (pos n) here

-- ---- a program

abbrev vect : Item
vect =
    family (codes "Vect") here (param Many (codes "a") (universe 0 here here) here ∷ [])
    (to (var (codes "Nat")) (universe 0 here here))
    (con (codes "Nil") (call (codes "Vect") (var (codes "a") ∷ var (codes "Z") ∷ [])) here
    ∷ con (codes "Cons") (pi Written Zero (codes "k") (var (codes "Nat"))
    (pi Written One (codes "x") (var (codes "a"))
    (call (codes "Vect") (var (codes "a") ∷ call (codes "S") (var (codes "k") ∷ []) ∷ [])) here) here) here ∷
    []) here

abbrev total : List Item
total =
    signature false Many (codes "total") here
    (pi Written Zero (codes "n") (var (codes "Nat"))
    (to (call (codes "Vect") (var (codes "Int") ∷ var (codes "n") ∷ [])) (var (codes "Int"))) here) here
    ∷ clause (codes "total") (wildcard Written here ∷ constructor Written (named (codes "Nil")) (shapes []) here ∷
    []) (int 0) here
    ∷ clause (codes "total") (wildcard Written here ∷ constructor Written (named (codes "Cons"))
    (shapes (variable Written (codes "k") here ∷ variable Written (codes "x") here ∷ variable Written
    (codes "xs") here ∷ [])) here ∷ [])
    (call (codes "addInt") (var (codes "x") ∷ call (codes "total") (var (codes "k") ∷ var (codes "xs") ∷ []) ∷
    [])) here ∷ []

-- ---- brackets

-- ---- blocks

abbrev block : Tree
block = doing (statements
    (bind (local (codes "l")) (var (codes "getLine")) ∷ run (call (codes "step") (var (codes "l") ∷ [])) here ∷
    [])) here

-- the examples, computed
pub record PrintingRows : Type 0 where
  pub program : printed (module_text here (codes "Main") here [] (vect ∷ total))
      ≡ codes "module Main\ndata Vect (a : Type) : Nat -> Type where\n  Nil : Vect a Z\n  Cons : (0 k : Nat) -> (1 x : a) -> Vect a (S k)\ntotal : (0 n : Nat) -> Vect Int n -> Int\ntotal _ Nil = 0\ntotal _ (Cons k x xs) = addInt x (total k xs)\n"
  -- brackets stay where the tree needs them
  pub domain_in_brackets : written (expr 0 (to (to (var (codes "a")) (var (codes "b"))) (var (codes "c")))) ≡ codes
      "(a -> b) -> c"
  pub not_flattened : written
      (expr 0 (apply (call (codes "f") (var (codes "a") ∷ [])) (arguments (argument Written (var (codes "b")) ∷ []))
      here)) ≡ codes "(f a) b"
  pub name_kept : written (expr 0 (pi Written Zero (codes "_") (var (codes "a")) (var (codes "b")) here)) ≡ codes
      "(0 _ : a) -> b"
  -- `Type` would take the number behind it
  pub level_shown : written
      (expr 0 (call (codes "f") (universe 0 here here ∷ int 5 ∷ universe 0 here here ∷ universe 2 here here ∷ [])))
      ≡ codes "f Type 0 5 Type Type 2"
  -- `{-` would open a comment
  pub negative_in_braces : written
      (expr 0 (apply (var (codes "f"))
      (arguments (argument Braced (number (negsuc 4) here) ∷ argument Braced (var (codes "x")) ∷ [])) here)) ≡ codes
      "f { -5} {x}"
  pub block_on_lines : written (expr 0 block) ≡ codes "do\n  l <- getLine\n  step l"
  -- `in` ends the block one column right of the enclosing one
  pub block_ended : written (expr 0 (letting Many (local (codes "x")) untyped block (var (codes "x")) here)) ≡ codes
      "let x = do\n  l <- getLine\n  step l\n in x"
  -- a bracket ends the block where it stands
  pub block_in_brackets : written (expr 2 (call (codes "f") (block ∷ var (codes "y") ∷ []))) ≡ codes
      "f (do\n    l <- getLine\n    step l) y"
  pub block_in_braces : written (expr 0 (apply (var (codes "f")) (arguments (argument Braced block ∷ [])) here)) ≡
      codes "f {do\n  l <- getLine\n  step l\n }"
