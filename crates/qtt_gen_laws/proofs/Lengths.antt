-- Generated texts are short.
use Rattle.std.proofs.Common.{ℕ, zero, suc, ◌*◌, ◌<◌, ◌≤◌, ◌^◌, ℤ, pos, List, [], ◌∷◌, ◌++◌, length, map, codes, arith, w64, FitsSigned}
use Rattle.std.proofs.lemmas.Fmt.{length-decimal-le, length_signed_le}
use Rattle.std.proofs.lemmas.List.{length-append}
use Rattle.std.specs.Fmt.{decimal, signed_decimal}
use Rattle.qtt_gen.specs.Generated.{below, next, constant, numbered, module_name, function_name, proof_name, value, written, header, import_lines, step_text, side, function_lines, proof_lines, module_text, import_line, put_line, main_text}
use Rattle.qtt_gen_laws.proofs.Values.{value_fits}

-- ---- lines

-- none of the lines has more than 200 bytes
abbrev Short : List (List ℕ) → Type 0
Short [] = Unit {0}
Short (l ∷ ls) = (length l ≤ 200) × Short ls

written_few : (ls : List (List ℕ)) → Short ls → length (written ls) ≤ 201 * length ls
written_few [] h = omega arith
written_few (l ∷ ls) h =
    let f = written_few ls h.1 in
    let e = h.0 in
    omega (arith, e, f, length-append (l ++ 10 ∷ []) (written ls), length-append l (10 ∷ []))

short_append : (ls ms : List (List ℕ)) → Short ls → Short ms → Short (ls ++ ms)
short_append [] ms h k = k
short_append (l ∷ ls) ms h k = (h.0, short_append ls ms h.1 k)

-- ---- names and numbers

decimal_few : (n : ℕ) → n < 2 ^ 64 → length (decimal n) ≤ 20
decimal_few n h = length-decimal-le 20 n (omega arith) (omega (arith, h)) h

pub numbers_few : (i j : ℕ) → i < 2 ^ 64 → j < 2 ^ 64 → length (decimal i ++ codes "x" ++ decimal j) ≤ 41
numbers_few i j h k =
    omega (
      arith,
      decimal_few i h,
      decimal_few j k,
      length-append (decimal i ++ codes "x") (decimal j),
      length-append (decimal i) (codes "x"),
    )

numbered_few : (c i j : ℕ) → i < 2 ^ 64 → j < 2 ^ 64 → length (numbered (c ∷ []) i j) ≤ 42
unfolding numbered
numbered_few c i j h k = omega (arith, numbers_few i j h k)

value_few : (z : ℤ) → FitsSigned w64 z → length (signed_decimal z) ≤ 21
value_few z f = let h = f.sfits in length_signed_le 20 z (omega (arith, h)) h

-- ---- a module

-- what all numbers of a module's text are below
pub record Small (i j : ℕ) : Type 0 where
  pub first : i < 2 ^ 64
  pub second : j < 2 ^ 64
  pub both : constant i j < 2 ^ 64

pub next_small : (j : ℕ) → next j < 2 ^ 64
next_small j = omega arith

header_few : (n : List ℕ) → length n ≤ 42 → length (header n) ≤ 200
header_few n h = omega (arith, h, length-append (codes "module ") n)

import_few : (n : List ℕ) → length n ≤ 42 → length (codes "import " ++ n) ≤ 200
import_few n h = omega (arith, h, length-append (codes "import ") n)

imports_few : (i j : ℕ) → Small i j → Short (import_lines i j)
imports_few zero j s = tt
imports_few (suc i) j s =
    let h = s.first in
    (import_few (module_name i (next j)) (numbered_few 71 i (next j) (omega (arith, h)) (next_small j)), tt)

step_few : (i j : ℕ) → Small i j → length (step_text i j) ≤ 50
step_few i j s =
    omega (arith, decimal_few (constant i j) s.both, length-append (codes "addInt (mulInt x 3) ") (decimal (constant i j)))

applied_few : (f t : List ℕ) → length f ≤ 42 → length t ≤ 50 → length (f ++ codes " (" ++ t ++ codes ")") ≤ 100
applied_few f t h k =
    omega (
      arith,
      h,
      k,
      length-append (f ++ codes " (" ++ t) (codes ")"),
      length-append (f ++ codes " (") t,
      length-append f (codes " ("),
    )

side_few : (i j : ℕ) → Small i j → length (side i j) ≤ 100
side_few zero j s = omega (arith, step_few 0 j s)
side_few (suc i) j s =
    let h = s.first in
    applied_few (function_name i (next j)) (step_text (suc i) j)
    (numbered_few 102 i (next j) (omega (arith, h)) (next_small j)) (step_few (suc i) j s)

typed_few : (f : List ℕ) → length f ≤ 42 → length (f ++ codes " : Int -> Int") ≤ 200
typed_few f h = omega (arith, h, length-append f (codes " : Int -> Int"))

equals_few : (f t : List ℕ) → length f ≤ 42 → length t ≤ 100 → length (f ++ codes " x = " ++ t) ≤ 200
equals_few f t h k = omega (arith, h, k, length-append (f ++ codes " x = ") t, length-append f (codes " x = "))

function_few : (i j : ℕ) → Small i j → Short (function_lines i j)
function_few i j s =
    let f = numbered_few 102 i j s.first s.second in
    (typed_few (function_name i j) f, (equals_few (function_name i j) (side i j) f (side_few i j s), tt))

equation_few : (p f z : List ℕ) → length p ≤ 42 → length f ≤ 42 → length z ≤ 21 →
    length (p ++ codes " : Eq Int (" ++ f ++ codes " 0) " ++ z) ≤ 200
equation_few p f z h k l =
    omega (
      arith,
      h,
      k,
      l,
      length-append (p ++ codes " : Eq Int (" ++ f ++ codes " 0) ") z,
      length-append (p ++ codes " : Eq Int (" ++ f) (codes " 0) "),
      length-append (p ++ codes " : Eq Int (") f,
      length-append p (codes " : Eq Int ("),
    )

refl_few : (p : List ℕ) → length p ≤ 42 → length (p ++ codes " = Refl") ≤ 200
refl_few p h = omega (arith, h, length-append p (codes " = Refl"))

proof_few : (i j : ℕ) → Small i j → Short (proof_lines i j)
proof_few i j s =
    let p = numbered_few 112 i j s.first s.second in (
      equation_few (proof_name i j) (function_name i j) (signed_decimal (value i j (pos 0))) p
          (numbered_few 102 i j s.first s.second) (value_few (value i j (pos 0)) (value_fits i j (pos 0))),
      (refl_few (proof_name i j) p, tt),
    )

few_imports : (i j : ℕ) → length (import_lines i j) ≤ 1
few_imports zero j = omega arith
few_imports (suc i) j = omega arith

pub module_few : (i j : ℕ) → Small i j → length (module_text i j) ≤ 1206
module_few i j s =
    let rest = function_lines i j ++ proof_lines i j in
    let lines = header (module_name i j) ∷ (import_lines i j ++ rest) in
    let h = written_few lines (
      header_few (module_name i j) (numbered_few 71 i j s.first s.second),
      short_append (import_lines i j) rest (imports_few i j s)
          (short_append (function_lines i j) (proof_lines i j) (function_few i j s) (proof_few i j s)),
    ) in
    omega (arith, h, few_imports i j, length-append (import_lines i j) rest)

-- ---- Main

run_few : (f : List ℕ) → length f ≤ 42 → length (codes "  putLine (showInt (" ++ f ++ codes " 1))") ≤ 200
run_few f h = omega (
  arith,
  h,
  length-append (codes "  putLine (showInt (" ++ f) (codes " 1))"),
  length-append (codes "  putLine (showInt (") f,
)

module _ (i : ℕ) (h : i < 2 ^ 64) where
  import_short : (j : ℕ) → j < 2 ^ 64 → length (import_line i j) ≤ 200
  import_short j k = import_few (module_name i j) (numbered_few 71 i j h k)

  put_short : (j : ℕ) → j < 2 ^ 64 → length (put_line i j) ≤ 200
  put_short j k = run_few (function_name i j) (numbered_few 102 i j h k)

  four_short : (line : ℕ → List ℕ) → ((j : ℕ) → j < 2 ^ 64 → length (line j) ≤ 200) → Short (map line (below 4))
  four_short line f = (f 0 (omega arith), (f 1 (omega arith), (f 2 (omega arith), (f 3 (omega arith), tt))))

  pub main_few : length (main_text i) ≤ 2211
  main_few =
      written_few
      (header (codes "Main")
      ∷ (map (import_line i) (below 4) ++ codes "main : IO Unit" ∷ codes "main = do" ∷ map (put_line i) (below 4))) (
        omega arith,
        short_append (map (import_line i) (below 4))
            (codes "main : IO Unit" ∷ codes "main = do" ∷ map (put_line i) (below 4)) (four_short (import_line i) import_short)
            (omega arith, (omega arith, four_short (put_line i) put_short)),
      )
