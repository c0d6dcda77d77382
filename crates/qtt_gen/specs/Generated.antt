-- The generated modules. For each i below a number and each j below 4 there is a module, as `G6x0` for i = 6 and
-- j = 0, whose function goes on by that of a module of i - 1; and there is `Main`, which runs the last four.
use Rattle.std.specs.Prelude.{ℕ, zero, suc, ◌+◌, ◌*◌, ◌-◌, ◌%◌, ℤ, pos, List, [], ◌∷◌, ◌++◌, map, flat_map, codes}
use Rattle.std.specs.Fmt.{decimal, signed_decimal}
use Rattle.std.specs.Int.{w64, int_wrapping_add, int_wrapping_mul}

-- the numbers below n
abbrev pub below : ℕ → List ℕ
below zero = []
below (suc n) = below n ++ n ∷ []

abbrev pub next : ℕ → ℕ
next j = (j + 1) % 4

-- ---- names: `G6x0`, `f6x0` and `p6x0`
unfoldable pub numbered : List ℕ → ℕ → ℕ → List ℕ
numbered letter i j = letter ++ decimal i ++ codes "x" ++ decimal j

abbrev pub module_name : ℕ → ℕ → List ℕ
module_name = numbered (codes "G")

abbrev pub function_name : ℕ → ℕ → List ℕ
function_name = numbered (codes "f")

abbrev pub proof_name : ℕ → ℕ → List ℕ
proof_name = numbered (codes "p")

abbrev pub constant : ℕ → ℕ → ℕ
constant i j = 4 * i + j

-- ---- values, wrapping at 64 bits
abbrev pub step : ℕ → ℕ → ℤ → ℤ
step i j x = int_wrapping_add w64 (int_wrapping_mul w64 x (pos 3)) (pos (constant i j))

-- the function of a module at x
abbrev pub value : ℕ → ℕ → ℤ → ℤ
value zero j x = step 0 j x
value (suc i) j x = value i (next j) (step (suc i) j x)

-- ---- texts, line by line
abbrev pub written : List (List ℕ) → List ℕ
written = flat_map (λ line. line ++ 10 ∷ [])

abbrev pub header : List ℕ → List ℕ
header name = codes "module " ++ name

-- what goes on by the function of the module below, where there is one
abbrev pub import_lines : ℕ → ℕ → List (List ℕ)
import_lines zero j = []
import_lines (suc i) j = (codes "import " ++ module_name i (next j)) ∷ []

abbrev pub step_text : ℕ → ℕ → List ℕ
step_text i j = codes "addInt (mulInt x 3) " ++ decimal (constant i j)

abbrev pub side : ℕ → ℕ → List ℕ
side zero j = step_text 0 j
side (suc i) j = function_name i (next j) ++ codes " (" ++ step_text (suc i) j ++ codes ")"

abbrev pub function_lines : ℕ → ℕ → List (List ℕ)
function_lines i j =
    let f = function_name i j in
    (f ++ codes " : Int -> Int")
    ∷ (f ++ codes " x = " ++ side i j) ∷ []

abbrev pub proof_lines : ℕ → ℕ → List (List ℕ)
proof_lines i j =
    let p = proof_name i j in
    (p ++ codes " : Eq Int (" ++ function_name i j ++ codes " 0) " ++ signed_decimal (value i j (pos 0)))
    ∷ (p ++ codes " = Refl") ∷ []

abbrev pub module_text : ℕ → ℕ → List ℕ
module_text i j =
    written (header (module_name i j) ∷ (import_lines i j ++ (function_lines i j ++ proof_lines i j)))

abbrev pub import_line : ℕ → ℕ → List ℕ
import_line i j = codes "import " ++ module_name i j

abbrev pub put_line : ℕ → ℕ → List ℕ
put_line i j = codes "  putLine (showInt (" ++ function_name i j ++ codes " 1))"

-- over the modules of the greatest i
abbrev pub main_text : ℕ → List ℕ
main_text i =
    written (header (codes "Main")
    ∷ (map (import_line i) (below 4) ++ codes "main : IO Unit" ∷ codes "main = do" ∷ map (put_line i) (below 4)))

-- ---- all of them, each with its name
abbrev pub module_at : ℕ → ℕ → List ℕ × List ℕ
module_at i j = (module_name i j, module_text i j)

abbrev pub modules_of : ℕ → List (List ℕ × List ℕ)
modules_of i = map (module_at i) (below 4)

-- in order of i and then j, with Main last; for numbers from 1 on
abbrev pub generated : ℕ → List (List ℕ × List ℕ)
generated n = flat_map modules_of (below n) ++ (codes "Main", main_text (n - 1)) ∷ []
