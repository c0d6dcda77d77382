-- Worked examples of builds: modules by rank with their numbers, and where a build stops.
use Rattle.std.specs.Prelude.{◌≡◌, ℕ, false, List, [], ◌∷◌, ◌++◌, map, codes, Ok, Err}
use Rattle.qtt_base.specs.declared.place.Span.{Span}
use Rattle.qtt_usage.specs.Mult.{ω}
use Rattle.qtt_syntax.specs.declared.expr.Target.TheVariants.{Unknown}
use Rattle.qtt_syntax.specs.Tree.{Tree, Item, Module}
use Rattle.qtt_syntax.specs.Tree.Item.{signature, clause}
use Rattle.qtt_syntax.specs.Tree.Module.{module_text}
use Rattle.qtt_graph.specs.Graph.{Name}
use Rattle.qtt_graph.specs.Rows.{at, A, B, C, D, M}
use Rattle.qtt_diag.specs.Messages.{message}
use Rattle.qtt_load.specs.Rows.{text, stored, tree, round}
use Rattle.qtt_build.specs.Built.{Built}
use Rattle.qtt_build.specs.Build.{Stop, Outcome, build}

-- ---- what is read off an outcome
abbrev pub of_stop : Stop → List ℕ
of_stop (Stop.absent a) = codes "no module " ++ a
of_stop (Stop.refused r) = message r.kept

-- each module with its number, in the order in which they are built
abbrev pub numbers : Outcome Built → Outcome (List (Name × ℕ))
numbers (Ok X) = Ok (map (λ a. (a.exports.name, a.exports.home.0)) X.order)
numbers (Err s) = Err s

-- the line that is told of a refusal
abbrev pub line : Outcome Built → List ℕ
line (Ok X) = []
line (Err s) = of_stop s

-- ---- two wrong modules
abbrev pub P : Name
P = codes "P"

abbrev pub Q : Name
Q = codes "Q"

abbrev pub place : ℕ → ℕ → Span
place l c = record { line = l; col = c; len = 1 }

abbrev pub word : List ℕ → Span → Tree
word n s = Tree.name (record { path = n; target = Unknown; span = s })

-- x : Int
abbrev pub x_signed : Item
x_signed = signature false ω (codes "x") (place 2 1) (word (codes "Int") (place 2 5)) (place 2 1)

-- x : Int; x = "a"
abbrev pub mistyped : Module
mistyped =
    module_text (at 1) P (at 1) []
    (x_signed ∷ clause (codes "x") [] (Tree.text (codes "a") (place 3 5)) (place 3 1) ∷ [])

-- x : Int, without clauses
abbrev pub bare : Module
bare = module_text (at 1) Q (at 1) [] (x_signed ∷ [])

pub record BuildRows : Type 0 where
  -- Main imports C and B, C imports A and D, D imports A
  pub in_order : numbers (build (stored tree) M 10)
      ≡ Ok ((A, 1) ∷ (B, 2) ∷ (D, 3) ∷ (C, 4) ∷ (M, 5) ∷ [])
  pub not_there : numbers (build (stored (text A (B ∷ C ∷ []) ∷ text B (D ∷ []) ∷ [])) A 10) ≡ Err (Stop.absent C)
  pub ring : line (build (stored round) A 10) ≡ codes "A:2:1: 33 Cycle A B C"
  -- two modules of one rank are wrong; the first by name is told, whichever is read first
  pub first_told : line (build (stored (text M (P ∷ Q ∷ []) ∷ mistyped ∷ bare ∷ [])) M 10)
      ≡ codes "P:3:5: 16 TypeMismatch expected Int found String"
  pub read_later : line (build (stored (text M (Q ∷ P ∷ []) ∷ mistyped ∷ bare ∷ [])) M 10)
      ≡ codes "P:3:5: 16 TypeMismatch expected Int found String"
  pub alone : line (build (stored (text M (Q ∷ []) ∷ bare ∷ [])) M 10) ≡ codes "Q:2:1: 29 NoClauses x"
