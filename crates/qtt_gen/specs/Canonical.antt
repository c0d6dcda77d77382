-- The generated texts as trees: what the printer writes of them is what is generated.
use Rattle.std.specs.Prelude.{ℕ, zero, suc, ℤ, pos, false, List, [], ◌∷◌, ◌++◌, map, codes}
use Rattle.qtt_base.specs.declared.place.Span.{Span}
use Rattle.qtt_usage.specs.Mult.{ω}
use Rattle.qtt_syntax.specs.declared.expr.Mark.TheVariants.{Written}
use Rattle.qtt_syntax.specs.declared.expr.Target.TheVariants.{Unknown}
use Rattle.qtt_syntax.specs.declared.module.Import.{Import}
use Rattle.qtt_syntax.specs.Tree.{Tree, Item, Module, arguments, statements}
use Rattle.qtt_syntax.specs.Tree.Tree.{name, number, apply, pi, doing}
use Rattle.qtt_syntax.specs.Tree.Argument.{argument}
use Rattle.qtt_syntax.specs.Tree.Statement.{run}
use Rattle.qtt_syntax.specs.Tree.Shape.{variable}
use Rattle.qtt_syntax.specs.Tree.Item.{signature, clause}
use Rattle.qtt_syntax.specs.Tree.Module.{module_text as tree}
use Rattle.qtt_gen.specs.Generated.{below, next, constant, module_name, function_name, proof_name, value}

abbrev pub nowhere : Span
nowhere = record { line = 0; col = 0; len = 0 }

abbrev pub used : List ℕ → Tree
used n = name (record { path = n; target = Unknown; span = nowhere })

abbrev pub call : List ℕ → List Tree → Tree
call f ts = apply (used f) (arguments (map (λ t. argument Written t) ts)) nowhere

abbrev pub literal : ℤ → Tree
literal z = number z nowhere

abbrev pub int : Tree
int = used (codes "Int")

abbrev pub typed : List ℕ → Tree → Item
typed n t = signature false ω n nowhere t nowhere

abbrev pub imports : List (List ℕ) → List Import
imports = map (λ n. record { name = n; span = nowhere })

abbrev pub tree_of_step : ℕ → ℕ → Tree
tree_of_step i j =
    call (codes "addInt")
    (call (codes "mulInt") (used (codes "x") ∷ literal (pos 3) ∷ []) ∷ literal (pos (constant i j)) ∷ [])

abbrev pub import_names : ℕ → ℕ → List (List ℕ)
import_names zero j = []
import_names (suc i) j = module_name i (next j) ∷ []

abbrev pub tree_of_side : ℕ → ℕ → Tree
tree_of_side zero j = tree_of_step 0 j
tree_of_side (suc i) j = call (function_name i (next j)) (tree_of_step (suc i) j ∷ [])

abbrev pub function_items : ℕ → ℕ → List ℕ → List Item
function_items i j f =
    typed f (pi Written ω (codes "_") int int nowhere)
    ∷ clause f (variable Written (codes "x") nowhere ∷ []) (tree_of_side i j) nowhere ∷ []

abbrev pub proof_type : ℤ → List ℕ → List ℕ → Item
proof_type v f p = typed p (call (codes "Eq") (int ∷ call f (literal (pos 0) ∷ []) ∷ literal v ∷ []))

abbrev pub proof_items : ℤ → List ℕ → List ℕ → List Item
proof_items v f p =
    proof_type v f p
    ∷ clause p [] (used (codes "Refl")) nowhere ∷ []

abbrev pub module_tree : ℕ → ℕ → Module
module_tree i j =
    let f = function_name i j in
    tree nowhere (module_name i j) nowhere (imports (import_names i j))
    (function_items i j f ++ proof_items (value i j (pos 0)) f (proof_name i j))

-- putLine (showInt (f 1))
abbrev pub tree_of_line : List ℕ → Tree
tree_of_line f =
    call (codes "putLine") (call (codes "showInt") (call f (literal (pos 1) ∷ []) ∷ []) ∷ [])

abbrev pub main_clause : List (List ℕ) → Item
main_clause fs =
    clause (codes "main") [] (doing (statements (map (λ f. run (tree_of_line f) nowhere) fs)) nowhere) nowhere

abbrev pub main_items : List (List ℕ) → List Item
main_items fs = typed (codes "main") (call (codes "IO") (used (codes "Unit") ∷ [])) ∷ main_clause fs ∷ []

abbrev pub main_tree : ℕ → Module
main_tree i =
    tree nowhere (codes "Main") nowhere (imports (map (module_name i) (below 4)))
    (main_items (map (function_name i) (below 4)))
