-- The slots of the binders in braces, solved or not.
use Rattle.std.specs.Prelude.{◌≡◌, ℕ, ◌-◌, min, List, [], ◌∷◌, Option, Some, None, sum_by}
use Rattle.qtt_base.specs.declared.place.Span.{Span}
use Rattle.qtt_syntax.specs.Tree.{Tree, Argument, Arguments}
use Rattle.qtt_syntax.specs.Tree.Arguments.{argument_and}
use Rattle.qtt_names.specs.Exports.{Sig}
use Rattle.qtt_implicit.specs.Walk.{behind_binders, binder_names, slot_argument, inserted_nodes}

-- the first binder whose slot is not filled
abbrev pub first_unsolved : List (List ℕ) → List (Option Tree) → Option (List ℕ)
first_unsolved [] ts = None
first_unsolved (x ∷ xs) [] = None
first_unsolved (x ∷ xs) (None ∷ ts) = Some x
first_unsolved (x ∷ xs) (Some t ∷ ts) = first_unsolved xs ts

-- the arguments in the slots that are filled, up to the first that is not
abbrev pub solved : Span → ℕ → List (List ℕ) → List (Option Tree) → List Argument
solved s k [] ts = []
solved s k (x ∷ xs) [] = []
solved s k (x ∷ xs) (None ∷ ts) = []
solved s k (x ∷ xs) (Some t ∷ ts) = slot_argument s k t ∷ solved s (k - 1) xs ts

-- so many nodes are inserted, of which no more than one above the limit are counted
abbrev pub IsInserted : ℕ → ℕ → List (List ℕ) → List (Option Tree) → Type 0
IsInserted n k xs ts = (s : Span) → n ≡ min (sum_by inserted_nodes (solved s k xs ts)) 1000001

-- arguments in front of others
abbrev pub in_front : List Argument → Arguments → Arguments
in_front [] ys = ys
in_front (x ∷ xs) ys = argument_and x (in_front xs ys)

-- the names of a signature's binders in braces
abbrev pub names_in_braces : Sig → List (List ℕ)
names_in_braces S = binder_names S.braces (behind_binders S.params S.type)
