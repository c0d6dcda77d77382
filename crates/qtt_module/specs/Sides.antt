-- A group of clauses, some of which may end in a hole.
use Rattle.std.specs.Prelude.{ℕ, true, false, cond, List, [], ◌∷◌, ◌++◌, bytes_eq, reverse}
use Rattle.std.specs.List.{list_any}
use Rattle.qtt_syntax.specs.Tree.{Shape, Shapes}
use Rattle.qtt_syntax.specs.Tree.Shape.{variable, wildcard, constructor, dot}
use Rattle.qtt_syntax.specs.Tree.Shapes.{no_shape, shape_and}
use Rattle.qtt_term.specs.Term.{Term}
use Rattle.qtt_term.specs.Judgement.{Part}
use Rattle.qtt_term.specs.Ask.{Ask, ◌>>=◌}
use Rattle.qtt_term.specs.Entries.{Entries}
use Rattle.qtt_rules.specs.Asks.{Asks}
use Rattle.qtt_split.specs.Tree.{Leaf, leaves}
use Rattle.qtt_split.specs.Node.{Clause}
use Rattle.qtt_split.specs.Plan.{Planned}
use Rattle.qtt_split.specs.Group.{Defined, dots_of, dots_agree, scope_at, side_at, Numbered, all_sides, tree_of, body_with, body_holds}
use Rattle.qtt_bidi.specs.Elaboration.{judge}
use Rattle.qtt_holes.specs.Hole.{Hole}
use Rattle.qtt_holes.specs.Walk.{has_hole, walk}

-- ---- the names of pattern variables, in text order
abbrev mutual
  pub names_in : Shape → List (List ℕ)
  names_in (variable m n s) = n ∷ []
  names_in (wildcard m s) = []
  names_in (dot m e s) = []
  names_in (constructor m h ps s) = names_among ps

  pub names_among : Shapes → List (List ℕ)
  names_among no_shape = []
  names_among (shape_and p ps) = names_in p ++ names_among ps

abbrev pub names_of : List Shape → List (List ℕ)
names_of [] = []
names_of (p ∷ ps) = names_in p ++ names_of ps

-- ---- a clause at a leaf: its right side, or its hole
pub data Side : Type 0 where
  core : Term → Side
  hole : Hole → Side

unfoldable pub side_or_hole : Entries → Part → Clause → Leaf → Asks Side
side_or_hole G p c l = elim (has_hole c.side) [
  | false ↦ (do
    t ← side_at (judge G) p c l
    Ask.done (Side.core t))
  | true ↦ (do
    d ← dots_agree (judge G) l (dots_of c.patterns) l.dots
    h ← walk G p (scope_at l) (reverse (names_of c.patterns)) l.reported c.side l.goal
    Ask.done (Side.hole h))
]

-- ---- the holes of a group, each once, with what its first leaf gives
abbrev pub add_hole : Hole → List Hole → List Hole
add_hole h hs = cond (list_any (λ (x : Hole). bytes_eq x.name h.name) hs) hs (hs ++ (h ∷ []))

abbrev pub holes_from : List Hole → Numbered Side → List Hole
holes_from hs [] = hs
holes_from hs ((k, Side.core t) ∷ xs) = holes_from hs xs
holes_from hs ((k, Side.hole h) ∷ xs) = holes_from (add_hole h hs) xs

abbrev pub cores : Numbered Side → Numbered Term
cores [] = []
cores ((k, Side.core t) ∷ xs) = (k, t) ∷ cores xs
cores ((k, Side.hole h) ∷ xs) = cores xs

-- ---- a group gives a body, or holes; with a hole there is no body, and so no last judgement
pub data Given : Type 0 where
  body : Term → Given
  holes : List Hole → Given

unfoldable pub end_group : Defined → Planned → Numbered Side → List Hole → Asks Given
end_group D P sides [] = do
  holds ← body_holds D (body_with P (cores sides))
  Ask.done (Given.body (body_with P (cores sides)))
end_group D P sides (h ∷ hs) = Ask.done (Given.holes (h ∷ hs))

unfoldable pub group_of : Defined → Asks Given
group_of D = do
  P ← tree_of D
  sides ← all_sides (side_or_hole D.group.globals D.group.part) 0 D.group.clauses (leaves P.tree)
  end_group D P sides (holes_from [] sides)
