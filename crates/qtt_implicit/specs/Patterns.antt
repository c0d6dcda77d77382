-- Clauses with the patterns of implicit arguments put in, and the text types of their variables.
use Rattle.std.specs.Prelude.{ℕ, zero, suc, ◌+◌, ◌-◌, if◌then◌else◌, List, [], ◌∷◌, ◌++◌, map, take, length, reverse, replicate, slice_set, Option, Some, None}
use Rattle.std.specs.Fmt.{decimal}
use Rattle.qtt_base.specs.declared.place.GlobalId.{GlobalId}
use Rattle.qtt_base.specs.declared.place.Span.{Span}
use Rattle.qtt_syntax.specs.declared.expr.Mark.{Mark}
use Rattle.qtt_syntax.specs.declared.expr.Mark.TheVariants.{Written, Braced, Inserted}
use Rattle.qtt_syntax.specs.declared.expr.Named.{Named}
use Rattle.qtt_syntax.specs.declared.expr.Target.{Target}
use Rattle.qtt_syntax.specs.declared.expr.Target.TheVariants as target
use Rattle.qtt_syntax.specs.Tree.{Tree, Argument, Arguments, Shape, Shapes, shapes}
use Rattle.qtt_syntax.specs.Tree.Tree.{name, apply, pi}
use Rattle.qtt_syntax.specs.Tree.Argument.{argument}
use Rattle.qtt_syntax.specs.Tree.Arguments.{no_argument, argument_and}
use Rattle.qtt_syntax.specs.Tree.Shape.{variable, wildcard, constructor, dot}
use Rattle.qtt_syntax.specs.Tree.Shapes.{no_shape, shape_and}
use Rattle.qtt_names.specs.Target.{same_id}
use Rattle.qtt_names.specs.Exports.{Sig}
use Rattle.qtt_implicit.specs.Moving.{replaced, unknown, at_binder, nodes}
use Rattle.qtt_implicit.specs.Known.{Known, signature}
use Rattle.qtt_implicit.specs.Filling.{Filling, done, put, ◌>>=◌}
use Rattle.qtt_implicit.specs.Matching.{Slots, instance}
use Rattle.qtt_implicit.specs.Walk.{Types, is_inserted, slots_of, behind_binders, application, walk}

-- ---- patterns that are put in
abbrev pub signature_of : Known → Target → Option Sig
signature_of K (target.Global id) = signature K id
signature_of K (target.Local i) = None
signature_of K target.Unknown = None

abbrev pub braces_of : Option Sig → ℕ
braces_of None = 0
braces_of (Some S) = S.braces

-- so many variables, numbered from i on, at a place; no text can write their names
abbrev pub new_variables : ℕ → ℕ → Span → Shapes → Shapes
new_variables zero i s ps = ps
new_variables (suc k) i s ps = shape_and (variable Inserted (39 ∷ decimal i) s) (new_variables k (suc i) s ps)

-- something, and the number of variables that are put in up to its end
abbrev pub Numbered : Type 0 → Type 0
Numbered A = A × ℕ

abbrev pub and_shape : Numbered Shape → (ℕ → Numbered Shapes) → Numbered Shapes
and_shape p behind = (shape_and p.0 (behind p.1).0, (behind p.1).1)

-- a constructor's patterns, of which the first k are put in
abbrev pub in_constructor : Mark → Named → Span → ℕ → ℕ → Numbered Shapes → Numbered Shape
in_constructor m h s k i ps = (constructor m h (new_variables k i h.span ps.0) s, ps.1)

abbrev mutual
  -- where i variables are put in before
  pub with_slots : Known → Shape → ℕ → Numbered Shape
  with_slots K (variable k n s) i = (variable k n s, i)
  with_slots K (wildcard k s) i = (wildcard k s, i)
  with_slots K (dot k e s) i = (dot k e s, i)
  with_slots K (constructor m h ps s) i =
      let k = braces_of (signature_of K h.target) in
      in_constructor m h s k i (all_with_slots K ps (i + k))

  pub all_with_slots : Known → Shapes → ℕ → Numbered Shapes
  all_with_slots K no_shape i = (no_shape, i)
  all_with_slots K (shape_and p more) i = and_shape (with_slots K p i) (all_with_slots K more)

-- the patterns of a clause of a name with so many binders in braces, at the clause's place
abbrev pub clause_shapes : Known → ℕ → Span → List Shape → Shapes
clause_shapes K k s ps = new_variables k 0 s (all_with_slots K (shapes ps) k).0

-- ---- numbers of local names
abbrev mutual
  -- how the variables of a pattern came into the clause, in text order
  pub marks : Shape → List Mark
  marks (variable k n s) = k ∷ []
  marks (wildcard k s) = []
  marks (constructor k h ps s) = all_marks ps
  marks (dot k e s) = []

  pub all_marks : Shapes → List Mark
  all_marks no_shape = []
  all_marks (shape_and p more) = marks p ++ all_marks more

-- the place of the written variable with number i, where the newest stands first
abbrev pub place_among : List Mark → ℕ → ℕ
place_among [] i = i
place_among (Inserted ∷ ms) i = suc (place_among ms i)
place_among (Written ∷ ms) zero = zero
place_among (Written ∷ ms) (suc i) = suc (place_among ms i)
place_among (Braced ∷ ms) zero = zero
place_among (Braced ∷ ms) (suc i) = suc (place_among ms i)

-- an expression of a clause, among the variables with these marks
abbrev pub renumbered : List Mark → Tree → Tree
renumbered ms = replaced (λ i n. at_binder (place_among (reverse ms) i) n)

abbrev mutual
  pub renumbered_shape : List Mark → Shape → Shape
  renumbered_shape ms (variable k n s) = variable k n s
  renumbered_shape ms (wildcard k s) = wildcard k s
  renumbered_shape ms (constructor k h ps s) = constructor k h (renumbered_shapes ms ps) s
  renumbered_shape ms (dot k e s) = dot k (renumbered ms e) s

  pub renumbered_shapes : List Mark → Shapes → Shapes
  renumbered_shapes ms no_shape = no_shape
  renumbered_shapes ms (shape_and p more) = shape_and (renumbered_shape ms p) (renumbered_shapes ms more)

-- ---- text types of columns
-- what is known of the types of columns: nothing, or the rest of a chain of binders, where patterns stand for
-- the earlier ones
pub data Columns : Type 0 where
  untold : Columns
  told : Slots → Tree → Columns

abbrev pub column_type : Columns → Tree
column_type (Columns.told σ (pi k m n a b s)) = instance σ a
column_type _ = unknown

-- behind a column whose pattern is this expression
abbrev pub next_columns : Tree → Columns → Columns
next_columns x (Columns.told σ (pi k m n a b s)) = Columns.told (Some x ∷ σ) b
next_columns x _ = Columns.untold

abbrev pub argument_trees : Arguments → List Tree
argument_trees no_argument = []
argument_trees (argument_and (argument k t) more) = t ∷ argument_trees more

-- a family with its arguments
abbrev pub named_family : Target → List Tree → Option (GlobalId × List Tree)
named_family (target.Global id) ts = Some (id, ts)
named_family (target.Local i) ts = None
named_family target.Unknown ts = None

abbrev pub family_of : Tree → Option (GlobalId × List Tree)
family_of (name n) = named_family n.target []
family_of (apply (name n) xs s) = named_family n.target (argument_trees xs)
family_of _ = None

-- the end of a chain
abbrev pub end_of : Tree → Tree
end_of (pi k m n a b s) = end_of b
end_of t = t

-- the fields of a constructor with signature S, where F is its family and the column's type is an application G; a
-- parameter that is not there is unknown
abbrev pub family_fields : Sig → Option (GlobalId × List Tree) → Option (GlobalId × List Tree) → Columns
family_fields S (Some F) (Some G) =
    if same_id F.0 G.0 then Columns.told (reverse (slots_of S.params (take S.params G.1)))
    (behind_binders S.params S.type)
    else Columns.untold
family_fields S _ _ = Columns.untold

-- the fields of a constructor pattern on a column of this type
abbrev pub fields_on : Option Sig → Tree → Columns
fields_on None T = Columns.untold
fields_on (Some S) T = family_fields S (family_of (end_of S.type)) (family_of T)

-- ---- the walk over patterns, from left to right
-- how many variables of the clause were met, and the text types of all of them, where those that were not met
-- are unknown
pub record Met : Type 0 where
  pub count : ℕ
  pub types : Types

-- the number of a variable among the local names
abbrev pub number_in : Met → ℕ
number_in v = length v.types - suc v.count

abbrev pub meet : Tree → Met → Met
meet T v = record { count = suc v.count; types = slice_set v.types (number_in v) T }

-- a pattern, what it stands for as an expression, and what was met up to its end
pub record Seen : Type 0 where
  pub shape : Shape
  pub tree : Tree
  pub met : Met

pub record AllSeen : Type 0 where
  pub shapes : Shapes
  pub trees : List Tree
  pub met : Met

abbrev pub put_pattern : Mark → Filling (Unit {0})
put_pattern k = put (if is_inserted k then 1 else 0)

abbrev pub local_name : ℕ → List ℕ → Span → Tree
local_name i n s = name (record { path = n; target = target.Local i; span = s })

-- a pattern as an argument of its constructor
abbrev pub written_argument : Tree → Argument
written_argument t = argument Written t

abbrev mutual
  -- a pattern of a column of type T
  pub walk_shape : Known → Met → Tree → Shape → Filling Seen
  walk_shape K v T (variable k n s) = do
    added ← put_pattern k
    done (record { shape = variable k n s; tree = local_name (number_in v) n s; met = meet T v })
  walk_shape K v T (wildcard k s) = done (record { shape = wildcard k s; tree = unknown; met = v })
  walk_shape K v T (dot k e s) = do
    e' ← walk K v.types e
    done (record { shape = dot k e'.tree s; tree = e'.tree; met = v })
  walk_shape K v T (constructor k h ps s) = do
    ps' ← walk_shapes K v (fields_on (signature_of K h.target) T) ps
    done (record {
      shape = constructor k h ps'.shapes s;
      tree = application (name h)
          (map written_argument ps'.trees) s;
      met = ps'.met;
    })

  pub walk_shapes : Known → Met → Columns → Shapes → Filling AllSeen
  walk_shapes K v cs no_shape = done (record { shapes = no_shape; trees = []; met = v })
  walk_shapes K v cs (shape_and p more) = do
    p' ← walk_shape K v (column_type cs) p
    more' ← walk_shapes K p'.met (next_columns p'.tree cs) more
    done (record { shapes = shape_and p'.shape more'.shapes; trees = p'.tree ∷ more'.trees; met = more'.met })

-- nothing is met yet of so many variables
abbrev pub none_met : ℕ → Met
none_met n = record { count = 0; types = replicate n unknown }

-- ---- nodes of patterns: each pattern is one, and each expression in a dot pattern
abbrev mutual
  pub shape_nodes : Shape → ℕ
  shape_nodes (variable k n s) = 1
  shape_nodes (wildcard k s) = 1
  shape_nodes (constructor k h ps s) = 1 + shapes_nodes ps
  shape_nodes (dot k e s) = 1 + nodes e

  pub shapes_nodes : Shapes → ℕ
  shapes_nodes no_shape = 0
  shapes_nodes (shape_and p more) = shape_nodes p + shapes_nodes more

abbrev pub shape_list : Shapes → List Shape
shape_list no_shape = []
shape_list (shape_and p more) = p ∷ shape_list more
