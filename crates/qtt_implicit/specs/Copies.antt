-- Copies of trees, in which what fills slots is put in.
use Rattle.std.specs.Prelude.{ℕ, ◌+◌, ◌<◌, Option, Some, None}
use Rattle.qtt_base.specs.declared.place.Span.{Span}
use Rattle.qtt_syntax.specs.declared.expr.Named.{Named}
use Rattle.qtt_syntax.specs.Tree.{Tree, Annotation, Arguments, Binders, Statements}
use Rattle.qtt_syntax.specs.Tree.Tree.{name}
use Rattle.qtt_implicit.specs.Moving.{Change, kept, changed, changed_annotation, changed_arguments, changed_binders, changed_statements, unknown}
use Rattle.qtt_implicit.specs.Slots.{moving, replacing, beyond, stands, shared_tree, slot_list, slots_size}
use Rattle.qtt_implicit.specs.declared.filling.trees.Node.{size-Node}
use Rattle.qtt_implicit.specs.declared.filling.slots.Rest.{Rest}
use Rattle.qtt_implicit.specs.declared.filling.slots.Slots as slots_code
use Rattle.qtt_implicit.specs.declared.filling.copying.Copying.{Copying}
use Rattle.qtt_implicit.specs.declared.filling.copying.Found.{Found}
use Rattle.qtt_implicit.specs.declared.filling.copying.Found.TheVariants as found

-- each place is this one, if there is one
abbrev pub span_at : Option Span → Span → Span
span_at None s = s
span_at (Some s) t = s

abbrev pub placing : Option Span → Change
placing p = record {
  name = λ d n. name (record { path = n.path; target = n.target; span = span_at p n.span });
  mark = kept;
  span = span_at p;
}

-- the three changes that a copy makes
abbrev pub standing : Copying → Change
standing c = replacing (stands c.rest (slot_list c.slots.now))

abbrev pub copied : Copying → ℕ → Tree → Tree
copied c d t = changed (placing c.place) d (changed (moving c.moved) d (changed (standing c) d t))

abbrev pub copied_annotation : Copying → ℕ → Annotation → Annotation
copied_annotation c d t =
    changed_annotation (placing c.place) d (changed_annotation (moving c.moved) d (changed_annotation (standing c) d t))

abbrev pub copied_arguments : Copying → ℕ → Arguments → Arguments
copied_arguments c d xs =
    changed_arguments (placing c.place) d (changed_arguments (moving c.moved) d (changed_arguments (standing c) d xs))

abbrev pub copied_binders : Copying → ℕ → Binders → Binders
copied_binders c d bs =
    changed_binders (placing c.place) d (changed_binders (moving c.moved) d (changed_binders (standing c) d bs))

abbrev pub copied_statements : Copying → ℕ → Statements → Statements
copied_statements c d ss =
    changed_statements (placing c.place) d
    (changed_statements (moving c.moved) d (changed_statements (standing c) d ss))

-- ---- what is found at a slot
abbrev pub found_tree : Rest → Named → Found → Tree
found_tree r n (found.Text s) = shared_tree s
found_tree r n found.Empty = unknown
found_tree r n (found.Beyond i) = beyond r i n

abbrev pub IsWithin : slots_code.Slots → Found → Type 0
IsWithin slots (found.Text s) = slots_size s.slots.now + size-Node s.tree.now < slots_size slots
IsWithin slots found.Empty = Unit {0}
IsWithin slots (found.Beyond i) = Unit {0}
