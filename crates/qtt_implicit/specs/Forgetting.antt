-- Forgetting and renumbering in one walk.
use Rattle.std.specs.Prelude.{ℕ, suc, ◌+◌, ◌-◌, nat_lt, if◌then◌else◌, length, slice_index, List, [], ◌∷◌, Option, Some, None}
use Rattle.qtt_syntax.specs.declared.expr.Target.{Target}
use Rattle.qtt_syntax.specs.declared.expr.Target.TheVariants as target
use Rattle.qtt_syntax.specs.Tree.{Tree, Annotation, Argument, Binder, Statement, Shape}
use Rattle.qtt_syntax.specs.Tree.Argument.{argument}
use Rattle.qtt_syntax.specs.Tree.Shape.{variable, wildcard, constructor, dot}
use Rattle.qtt_implicit.specs.declared.forgetting.numbers.Numbers as numbers_code
use Rattle.qtt_implicit.specs.Moving.{Change, replaced_name, at_binder, kept, bound, changed, changed_annotation, changed_binder, changed_statement}
use Rattle.qtt_implicit.specs.Walk.{is_inserted}
use Rattle.qtt_implicit.specs.Forget.{forgotten, forgotten_annotation, forgotten_binder, forgotten_statement, side_forgotten, shapes_forgotten}

-- the number of a local name among the written ones, from a table of those of the clause's variables
abbrev pub number_of : numbers_code.Numbers → ℕ → ℕ
number_of t i = if nat_lt i (length t.newer.items) then slice_index t.newer.items i else i - t.inserted

-- what a local name stands for behind d binders of the tree's own
abbrev pub target_without : (ℕ → ℕ) → ℕ → Target → Target
target_without renumber d (target.Local i) = if nat_lt i d then target.Local i else target.Local (renumber (i - d) + d)
target_without renumber d (target.Global id) = target.Global id
target_without renumber d target.Unknown = target.Unknown

-- each free local name gets its number
abbrev pub renumbering : (ℕ → ℕ) → Change
renumbering renumber = record {
  name = λ d n. replaced_name (λ i m. at_binder (renumber i) m) d n n.target;
  mark = kept;
  span = kept;
}

-- a part of a tree behind d binders of the tree's own
abbrev pub without : (ℕ → ℕ) → ℕ → Tree → Tree
without renumber d t = changed (renumbering renumber) d (forgotten t)

abbrev pub annotation_without : (ℕ → ℕ) → ℕ → Annotation → Annotation
annotation_without renumber d t = changed_annotation (renumbering renumber) d (forgotten_annotation t)

abbrev pub argument_without : (ℕ → ℕ) → ℕ → Argument → Option Argument
argument_without renumber d (argument k t) = if is_inserted k then None else Some (argument k (without renumber d t))

abbrev pub binder_without : (ℕ → ℕ) → ℕ → Binder → Binder
binder_without renumber d b = changed_binder (renumbering renumber) d (forgotten_binder b)

abbrev pub statement_without : (ℕ → ℕ) → ℕ → Statement → Statement
statement_without renumber d s = changed_statement (renumbering renumber) d (forgotten_statement s)

-- a pattern, or nothing where it is an inserted variable
abbrev pub shape_without : (ℕ → ℕ) → Shape → Option Shape
shape_without renumber (variable k n s) = if is_inserted k then None else Some (variable k n s)
shape_without renumber (wildcard k s) = Some (wildcard k s)
shape_without renumber (constructor k h ps s) = Some (constructor k h (shapes_forgotten renumber ps) s)
shape_without renumber (dot k e s) = Some (dot k (side_forgotten renumber e) s)

abbrev pub behind_binder : ℕ → Binder → ℕ
behind_binder d b = suc d

abbrev pub behind_statement : ℕ → Statement → ℕ
behind_statement d s = d + bound s

-- the parts of a list, each behind what those before it bind
abbrev pub in_passing : {A B : Type 0} → (ℕ → A → ℕ) → (ℕ → A → B) → ℕ → List A → List B
in_passing behind each d [] = []
in_passing behind each d (x ∷ xs) = each d x ∷ in_passing behind each (behind d x) xs
