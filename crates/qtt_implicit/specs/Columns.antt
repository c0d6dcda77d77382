-- What columns in code stand for.
use Rattle.std.specs.Prelude.{List, take, reverse, Option, Some, None}
use Rattle.qtt_base.specs.declared.place.GlobalId.{GlobalId}
use Rattle.qtt_syntax.specs.Tree.{Tree}
use Rattle.qtt_implicit.specs.Nodes.{node_tree}
use Rattle.qtt_implicit.specs.Patterns.{Columns, family_of}
use Rattle.qtt_names.specs.Exports.{Sig}
use Rattle.qtt_implicit.specs.Walk.{slots_of, behind_binders}
use Rattle.qtt_implicit.specs.TextTypes.{open_list}
use Rattle.qtt_implicit.specs.declared.filling.columns.Columns as columns_code
use Rattle.qtt_implicit.specs.declared.filling.columns.Columns.TheVariants as code

abbrev pub columns_of : columns_code.Columns → Columns
columns_of code.Untold = Columns.untold
columns_of (code.Told s t) = Columns.told (open_list s) (node_tree t.now)

abbrev pub first_of_family : {A : Type 0} → Option (GlobalId × A) → Option GlobalId
first_of_family None = None
first_of_family (Some f) = Some f.0

-- the family of an end of a chain
abbrev pub family_name : Tree → Option GlobalId
family_name t = first_of_family (family_of t)

-- the fields of a constructor, where these are the arguments of its family
abbrev pub fields_of : Sig → List Tree → Columns
fields_of S ts = Columns.told (reverse (slots_of S.params (take S.params ts))) (behind_binders S.params S.type)
