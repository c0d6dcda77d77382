-- What the parts of items stand for, as they are filled in code.
use Rattle.std.specs.Prelude.{ℕ, List, [], ◌∷◌, sum_by}
use Rattle.qtt_syntax.specs.Tree.{Param, Con, Item}
use Rattle.qtt_syntax.specs.Tree.Param.{param}
use Rattle.qtt_syntax.specs.Tree.Con.{con}
use Rattle.qtt_syntax.specs.Tree.Item.{family, signature, clause}
use Rattle.qtt_implicit.specs.declared.filling.signatures.ParamRow.{ParamRow}
use Rattle.qtt_implicit.specs.declared.filling.signatures.ParamRow.TheVariants as params
use Rattle.qtt_implicit.specs.declared.filling.signatures.ConRow.{ConRow}
use Rattle.qtt_implicit.specs.declared.filling.signatures.ConRow.TheVariants as cons
use Rattle.qtt_implicit.specs.declared.filling.items.FamilyNode.{FamilyNode}
use Rattle.qtt_implicit.specs.declared.filling.items.SignatureNode.{SignatureNode}
use Rattle.qtt_implicit.specs.declared.filling.items.ClauseNode.{ClauseNode}
use Rattle.qtt_implicit.specs.declared.filling.items.ItemNode.{ItemNode}
use Rattle.qtt_implicit.specs.declared.filling.items.ItemNode.TheVariants as items
use Rattle.qtt_implicit.specs.Patterns.{shape_list}
use Rattle.qtt_implicit.specs.Filled.{param_nodes, con_nodes}
use Rattle.qtt_implicit.specs.Nodes.{node_tree}
use Rattle.qtt_implicit.specs.Shaping.{shape_row}

abbrev pub param_row : ParamRow → List Param
param_row params.End = []
param_row (params.More' p t q more) = param p.now.mult p.now.name (node_tree t.now) p.now.span ∷ param_row more

abbrev pub con_row : ConRow → List Con
con_row cons.End = []
con_row (cons.More' c t p more) = con c.now.name (node_tree t.now) c.now.span ∷ con_row more

-- ---- items
abbrev pub family_tree : FamilyNode → Item
family_tree f = family f.source.now.name f.source.now.name_span (param_row f.params.now) (node_tree f.ty.now)
    (con_row f.constructors.now) f.source.now.span

abbrev pub signature_tree : SignatureNode → Item
signature_tree d = signature d.source.now.partial d.source.now.mult d.source.now.name d.source.now.name_span
    (node_tree d.ty.now) d.source.now.span

abbrev pub clause_tree : ClauseNode → Item
clause_tree c = clause c.source.now.name (shape_list (shape_row c.patterns.now)) (node_tree c.side.now)
    c.source.now.span

abbrev pub item_tree : ItemNode → Item
item_tree (items.Family f) = family_tree f
item_tree (items.Signature d) = signature_tree d
item_tree (items.Clause c) = clause_tree c

-- ---- nodes
abbrev pub params_nodes : List Param → ℕ
params_nodes = sum_by param_nodes

abbrev pub constructors_nodes : List Con → ℕ
constructors_nodes = sum_by con_nodes
