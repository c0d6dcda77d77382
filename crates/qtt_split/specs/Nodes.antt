-- What the code's nodes stand for, and the node of a branch.
use Rattle.std.specs.Prelude.{ℕ, List, ◌++◌, Option, length, map, reverse}
use Rattle.qtt_term.specs.Signature.{Tele}
use Rattle.qtt_term.specs.Telescopes.{tele}
use Rattle.qtt_term.specs.Term.{Term}
use Rattle.qtt_term.specs.View.{term}
use Rattle.qtt_unify.specs.View.{binders, solution}
use Rattle.qtt_split.specs.declared.node.Node as code
use Rattle.qtt_split.specs.declared.node.Entry.{Entry}
use Rattle.qtt_split.specs.Branch.{again, branch_node, reverted_labels, stands}
use Rattle.qtt_split.specs.Columns.{row_of}
use Rattle.qtt_split.specs.Labels.{labels_of, newest_labels}
use Rattle.qtt_split.specs.Node.{Node}
use Rattle.qtt_split.specs.Sights.{sights_of}

abbrev pub node_of : code.Node → Node
node_of N = record {
  context = binders N.context.items;
  labels = newest_labels N.labels.items;
  seen = sights_of N.seen.items;
  goal = term N.goal;
  rows = map row_of N.rows.items;
}

-- ---- the node of a branch
abbrev pub labels_entered : code.Node → Entry → List (Option (List ℕ))
labels_entered N e =
    reverse (reverted_labels (newest_labels N.labels.items) e.reverted.now) ++
    (reverse (labels_of e.names.now) ++ newest_labels N.labels.items)

-- where the split variable is this term
abbrev pub node_in : code.Node → Entry → Term → Node
node_in N e t =
    branch_node (node_of N) (tele e.fields.now) (labels_of e.names.now) e.variable e.con t
    (map solution e.solved.now) e.reverted.now

abbrev pub again_in : code.Node → Entry → Term → Tele
again_in N e t =
    again (binders N.context.items) e.reverted.now
    (stands e.variable t (map solution e.solved.now) (length (tele e.fields.now)))
