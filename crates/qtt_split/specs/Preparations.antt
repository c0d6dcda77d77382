-- What the code's prepared nodes and grown branches stand for.
use Rattle.std.specs.Prelude.{map}
use Rattle.qtt_term.specs.Telescopes.{tele}
use Rattle.qtt_term.specs.View.{term}
use Rattle.qtt_unify.specs.View.{binders, verdict}
use Rattle.qtt_split.specs.declared.node.Node as code_node
use Rattle.qtt_split.specs.declared.prepared.Split as code_split
use Rattle.qtt_split.specs.declared.prepared.Prepared as code
use Rattle.qtt_split.specs.declared.prepared.Prepared.TheVariants as variant
use Rattle.qtt_split.specs.declared.growing.GrownBranch as code_branch
use Rattle.qtt_split.specs.declared.growing.GrownBranches as code_branches
use Rattle.qtt_split.specs.Divisions.{division_of}
use Rattle.qtt_split.specs.Ends.{grown_of}
use Rattle.qtt_split.specs.Nodes.{node_of}
use Rattle.qtt_split.specs.Prepared.{Prepared, GrownBranch, site}
use Rattle.qtt_split.specs.Split.{Group, Site, GrownBranches}
use Rattle.qtt_split.specs.View.{branch_of, branches_of, deleting_of}

-- in this node
abbrev pub site_in : Group → code_node.Node → code_split.Split → Site
site_in G N s =
    site G (node_of N) (division_of (binders N.context.items) s.division) s.reverted.items (term s.motive)

abbrev pub split_in : Group → code_node.Node → code_split.Split → Prepared
split_in G N s = Prepared.split (site_in G N s) (map verdict s.verdicts.items)

abbrev pub prepared_of : Group → code.Prepared → Prepared
prepared_of G (variant.Ended g) = Prepared.ended (grown_of g)
prepared_of G (variant.Split N s) = split_in G N s
prepared_of G (variant.Delete d e) = Prepared.delete (deleting_of d) (node_of e.node) (tele e.again.items)

-- ---- branches
abbrev pub grown_branch_of : code_branch.GrownBranch → GrownBranch
grown_branch_of b = record {
  fields = (branch_of b.branch).fields;
  again = (branch_of b.branch).again;
  tree = (branch_of b.branch).tree;
  left = b.left;
}

abbrev pub grown_branches_of : code_branches.GrownBranches → GrownBranches
grown_branches_of b = record { branches = branches_of b.branches.items; left = b.left }
