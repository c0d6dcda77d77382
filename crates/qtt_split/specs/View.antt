-- What the code's case trees stand for.
use Rattle.std.specs.Prelude.{◌≡◌, ℕ, suc, List, [], ◌∷◌, map}
use Rattle.qtt_syntax.specs.View.{shape_of}
use Rattle.qtt_term.specs.declared.term.Branch as code_case_branch
use Rattle.qtt_term.specs.Term.{Form, Term, Terms, var, node, ε, ◌▸◌, size, ◌+++◌, Delete}
use Rattle.qtt_term.specs.Signature.{Tele}
use Rattle.qtt_term.specs.Contexts.{variables, names}
use Rattle.qtt_term.specs.Telescopes.{tele}
use Rattle.qtt_term.specs.View.{term, side_by_side, branches}
use Rattle.qtt_rules.specs.Report.{Report}
use Rattle.qtt_unify.specs.View.{all_terms}
use Rattle.qtt_split.specs.declared.tree.Report as code_report
use Rattle.qtt_split.specs.declared.tree.Leaf as code_leaf
use Rattle.qtt_split.specs.declared.tree.Splitting as code_splitting
use Rattle.qtt_split.specs.declared.tree.Deleting as code_deleting
use Rattle.qtt_split.specs.declared.tree.Tree as code
use Rattle.qtt_split.specs.declared.tree.Tree.TheOpen.{Tree-F, Branch-F}
use Rattle.qtt_split.specs.declared.tree.Branch as code_branch
use Rattle.qtt_split.specs.Tree.{Leaf, Splitting, Deleting, Tree, Branches, apps, glued, field_counts}

abbrev pub report_of : code_report.Report → Report
report_of r = record { variable = r.variable; name = r.name; place = r.place }

abbrev pub leaf_of : code_leaf.Leaf → Leaf
leaf_of l = record {
  clause = l.clause;
  context = variables l.ctx;
  names = names l.ctx;
  dots = map (λ d. (term d.0, term d.1)) l.dots.items;
  goal = term l.goal;
  reported = map report_of l.reported.items;
}

abbrev pub splitting_of : code_splitting.Splitting → Splitting
splitting_of s = record {
  variable = s.variable;
  mult = s.mult;
  family = s.family;
  params = all_terms s.params.items;
  indices = s.indices;
  motive = term s.motive;
  reverted = s.reverted.items;
}

abbrev pub deleting_of : code_deleting.Deleting → Deleting
deleting_of d = record {
  variable = d.variable;
  mult = d.mult;
  type = term d.ty;
  point = term d.point;
  motive = term d.motive;
  reverted = d.reverted.items;
}

-- a branch with its tree already seen
pub record Seen : Type 0 where
  pub fields : ℕ
  pub again : Tele
  pub tree : Tree

abbrev pub in_order : List Seen → Branches
in_order [] = Branches.no_branch
in_order (b ∷ bs) = Branches.branch_and b.fields b.again b.tree (in_order bs)

abbrev pub tree_step : Tree-F Tree Seen → Tree
tree_step (Tree-F.Leaf l) = Tree.leaf (leaf_of l)
tree_step (Tree-F.Split s bs) = Tree.split (splitting_of s) (in_order bs.items)
tree_step (Tree-F.Delete d again T) = Tree.delete (deleting_of d) (tele again.items) T.value
tree_step (Tree-F.Absurd A) = Tree.absurd (term A)
tree_step (Tree-F.Missing A ps) = Tree.missing (term A) (map shape_of ps.items)

abbrev pub branch_step : Branch-F Tree Seen → Seen
branch_step b = record { fields = b.fields; again = tele b.again.items; tree = b.tree }

-- the tree that a tree of the code stands for
abbrev pub tree_of : code.Tree → Tree
tree_of = code.fold-Tree Tree Seen tree_step branch_step

abbrev pub branch_of : code_branch.Branch → Seen
branch_of = code_branch.fold-Branch Tree Seen tree_step branch_step

abbrev pub branches_of : List code_branch.Branch → Branches
branches_of bs = in_order (map branch_of bs)

-- ---- assembly
-- branches of a Case with the numbers of their fields
abbrev pub branch_terms : List code_case_branch.Branch → List (ℕ × Term)
branch_terms bs = branches bs

abbrev pub split_to : Splitting → List (ℕ × Term) → Term
split_to s bs =
    apps (node (Form.case s.mult s.family (size s.params) (suc s.indices) (map (λ b. b.0) bs))
    (s.params +++ (s.motive ▸ (side_by_side (map (λ b. b.1) bs) +++ (var s.variable ▸ ε))))) s.reverted

abbrev pub delete_to : Deleting → Term → Term
delete_to d b = apps (Delete d.mult d.type d.point d.motive b (var d.variable)) d.reverted

-- these are a split's branches, with their right sides
pub record BranchesGlued (bs : Branches) (sides : Terms) (made : List code_case_branch.Branch) : Type 0 where
  pub counts : map (λ b. b.0) (branch_terms made) ≡ field_counts bs
  pub parts : side_by_side (map (λ b. b.1) (branch_terms made)) ≡ glued bs sides ε
