-- A node in two parts: all that is asked there before any branch, and then the branches.
use Rattle.std.specs.Prelude.{ℕ, zero, suc, List, [], ◌∷◌, length, Option, Some, None}
use Rattle.qtt_usage.specs.declared.mult.Mult.{Mult}
use Rattle.qtt_term.specs.Term.{Term, Terms, ε, ◌▸◌}
use Rattle.qtt_term.specs.Substitution.{push, closed}
use Rattle.qtt_term.specs.Signature.{Tele, ConSig, fam_at, Refl}
use Rattle.qtt_term.specs.Judgement.{branch_type}
use Rattle.qtt_term.specs.Ask.{Ask, ◌>>=◌}
use Rattle.qtt_term.specs.Entries.{env}
use Rattle.qtt_rules.specs.Refusal.{Cause, Place, refused}
use Rattle.qtt_rules.specs.Asks.{Asks, found}
use Rattle.qtt_unify.specs.Equations.{Verdict}
use Rattle.qtt_unify.specs.Deletion.{Deletion, deletion}
use Rattle.qtt_split.specs.Tests.{Test, at}
use Rattle.qtt_split.specs.Tree.{Deleting, Tree}
use Rattle.qtt_split.specs.Node.{Row, Node, Decision, decide, Examined, examined}
use Rattle.qtt_split.specs.Branch.{stands, again, branch_node}
use Rattle.qtt_split.specs.Motive.{reverted_goal, some_form, motive, deletion_motive}
use Rattle.qtt_split.specs.Split.{Group, Grown, grown, Grows, count_leaf, Division, division, verdicts, first_stuck, reverted_at, free_variables, unmentioned, level_where, level_of, Site, solved_node, solved_again, branches, splitting, refl_id}
use Rattle.qtt_split.specs.Plan.{with_rows, grow}
use Rattle.qtt_split.specs.Ends.{leaf_grown, none_grown}

-- ---- before the branches
pub data Prepared : Type 0 where
  -- without branches: the leaf of a clause, or no clause is left
  ended : Grown → Prepared
  -- a split, with what its constructors come to
  split : Site → List Verdict → Prepared
  -- a deletion, with the node of its branch and the binders of the reverted variables
  delete : Deleting → Node → Tele → Prepared

-- the reverted variables, none of which these terms mention
abbrev pub reverts : Place → Node → ℕ → List ℕ → Terms → Asks (List (Mult × ℕ))
reverts p N x free ts = do
  ok ← unmentioned p (length N.context) (reverted_at N x free) ts
  Ask.done (reverted_at N x free)

-- of a split, none of whose parameters mentions one
abbrev pub split_reverts : Node → Division → Asks (List (Mult × ℕ))
split_reverts N D =
    reverts (at D.span Test.parameters) N D.over.variable (free_variables D.over) D.over.params

abbrev pub motive_at : Group → Node → Division → List (Mult × ℕ) → Asks Term
motive_at G N D rs = do
  let goal = reverted_goal N.context rs N.goal
  l ← level_where (some_form D.over.targets) (level_of (env G.globals) N.context (at D.span Test.level) goal)
  Ask.done (motive (record { env = env G.globals; family = D.family; params = D.over.params; level = l })
      D.over.targets D.over.variable goal)

abbrev pub site : Group → Node → Division → List (Mult × ℕ) → Term → Site
site G N D rs P = record { group = G; node = N; division = D; motive = P; reverted = rs }

abbrev pub split_parts : Group → Node → Division → List Verdict → Asks Prepared
split_parts G N D vs = do
  rs ← split_reverts N D
  P ← motive_at G N D rs
  Ask.done (Prepared.split (site G N D rs P) vs)

abbrev pub deleted : Node → Division → Deletion → List (Mult × ℕ) → Prepared
deleted N D d rs =
    let x = D.over.variable in
    let proof = Refl d.type d.point in
    Prepared.delete (record {
      variable = x;
      mult = D.mult;
      type = d.type;
      point = d.point;
      motive = deletion_motive x (reverted_goal N.context rs N.goal);
      reverted = rs;
    })
    (branch_node N [] [] x refl_id proof [] rs) (again N.context rs (stands x proof [] 0))

abbrev pub deletion_parts : Node → Division → Deletion → Asks Prepared
deletion_parts N D d = do
  rs ← reverts (at D.span Test.endpoints) N D.over.variable [] (d.type ▸ d.point ▸ ε)
  Ask.done (deleted N D d rs)

-- a constructor is stuck
abbrev pub stuck_parts : Node → Division → Cause → Asks Prepared
stuck_parts N D c = do
  o ← deletion (at D.span Test.deletion) D.family D.over
  d ← found o c (at D.span Test.equations)
  deletion_parts N D d

abbrev pub parts_by : Group → Node → Division → List Verdict → Option Cause → Asks Prepared
parts_by G N D vs None = split_parts G N D vs
parts_by G N D vs (Some c) = stuck_parts N D c

unfoldable pub parts_at : Group → Node → Examined → Asks Prepared
parts_at G N x = do
  D ← division G N x
  vs ← verdicts (env G.globals) D (fam_at (env G.globals) D.family).constructors
  parts_by G N D vs (first_stuck vs)

abbrev pub at_leaf : Group → Node → Row → ℕ → Option Examined → Asks Prepared
at_leaf G N r left None = do
  g ← leaf_grown G N r left
  Ask.done (Prepared.ended g)
at_leaf G N r left (Some x) = parts_at G N x

abbrev pub prepared_by : Group → Node → ℕ → Decision → Asks Prepared
prepared_by G N left Decision.none_left = do
  g ← none_grown G N left
  Ask.done (Prepared.ended g)
prepared_by G N left (Decision.stuck_on s t) =
    Ask.fail (refused (Cause.pattern_stuck (length N.context) t t) (at s Test.on_variable))
prepared_by G N left (Decision.decides r rows) = at_leaf G (with_rows N (r ∷ rows)) r left (examined r.columns)

unfoldable pub prepared : Group → Node → ℕ → Asks Prepared
prepared G N left = prepared_by G N left (decide G.globals N.rows)

-- ---- the branches
-- one branch, and how many leaves more there may be
pub record GrownBranch : Type 0 where
  pub fields : ℕ
  pub again : Tele
  pub tree : Tree
  pub left : ℕ

-- of a constructor that clashes
abbrev pub absurd_branch : Site → ConSig → ℕ → Asks GrownBranch
absurd_branch W d left = do
  less ← count_leaf W.group left
  Ask.done (record {
    fields = length d.fields;
    again = [];
    tree = Tree.absurd (branch_type (push W.division.over.params closed) d W.motive);
    left = less;
  })

-- of a constructor, by its number
abbrev pub branch : Grows → Site → ℕ → ConSig → Verdict → ℕ → Asks GrownBranch
branch grow W c d (Verdict.solved s) left = do
  g ← grow (solved_node W c d s) left
  Ask.done (record { fields = length d.fields; again = solved_again W c d s; tree = g.tree; left = g.left })
branch grow W c d v left = absurd_branch W d left

abbrev pub continued : Grows → ℕ → Prepared → Asks Grown
continued grow left (Prepared.ended g) = Ask.done g
continued grow left (Prepared.split W vs) = do
  bs ← branches grow W 0 (fam_at (env W.group.globals) W.division.family).constructors vs left
  Ask.done (grown (Tree.split (splitting W) bs.branches) bs.left)
continued grow left (Prepared.delete d N again) = do
  g ← grow N left
  Ask.done (grown (Tree.delete d again g.tree) g.left)

-- with fewer than so many splits one below another
abbrev pub grow_below : ℕ → Group → Grows
grow_below zero G N left = Ask.done (grown (Tree.missing N.goal []) left)
grow_below (suc n) G N left = grow n G N left
