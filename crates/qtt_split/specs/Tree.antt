-- Case trees of a group of clauses (a function definition by clauses), and the terms that they are assembled to.
use Rattle.std.specs.Prelude.{ℕ, suc, List, [], ◌∷◌, ◌++◌, length}
use Rattle.qtt_base.specs.declared.place.GlobalId.{GlobalId}
use Rattle.qtt_usage.specs.declared.mult.Mult.{Mult}
use Rattle.qtt_syntax.specs.Tree.{Shape}
use Rattle.qtt_term.specs.Term.{Form, Term, Terms, var, node, ε, ◌▸◌, size, skip, ◌+++◌, Lam, App, Delete, Trap}
use Rattle.qtt_term.specs.Signature.{Tele}
use Rattle.qtt_term.specs.Judgement.{Ctx}
use Rattle.qtt_rules.specs.Report.{Report}

-- A clause that decides. Its right side is judged against the goal in this context, where its pattern variables, in
-- text order, stand for these terms of these types; the expression of a dot pattern is to be this term of this type;
-- each use is reported so.
pub record Leaf : Type 0 where
  pub clause : ℕ
  pub context : Ctx
  pub names : List (Term × Term)
  pub dots : List (Term × Term)
  pub goal : Term
  pub reported : List Report

-- A variable, at this multiplicity; its family with parameters and so many indices; the motive; and the variables, with
-- their multiplicities, that each branch binds again.
pub record Splitting : Type 0 where
  pub variable : ℕ
  pub mult : Mult
  pub family : GlobalId
  pub params : Terms
  pub indices : ℕ
  pub motive : Term
  pub reverted : List (Mult × ℕ)

-- The same of a proof of Eq of Prim, at this type and point.
pub record Deleting : Type 0 where
  pub variable : ℕ
  pub mult : Mult
  pub type : Term
  pub point : Term
  pub motive : Term
  pub reverted : List (Mult × ℕ)

mutual
  pub data Tree : Type 0 where
    leaf : Leaf → Tree
    split : Splitting → Branches → Tree
    -- with the binders of the reverted variables
    delete : Deleting → Tele → Tree → Tree
    -- a constructor that an index equation excludes: a trap of this type
    absurd : Term → Tree
    -- no clause is left: a trap of this type, and the patterns that lead here
    missing : Term → List Shape → Tree

  -- one for each constructor: the number of its fields, the binders of the reverted variables, and the tree
  pub data Branches : Type 0 where
    no_branch : Branches
    branch_and : ℕ → Tele → Tree → Branches → Branches

-- ---- leaves, in tree order
abbrev mutual
  pub leaves : Tree → List Leaf
  leaves (Tree.leaf l) = l ∷ []
  leaves (Tree.split s bs) = all_leaves bs
  leaves (Tree.delete d again T) = leaves T
  leaves (Tree.absurd A) = []
  leaves (Tree.missing A ps) = []

  pub all_leaves : Branches → List Leaf
  all_leaves Branches.no_branch = []
  all_leaves (Branches.branch_and n again T bs) = leaves T ++ all_leaves bs

-- ---- assembly
abbrev pub lams : Tele → Term → Term
lams [] t = t
lams (b ∷ Θ) t = Lam b.0 b.1 (lams Θ t)

-- applied to the reverted variables
abbrev pub apps : Term → List (Mult × ℕ) → Term
apps t [] = t
apps t (b ∷ rs) = apps (App b.0 t (var b.1)) rs

abbrev pub field_counts : Branches → List ℕ
field_counts Branches.no_branch = []
field_counts (Branches.branch_and n again T bs) = n ∷ field_counts bs

abbrev pub first_side : Terms → Term
first_side ε = var 0
first_side (t ▸ ts) = t

abbrev mutual
  -- with one right side for each leaf, in tree order
  pub glue : Tree → Terms → Term
  glue (Tree.leaf l) sides = first_side sides
  glue (Tree.split s bs) sides =
      apps (node (Form.case s.mult s.family (size s.params) (suc s.indices) (field_counts bs))
      (s.params +++ (s.motive ▸ glued bs sides (var s.variable ▸ ε)))) s.reverted
  glue (Tree.delete d again T) sides =
      apps (Delete d.mult d.type d.point d.motive (lams again (glue T sides)) (var d.variable)) d.reverted
  glue (Tree.absurd A) sides = Trap A
  glue (Tree.missing A ps) sides = Trap A

  -- the branches, and the scrutinee behind them
  pub glued : Branches → Terms → Terms → Terms
  glued Branches.no_branch sides scrutinee = scrutinee
  glued (Branches.branch_and n again T bs) sides scrutinee =
      lams again (glue T sides) ▸ glued bs (skip (length (leaves T)) sides) scrutinee
