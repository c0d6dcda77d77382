-- Worked examples: case trees of groups of clauses, and the same trees by the relation.
use Rattle.std.specs.Prelude.{◌≡◌, ℕ, List, [], ◌∷◌, codes, Some, None, cond, eqb}
use Rattle.qtt_base.specs.declared.place.Span.{Span}
use Rattle.qtt_usage.specs.Mult.{𝟘, 𝟙, ω}
use Rattle.qtt_syntax.specs.declared.expr.Mark.TheVariants.{Written}
use Rattle.qtt_syntax.specs.declared.expr.Target.TheVariants.{Global}
use Rattle.qtt_syntax.specs.Tree.{Shape, shapes}
use Rattle.qtt_syntax.specs.Tree.Shape.{constructor}
use Rattle.qtt_term.specs.Term.{Term, var, ε, ◌▸◌, Sort, Pi}
use Rattle.qtt_term.specs.Signature.{Tele, EqTy, IntTy}
use Rattle.qtt_term.specs.Judgement.{Ctx}
use Rattle.qtt_term.specs.Ask.{Ending, within}
use Rattle.qtt_term.specs.Programs.{item, nat, z, s, plus}
use Rattle.qtt_term.specs.Vectors.{vect}
use Rattle.qtt_term.specs.Entries.{env}
use Rattle.qtt_rules.specs.Refusal.{Cause, Place, Refusal, refused}
use Rattle.qtt_rules.specs.Report.{Report}
use Rattle.qtt_split.specs.Tests.{Test, at as test_at}
use Rattle.qtt_split.specs.Tree.{Tree, Branches}
use Rattle.qtt_split.specs.Missing.{first_missing, patterns}
use Rattle.qtt_split.specs.Node.{Row, Node}
use Rattle.qtt_split.specs.Relation.{gives, Made}
use Rattle.qtt_split.specs.Plan.{Planned, plan, start}
use Rattle.qtt_split.specs.Group.{Defined, body_of}
use Rattle.qtt_split.specs.Fragment.{fragment}
use Rattle.qtt_split.specs.Programs.{at, definition, plus_defined, append_defined, pred_group, deletes_defined}

-- ---- what is asked
-- the tree, and the body, within a budget
abbrev pub plans : ℕ → Defined → Ending Refusal Place Planned
plans n D = within (env D.group.globals) n (plan D.group D.type D.labels)

abbrev pub elaborates : ℕ → Defined → Ending Refusal Place Term
elaborates n D = within (env D.group.globals) n (body_of (fragment D.group.globals) D)

abbrev pub refuses : Cause → Span → Test → Ending Refusal Place Term
refuses c p t = Ending.fails (refused c (test_at p t))

-- ---- trees
abbrev pub leaf : ℕ → Ctx → List (Term × Term) → Term → List Report → Tree
leaf c Γ names A rs = Tree.leaf (record { clause = c; context = Γ; names = names; dots = []; goal = A; reported = rs })

abbrev pub reported : ℕ → List ℕ → Span → Report
reported i n p = record { variable = i; name = Some n; place = p }

abbrev pub planned : Tele → Tree → Ending Refusal Place Planned
planned Θ T = Ending.ok (record { opened = Θ; tree = T })

abbrev pub plus_tree : Tree
plus_tree =
    Tree.split (record {
      variable = 1;
      mult = ω;
      family = item 0;
      params = ε;
      indices = 0;
      motive = nat;
      reverted = [];
    })
    (Branches.branch_and 0 [] (leaf 0 ((ω, nat) ∷ (ω, nat) ∷ []) ((var 0, nat) ∷ []) nat
    (reported 0 (codes "m") (at 6 8) ∷ []))
    (Branches.branch_and 1 [] (leaf 1 ((ω, nat) ∷ (ω, nat) ∷ (ω, nat) ∷ []) ((var 0, nat) ∷ (var 1, nat) ∷ []) nat
    (reported 0 (codes "n") (at 7 9) ∷ reported 1 (codes "m") (at 7 12) ∷ []))
    Branches.no_branch))

-- a, m, n, xs, ys
abbrev pub append_binders : Tele
append_binders = (𝟘, Sort 0) ∷ (𝟘, nat) ∷ (𝟘, nat) ∷ (𝟙, vect (var 2) (var 1)) ∷ (𝟙, vect (var 3) (var 1)) ∷ []

-- under the indices and the scrutinee: (1 ys : Vect a n) -> Vect a (plus m n)
abbrev pub append_motive : Term
append_motive = Pi 𝟙 (vect (var 6) (var 4)) (vect (var 7) (plus (var 2) (var 5)))

-- m is solved by Z, and ys is bound again
abbrev pub nil_leaf : Tree
nil_leaf =
    leaf 0 ((𝟙, vect (var 4) (var 2)) ∷ (𝟙, vect (var 3) (var 1)) ∷ (𝟙, vect (var 2) (var 1)) ∷ (𝟘, nat) ∷ (𝟘, nat) ∷
    (𝟘, Sort 0) ∷ [])
    ((var 5, Sort 0) ∷ (var 3, nat) ∷ (var 0, vect (var 5) (var 3)) ∷ []) (vect (var 5) (plus z (var 3)))
    (reported 5 (codes "a") (at 12 8) ∷ reported 3 (codes "n") (at 12 12) ∷ reported 0 (codes "ys") (at 12 18) ∷ [])

-- m is solved by S k
abbrev pub cons_leaf : Tree
cons_leaf =
    leaf 1
    ((𝟙, vect (var 7) (var 5)) ∷ (𝟙, vect (var 6) (var 1)) ∷ (𝟙, var 5) ∷ (𝟘, nat)
    ∷ (𝟙, vect (var 3) (var 1)) ∷ (𝟙, vect (var 2) (var 1)) ∷ (𝟘, nat) ∷ (𝟘, nat) ∷ (𝟘, Sort 0) ∷ [])
    ((var 8, Sort 0) ∷ (var 6, nat) ∷ (var 3, nat) ∷ (var 2, var 8) ∷ (var 1, vect (var 8) (var 3)) ∷
    (var 0, vect (var 8) (var 6)) ∷ [])
    (vect (var 8) (plus (s (var 3)) (var 6)))
    (reported 8 (codes "a") (at 13 8) ∷ reported 6 (codes "n") (at 13 12) ∷ reported 3 (codes "k") (at 13 20) ∷
    reported 2 (codes "x") (at 13 22)
    ∷ reported 1 (codes "xs") (at 13 24) ∷ reported 0 (codes "ys") (at 13 28) ∷ [])

abbrev pub append_tree : Tree
append_tree =
    Tree.split (record {
      variable = 1;
      mult = 𝟙;
      family = item 4;
      params = var 4 ▸ ε;
      indices = 1;
      motive =
          append_motive;
      reverted = (𝟙, 0) ∷ [];
    })
    (Branches.branch_and 0 ((𝟙, vect (var 4) (var 2)) ∷ []) nil_leaf
    (Branches.branch_and 3 ((𝟙, vect (var 7) (var 5)) ∷ []) cons_leaf
    Branches.no_branch))

-- the pattern Z, with the place of the first clause
abbrev pub shown_zero : Shape
shown_zero =
    constructor Written (record { path = codes "Z"; target = Global (item 1); span = at 6 1 }) (shapes []) (at 6 1)

abbrev pub pred_tree : Tree
pred_tree =
    Tree.split (record {
      variable = 0;
      mult = ω;
      family = item 0;
      params = ε;
      indices = 0;
      motive = nat;
      reverted = [];
    })
    (Branches.branch_and 0 [] (Tree.missing nat (shown_zero ∷ []))
    (Branches.branch_and 1 [] (leaf 0 ((ω, nat) ∷ (ω, nat) ∷ []) ((var 0, nat) ∷ []) nat
    (reported 0 (codes "n") (at 6 9) ∷ []))
    Branches.no_branch))

abbrev pub deletes_tree : Tree
deletes_tree =
    Tree.delete (record { variable = 0; mult = ω; type = var 2; point = var 1; motive = IntTy; reverted = [] }) []
    (leaf 0 ((ω, EqTy (var 1) (var 0) (var 0)) ∷ (𝟘, var 0) ∷ (𝟘, Sort 0) ∷ []) ((var 2, Sort 0) ∷ (var 1, var 2) ∷ [])
    IntTy
    (reported 2 (codes "a") (at 3 3) ∷ reported 1 (codes "x") (at 3 5) ∷ []))

pub record TreeRows : Type 0 where
  pub of_plus : plans 0 plus_defined ≡ planned ((ω, nat) ∷ (ω, nat) ∷ []) plus_tree
  pub of_append : plans 0 append_defined ≡ planned append_binders append_tree
  pub of_pred : plans 0 (definition (codes "pred") pred_group (Pi ω nat nat) []) ≡ planned ((ω, nat) ∷ []) pred_tree
  pub of_deletion : plans 0 deletes_defined ≡ planned
      ((𝟘, Sort 0) ∷ (𝟘, var 0) ∷ (ω, EqTy (var 1) (var 0) (var 0)) ∷ []) deletes_tree
  pub first_end_of_pred : first_missing pred_tree ≡ Some 0
  pub patterns_of_pred : patterns pred_tree 0 ≡ Some (shown_zero ∷ [])
  pub nothing_missing : first_missing append_tree ≡ None

-- ---- the same trees by the relation
-- right sides of the first clause and of the second
abbrev pub sides_by : Term → Term → Node → Row → Term
sides_by t u N r = cond (eqb r.clause 0) t u

abbrev pub made_so : Defined → Tele → Term → Tree → Term → Term → Type 0
made_so D Θ A T t u =
    Made D.group.globals (gives (sides_by t u)) (start D.group D.labels (record { binders = Θ; goal = A })) T
    (t ▸ u ▸ ε) ε

pub record MadeRows : Type 0 where
  pub plus_is_made : made_so plus_defined ((ω, nat) ∷ (ω, nat) ∷ []) nat plus_tree (var 0) (s (plus (var 0) (var 1)))
  pub append_is_made : made_so append_defined append_binders (vect (var 4) (plus (var 3) (var 2))) append_tree (var 0)
      (var 1)
