-- Variables and holes are those of the code.
use Rattle.std.proofs.Common.{◌≡◌, ℕ, List, [], ◌∷◌, ◌++◌, Option, Some, None, refl, ap, ap₂, ◌∙◌}
use Rattle.qtt_syntax.specs.declared.expr.Local.{Local}
use Rattle.qtt_syntax.specs.Tree.{Tree, Statement, Statements, Shape, Shapes}
use Rattle.qtt_syntax.specs.Tree.Tree.{name, number, text, universe, hole, the, apply, pi, lambda, letting, doing}
use Rattle.qtt_syntax.specs.Tree.Statement.{bind, local, run}
use Rattle.qtt_syntax.specs.Tree.Statements.{no_statement, statement_and}
use Rattle.qtt_syntax.specs.Tree.Shape.{variable, wildcard, constructor, dot}
use Rattle.qtt_syntax.specs.Tree.Shapes.{no_shape, shape_and}
use Rattle.qtt_names.specs.Patterns.{variables, variables_of}
use Rattle.qtt_names.specs.Resolved.{tail_hole, last_hole, statement_hole, hole_name, variables_in}
use Rattle.qtt_names_laws.specs.Places.{binds, all_bind, clause_binds, hole_of, hole_of_last, hole_of_statement, hole_names}

mutual
  pub same_variables : (a : Shape) → binds a ≡ variables a
  same_variables (variable k n s) = refl
  same_variables (wildcard k s) = refl
  same_variables (constructor k h ps s) = all_same_variables ps
  same_variables (dot k e s) = refl

  all_same_variables : (ps : Shapes) → all_bind ps ≡ variables_of ps
  all_same_variables no_shape = refl
  all_same_variables (shape_and a more) = ap₂ (λ xs ys. xs ++ ys) (same_variables a) (all_same_variables more)

pub clause_variables : (ps : List Shape) → clause_binds ps ≡ variables_in ps
clause_variables [] = refl
clause_variables (a ∷ more) = ap₂ (λ xs ys. xs ++ ys) (same_variables a) (clause_variables more)

mutual
  pub same_hole : (t : Tree) → hole_of t ≡ tail_hole t
  same_hole (name n) = refl
  same_hole (number v s) = refl
  same_hole (text v s) = refl
  same_hole (universe l ls s) = refl
  same_hole (hole n s) = refl
  same_hole (the t e s) = refl
  same_hole (apply f xs s) = refl
  same_hole (pi k m n a b s) = refl
  same_hole (lambda bs b s) = same_hole b
  same_hole (letting m n t e b s) = same_hole b
  same_hole (doing ss s) = same_last ss

  same_last : (ss : Statements) → hole_of_last ss ≡ last_hole ss
  same_last no_statement = refl
  same_last (statement_and s no_statement) = same_in_statement s
  same_last (statement_and s (statement_and t more)) = same_last (statement_and t more)

  same_in_statement : (s : Statement) → hole_of_statement s ≡ statement_hole s
  same_in_statement (bind n e) = refl
  same_in_statement (local m n t e s) = refl
  same_in_statement (run e s) = same_hole e

name_of_hole : (o : Option Local) → hole_names o ≡ hole_name o
name_of_hole None = refl
name_of_hole (Some h) = refl

-- the names of holes, with that of an expression
pub more_holes : (holes : List (List ℕ)) (t : Tree) → holes ++ hole_names (hole_of t) ≡ holes ++ hole_name (tail_hole t)
more_holes holes t =
    ap (λ (l : List (List ℕ)). holes ++ l) (name_of_hole (hole_of t) ∙ ap hole_name (same_hole t))

-- behind the variables of a pattern
pub more_variables : (before known : List (List ℕ)) (a : Shape) → before ≡ known →
    before ++ binds a ≡ known ++ variables a
more_variables before known a e = ap₂ (λ xs ys. xs ++ ys) e (same_variables a)
