-- The last of some statements, and whether it is a hole.
use Rattle.std.proofs.Common.{◌≡◌, ◌∙◌, ◌+◌, ◌-◌, ◌<◌, ◌≤◌, List, [], ◌∷◌, ◌++◌, length, get_or, take, refl, sym, ap, arith}
use Rattle.std.proofs.lemmas.List.{take_more, take_all}
use Rattle.qtt_syntax.specs.declared.expr.Statement as code
use Rattle.qtt_syntax.specs.Tree.{Statement, Statements}
use Rattle.qtt_syntax.specs.Tree.Statement.{bind, local, run}
use Rattle.qtt_syntax.specs.Tree.Statements.{no_statement, statement_and}
use Rattle.qtt_syntax.specs.View.{statement_of}
use Rattle.qtt_bidi.specs.Parts.{statement_trees}
use Rattle.qtt_holes.specs.Walk.{ends_in_hole}

in-front : (x y : Statement) (ys : Statements) →
    ends_in_hole (statement_and x (statement_and y ys)) ≡ ends_in_hole (statement_and y ys)
in-front (bind n e) y ys = refl
in-front (local q n A e s) y ys = refl
in-front (run e s) y ys = refl

pub last-alone : (ss : List code.Statement) (s : code.Statement) →
    ends_in_hole (statement_trees (ss ++ s ∷ [])) ≡ ends_in_hole (statement_and (statement_of s) no_statement)
last-alone [] s = refl
last-alone (x ∷ []) s = in-front (statement_of x) (statement_of s) no_statement
last-alone (x ∷ y ∷ ss) s =
    in-front (statement_of x) (statement_of y) (statement_trees (ss ++ s ∷ [])) ∙ last-alone (y ∷ ss) s

-- the last of some
pub last-behind : {A : Type 0} (xs : List A) (x : A) → 0 < length xs → x ≡ get_or xs (length xs - 1) x →
    xs ≡ take (length xs - 1) xs ++ x ∷ []
last-behind xs x h e =
    let n : length xs - 1 < length xs = omega (arith, h) in
    let all : length xs ≤ length xs - 1 + 1 = omega (arith, h) in
    sym (take_all (length xs - 1 + 1) xs all) ∙ take_more xs (length xs - 1) x n
    ∙ ap (λ y. take (length xs - 1) xs ++ y ∷ []) (sym e)
