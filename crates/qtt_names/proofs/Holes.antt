-- The hole in the last of several statements.
use Rattle.std.proofs.Common.{◌≡◌, ℕ, suc, ◌-◌, List, [], ◌∷◌, Option, Some, None, map, length, slice_get, refl, ap, ◌∙◌, arith}
use Rattle.qtt_syntax.specs.declared.expr.Local.{Local}
use Rattle.qtt_syntax.specs.declared.expr.Statement.{Statement}
use Rattle.qtt_syntax.specs.Tree.{statements}
use Rattle.qtt_syntax.specs.View.{statement_of}
use Rattle.qtt_names.specs.Resolved.{last_hole, statement_hole}

abbrev pub hole_at : Option Statement → Option Local
hole_at None = None
hole_at (Some s) = statement_hole (statement_of s)

pub last_hole-statements : (xs : List Statement) →
    last_hole (statements (map statement_of xs)) ≡ hole_at (slice_get xs (length xs - 1))
last_hole-statements [] = refl
last_hole-statements (x ∷ []) = refl
last_hole-statements (x ∷ y ∷ more) =
    let n : suc (length (y ∷ more) - 1) ≡ length (x ∷ y ∷ more) - 1 = omega arith in
    last_hole-statements (y ∷ more) ∙ ap (λ (i : ℕ). hole_at (slice_get (x ∷ y ∷ more) i)) n
