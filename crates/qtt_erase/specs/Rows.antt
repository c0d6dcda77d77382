-- Worked examples of erasure.
use Rattle.std.specs.Prelude.{◌≡◌, pos, [], ◌∷◌, Some, None}
use Rattle.qtt_prims.specs.declared.prim.Primitive.TheVariants as prim
use Rattle.qtt_prims.specs.declared.lit.Lit.TheVariants as literal
use Rattle.qtt_term.specs.Term.{Action}
use Rattle.qtt_term.specs.Programs.{item, identity, loops, boxed, deletes, program, zero_def}
use Rattle.qtt_term.specs.Signature.{IntTy}
use Rattle.qtt_erase.specs.Binding.{Tree, ∅, ◌◂◌}
use Rattle.qtt_erase.specs.Operator.{Operator, App, Force, Def, Con, Literal, Call, Act}
use Rattle.qtt_erase.specs.Lean.{Fun, Thunk}
use Rattle.qtt_erase.specs.Erasure.{erased_bodies}
use Rattle.qtt_term.specs.Vectors.{vectors}
use Rattle.qtt_erase.specs.Programs.{casts}

pub record ErasureRows : Type 0 where
  pub identity_keeps : erased_bodies identity (item 0) ≡ Some (Fun (Tree.var 0))
  pub identity_called : erased_bodies identity (item 1) ≡
      Some (Act Action.put_line (Call prim.ShowInt (App (Def (item 0)) (Literal (literal.Int (pos 3))) ◂ ∅) ◂ ∅))
  pub plus_keeps : erased_bodies vectors (item 3) ≡
      Some (Fun (Fun (Tree.node (Operator.case (0 ∷ 1 ∷ [])) (
      Tree.var 0 ◂ Con 1 (App (App (Def (item 3)) (Tree.var 0)) (Tree.var 1) ◂ ∅) ◂ Tree.var 1 ◂ ∅))))
  -- no type and no length is left
  pub append_keeps : erased_bodies vectors (item 7) ≡
      Some (Thunk (Thunk (Thunk (Fun (Fun (App
      (Tree.node (Operator.case (0 ∷ 2 ∷ [])) (
      Fun (Tree.var 0)
      ◂ Fun (Con 1 (Tree.var 2 ◂ App (App (Force (Force (Force (Def (item 7))))) (Tree.var 1)) (Tree.var 0) ◂ ∅))
      ◂ Tree.var 1 ◂ ∅))
      (Tree.var 0)))))))
  pub total_keeps : erased_bodies vectors (item 8) ≡
      Some (Thunk (Fun (Tree.node (Operator.case (0 ∷ 2 ∷ [])) (
      Literal (literal.Int (pos 0)) ◂ Call prim.AddInt (Tree.var 1 ◂ App (Force (Def (item 8))) (Tree.var 0) ◂ ∅)
      ◂ Tree.var 0 ◂ ∅))))
  -- a function at 0 stays a function without argument, so that its body is not evaluated before it is forced
  pub loopy_waits : erased_bodies loops (item 0) ≡ Some (Thunk (Force (Def (item 0))))
  -- the field at 0 goes
  pub box_keeps : erased_bodies boxed (item 2) ≡ Some (Con 0 (Literal (literal.Int (pos 4)) ◂ ∅))
  -- a match on a proof of equality is kept
  pub cast_matches : erased_bodies casts (item 3) ≡
      Some (Thunk (Thunk (Fun (Fun (Tree.node (Operator.case (0 ∷ [])) (Tree.var 0 ◂ Tree.var 1 ◂ ∅))))))
  pub delete_matches : erased_bodies deletes (item 0) ≡
      Some (Thunk (Thunk (Fun (Tree.node (Operator.case (0 ∷ [])) (Literal (literal.Int (pos 1)) ◂ Tree.var 0 ◂ ∅)))))
  -- a 0 definition has no erased body
  pub zero_definition : erased_bodies (program [] ((0, zero_def IntTy IntTy) ∷ [])) (item 0) ≡ None
