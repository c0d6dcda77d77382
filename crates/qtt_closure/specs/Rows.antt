-- Worked examples of conversion.
use Rattle.std.specs.Prelude.{◌≡◌, List, [], ◌∷◌, Option, Some, None}
use Rattle.qtt_term.specs.Programs.{item, identity}
use Rattle.qtt_erase.specs.Binding.{Tree, ∅, ◌◂◌}
use Rattle.qtt_erase.specs.Operator.{Operator, App, Force, Def, Con}
use Rattle.qtt_erase.specs.Lean.{Lean}
use Rattle.qtt_erase.specs.Erasure.{erased_bodies}
use Rattle.qtt_term.specs.Vectors.{vectors}
use Rattle.qtt_closure.specs.Flat.{Function}
use Rattle.qtt_closure.specs.Conversion.{closure_at, conversion}

-- the functions of an erased body
abbrev pub listed : Option Lean → List Function
listed None = []
listed (Some t) = conversion 0 t

pub record ConversionRows : Type 0 where
  pub identity_converted : listed (erased_bodies identity (item 0)) ≡
      record { captured = 0; takes = 0; body = closure_at 1 ∅ } ∷
      record { captured = 0; takes = 1; body = Tree.var 0 } ∷ []
  -- the inner function captures the first argument
  pub plus_converted : listed (erased_bodies vectors (item 3)) ≡
      record { captured = 0; takes = 0; body = closure_at 1 ∅ }
      ∷ record { captured = 0; takes = 1; body = closure_at 2 (Tree.var 0 ◂ ∅) }
      ∷ record {
        captured = 1;
        takes = 1;
        body = Tree.node (Operator.case (0 ∷ 1 ∷ []))
            (Tree.var 0 ◂ Con 1 (App (App (Def (item 3)) (Tree.var 0)) (Tree.var 1) ◂ ∅) ◂ Tree.var 1 ◂ ∅);
      } ∷ []
  -- three erased arguments, two linear ones, and one function in each branch; the last captures x and then xs
  pub append_converted : listed (erased_bodies vectors (item 7)) ≡
      record { captured = 0; takes = 0; body = closure_at 1 ∅ }
      ∷ record { captured = 0; takes = 0; body = closure_at 2 ∅ }
      ∷ record { captured = 0; takes = 0; body = closure_at 3 ∅ }
      ∷ record { captured = 0; takes = 0; body = closure_at 4 ∅ }
      ∷ record { captured = 0; takes = 1; body = closure_at 5 (Tree.var 0 ◂ ∅) }
      ∷ record {
        captured = 1;
        takes = 1;
        body = App (Tree.node (Operator.case (0 ∷ 2 ∷ []))
            (closure_at 6 ∅ ◂ closure_at 7 (Tree.var 1 ◂ Tree.var 0 ◂ ∅) ◂ Tree.var 1 ◂ ∅)) (Tree.var 0);
      }
      ∷ record { captured = 0; takes = 1; body = Tree.var 0 }
      ∷ record {
        captured = 2;
        takes = 1;
        body = Con 1 (Tree.var 2 ◂ App (App (Force (Force (Force (Def (item 7))))) (Tree.var 1)) (Tree.var 0) ◂ ∅);
      } ∷ []
