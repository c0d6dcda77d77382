-- Deletion: a constructor of the family Eq of Prim that is stuck, where the index and the point compare Equal.
use Rattle.std.specs.Prelude.{ℕ, cond, length, Option, Some, None}
use Rattle.qtt_base.specs.declared.place.GlobalId.{GlobalId}
use Rattle.qtt_term.specs.Term.{Term, Terms, ε, ◌▸◌, same_id}
use Rattle.qtt_term.specs.Signature.{eq_id}
use Rattle.qtt_term.specs.Ask.{Ask}
use Rattle.qtt_unify.specs.Targets.{Scrutinee}

pub record Deletion : Type 0 where
  pub type : Term
  pub point : Term

-- parameters, a type and a point, and an index, under n variables
abbrev pub of_points : {F P : Type 0} → P → ℕ → Terms → Terms → Ask F P (Option Deletion)
of_points p n (A ▸ s ▸ ε) (i ▸ ε) =
    Ask.compare p n i s (Ask.done (Some (record { type = A; point = s }))) (Ask.done None)
of_points p n _ _ = Ask.done None

-- of a scrutinee of family f
unfoldable pub deletion : {F P : Type 0} → P → GlobalId → Scrutinee → Ask F P (Option Deletion)
deletion p f S = cond (same_id f eq_id) (of_points p (length S.context) S.params S.indices) (Ask.done None)
