-- What a function answers for each element of a list.
use Rattle.std.specs.Prelude.{List, [], ◌∷◌, Ok}
use Rattle.std.specs.declared.result.Result.{Result}
use Rattle.std.specs.Fn.{FnReturns}
use denote.Param.Members.{Shared}

module _ {F J X E : Type 0} (g : Shared F (J × Unit {0}) (Result X E)) (f : F) where
  -- each x is a value that a call of f with the j at its place may give
  abbrev pub Answered : List J → List X → Type 0
  Answered [] [] = Unit {0}
  Answered [] (x ∷ xs) = ⊥
  Answered (j ∷ js) [] = ⊥
  Answered (j ∷ js) (x ∷ xs) = FnReturns g f (j, tt) (Ok x) × Answered js xs
