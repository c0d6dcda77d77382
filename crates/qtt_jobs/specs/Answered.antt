-- What is answered to each job of a list.
use Rattle.std.specs.Prelude.{List, [], ◌∷◌, ◌⊎◌, Ok, Err}
use Rattle.std.specs.declared.result.Result.{Result}

module _ {J X E : Type 0} (answers : J → Result X E → Type 0) where
  -- each x is a value that the job at its place may be answered
  abbrev pub Answered : List J → List X → Type 0
  Answered [] [] = Unit {0}
  Answered [] (x ∷ xs) = ⊥
  Answered (j ∷ js) [] = ⊥
  Answered (j ∷ js) (x ∷ xs) = answers j (Ok x) × Answered js xs

  -- one of the jobs may be answered this error, and those before it values
  abbrev pub Stopped : List J → E → Type 0
  Stopped [] e = ⊥
  Stopped (j ∷ js) e = answers j (Err e) ⊎ ((x : X) × answers j (Ok x) × Stopped js e)

  -- and each job is answered one of these
  abbrev pub AllAnswered : List J → List (Result X E) → Type 0
  AllAnswered [] [] = Unit {0}
  AllAnswered [] (r ∷ rs) = ⊥
  AllAnswered (j ∷ js) [] = ⊥
  AllAnswered (j ∷ js) (r ∷ rs) = answers j r × AllAnswered js rs
