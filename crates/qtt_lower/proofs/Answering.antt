-- Answers for the elements of a list.
use Rattle.std.proofs.Common.{◌≡◌, suc, List, [], ◌∷◌, ◌++◌, length, map, Ok, Err, IfOk, refl, subst, arith}
use mathlib.Core.Path.{ap₂}
use Rattle.std.specs.declared.result.Result.{Result}
use Rattle.std.specs.Fn.{FnReturns}
use Rattle.std.specs.Fork.{GivesJobs}
use denote.Param.Members.{Shared}
use Rattle.qtt_lower.specs.Answered.{Answered}

module _ {F J X E : Type 0} (g : Shared F (J × Unit {0}) (Result X E)) (f : F) where
  pub answered-append : (js ks : List J) (xs ys : List X) → Answered g f js xs → Answered g f ks ys →
      Answered g f (js ++ ks) (xs ++ ys)
  answered-append [] ks [] ys h k = k
  answered-append [] ks (x ∷ xs) ys h k = absurd h
  answered-append (j ∷ js) ks [] ys h k = absurd h
  answered-append (j ∷ js) ks (x ∷ xs) ys h k = (h.0, answered-append js ks xs ys h.1 k)

  abbrev pub value : X → Result X E
  value x = Ok x

  -- of jobs whose answers are all values
  pub answered-jobs : (js : List J) (xs : List X) → length xs ≡ length js → GivesJobs g f js (map value xs) →
      Answered g f js xs
  answered-jobs [] [] e h = tt
  answered-jobs [] (x ∷ xs) e h = absurd (omega arith)
  answered-jobs (j ∷ js) [] e h = absurd (omega arith)
  answered-jobs (j ∷ js) (x ∷ xs) e h =
      let first = (h 0 (Ok x) (omega arith)).1 in
      (subst (λ k. FnReturns g f (k, tt) (Ok x)) first.job_read first.call, answered-jobs js xs (omega arith) later)
    where
      later : GivesJobs g f js (map value xs)
      later i d p = let k = (h (suc i) d (omega arith)).1 in
          (refl, record { job = k.job; job_read = k.job_read; job_is = k.job_is; call = k.call })

  -- where each answer is seen as a value of its own
  pub answered-map : {Y : Type 0} (v : X → Y) (h : J → Y) →
      ((j : J) (x : X) → FnReturns g f (j, tt) (Ok x) → v x ≡ h j) →
      (js : List J) (xs : List X) → Answered g f js xs → map v xs ≡ map h js
  answered-map v h s [] [] a = refl
  answered-map v h s [] (x ∷ xs) a = absurd a
  answered-map v h s (j ∷ js) [] a = absurd a
  answered-map v h s (j ∷ js) (x ∷ xs) a = ap₂ ◌∷◌ (s j x a.0) (answered-map v h s js xs a.1)

pub no_length : {A : Type 0} (xs : List A) → length xs ≡ 0 → xs ≡ []
no_length [] e = refl
no_length (x ∷ xs) e = absurd (omega arith)

-- what a value has, a fact that follows has it too
pub if_ok : {A E : Type 0} {P Q : A → Type 0} (r : Result A E) → IfOk r P → ((a : A) → P a → Q a) → IfOk r Q
if_ok (Ok a) h f = f a h
if_ok (Err e) h f = tt
