-- Answers to the jobs of a group, and to the groups behind it.
use Rattle.std.proofs.Common.{◌≡◌, ◌⊎◌, inl, inr, suc, List, [], ◌∷◌, ◌++◌, length, map, Ok, Err, refl, subst, arith}
use Rattle.std.specs.declared.result.Result.{Result}
use Rattle.std.specs.Fn.{FnReturns}
use Rattle.std.specs.Fork.{GivesJobs}
use denote.Param.Members.{Shared}
use Rattle.qtt_jobs.specs.Answered.{AllAnswered, Answered, Stopped}

-- ---- jobs of a function
module _ {F J R : Type 0} (g : Shared F (J × Unit {0}) R) (f : F) where
  later : (j : J) (js : List J) (r : R) (rs : List R) → GivesJobs g f (j ∷ js) (r ∷ rs) → GivesJobs g f js rs
  later j js r rs h i d p =
      let k = (h (suc i) d (omega (arith, p))).1 in
      (refl, record { job = k.job; job_read = k.job_read; job_is = k.job_is; call = k.call })

  first : (j : J) (js : List J) (r : R) (rs : List R) → GivesJobs g f (j ∷ js) (r ∷ rs) → FnReturns g f (j, tt) r
  first j js r rs h =
      let k = (h 0 r (omega arith)).1 in subst (λ i. FnReturns g f (i, tt) r) k.job_read k.call

module _ {J X E : Type 0} (answers : J → Result X E → Type 0) where
  -- ---- all answers
  pub all-answered : {F : Type 0} (g : Shared F (J × Unit {0}) (Result X E)) (f : F) →
      ((j : J) (r : Result X E) → FnReturns g f (j, tt) r → answers j r) → (js : List J) (rs : List (Result X E)) →
      length rs ≡ length js → GivesJobs g f js rs → AllAnswered answers js rs
  all-answered g f says [] [] e h = tt
  all-answered g f says [] (r ∷ rs) e h = absurd (omega (arith, e))
  all-answered g f says (j ∷ js) [] e h = absurd (omega (arith, e))
  all-answered g f says (j ∷ js) (r ∷ rs) e h =
      (says j r (first g f j js r rs h), all-answered g f says js rs (omega (arith, e)) (later g f j js r rs h))

  abbrev pub value : X → Result X E
  value x = Ok x

  -- where all are values
  pub answered-all : (js : List J) (xs : List X) → AllAnswered answers js (map value xs) → Answered answers js xs
  answered-all [] [] h = tt
  answered-all [] (x ∷ xs) h = absurd h
  answered-all (j ∷ js) [] h = absurd h
  answered-all (j ∷ js) (x ∷ xs) h = (h.0, answered-all js xs h.1)

  -- where the first error is this one
  pub stopped-all : (js : List J) (xs : List X) (e : E) (rs : List (Result X E)) →
      AllAnswered answers js (map value xs ++ Err e ∷ rs) → Stopped answers js e
  stopped-all [] [] e rs h = absurd h
  stopped-all [] (x ∷ xs) e rs h = absurd h
  stopped-all (j ∷ js) [] e rs h = inl h.0
  stopped-all (j ∷ js) (x ∷ xs) e rs h = inr (x, h.0, stopped-all js xs e rs h.1)

  -- ---- groups
  pub answered-append : (js ks : List J) (xs ys : List X) → Answered answers js xs → Answered answers ks ys →
      Answered answers (js ++ ks) (xs ++ ys)
  answered-append [] ks [] ys h k = k
  answered-append [] ks (x ∷ xs) ys h k = absurd h
  answered-append (j ∷ js) ks [] ys h k = absurd h
  answered-append (j ∷ js) ks (x ∷ xs) ys h k = (h.0, answered-append js ks xs ys h.1 k)

  -- a group that stops, whatever is behind it
  stopped-front : (js ks : List J) (e : E) → Stopped answers js e → Stopped answers (js ++ ks) e
  stopped-front [] ks e h = absurd h
  stopped-front (j ∷ js) ks e (inl h) = inl h
  stopped-front (j ∷ js) ks e (inr h) = inr (h.0, h.1, stopped-front js ks e h.2)

  -- those behind a group that is answered
  stopped-behind : (js ks : List J) (xs : List X) (e : E) → Answered answers js xs → Stopped answers ks e →
      Stopped answers (js ++ ks) e
  stopped-behind [] ks [] e h s = s
  stopped-behind [] ks (x ∷ xs) e h s = absurd h
  stopped-behind (j ∷ js) ks [] e h s = absurd h
  stopped-behind (j ∷ js) ks (x ∷ xs) e h s = inr (x, h.0, stopped-behind js ks xs e h.1 s)

  -- so it is of a group between others, if the error comes of one
  pub stopped-among : {M : Type 0} (front group others jobs : List J) (xs : List X) (e : E) →
      Answered answers front xs → front ++ (group ++ others) ≡ jobs → M ⊎ Stopped answers group e →
      M ⊎ Stopped answers jobs e
  stopped-among front group others jobs xs e h same (inl m) = inl m
  stopped-among front group others jobs xs e h same (inr s) =
      inr (subst (λ js. Stopped answers js e) same
      (stopped-behind front (group ++ others) xs e h (stopped-front group others e s)))

pub no_length : {A : Type 0} (xs : List A) → length xs ≡ 0 → xs ≡ []
no_length [] e = refl
no_length (x ∷ xs) e = absurd (omega (arith, e))
