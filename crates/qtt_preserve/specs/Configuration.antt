-- Configurations of a run that are typed, and in which each open tape is used exactly once.
use Rattle.std.specs.Prelude.{◌≡◌, ℕ, zero, suc, List, [], ◌∷◌, cond}
use Rattle.qtt_usage.specs.declared.mult.Mult.{Mult}
use Rattle.qtt_usage.specs.Mult.{𝟘, 𝟙, ◌⊕◌}
use Rattle.qtt_usage.specs.Uses.{Key, Use, zero_use}
use Rattle.qtt_prims.specs.Tapes.{Taped}
use Rattle.qtt_term.specs.Term.{Io, Term, Pi}
use Rattle.qtt_term.specs.Substitution.{ren}
use Rattle.qtt_term.specs.Signature.{Env, IoTy, mult_of}
use Rattle.qtt_term.specs.Contraction.{Conv}
use Rattle.qtt_term.specs.FullRun.{Config}
use Rattle.qtt_term.specs.Judgement.{Part, Typed}

-- 1 for the number of an open tape, and 0 for every other
abbrev pub open_use : List Taped → ℕ → Mult
open_use [] h = 𝟘
open_use (t ∷ ts) zero = cond t.is_open 𝟙 𝟘
open_use (t ∷ ts) (suc h) = open_use ts h

-- continuations that wait for a result of type A, after IO or IO1, and the sum of their uses; the last of them
-- gives an IO R
pub data Waits (E : Env) (R : Term) : Io → Term → List Term → Use → Type 0 where
  none : {A : Term} → Conv E A R → Waits E R Io.io A [] zero_use
  more : {m n : Io} {A B k : Term} {ks : List Term} {u w : Use} →
      Typed E Part.run [] k (Pi (mult_of m) A (IoTy n (ren suc B))) w → Waits E R n B ks u →
      Waits E R m A (k ∷ ks) (λ x. w x ⊕ u x)

-- the term is an action, the continuations wait for its result and end in an IO R, and the uses of both together
-- are 1 for each open tape and 0 for every other
pub record Configured (E : Env) (R : Term) (c : Config) : Type 0 where
  pub io : Io
  pub type : Term
  pub use_of_term : Use
  pub use_of_waiting : Use
  pub typed : Typed E Part.run [] c.term (IoTy io type) use_of_term
  pub waits : Waits E R io type c.waiting use_of_waiting
  pub counted : (h : ℕ) → use_of_term (Key.h h) ⊕ use_of_waiting (Key.h h) ≡ open_use c.tapes h
