-- Examples: what the judgement says of handles, and programs that the laws speak of.
use Rattle.std.specs.Prelude.{◌≡◌, ℕ, []}
use Rattle.qtt_usage.specs.Uses.{Key, Use, unit}
use Rattle.qtt_term.specs.Term.{Term, var, Tape}
use Rattle.qtt_term.specs.Signature.{Env}
use Rattle.qtt_term.specs.FullRun.{pure_unit}
use Rattle.qtt_term.specs.Judgement.{Part, Typed}
use Rattle.qtt_term.specs.Environment.{WellFormed, Complete, IsMain}
use Rattle.qtt_term.specs.Programs.{item, io_unit, then_do, with_handle, opened_a, closed_after}

-- do h <- open "a"; pure MkUnit
abbrev pub dropping : Term
dropping = with_handle opened_a pure_unit

-- do h <- open "a"; close h; close h
abbrev pub closing_twice : Term
closing_twice = with_handle opened_a (then_do (closed_after (var 0)) (closed_after (var 1)))

-- what closes a tape uses this tape once and no other; a program that drops its handle has no type, and neither
-- has one that closes it twice
pub record HandlesAreLinear (E : Env) : Type 0 where
  pub open_tape : (h : ℕ) → Typed E Part.run [] (closed_after (Tape h)) io_unit (unit (Key.h h))
  pub used_once : (h : ℕ) (C : Term) (u : Use) → Typed E Part.run [] (closed_after (Tape h)) C u →
      (k : ℕ) → u (Key.h k) ≡ unit (Key.h h) (Key.h k)
  pub dropped : (C : Term) (u : Use) → Typed E Part.run [] dropping C u → ⊥
  pub closed_twice : (C : Term) (u : Use) → Typed E Part.run [] closing_twice C u → ⊥

-- an environment whose item 0 is a main
pub record IsProgram (E : Env) : Type 0 where
  pub formed : WellFormed E
  pub complete : Complete E
  pub main : IsMain E (item 0)
