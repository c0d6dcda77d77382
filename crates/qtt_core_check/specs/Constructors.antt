-- What the rule of constructors asks.
use Rattle.std.specs.Prelude.{◌≡◌, ℕ, Bool, false, ◌&&◌, eqb, length, Option, Some, None, slice_get}
use Rattle.qtt_term.specs.Signature.{ConSig, FamSig}
use Rattle.qtt_term.specs.Judgement.{erase_binds}
use Rattle.qtt_term.specs.View.{term}
use Rattle.qtt_term.specs.Infer.{constructor_wants}
use Rattle.qtt_core_check.specs.declared.named_rows.Made as code
use Rattle.qtt_term.specs.Telescopes.{tele}

abbrev pub counted : FamSig → ℕ → ℕ → Option ConSig → Bool
counted S k n None = false
counted S k n (Some c) = eqb k (length S.params) && eqb n (length (constructor_wants S c))

-- the constructor is there, of so many parameters and so many components in all
abbrev pub made_shaped : FamSig → ℕ → ℕ → ℕ → Bool
made_shaped S place k n = counted S k n (slice_get S.constructors place)

-- a family's parameters, erased, a constructor's fields, and its type
pub record IsMade (S : FamSig) (place : ℕ) (m : code.Made) : Type 0 where
  pub sig : ConSig
  pub there : slice_get S.constructors place ≡ Some sig
  pub params : tele m.params.items ≡ erase_binds S.params
  pub fields : tele m.fields.items ≡ sig.fields
  pub type : term m.ty ≡ sig.result
