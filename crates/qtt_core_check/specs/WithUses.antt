-- What an inferred type and the inferred uses of variables say of a term.
use Rattle.std.specs.Prelude.{◌≡◌, ℕ, List, length}
use Rattle.qtt_usage.specs.declared.mult.Mult.{Mult}
use Rattle.qtt_usage.specs.Uses.{Key, Use}
use Rattle.qtt_usage.specs.Usage.{usage_at}
use Rattle.qtt_term.specs.Term.{Term}
use Rattle.qtt_usage.specs.Mult.{𝟘}
use Rattle.qtt_term.specs.Signature.{Env}
use Rattle.qtt_term.specs.Judgement.{Part, Ctx, Typed}
use Rattle.qtt_term.specs.Accepted.{Accepts}
use Rattle.qtt_term.specs.Environment.{NoTape}

-- a judgement of a term holds at a use that is the list's at each variable, and none at tapes where none stands
-- in the term
pub record WithUses (Holds : Use → Type 0) (Γ : Ctx) (t : Term) (us : List Mult) : Type 0 where
  pub use_of_term : Use
  pub holds : Holds use_of_term
  pub variables : (i : ℕ) → use_of_term (Key.v i) ≡ usage_at us i
  pub tapes : NoTape t → (n : ℕ) → use_of_term (Key.h n) ≡ 𝟘
  pub counted : length us ≡ length Γ

-- a term has this type and these uses by the rules, where what is dead uses nothing
abbrev pub AcceptsUses : Env → Part → Ctx → Term → Term → List Mult → Type 0
AcceptsUses E p Γ t A us = WithUses (Accepts E p Γ t A) Γ t us

-- and by the core judgement
abbrev pub HasUses : Env → Part → Ctx → Term → Term → List Mult → Type 0
HasUses E p Γ t A us = WithUses (Typed E p Γ t A) Γ t us
