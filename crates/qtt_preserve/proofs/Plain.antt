-- Terms and types that use nothing.
use Rattle.std.proofs.Common.{◌≡◌, [], Option, Some}
use Rattle.qtt_usage.specs.Mult.{ω}
use Rattle.qtt_usage.specs.Uses.{zero_use}
use Rattle.qtt_prims.specs.declared.lit.Lit.{Lit}
use Rattle.qtt_prims.specs.declared.lit.Lit.TheVariants as literal
use Rattle.qtt_term.specs.Term.{Named, Sort}
use Rattle.qtt_term.specs.Signature.{Env, There, signature, HandleTy}
use Rattle.qtt_term.specs.Contraction.{Conv, literal_term}
use Rattle.qtt_term.specs.Judgement.{Ctx, Part, InRun, AtMost, Usable, total, Args, Rule}
use Rattle.qtt_preserve.specs.Within.{Has, HasAll}
use Rattle.qtt_preserve.proofs.Travel.{always}

pub there-some : {A : Type 0} {o : Option A} {a : A} → o ≡ Some a → There o
there-some e = rw e tt

pub no-use : (p : Part) (Γ : Ctx) → InRun p (AtMost Γ (total zero_use []) zero_use)
no-use p Γ = always p (λ x s. tt)

usable-many : (p : Part) → Usable p ω
usable-many Part.run = tt
usable-many Part.erased = tt

pub literal_has : {E : Env} (p : Part) (Γ : Ctx) (l : Lit) →
    Has E p Γ (literal_term l) (signature E (Named.lit l)).type zero_use
literal_has p Γ (literal.Int z) =
    Has.at_node (Rule.named tt (usable-many p) Args.none) HasAll.none Conv.same (no-use p Γ)
literal_has p Γ (literal.Text s) =
    Has.at_node (Rule.named tt (usable-many p) Args.none) HasAll.none Conv.same (no-use p Γ)

pub handle_has : {E : Env} (Γ : Ctx) → Has E Part.erased Γ HandleTy (Sort 0) zero_use
handle_has Γ = Has.at_node (Rule.named tt tt Args.none) HasAll.none Conv.same tt
