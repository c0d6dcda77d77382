-- The examples.
use Rattle.std.proofs.Common.{◌≡◌, ◌<◌, ◌^◌, ◌-◌, [], refl, sym, ap, arith}
use Rattle.qtt_usage.specs.Mult.{𝟘, ω, ◌⊕◌}
use Rattle.qtt_usage.specs.Uses.{Key, zero_use, unit, out}
use Rattle.qtt_usage.proofs.Mults.{⊕-zero}
use Rattle.qtt_term.specs.Term.{Form, node, ε, ◌▸◌, Sort}
use Rattle.qtt_term.specs.Signature.{Env, IntTy}
use Rattle.qtt_term.specs.Judgement.{Ctx, Part, Args, Branches, Cases, Rule, Usable, UseIs, Typed, TypedAll}
use Rattle.qtt_term.specs.Accepted.{Accepts, AcceptsAll}
use Rattle.qtt_core_check.specs.Examples.{DeadPartsUseNothing, SortsAreBounded}
use Rattle.qtt_core_check.proofs.OneUse.{of-form}

nothing-is : (p : Part) (Γ : Ctx) → UseIs p Γ zero_use zero_use
nothing-is Part.run Γ = λ x s. refl
nothing-is Part.erased Γ = λ x s. refl

many-usable : (p : Part) → Usable p ω
many-usable Part.run = tt
many-usable Part.erased = tt

-- Int is a type
int-accepted : {E : Env} (p : Part) (Γ : Ctx) → Accepts E p Γ IntTy (Sort 0) zero_use
int-accepted p Γ = Accepts.by_rule (Rule.named tt (many-usable p) Args.none) tt AcceptsAll.none (nothing-is p Γ)

trap-accepted : {E : Env} (Γ : Ctx) → Accepts E Part.run Γ (node Form.trap (IntTy ▸ ε)) IntTy zero_use
trap-accepted Γ =
    Accepts.by_rule (Rule.trap {any = zero_use}) tt
    (AcceptsAll.more refl (int-accepted Part.erased Γ) tt AcceptsAll.none) (λ x s. refl)

out-nothing : (x : Key) → 𝟘 ≡ out zero_use x ⊕ 𝟘 ⊕ 𝟘
out-nothing (Key.v i) = refl
out-nothing (Key.h i) = refl

not-small : 2 ^ 32 - 1 < 2 ^ 32 - 1 → ⊥
not-small h = omega arith

pub dead_parts_use_nothing : DeadPartsUseNothing
dead_parts_use_nothing = record {
  function = λ E.
      Accepts.by_rule Rule.lam tt
      (AcceptsAll.more refl (int-accepted Part.erased []) tt
      (AcceptsAll.more refl (trap-accepted _) (λ e. absurd (cc e)) AcceptsAll.none))
      (λ x s. out-nothing x);
  branch =
      Accepts.by_rule (Rule.case tt tt
      (Cases.motive (Branches.each refl (Branches.each refl (Branches.scrutinee ε refl))))) tt
      (AcceptsAll.more refl (int-accepted Part.erased _) tt
      (AcceptsAll.more refl (Accepts.variable tt tt (λ x s. refl)) (λ e. tt)
      (AcceptsAll.more refl (trap-accepted _) (λ e. absurd (cc e))
      (AcceptsAll.more refl (Accepts.variable tt tt (λ x s. refl)) (λ e. tt) AcceptsAll.none))))
      (λ x s. ap (λ m. m ⊕ unit (Key.v 1) x) (sym (⊕-zero (unit (Key.v 0) x))));
}

-- ---- Sorts
pub sorts_are_bounded : (E : Env) (p : Part) (Γ : Ctx) → SortsAreBounded E p Γ
sorts_are_bounded E p Γ = record {
  below = Accepts.by_rule Rule.sort (omega arith) AcceptsAll.none (nothing-is p Γ);
  bound = λ A u h. let a = of-form h in absurd (not-small a.small);
  typed = Typed.by_rule Rule.sort TypedAll.none (nothing-is p Γ);
}
