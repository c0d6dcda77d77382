-- What the judgement says of handles.
use Rattle.std.proofs.Common.{◌≡◌, ℕ, List, [], ◌∷◌, refl, sym, ◌∙◌, arith}
use Rattle.qtt_usage.specs.declared.mult.Mult.{Mult}
use Rattle.qtt_usage.specs.Mult.{𝟘, 𝟙, ω, ◌⊕◌, ◌⊙◌, ◌≼◌}
use Rattle.qtt_usage.specs.Uses.{Key, Use, unit}
use Rattle.qtt_usage.proofs.Mults.{⊕-zero}
use Rattle.qtt_term.specs.Term.{Action, Named, Term, var, ε, ◌▸◌, Tape}
use Rattle.qtt_term.specs.Substitution.{closed}
use Rattle.qtt_term.specs.Signature.{Env, UnitTy, HandleTy, act_signature}
use Rattle.qtt_term.specs.FullRun.{pure_unit}
use Rattle.qtt_term.specs.Judgement.{Ctx, Part, UseIs, sum_of, Judged, Args, Rule, Typed, TypedAll}
use Rattle.qtt_term.specs.Programs.{then_do, with_handle, opened_a, closed_after}
use Rattle.qtt_preserve.specs.Within.{Has, HasAll}
use Rattle.qtt_preserve.specs.Examples.{HandlesAreLinear}
use Rattle.qtt_preserve.proofs.Exact.{typed-has}
use Rattle.qtt_preserve.proofs.Inverted.{inverted}

-- ---- tables
one_closed : (z u : Mult) → 𝟙 ≼ z → (z ⊕ 𝟘) ⊕ 𝟘 ≼ u → 𝟙 ≼ u
one_closed z u h k = grind arith

-- a use that is none or more, and one that is one or more, and two of them
none_below_one : (y u : Mult) → (ω ⊙ y ⊕ 𝟘) ⊕ 𝟘 ≼ u → u ≼ 𝟙 → ⊥
none_below_one y u h k = grind arith

two_above_one : (y z w u : Mult) → 𝟙 ≼ y → 𝟙 ≼ z → z ≼ w → (y ⊕ (w ⊕ 𝟘)) ⊕ 𝟘 ≼ u → u ≼ 𝟙 → ⊥
two_above_one y z w u g h i j k = grind arith

kept_lambda : (z w : Mult) → (z ⊕ 𝟘) ⊕ 𝟘 ≼ w → z ≼ w
kept_lambda z w h = grind arith

module _ {E : Env} where
  -- a variable that is closed is used
  closes-use : {Γ : Ctx} {C : Term} {u : Use} (a : Mult × Term) →
      Has E Part.run (a ∷ Γ) (closed_after (var 0)) C u → 𝟙 ≼ u (Key.v 0)
  closes-use {u = u} a (Has.at_node (Rule.named there m (Args.more {u = z} Args.none))
      (HasAll.more e (Has.at_var s n d g) f HasAll.none) c h) =
      one_closed (z (Key.v 0)) (u (Key.v 0)) (g (Key.v 0) tt) (h (Key.v 0) tt)

  closes-next : {Γ : Ctx} {C : Term} {u : Use} (a b : Mult × Term) →
      Has E Part.run (a ∷ b ∷ Γ) (closed_after (var 1)) C u → 𝟙 ≼ u (Key.v 1)
  closes-next {u = u} a b (Has.at_node (Rule.named there m (Args.more {u = z} Args.none))
      (HasAll.more e (Has.at_var s n d g) f HasAll.none) c h) =
      one_closed (z (Key.v 1)) (u (Key.v 1)) (g (Key.v 1) tt) (h (Key.v 1) tt)

  -- the handle of a continuation is used once
  handle-fits : {k C : Term} {u : Use} → Has E Part.run [] (with_handle opened_a k) C u →
      (B : Term) × (w : Use) × Has E Part.run ((𝟙, HandleTy) ∷ []) k B w × (w (Key.v 0) ≼ 𝟙)
  handle-fits (Has.at_node (Rule.named there m (Args.more (Args.more (Args.more (Args.more Args.none)))))
      (HasAll.more e₀ h₀ f₀ (HasAll.more e₁ h₁ f₁ (HasAll.more e₂ h₂ f₂ (HasAll.more e₃
      (Has.at_node (Rule.lam {B = B} {w = w}) (HasAll.more d hA fA (HasAll.more g hk fk HasAll.none)) cv i) f₃
      HasAll.none)))) c j) = (B, w, hk, fk.0)

  pure-none : {C : Term} {u : Use} → Has E Part.run ((𝟙, HandleTy) ∷ []) pure_unit C u → u (Key.v 0) ≼ 𝟙 → ⊥
  pure-none {u = u} (Has.at_node (Rule.named there m (Args.more (Args.more {u = y} Args.none))) hs c h) k =
      none_below_one (y (Key.v 0)) (u (Key.v 0)) (h (Key.v 0) tt) k

  twice-many : {C : Term} {u : Use} →
      Has E Part.run ((𝟙, HandleTy) ∷ []) (then_do (closed_after (var 0)) (closed_after (var 1))) C u →
      u (Key.v 0) ≼ 𝟙 → ⊥
  twice-many {u = u} (Has.at_node
      (Rule.named there m (Args.more (Args.more (Args.more {u = y} (Args.more {u = w} Args.none)))))
      (HasAll.more e₀ h₀ f₀ (HasAll.more e₁ h₁ f₁ (HasAll.more e₂ ht f₂ (HasAll.more e₃
      (Has.at_node (Rule.lam {w = z}) (HasAll.more d hA fA (HasAll.more g hk fk HasAll.none)) cv i) f₃
      HasAll.none)))) c j) k =
      two_above_one (y (Key.v 0)) (z (Key.v 1)) (w (Key.v 0)) (u (Key.v 0)) (closes-use (𝟙, HandleTy) ht)
      (closes-next (ω, UnitTy) (𝟙, HandleTy) hk)
      (kept_lambda (z (Key.v 1)) (w (Key.v 0)) (i (Key.v 0) tt)) (j (Key.v 0) tt) k

closed-once : {E : Env} (h : ℕ) {js : List Judged} (u : Use) (k : ℕ) →
    Args (act_signature Action.closes).arguments closed (Tape h ▸ ε) js →
    TypedAll E Part.run [] [] (Tape h ▸ ε) js → UseIs Part.run [] (sum_of js) u → u (Key.h k) ≡ unit (Key.h h) (Key.h k)
closed-once {E} h u k (Args.more {u = z} Args.none) (TypedAll.more e t f TypedAll.none) i =
    i (Key.h k) tt ∙ ⊕-zero (z (Key.h k)) ∙ ((inverted E Part.run []).tape h _ z t).1 (Key.h k) tt

pub handles_are_linear : (E : Env) → HandlesAreLinear E
handles_are_linear E = record {
  open_tape = λ h.
      Typed.by_rule (Rule.named refl tt (Args.more {u = unit (Key.h h)} Args.none))
      (TypedAll.more refl (Typed.by_rule Rule.tape TypedAll.none (λ x s. sym (⊕-zero (unit (Key.h h) x)))) tt
      TypedAll.none)
      (λ x s. sym (⊕-zero _ ∙ ⊕-zero (unit (Key.h h) x)));
  used_once = λ h C u d k. let (js, there, m, a, hs, c, e) =
      (inverted E Part.run []).named (Named.act Action.closes 0) (Tape h ▸ ε) C u d in closed-once h u k a hs e;
  dropped = λ C u h. let (B, w, hk, f) = handle-fits (typed-has h) in pure-none hk f;
  closed_twice = λ C u h. let (B, w, hk, f) = handle-fits (typed-has h) in twice-many hk f;
}
