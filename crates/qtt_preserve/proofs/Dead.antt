-- A dead term has every use.
use Rattle.std.proofs.Common.{◌≡◌, zero, suc, true, ◌∷◌, refl, sym, ◌∙◌}
use Rattle.qtt_usage.specs.declared.mult.Mult.{Mult}
use Rattle.qtt_usage.specs.Uses.{Key, Use, out}
use Rattle.qtt_usage.proofs.Mults.{≼-refl, ⊕-zero}
use Rattle.qtt_term.specs.Term.{Term, Lam, Trap}
use Rattle.qtt_term.specs.Signature.{Env}
use Rattle.qtt_term.specs.Judgement.{Ctx, Part, Rule, Typed, TypedAll}
use Rattle.qtt_term.specs.Accepted.{is_dead}
use Rattle.qtt_preserve.proofs.Inverted.{inverted}

-- a Trap, or a function whose body is dead
data Dead : Term → Type 0 where
  trap : {A : Term} → Dead (Trap A)
  lam : {q : Mult} {A b : Term} → Dead b → Dead (Lam q A b)

dead : (t : Term) → is_dead t ≡ true → Dead t
dead (Trap A) e = Dead.trap
dead (Lam q A b) e = Dead.lam (dead b e)
dead _ e = absurd (cc e)

-- a use of a context, with one more binder
abbrev with_binder : Mult → Use → Use
with_binder q w (Key.v zero) = q
with_binder q w (Key.v (suc i)) = w (Key.v i)
with_binder q w (Key.h i) = w (Key.h i)

out-binder : (q : Mult) (w : Use) (x : Key) → out (with_binder q w) x ≡ w x
out-binder q w (Key.v i) = refl
out-binder q w (Key.h i) = refl

any-use : {E : Env} {t : Term} → Dead t → (Γ : Ctx) (C : Term) (u : Use) → Typed E Part.run Γ t C u →
    (w : Use) → Typed E Part.run Γ t C w
any-use {E} (Dead.trap {A = A}) Γ C u h w =
    let (i, z, hA, c) = (inverted E Part.run Γ).trap A C u h in
    Typed.conversion (Typed.by_rule (Rule.trap {any = w}) (TypedAll.more refl hA tt TypedAll.none)
    (λ x s. sym (⊕-zero (w x)))) c
any-use {E} (Dead.lam {q = q} {A = A} {b = b} d) Γ C u h w =
    let (i, B, y, z, hA, hb, f, c, e) = (inverted E Part.run Γ).lam q A b C u h in
    Typed.conversion
    (Typed.by_rule Rule.lam (TypedAll.more refl hA tt
    (TypedAll.more refl (any-use d ((q, A) ∷ Γ) B z hb (with_binder q w)) (≼-refl q, tt) TypedAll.none))
    (λ x s. sym (⊕-zero _ ∙ ⊕-zero (out (with_binder q w) x) ∙ out-binder q w x))) c

pub dead-any : {E : Env} {Γ : Ctx} {t C : Term} {u : Use} → is_dead t ≡ true → Typed E Part.run Γ t C u →
    (w : Use) → Typed E Part.run Γ t C w
dead-any {Γ = Γ} {t = t} {C = C} {u = u} e h w = any-use (dead t e) Γ C u h w
