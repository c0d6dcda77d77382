-- The rules of variables and Sorts, by what is found.
use Rattle.std.proofs.Common.{◌≡◌, ℕ, zero, suc, ◌+◌, ◌<◌, ◌≤◌, Bool, true, false, nat_lt, [], ◌∷◌, length, Some, None, slice_get, refl, sym, ◌∙◌, ap, arith}
use Rattle.std.proofs.lemmas.Bool.{lt-ltb, ltb-true}
use Rattle.qtt_usage.specs.declared.mult.Mult.{Mult}
use Rattle.qtt_term.specs.Term.{Term, var}
use Rattle.qtt_term.specs.Substitution.{ren, shift}
use Rattle.qtt_term.specs.Signature.{Env}
use Rattle.qtt_term.specs.Judgement.{Ctx, Part, mult_at, type_at}
use Rattle.qtt_term.specs.Infer.{inferred, infer, at, usable, use_at}
use Rattle.qtt_term.specs.declared.rule.Rule.TheVariants as rule
use Rattle.qtt_term.proofs.Options.{some-injective, none≢some}
use Rattle.qtt_term.proofs.Subst.{ren-is-sub, ren-sub}
use Rattle.qtt_core_check.specs.Seen.{Reaches, Fails}
use Rattle.qtt_core_check.proofs.Within.{on, on_done, fails_here, holds, unmet, reached}

not-below : (i n : ℕ) → n ≤ i → nat_lt i n ≡ false
not-below i n h = by_test (nat_lt i n) refl
  where
    by_test : (b : Bool) → nat_lt i n ≡ b → b ≡ false
    by_test true e = let k : i < n = ltb-true i n e in absurd (omega arith)
    by_test false e = refl

past-end : (Γ : Ctx) (i : ℕ) → slice_get Γ i ≡ None → length Γ ≤ i
past-end [] i e = omega arith
past-end (b ∷ Γ) zero e = absurd (none≢some (sym e))
past-end (b ∷ Γ) (suc i) e = let h : length Γ ≤ i = past-end Γ i e in omega arith

pub before-end : (Γ : Ctx) (i : ℕ) (b : Mult × Term) → slice_get Γ i ≡ Some b → i < length Γ
before-end [] i b e = absurd (none≢some e)
before-end (c ∷ Γ) zero b e = omega arith
before-end (c ∷ Γ) (suc i) b e = let h : i < length Γ = before-end Γ i b e in omega arith

mult-found : (Γ : Ctx) (i : ℕ) (b : Mult × Term) → slice_get Γ i ≡ Some b → mult_at Γ i ≡ b.0
mult-found [] i b e = absurd (none≢some e)
mult-found (c ∷ Γ) zero b e = ap (λ b. b.0) (some-injective e)
mult-found (c ∷ Γ) (suc i) b e = mult-found Γ i b e

type-found : (Γ : Ctx) (i : ℕ) (b : Mult × Term) → slice_get Γ i ≡ Some b → type_at Γ i ≡ ren (shift (suc i)) b.1
type-found [] i b e = absurd (none≢some e)
type-found (c ∷ Γ) zero b e = ap (λ b. ren suc b.1) (some-injective e)
type-found (c ∷ Γ) (suc i) b e =
    ap (ren suc) (type-found Γ i b e ∙ ren-is-sub (shift (suc i)) b.1) ∙ ren-sub b.1 suc (λ j. var (shift (suc i) j))
    ∙ sym (ren-is-sub (shift (suc (suc i))) b.1)

module _ {n : ℕ} (E : Env) (p : Part) (Γ : Ctx) (i : ℕ) where
  pub var-missing : slice_get Γ i ≡ None → Fails E n (infer E p Γ (var i)) (at rule.Var 1)
  var-missing e = fails_here _ (unmet _ _ (rw (not-below i (length Γ) (past-end Γ i e)) refl))

  pub var-unusable : (b : Mult × Term) → slice_get Γ i ≡ Some b → usable p b.0 ≡ false →
      Fails E n (infer E p Γ (var i)) (at rule.Var 1)
  var-unusable b e u = fails_here _
      (unmet _ _ (rw (lt-ltb i (length Γ) (before-end Γ i b e), mult-found Γ i b e, u) refl))

  pub var-found : (b : Mult × Term) → slice_get Γ i ≡ Some b → usable p b.0 ≡ true →
      Reaches E n (infer E p Γ (var i)) (inferred (ren (shift (i + 1)) b.1) (use_at p (length Γ) i))
  var-found b e u =
      let s : suc i ≡ i + 1 = omega arith in
      reached (on _ (holds _ _ (rw (lt-ltb i (length Γ) (before-end Γ i b e), mult-found Γ i b e, u) refl)) on_done)
      (ap (λ A. inferred A (use_at p (length Γ) i)) (type-found Γ i b e ∙ ap (λ k. ren (shift k) b.1) s))
