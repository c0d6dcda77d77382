-- A run of code has one end.
use Rattle.std.proofs.Common.{◌≡◌, ℕ, suc, ◌+◌, refl, sym, ◌∙◌, ap, subst, arith}
use mathlib.Core.Path.{ap₂, subst₂}
use Rattle.qtt_term.specs.FullRun.{Verdict}
use Rattle.qtt_code.specs.Value.{Value}
use Rattle.qtt_code.specs.Instruction.{Program}
use Rattle.qtt_code.specs.Machine.{State, Halt, Advances}
use Rattle.qtt_code.proofs.Halting.{halts-are-unique}
use Rattle.qtt_run.specs.CodeRun.{Now, Config, Turn, turn, Seen, seen, Runs}
use Rattle.qtt_run.specs.Laws.{RunsAreOne}

module _ (C : Program) where
  same-state : {x : Now} {s r : State} → x ≡ Now.computing s → x ≡ Now.computing r → s ≡ r
  same-state e d = cc (sym e ∙ d)

  same-value : {x : Now} {v u : Value} → x ≡ Now.gave v → x ≡ Now.gave u → v ≡ u
  same-value e d = cc (sym e ∙ d)

  -- the machine stops in one way
  same-halt : {more : ℕ} {x : Now} {s r : State} {h k : Halt} → x ≡ Now.computing s → x ≡ Now.computing r →
      (a : Advances C more s h) (b : Advances C more r k) →
      (h ≡ k) × (a.made ≡ b.made)
  same-halt {more} {s = s} {r = r} {h = h} {k = k} e d a b =
      subst (λ r. (b : Advances C more r k) → (h ≡ k) × (a.made ≡ b.made)) (same-state e d)
      (λ b. let u = halts-are-unique C more s h k a b in (u.0, u.1)) b

  same-turn : (c : Config) {v u : Value} {o p : Turn} → c.now ≡ Now.gave v → c.now ≡ Now.gave u → turn c v ≡ o →
      turn c u ≡ p → o ≡ p
  same-turn c e d a b = sym a ∙ ap (turn c) (same-value e d) ∙ b

  one : {more n : ℕ} {c : Config} {r : Seen} → Runs C more n c r → (s : Seen) → Runs C more n c s → r ≡ s
  one {n = n} {c = c} (Runs.spends e a) s (Runs.spends d b) =
      ap (λ m. seen Verdict.running (n + m) c) (same-halt e d a b).1
  one (Runs.spends e a) s (Runs.traps d b) = absurd (cc ((same-halt e d a b).0))
  one (Runs.spends e a) s (Runs.gives d b p x) = absurd (cc ((same-halt e d a b).0))
  one (Runs.spends e a) s (Runs.halts d b) = absurd (cc (sym e ∙ d))
  one (Runs.spends e a) s (Runs.stays d b) = absurd (cc (sym e ∙ d))
  one (Runs.spends e a) s (Runs.acts d b x) = absurd (cc (sym e ∙ d))
  one (Runs.traps e a) s (Runs.spends d b) = absurd (cc ((same-halt e d a b).0))
  one {n = n} {c = c} (Runs.traps {k = k} e a) s (Runs.traps {k = j} d b) =
      let h = same-halt e d a b in ap₂ (λ k m. seen (Verdict.trapped k) (n + m) c) (let q : k ≡ j = cc (h.0) in q) h.1
  one (Runs.traps e a) s (Runs.gives d b p x) = absurd (cc ((same-halt e d a b).0))
  one (Runs.traps e a) s (Runs.halts d b) = absurd (cc (sym e ∙ d))
  one (Runs.traps e a) s (Runs.stays d b) = absurd (cc (sym e ∙ d))
  one (Runs.traps e a) s (Runs.acts d b x) = absurd (cc (sym e ∙ d))
  one (Runs.gives e a p x) s (Runs.spends d b) = absurd (cc ((same-halt e d a b).0))
  one (Runs.gives e a p x) s (Runs.traps d b) = absurd (cc ((same-halt e d a b).0))
  one {n = n} {c = c} (Runs.gives {left = left} {v = v} e a p x) s (Runs.gives {left = rest} {v = u} d b q y) =
      let h = same-halt e d a b in
      let f = h.1 in
      let same_left : rest ≡ left = omega (arith, f, p, q) in
      let same : u ≡ v = cc (h.0) in
      one x s (subst₂ (λ l m. Runs C l (n + m) (record c { now = Now.gave v }) s) same_left (sym f)
      (subst (λ v. Runs C rest (n + b.made) (record c { now = Now.gave v }) s) same y))
  one (Runs.gives e a p x) s (Runs.halts d b) = absurd (cc (sym e ∙ d))
  one (Runs.gives e a p x) s (Runs.stays d b) = absurd (cc (sym e ∙ d))
  one (Runs.gives e a p x) s (Runs.acts d b y) = absurd (cc (sym e ∙ d))
  one (Runs.halts e a) s (Runs.spends d b) = absurd (cc (sym e ∙ d))
  one (Runs.halts e a) s (Runs.traps d b) = absurd (cc (sym e ∙ d))
  one (Runs.halts e a) s (Runs.gives d b p x) = absurd (cc (sym e ∙ d))
  one {n = n} {c = c} (Runs.halts {w = w} e a) s (Runs.halts {w = z} d b) =
      ap (λ w. seen w n c) (let t = same-turn _ e d a b in let q : w ≡ z = cc t in q)
  one (Runs.halts e a) s (Runs.stays d b) = absurd (cc (same-turn _ e d a b))
  one (Runs.halts e a) s (Runs.acts d b x) = absurd (cc (same-turn _ e d a b))
  one (Runs.stays e a) s (Runs.spends d b) = absurd (cc (sym e ∙ d))
  one (Runs.stays e a) s (Runs.traps d b) = absurd (cc (sym e ∙ d))
  one (Runs.stays e a) s (Runs.gives d b p x) = absurd (cc (sym e ∙ d))
  one (Runs.stays e a) s (Runs.halts d b) = absurd (cc (same-turn _ e d a b))
  one (Runs.stays e a) s (Runs.stays d b) = refl
  one (Runs.acts e a x) s (Runs.spends d b) = absurd (cc (sym e ∙ d))
  one (Runs.acts e a x) s (Runs.traps d b) = absurd (cc (sym e ∙ d))
  one (Runs.acts e a x) s (Runs.gives d b p y) = absurd (cc (sym e ∙ d))
  one (Runs.acts e a x) s (Runs.halts d b) = absurd (cc (same-turn _ e d a b))
  one {n = n} {c = c} (Runs.acts {more = more} {d = f} e a x) s (Runs.acts {d = g} d b y) =
      let t = same-turn _ e d a b in let q : g ≡ f = cc t in one x s (subst (λ c. Runs C more (suc n) c s) q y)

pub runs-are-one : RunsAreOne
runs-are-one C more n c r s x y = one C x s y
