-- A run stops in one way.
use Rattle.std.proofs.Common.{◌≡◌, ℕ, suc, ◌-◌, ◌≤◌, refl, sym, ◌∙◌, ap, subst, arith}
use Rattle.qtt_code.specs.Instruction.{Program}
use Rattle.qtt_code.specs.Machine.{State, Did, Halt, instruction, Reaches, Stops}
use Rattle.qtt_code.specs.Laws.{HaltsAreUnique}

abbrev state_of : Did → State → State
state_of (Did.goes s) d = s
state_of (Did.ticks s) d = s
state_of (Did.ends v) d = d
state_of (Did.traps k) d = d
state_of Did.stuck d = d

-- a run stops before an instruction: with so many ticks left before a tick
abbrev IsLast : ℕ → ℕ → Did → Type 0
IsLast left made (Did.ends v) = Unit {0}
IsLast left made (Did.traps k) = Unit {0}
IsLast left made (Did.ticks t) = made ≡ left
IsLast left made (Did.goes t) = ⊥
IsLast left made Did.stuck = ⊥

stops-last : (b m : ℕ) (d : Did) (h : Halt) → Stops b m d h → IsLast b m d
stops-last b m (Did.ends v) h s = tt
stops-last b m (Did.traps k) h s = tt
stops-last b m (Did.ticks t) h s = s.1
stops-last b m (Did.goes t) h s = s
stops-last b m Did.stuck h s = s

one-halt : (b m : ℕ) (d : Did) (h k : Halt) → Stops b m d h → Stops b m d k → h ≡ k
one-halt b m (Did.ends v) h k s r = s ∙ sym r
one-halt b m (Did.traps c) h k s r = s ∙ sym r
one-halt b m (Did.ticks t) h k s r = s.0 ∙ sym r.0
one-halt b m (Did.goes t) h k s r = absurd s
one-halt b m Did.stuck h k s r = absurd s

one-fewer : (b m : ℕ) (d : Did) → IsLast b (suc m) d → IsLast (b - 1) m d
one-fewer b m (Did.ends v) s = tt
one-fewer b m (Did.traps k) s = tt
one-fewer b m (Did.ticks t) s = omega (arith, s)
one-fewer b m (Did.goes t) s = s
one-fewer b m Did.stuck s = s

module _ (P : Program) where
  one-way : {m n : ℕ} {s r t : State} (b : ℕ) → Reaches P m s r → m ≤ b → IsLast b m (instruction P r) →
      Reaches P n s t → n ≤ b → IsLast b n (instruction P t) →
      (m ≡ n) × (r ≡ t)
  one-way b Reaches.here p l Reaches.here q k = (refl, refl)
  one-way b Reaches.here p l (Reaches.goes h y) q k = absurd (subst (IsLast b 0) h l)
  one-way b Reaches.here p l (Reaches.ticks h y) q k = let z = subst (IsLast b 0) h l in absurd (omega (arith, z, q))
  one-way b (Reaches.goes h x) p l Reaches.here q k = absurd (subst (IsLast b 0) h k)
  one-way b (Reaches.ticks h x) p l Reaches.here q k = let z = subst (IsLast b 0) h k in absurd (omega (arith, z, p))
  one-way b (Reaches.goes {t = u} h x) p l (Reaches.goes {n = n} {t = v} {r = t} g y) q k =
      one-way b x p l (subst (λ s. Reaches P n s t) (sym (ap (λ d. state_of d u) (sym h ∙ g))) y) q k
  one-way b (Reaches.goes h x) p l (Reaches.ticks g y) q k = absurd (cc (h, g))
  one-way b (Reaches.ticks h x) p l (Reaches.goes g y) q k = absurd (cc (h, g))
  one-way b (Reaches.ticks {n = m} {t = u} {r = r} h x) p l (Reaches.ticks {n = n} {t = v} {r = t} g y) q k =
      let w = one-way (b - 1) x (omega (arith, p)) (one-fewer b m (instruction P r) l)
      (subst (λ s. Reaches P n s t) (sym (ap (λ d. state_of d u) (sym h ∙ g))) y) (omega (arith, q))
      (one-fewer b n (instruction P t) k) in
      (ap suc w.0, w.1)

pub halts-are-unique : HaltsAreUnique
halts-are-unique P b s h k x y =
    let w = one-way P b x.way x.within (stops-last b x.made (instruction P x.last) h x.stops) y.way y.within
    (stops-last b y.made (instruction P y.last) k y.stops) in (
      one-halt b x.made (instruction P x.last) h k x.stops
          (subst (λ r. Stops b x.made (instruction P r) k) (sym w.1)
          (subst (λ m. Stops b m (instruction P y.last) k) (sym w.0) y.stops)),
      w.0,
      w.1,
    )
