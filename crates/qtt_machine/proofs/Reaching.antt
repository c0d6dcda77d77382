-- Runs, a step at a time.
use Rattle.std.proofs.Common.{◌≡◌, ℕ, suc, ◌≤◌, refl, sym, ◌∙◌, ap, subst, arith}
use Rattle.qtt_code.specs.Value.{Value}
use Rattle.qtt_term.specs.FullStep.{Cause}
use Rattle.qtt_code.specs.Instruction.{Program}
use Rattle.qtt_code.specs.Machine.{State, Did, Halt, instruction, Reaches, Stops, Advances}
use Rattle.qtt_machine.specs.Runs.{Answers}

abbrev state_of : Did → State → State
state_of (Did.goes s) d = s
state_of (Did.ticks s) d = s
state_of (Did.ends v) d = d
state_of (Did.traps k) d = d
state_of Did.stuck d = d

fewer : (b m : ℕ) (d : Did) (h : Halt) → Stops (suc b) (suc m) d h → Stops b m d h
fewer b m (Did.ends v) h s = s
fewer b m (Did.traps k) h s = s
fewer b m (Did.ticks t) h s = let e = s.1 in (s.0, omega (arith, e))
fewer b m (Did.goes t) h s = s
fewer b m Did.stuck h s = s

module _ (P : Program) where
  pub then_goes : {n : ℕ} {s r t : State} → Reaches P n s r → instruction P r ≡ Did.goes t → Reaches P n s t
  then_goes Reaches.here e = Reaches.goes e Reaches.here
  then_goes (Reaches.goes d w) e = Reaches.goes d (then_goes w e)
  then_goes (Reaches.ticks d w) e = Reaches.ticks d (then_goes w e)

  pub then_ticks : {n : ℕ} {s r t : State} → Reaches P n s r → instruction P r ≡ Did.ticks t → Reaches P (suc n) s t
  then_ticks Reaches.here e = Reaches.ticks e Reaches.here
  then_ticks (Reaches.goes d w) e = Reaches.goes d (then_ticks w e)
  then_ticks (Reaches.ticks d w) e = Reaches.ticks d (then_ticks w e)

  after-goes : (b : ℕ) (h : Halt) {n : ℕ} {s r : State} (w : Reaches P n s r) (t : State) →
      instruction P s ≡ Did.goes t → n ≤ b → Stops b n (instruction P r) h →
      Advances P b t h
  after-goes b h Reaches.here t e p st = absurd (subst (λ d. Stops b 0 d h) e st)
  after-goes b h (Reaches.goes {n = n} {t = u} {r = r} d w) t e p st =
      record {
        made = n;
        last = r;
        way = subst (λ x. Reaches P n x r) (ap (λ y. state_of y u) (sym d ∙ e)) w;
        within = p;
        stops = st;
      }
  after-goes b h (Reaches.ticks d w) t e p st = absurd (cc (d, e))

  after-ticks : (b : ℕ) (h : Halt) {n : ℕ} {s r : State} (w : Reaches P n s r) (t : State) →
      instruction P s ≡ Did.ticks t → n ≤ suc b →
      Stops (suc b) n (instruction P r) h → Advances P b t h
  after-ticks b h Reaches.here t e p st = let z =
      subst (λ d. Stops (suc b) 0 d h) e st in absurd (let q = z.1 in omega (arith, q))
  after-ticks b h (Reaches.goes d w) t e p st = absurd (cc (d, e))
  after-ticks b h (Reaches.ticks {n = n} {t = u} {r = r} d w) t e p st =
      record {
        made = n;
        last = r;
        way = subst (λ x. Reaches P n x r) (ap (λ y. state_of y u) (sym d ∙ e)) w;
        within = omega (arith, p);
        stops = fewer b n (instruction P r) h st;
      }

  pub goes_answers : (s t : State) → instruction P s ≡ Did.goes t → Answers P s → Answers P t
  goes_answers s t e A b = let a = (A b).1 in ((A b).0, after-goes b (A b).0 a.way t e a.within a.stops)

  pub ticks_answers : (s t : State) → instruction P s ≡ Did.ticks t → Answers P s → Answers P t
  ticks_answers s t e A b = let a =
      (A (suc b)).1 in ((A (suc b)).0, after-ticks b (A (suc b)).0 a.way t e a.within a.stops)

  not-stuck : (b : ℕ) (h : Halt) {n : ℕ} {s r : State} (w : Reaches P n s r) → Stops b n (instruction P r) h →
      instruction P s ≡ Did.stuck → ⊥
  not-stuck b h Reaches.here st e = subst (λ d. Stops b 0 d h) e st
  not-stuck b h (Reaches.goes d w) st e = cc (d, e)
  not-stuck b h (Reaches.ticks d w) st e = cc (d, e)

  pub answers_unstuck : (s : State) → Answers P s → ¬ (instruction P s ≡ Did.stuck)
  answers_unstuck s A e = let a = (A 0).1 in not-stuck 0 (A 0).0 a.way a.stops e

  -- ---- where a run stops
  abbrev pub ends_done : (b n : ℕ) (s r : State) (v : Value) → Reaches P n s r → n ≤ b →
      instruction P r ≡ Did.ends v → Advances P b s (Halt.done v)
  ends_done b n s r v w p e =
      record {
        made = n;
        last = r;
        way = w;
        within = p;
        stops = subst (λ d. Stops b n d (Halt.done v))
            (sym e) refl;
      }

  abbrev pub traps_trapped : (b n : ℕ) (s r : State) (k : Cause) → Reaches P n s r → n ≤ b →
      instruction P r ≡ Did.traps k → Advances P b s (Halt.trapped k)
  traps_trapped b n s r k w p e =
      record {
        made = n;
        last = r;
        way = w;
        within = p;
        stops = subst (λ d. Stops b n d (Halt.trapped k))
            (sym e) refl;
      }

  abbrev pub ticks_spent : (b : ℕ) (s r t : State) → Reaches P b s r → instruction P r ≡ Did.ticks t →
      Advances P b s Halt.spent
  ticks_spent b s r t w e =
      record {
        made = b;
        last = r;
        way = w;
        within = omega arith;
        stops = subst (λ d. Stops b b d Halt.spent)
            (sym e) (refl, refl);
      }

-- ---- runs without a tick behind others
module _ (P : Program) where
  pub then_on : {n : ℕ} {s r t : State} → Reaches P n s r → Reaches P 0 r t → Reaches P n s t
  then_on Reaches.here w = w
  then_on (Reaches.goes d v) w = Reaches.goes d (then_on v w)
  then_on (Reaches.ticks d v) w = Reaches.ticks d (then_on v w)
