-- The machine over a lowered program runs beside the evaluation of erased terms.
use Rattle.std.proofs.Common.{◌≡◌, ℕ, zero, suc, ◌+◌, refl, sym, ap, subst, arith}
use Rattle.qtt_base.specs.declared.place.GlobalId.{GlobalId}
use Rattle.qtt_erase.specs.Operator.{App, Def}
use Rattle.qtt_erase.specs.Step.{Bodies, Outcome}
use Rattle.qtt_erase.specs.Lean.{Abstraction, Lean, lean_step}
use Rattle.qtt_closure.specs.Flat as flat
use Rattle.qtt_closure.specs.Flat.{Closure, FlatTerm, flat_step}
use Rattle.qtt_closure.specs.StandsFor.{StandsFor, AllStandFor, AreConversions, Agrees}
use Rattle.qtt_closure.proofs.Running as closure
use Rattle.qtt_code.specs.Instruction.{Program}
use Rattle.qtt_code.specs.Machine.{State, Did, Halt, instruction, Reaches, Stops}
use Rattle.qtt_lower.specs.Lowerable.{IsLowered}
use Rattle.qtt_lower.specs.Represents.{flat_value}
use Rattle.qtt_lower.specs.Programs.{lean_bodies, flat_bodies, flat_program, bases, entry, program}
use Rattle.qtt_lower.specs.Evaluation.{Ending, Evaluation, stopped, continued, evaluation, Runs, FollowsErased, HaltsAfter, Answers}
use Rattle.qtt_lower.specs.Laws.{Follows, ProgramsRun}
use Rattle.qtt_lower.proofs.InStep.{in_step, begins}
use Rattle.qtt_lower.proofs.Whole.{programs-are-lowered}

module _ (e : GlobalId → ℕ) (P : flat.Program) (B : Bodies Abstraction) (D : Bodies Closure) (C : Program)
    (A : AreConversions P B D) (L : IsLowered e P D C) where
  both-follow : (t : Lean) (u : FlatTerm) (s : State) → StandsFor P t u →
      (x : Outcome Lean) (y : Outcome FlatTerm) → Agrees P x y → Follows e C u s y → FollowsErased e P C t s x
  both-follow t u s h Outcome.value y a f =
      let g : Follows e C u s Outcome.value = subst (Follows e C u s) a f in
      (g.0, g.1, subst (StandsFor P t) g.2 h, g.3, g.4)
  both-follow t u s h (Outcome.step w) y a f =
      let g : Follows e C u s (Outcome.step a.0) = subst (Follows e C u s) a.1 f in
      (g.0, g.1, record { flat = a.0; stands = a.2; represents = g.2 })
  both-follow t u s h (Outcome.trap k) y a f = subst (Follows e C u s) a f
  both-follow t u s h Outcome.stuck y a f = tt

  follows-erased : (t : Lean) (s : State) → Runs e P t s → FollowsErased e P C t s (lean_step B t)
  follows-erased t s r =
      both-follow t r.flat s r.stands (lean_step B t) (flat_step P D r.flat)
      (closure.in_step P B D A t r.flat r.stands) (in_step e P D C L r.flat s r.represents)

-- ---- runs, one after another
joined : {C : Program} {n m : ℕ} {s r t : State} → Reaches C n s r → Reaches C m r t → Reaches C (n + m) s t
joined {C = C} {m = m} {s = s} {t = t} Reaches.here w =
    subst (λ k. Reaches C k s t) (let z : m ≡ 0 + m = omega arith in z) w
joined (Reaches.goes h x) w = Reaches.goes h (joined x w)
joined {C = C} {m = m} {s = s} {t = t} (Reaches.ticks {n = n} h x) w =
    subst (λ k. Reaches C k s t) (let z : suc (n + m) ≡ suc n + m = omega arith in z)
    (Reaches.ticks h (joined x w))

-- the state before a run's first tick
record BeforeTick (C : Program) (s : State) : Type 0 where
  before : State
  after : State
  way : Reaches C 0 s before
  tick : instruction C before ≡ Did.ticks after

before-tick : {C : Program} {n : ℕ} {s r : State} → Reaches C n s r → n ≡ 1 → BeforeTick C s
before-tick Reaches.here z = absurd (omega (arith, z))
before-tick (Reaches.goes h x) z = let b =
    before-tick x z in record { before = b.before; after = b.after; way = Reaches.goes h b.way; tick = b.tick }
before-tick {s = s} (Reaches.ticks {t = t} h x) z = record { before = s; after = t; way = Reaches.here; tick = h }

-- ---- within a bound
module _ (C : Program) where
  ends-here : (bound : ℕ) (s r : State) (d : Did) (h : Halt) → Reaches C 0 s r → instruction C r ≡ d →
      Stops bound 0 d h → HaltsAfter C bound s 0 h
  ends-here bound s r d h w i p = (
    record {
      made = 0;
      last = r;
      way = w;
      within = omega arith;
      stops = subst (λ x. Stops bound 0 x h)
          (sym i) p;
    },
    refl,
  )

  stops-later : (bound n : ℕ) (d : Did) (h : Halt) → Stops bound n d h → Stops (suc bound) (suc n) d h
  stops-later bound n (Did.ends v) h p = p
  stops-later bound n (Did.traps k) h p = p
  stops-later bound n (Did.ticks t) h p = (p.0, ap suc p.1)
  stops-later bound n (Did.goes t) h p = p
  stops-later bound n Did.stuck h p = p

  halts-later : (bound n : ℕ) (s r : State) (h : Halt) → Reaches C 1 s r → HaltsAfter C bound r n h →
      HaltsAfter C (suc bound) s (suc n) h
  halts-later bound n s r h w (a, m) = (
    record {
      made = suc a.made;
      last = a.last;
      way = subst (λ k. Reaches C k s a.last) (let z : 1 + a.made ≡ suc a.made = omega arith in z) (joined w a.way);
      within = let p = a.within in omega (arith, p);
      stops = stops-later bound a.made (instruction C a.last) h a.stops;
    },
    ap suc m,
  )

  answers-later : (P : flat.Program) (bound n : ℕ) (s r : State) (x : Ending) → Reaches C 1 s r →
      Answers P C bound r n x → Answers P C (suc bound) s (suc n) x
  answers-later P bound n s r (Ending.value t) w (v, h, a) = (v, h, halts-later bound n s r (Halt.done v) w a)
  answers-later P bound n s r (Ending.trapped k) w a = halts-later bound n s r (Halt.trapped k) w a
  answers-later P bound n s r Ending.going w a = halts-later bound n s r Halt.spent w a
  answers-later P bound n s r Ending.stuck w a = tt

module _ (e : GlobalId → ℕ) (P : flat.Program) (B : Bodies Abstraction) (C : Program)
    (follows : (t : Lean) (s : State) → Runs e P t s → FollowsErased e P C t s (lean_step B t)) where
  -- the same as an evaluation that went on from n steps
  abbrev AnswersFrom : ℕ → ℕ → State → Evaluation → Type 0
  AnswersFrom bound n s x = (m : ℕ) × (x.made ≡ n + m) × Answers P C bound s m x.ending

  none-made : (n : ℕ) → n ≡ n + 0
  none-made n = omega arith

  when-stopped : (n : ℕ) (t : Lean) (s : State) (x : Outcome Lean) → FollowsErased e P C t s x →
      AnswersFrom 0 n s (stopped n t x)
  when-stopped n t s Outcome.value (v, r, h, w, i) =
      (0, none-made n, (v, h, ends-here C 0 s r (Did.ends v) (Halt.done v) w i refl))
  when-stopped n t s (Outcome.step u) (r, w, h) =
      let b = before-tick w refl in
      (0, none-made n, ends-here C 0 s b.before (Did.ticks b.after) Halt.spent b.way b.tick (refl, refl))
  when-stopped n t s (Outcome.trap k) (r, w, i) =
      (0, none-made n, ends-here C 0 s r (Did.traps k) (Halt.trapped k) w i refl)
  when-stopped n t s Outcome.stuck h = (0, none-made n, tt)

  when-continued : (bound n : ℕ) (t : Lean) (s : State) (x : Outcome Lean) → FollowsErased e P C t s x →
      ((u : Lean) (r : State) → Runs e P u r → AnswersFrom bound (suc n) r (evaluation (lean_step B) bound (suc n) u)) →
      AnswersFrom (suc bound) n s (continued n t x (evaluation (lean_step B) bound (suc n)))
  when-continued bound n t s Outcome.value (v, r, h, w, i) next =
      (0, none-made n, (v, h, ends-here C (suc bound) s r (Did.ends v) (Halt.done v) w i refl))
  when-continued bound n t s (Outcome.step u) (r, w, h) next =
      let x : Evaluation = evaluation (lean_step B) bound (suc n) u in
      let a = next u r h in
      let q = a.1 in
      (suc a.0, omega (arith, q), answers-later C P bound a.0 s r x.ending w a.2)
  when-continued bound n t s (Outcome.trap k) (r, w, i) next =
      (0, none-made n, ends-here C (suc bound) s r (Did.traps k) (Halt.trapped k) w i refl)
  when-continued bound n t s Outcome.stuck h next = (0, none-made n, tt)

  answers-from : (bound n : ℕ) (t : Lean) (s : State) → Runs e P t s →
      AnswersFrom bound n s (evaluation (lean_step B) bound n t)
  answers-from zero n t s r = when-stopped n t s (lean_step B t) (follows t s r)
  answers-from (suc bound) n t s r =
      when-continued bound n t s (lean_step B t) (follows t s r) (λ u q h. answers-from bound (suc n) u q h)

  answers : (bound : ℕ) (t : Lean) (s : State) → Runs e P t s → let x : Evaluation =
      evaluation (lean_step B) bound 0 t in Answers P C bound s x.made x.ending
  answers bound t s r =
      let x : Evaluation = evaluation (lean_step B) bound 0 t in
      let a = answers-from bound 0 t s r in
      let q = a.1 in
      subst (λ m. Answers P C bound s m x.ending) (let z : a.0 ≡ x.made = omega (arith, q) in z) a.2

pub programs-run : ProgramsRun
programs-run bs s =
    let e : GlobalId → ℕ = entry (bases bs) in
    let follows : (t : Lean) (s : State) → Runs e (flat_program bs) t s →
    FollowsErased e (flat_program bs) (program bs) t s (lean_step (lean_bodies bs) t) =
    follows-erased e (flat_program bs) (lean_bodies bs) (flat_bodies bs) (program bs)
    (programs-are-lowered.conversions bs s) (programs-are-lowered.blocks bs s) in
    record {
      definition = λ d. record {
        flat = Def d;
        stands = StandsFor.operator tt AllStandFor.none;
        represents = begins.definition e d;
      };
      call = λ t u f a h g. record {
        flat = App (flat_value f) (flat_value a);
        stands = StandsFor.operator tt (AllStandFor.more h (AllStandFor.more g AllStandFor.none));
        represents = begins.call e f a;
      };
      step = follows;
      bounded = λ t r h bound. answers e (flat_program bs) (lean_bodies bs) (program bs) follows bound t r h;
    }
