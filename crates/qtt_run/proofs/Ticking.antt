-- The machine makes as many ticks in the run of a main as its full run makes steps.
use Rattle.std.proofs.Common.{◌≡◌, ℕ, zero, suc, ◌+◌, ◌<◌, ◌≤◌, List, [], refl, sym, ◌∙◌, ap, subst, arith, add-zero, zero-add}
use Rattle.qtt_base.specs.declared.place.GlobalId.{GlobalId}
use Rattle.qtt_term.specs.Term.{Term}
use Rattle.qtt_term.specs.Signature.{Env, UnitTy, IoTy}
use Rattle.qtt_term.specs.FullStep.{Cause, Outcome, full_step}
use Rattle.qtt_term.specs.FullRun as full
use Rattle.qtt_term.specs.FullRun.{Verdict, take_turn, perform}
use Rattle.qtt_term.specs.Environment.{WellFormed, Complete, IsMain}
use Rattle.qtt_preserve.proofs.Sound.{sound_of, bodied_of}
use Rattle.qtt_preserve.proofs.Run.{Fine, Kept, turn_kept}
use Rattle.qtt_preserve.proofs.Discipline.{main_fine}
use Rattle.qtt_code.specs.Value.{Value}
use Rattle.qtt_code.specs.Instruction.{Program}
use Rattle.qtt_code.specs.Machine as machine
use Rattle.qtt_code.specs.Machine.{State, Advances}
use Rattle.qtt_code.proofs.Halting.{halts-are-unique}
use Rattle.qtt_run.specs.Code.{Lists, code, first_block}
use Rattle.qtt_run.specs.Evaluation.{Ending, Evaluation, stopped, continued, evaluated, Answers}
use Rattle.qtt_run.specs.CodeRun.{Now, Config, Turn, turn, Seen, Runs, start}
use Rattle.qtt_run.specs.Beside.{AllValuesOf, IsNow}
use Rattle.qtt_run.specs.Ticks.{ticks, with_step, behind_turn, full_steps, TicksAreSteps}
use Rattle.qtt_run.proofs.Evaluating.{answers-as, start-represents}
use Rattle.qtt_run.proofs.Jumping.{EndsTyped, ends-typed}
use Rattle.qtt_run.proofs.Performing.{beside, Alike, perform-alike}

-- ---- the steps of a full run go through the evaluation of its term, and on from the value
module _ (E : Env) where
  -- so many steps in all, of which so many evaluated the term to this ending
  abbrev Tails : ℕ → full.Config → ℕ → ℕ → Ending → Type 0
  Tails end c all made (Ending.value t) =
      (rest : ℕ) × (made + rest ≡ end) × (all ≡ made + full_steps E rest (record c { term = t })) ×
      (full_step E t ≡ Outcome.value)
  Tails end c all made (Ending.trapped k) = all ≡ made
  Tails end c all made Ending.going = all ≡ made
  Tails end c all made Ending.stuck = Unit {0}

  tails-on : (end d all sum : ℕ) (c : full.Config) (s : Term) (made : ℕ) (x : Ending) → end ≡ d → all ≡ sum →
      Tails end (record c { term = s }) all made x → Tails d c sum made x
  tails-on end d all sum c s made (Ending.value t) e f (rest, p, q, v) = (rest, p ∙ e, sym f ∙ q, v)
  tails-on end d all sum c s made (Ending.trapped k) e f h = sym f ∙ h
  tails-on end d all sum c s made Ending.going e f h = sym f ∙ h
  tails-on end d all sum c s made Ending.stuck e f h = tt

  stopped-tails : (n : ℕ) (c : full.Config) (o : Outcome) → full_step E c.term ≡ o →
      let x : Evaluation = stopped n c.term o in Tails (n + 0) c (n + 0) x.made x.ending
  stopped-tails n c Outcome.value e = (0, refl, refl, e)
  stopped-tails n c (Outcome.step s) e = add-zero n
  stopped-tails n c (Outcome.trap k) e = add-zero n
  stopped-tails n c Outcome.stuck e = tt

  abbrev turned : ℕ → full.Config → Outcome → ℕ
  turned left c o = with_step o (behind_turn (take_turn c o) (full_steps E left))

  continued-tails : (left n : ℕ) (c : full.Config) (o : Outcome) → full_step E c.term ≡ o →
      ((s : Term) → let x : Evaluation = evaluated E left (suc n) s in
      Tails (suc n + left) (record c { term = s }) (suc n + full_steps E left (record c { term = s })) x.made
      x.ending) →
      let x : Evaluation = continued n c.term o (evaluated E left (suc n)) in
      Tails (n + suc left) c (n + turned left c o) x.made x.ending
  continued-tails left n c Outcome.value e next = (suc left, refl, ap (λ o. n + turned left c o) (sym e), e)
  continued-tails left n c (Outcome.step s) e next =
      let x : Evaluation = evaluated E left (suc n) s in
      let more : ℕ = full_steps E left (record c { term = s }) in
      tails-on (suc n + left) (n + suc left) (suc n + more) (n + suc more) c s x.made x.ending (omega arith)
      (omega arith) (next s)
  continued-tails left n c (Outcome.trap k) e next = add-zero n
  continued-tails left n c Outcome.stuck e next = tt

  tails : (left n : ℕ) (c : full.Config) → let x : Evaluation = evaluated E left n c.term in
      Tails (n + left) c (n + full_steps E left c) x.made x.ending
  tails zero n c = stopped-tails n c (full_step E c.term) refl
  tails (suc left) n c = continued-tails left n c (full_step E c.term) refl
      (λ s. tails left (suc n) (record c { term = s }))

  tails-here : (left : ℕ) (c : full.Config) → let x : Evaluation = evaluated E left 0 c.term in
      Tails left c (full_steps E left c) x.made x.ending
  tails-here left c =
      let x : Evaluation = evaluated E left 0 c.term in
      subst (λ all. Tails left c all x.made x.ending) (zero-add (full_steps E left c))
      (subst (λ end. Tails end c (0 + full_steps E left c) x.made x.ending) (zero-add left) (tails left 0 c))

-- ---- the same advance, of the same program from the same state
moved : {C : Program} {bound most : ℕ} {s t : State} {h : machine.Halt} → bound ≡ most → s ≡ t →
    (a : Advances C bound s h) →
    (b : Advances C most t h) × (b.made ≡ a.made)
moved {C = C} {bound = bound} {most = most} {s = s} {t = t} {h = h} e f a =
    subst (λ t. (b : Advances C most t h) × (b.made ≡ a.made)) f
    (subst (λ l. (b : Advances C l s h) × (b.made ≡ a.made)) e (a, refl))

same-state : {s t : State} → Now.computing s ≡ Now.computing t → s ≡ t
same-state e = cc e

same-value : {v u : Value} → Now.gave v ≡ Now.gave u → v ≡ u
same-value e = cc e

abbrev now-of : Config → Now
now-of d = d.now

abbrev with_now : Value → Config → Config
with_now u d = record d { now = Now.gave u }

module _ (E : Env) (w : WellFormed E) (whole : Complete E) (ds : List GlobalId) (listed : Lists E ds) (R : Term) where
  abbrev C : Program
  C = code E ds

  -- of each run of code from beside a configuration
  abbrev Counted : ℕ → Now → List Value → full.Config → Type 0
  Counted left y vs c = (n : ℕ) (d : Config) (r : Seen) → d ≡ beside y vs c →
      (x : Runs C left n d r) → ticks x ≡ full_steps E left c

  abbrev FromValues : ℕ → Type 0
  FromValues left =
      (c : full.Config) (v : Value) (vs : List Value) → Fine E R c.term c.waiting c.tapes →
      IsNow E ds c.term (Now.gave v) →
      AllValuesOf E ds c.waiting vs → Counted left (Now.gave v) vs c

  abbrev FromAll : ℕ → Type 0
  FromAll left =
      (c : full.Config) (y : Now) (vs : List Value) → Fine E R c.term c.waiting c.tapes → IsNow E ds c.term y →
      AllValuesOf E ds c.waiting vs → Counted left y vs c

  -- ---- the machine computes
  module _ (left : ℕ) (c : full.Config) (s : State) (typed : Fine E R c.term c.waiting c.tapes) where
    -- the machine gave a value after so many ticks: the term was evaluated to one that has this value, in as many
    -- steps
    record Behind (u : Value) (made : ℕ) : Type 0 where
      term : Term
      rest : ℕ
      within : made + rest ≡ left
      all : full_steps E left c ≡ made + full_steps E rest (record c { term = term })
      now : IsNow E ds term (Now.gave u)
      fine : Fine E R term c.waiting c.tapes

    spent-made : (m : ℕ) (x : Ending) → Answers E ds left s m x → Tails E left c (full_steps E left c) m x →
        (a : Advances C left s machine.Halt.spent) → a.made ≡ full_steps E left c
    spent-made m (Ending.value t) (v, i, (b, f)) j a = absurd (cc ((halts-are-unique C left s _ _ a b).0))
    spent-made m (Ending.trapped k) (b, f) j a = absurd (cc ((halts-are-unique C left s _ _ a b).0))
    spent-made m Ending.going (b, f) j a = (halts-are-unique C left s _ _ a b).1 ∙ f ∙ sym j
    spent-made m Ending.stuck b j a = absurd b

    trap-made : (m : ℕ) (x : Ending) → Answers E ds left s m x → Tails E left c (full_steps E left c) m x →
        (k : Cause) →
        (a : Advances C left s (machine.Halt.trapped k)) → a.made ≡ full_steps E left c
    trap-made m (Ending.value t) (v, i, (b, f)) j k a = absurd (cc ((halts-are-unique C left s _ _ a b).0))
    trap-made m (Ending.trapped l) (b, f) j k a = (halts-are-unique C left s _ _ a b).1 ∙ f ∙ sym j
    trap-made m Ending.going (b, f) j k a = absurd (cc ((halts-are-unique C left s _ _ a b).0))
    trap-made m Ending.stuck b j k a = absurd b

    gave-made : (m : ℕ) (x : Ending) → Answers E ds left s m x →
        EndsTyped E (IoTy typed.io typed.type) typed.use_of_term x →
        Tails E left c (full_steps E left c) m x → (u : Value) (a : Advances C left s (machine.Halt.done u)) →
        Behind u a.made
    gave-made m (Ending.value t) (v, i, (b, f)) h (rest, p, g, k) u a =
        let same = halts-are-unique C left s (machine.Halt.done u) (machine.Halt.done v) a b in
        let made : a.made ≡ m = same.1 ∙ f in
        let value : u ≡ v = cc (same.0) in
        record {
          term = t;
          rest = rest;
          within = ap (λ n. n + rest) made ∙ p;
          all = g ∙ ap (λ n. n + full_steps E rest (record c { term = t })) (sym made);
          now = subst (λ v. IsNow E ds t (Now.gave v)) (sym value) (k, i);
          fine = record {
            io = typed.io;
            type = typed.type;
            use_of_term = typed.use_of_term;
            use_of_waiting = typed.use_of_waiting;
            has = h;
            waits = typed.waits;
            counted = typed.counted;
          };
        }
    gave-made m (Ending.trapped l) (b, f) h j u a = absurd (cc ((halts-are-unique C left s _ _ a b).0))
    gave-made m Ending.going (b, f) h j u a = absurd (cc ((halts-are-unique C left s _ _ a b).0))
    gave-made m Ending.stuck b h j u a = absurd b

    module _ (vs : List Value) (waits : AllValuesOf E ds c.waiting vs)
        (next : (rest : ℕ) → rest ≤ left → FromValues rest)
        (i : IsNow E ds c.term (Now.computing s)) where
      abbrev x : Evaluation
      x = evaluated E left 0 c.term

      answer : Answers E ds left s x.made x.ending
      answer = answers-as E w whole ds listed s typed.has i left

      given : (u : Value) (a : Advances C left s (machine.Halt.done u)) → Behind u a.made
      given u a =
          gave-made x.made x.ending answer
          (ends-typed E w whole (IoTy typed.io typed.type) typed.use_of_term left 0 c.term typed.has)
          (tails-here E left c) u a

      gone : (u : Value) (made less n : ℕ) (d : Config) (r : Seen) → Behind u made → made + less ≡ left →
          d ≡ beside (Now.computing s) vs c → (y : Runs C less n (record d { now = Now.gave u }) r) →
          made + ticks y ≡ full_steps E left c
      gone u made less n d r b z q y =
          let behind : full.Config = record c { term = b.term } in
          let p : made + b.rest ≡ left = b.within in
          let fewer : b.rest ≡ less = omega (arith, p, z) in
          let on : ticks y ≡ full_steps E less behind =
          next less (omega (arith, z)) behind u vs b.fine b.now waits n (record d { now = Now.gave u }) r
          (ap (with_now u) q) y in
          ap (λ n. made + n) on ∙ ap (λ l. made + full_steps E l behind) (sym fewer) ∙ sym b.all

      computes : {most n : ℕ} {d : Config} {r : Seen} (y : Runs C most n d r) → most ≡ left →
          d ≡ beside (Now.computing s) vs c →
          ticks y ≡ full_steps E left c
      computes (Runs.halts e t) l q = absurd (cc (sym e ∙ ap now-of q))
      computes (Runs.stays e t) l q = absurd (cc (sym e ∙ ap now-of q))
      computes (Runs.acts e t y) l q = absurd (cc (sym e ∙ ap now-of q))
      computes (Runs.spends e a) l q =
          let (b, f) = moved l (same-state (sym e ∙ ap now-of q)) a in
          sym f ∙ spent-made x.made x.ending answer (tails-here E left c) b
      computes (Runs.traps {k = k} e a) l q =
          let (b, f) = moved l (same-state (sym e ∙ ap now-of q)) a in
          sym f ∙ trap-made x.made x.ending answer (tails-here E left c) k b
      computes (Runs.gives {left = less} {n = n} {c = d} {v = u} {r = r} e a z y) l q =
          let (b, f) = moved l (same-state (sym e ∙ ap now-of q)) a in
          gone u a.made less (n + a.made) d r (subst (Behind u) f (given u b)) (z ∙ l) q y

  -- ---- an action was given
  module _ (c : full.Config) (v : Value) (vs : List Value) (value : full_step E c.term ≡ Outcome.value) where
    abbrev turn-beside : Turn
    turn-beside = turn (beside (Now.gave v) vs c) v

    turned-so : {d : Config} {u : Value} → d ≡ beside (Now.gave v) vs c → d.now ≡ Now.gave u → turn d u ≡ turn-beside
    turned-so {d = d} {u = u} q e = ap (turn d) (same-value (sym e ∙ ap now-of q)) ∙ ap (λ d. turn d v) q

    -- the steps behind the action
    stepped : (more : ℕ) (o : full.Turn) → full.turn E c ≡ o →
        full_steps E (suc more) c ≡ behind_turn o (full_steps E more)
    stepped more o e =
        ap (λ p. with_step p (behind_turn (full.turn E c) (full_steps E more))) value ∙
        ap (λ o. behind_turn o (full_steps E more)) e

    none-behind : (left : ℕ) (o : full.Turn) → full.turn E c ≡ o → Alike E w whole ds listed o turn-beside →
        (u : Verdict) →
        turn-beside ≡ Turn.halts u → 0 ≡ full_steps E left c
    none-behind zero o e a u t = refl
    none-behind (suc left) (full.Turn.goes g) e (y, us, a, i, hs) u t = absurd (cc (sym t ∙ a))
    none-behind (suc left) (full.Turn.halts z) e a u t = sym (stepped left (full.Turn.halts z) e)

    one-behind : (more : ℕ) → FromAll more → (o : full.Turn) → full.turn E c ≡ o → Kept E R c o →
        Alike E w whole ds listed o turn-beside → (b : Config) → turn-beside ≡ Turn.goes b →
        (n : ℕ) (r : Seen) (x : Runs C more n b r) →
        ticks x ≡ full_steps E (suc more) c
    one-behind more next (full.Turn.goes g) e f (y, us, a, i, hs) b t n r x =
        let both = sym t ∙ a in
        let same : b ≡ beside y us g = cc both in
        next g y us f i hs n b r same x ∙ sym (stepped more (full.Turn.goes g) e)
    one-behind more next (full.Turn.halts z) e f a b t n r x = absurd (cc (sym t ∙ a))

    performed : {left n : ℕ} {d : Config} {r : Seen} (x : Runs C left n d r) → d ≡ beside (Now.gave v) vs c →
        ((more : ℕ) → more < left → FromAll more) → (o : full.Turn) → full.turn E c ≡ o → Kept E R c o →
        Alike E w whole ds listed o turn-beside → ticks x ≡ full_steps E left c
    performed (Runs.spends e b) q next o k f a = absurd (cc (sym e ∙ ap now-of q))
    performed (Runs.traps e b) q next o k f a = absurd (cc (sym e ∙ ap now-of q))
    performed (Runs.gives e b z y) q next o k f a = absurd (cc (sym e ∙ ap now-of q))
    performed (Runs.stays e t) q next o k f a = refl
    performed {left = left} (Runs.halts {w = u} e t) q next o k f a = none-behind left o k a u (sym (turned-so q e) ∙ t)
    performed (Runs.acts {more = more} {n = n} {d = b} {r = r} e t x) q next o k f a =
        one-behind more (next more (omega arith)) o k f a b (sym (turned-so q e) ∙ t) (suc n) r x

  from-values : (left : ℕ) → ((more : ℕ) → more < left → FromAll more) → FromValues left
  from-values left next c v vs typed (k, i) waits n d r q x =
      let e : full.turn E c ≡ perform c c.term = ap (take_turn c) k in
      performed c v vs k x q next (perform c c.term) e
      (subst (Kept E R c) e (turn_kept (sound_of w) R (bodied_of E whole) c typed))
      (perform-alike E w whole ds listed c vs waits (Now.gave v) v typed.has k i)

  from-all : (most left : ℕ) → left < most → FromAll left
  from-all zero left l c y vs typed i waits = absurd (omega (arith, l))
  from-all (suc most) left l c (Now.gave v) vs typed i waits =
      from-values left (λ more h. from-all most more (omega (arith, l, h))) c v vs typed i waits
  from-all (suc most) left l c (Now.computing s) vs typed i waits =
      λ n d r q x.
      computes left c s typed vs waits
      (λ rest h. from-values rest (λ more g. from-all most more (omega (arith, l, h, g)))) i x refl q

pub ticks-are-steps : (E : Env) → WellFormed E → Complete E → (ds : List GlobalId) → Lists E ds →
    (main : GlobalId) → IsMain E main →
    TicksAreSteps E ds main
ticks-are-steps E w whole ds listed main m bound input r x =
    from-all E w whole ds listed UnitTy (suc bound) bound (omega arith) (full.start main input)
    (Now.computing (machine.start (first_block E ds main))) [] (main_fine w main m)
    (start-represents E w whole ds listed main)
    AllValuesOf.none 0 (start (first_block E ds main) input) r refl x
