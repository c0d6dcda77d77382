-- A run of code that begins typed stays typed.
use Rattle.std.proofs.Common.{◌≡◌, ◌≢◌, ℕ, ◌+◌, List, [], refl, sym, ◌∙◌, ap, subst}
use Rattle.qtt_base.specs.declared.place.GlobalId.{GlobalId}
use Rattle.qtt_term.specs.Term.{Term}
use Rattle.qtt_term.specs.Signature.{Env, UnitTy, IoTy}
use Rattle.qtt_term.specs.FullRun as full
use Rattle.qtt_term.specs.FullRun.{Verdict, run_on, perform, take_turn}
use Rattle.qtt_term.specs.Environment.{WellFormed, Complete, IsMain}
use Rattle.qtt_preserve.proofs.Sound.{sound_of, bodied_of}
use Rattle.qtt_preserve.proofs.Run.{Fine, Kept, turn_kept}
use Rattle.qtt_preserve.proofs.Configured.{configured-fine, fine-configured}
use Rattle.qtt_preserve.proofs.Discipline.{main_fine}
use Rattle.qtt_code.specs.Value.{Value}
use Rattle.qtt_code.specs.Machine.{State, Halt, Advances, start}
use Rattle.qtt_code.proofs.Halting.{halts-are-unique}
use Rattle.qtt_run.specs.Code.{Lists, code, first_block}
use Rattle.qtt_run.specs.Evaluation.{Ending, Evaluation, evaluated, Answers}
use Rattle.qtt_run.specs.CodeRun as run
use Rattle.qtt_run.specs.CodeRun.{Now, Config, Turn, turn, Seen, seen_of, Runs}
use Rattle.qtt_run.specs.Beside.{AllValuesOf, IsNow, Beside, IsTyped}
use Rattle.qtt_run.specs.Laws.{CodeKeepsTypes}
use Rattle.qtt_run.proofs.Evaluating.{answers-as, start-represents}
use Rattle.qtt_run.proofs.Jumping.{Jumps, jump, EndsTyped, ends-typed}
use Rattle.qtt_run.proofs.Performing.{beside, Alike, perform-alike}
use Rattle.qtt_run.proofs.RunsBeside.{run-beside}

beside-is : {E : Env} {ds : List GlobalId} {f : full.Config} {c : Config} → Beside E ds f c →
    beside c.now c.waiting f ≡ c
beside-is {f = f} {c = c} b =
    ap (λ i. record { now = c.now; waiting = c.waiting; input = i; events = f.events; tapes = f.tapes }) b.input
    ∙ ap (λ e. record { now = c.now; waiting = c.waiting; input = c.input; events = e; tapes = f.tapes }) b.events
    ∙ ap (λ t. record { now = c.now; waiting = c.waiting; input = c.input; events = c.events; tapes = t }) b.tapes

module _ (E : Env) (w : WellFormed E) (whole : Complete E) (ds : List GlobalId) (listed : Lists E ds) where
  -- beside a typed configuration
  typed-at : (R : Term) (f : full.Config) (x : Now) (vs : List Value) → Fine E R f.term f.waiting f.tapes →
      IsNow E ds f.term x →
      AllValuesOf E ds f.waiting vs →
      IsTyped E ds R (beside x vs f)
  typed-at R f x vs h i hs =
      record {
        full = f;
        configured = fine-configured h;
        beside =
            record { now = i; waiting = hs; input = refl; events = refl; tapes = refl };
      }

  starts-typed : (main : GlobalId) → IsMain E main →
      (input : List ℕ) → IsTyped E ds UnitTy (run.start (first_block E ds main) input)
  starts-typed main m input =
      typed-at UnitTy (full.start main input) (Now.computing (start (first_block E ds main))) [] (main_fine w main m)
      (start-represents E w whole ds listed main) AllValuesOf.none

  -- ---- the machine
  some-answer : (bound n : ℕ) (s : State) (x : Ending) → Answers E ds bound s n x →
      (h : Halt) × Advances (code E ds) bound s h
  some-answer bound n s (Ending.value t) (v, i, (a, e)) = (Halt.done v, a)
  some-answer bound n s (Ending.trapped k) (a, e) = (Halt.trapped k, a)
  some-answer bound n s Ending.going (a, e) = (Halt.spent, a)
  some-answer bound n s Ending.stuck a = absurd a

  module _ (R : Term) (c : Config) (typed : IsTyped E ds R c) where
    now-is : (x : Now) → c.now ≡ x → IsNow E ds typed.full.term x
    now-is x e = subst (IsNow E ds typed.full.term) e typed.beside.now

    fine : Fine E R typed.full.term typed.full.waiting typed.full.tapes
    fine = configured-fine typed.configured

    answers-typed : (s : State) → c.now ≡ Now.computing s → (bound : ℕ) → (h : Halt) × Advances (code E ds) bound s h
    answers-typed s e bound =
        let x : Evaluation = evaluated E bound 0 typed.full.term in
        some-answer bound x.made s x.ending
        (answers-as E w whole ds listed s fine.has (now-is (Now.computing s) e) bound)

    given : (s : State) (v : Value) (bound n : ℕ) (x : Ending) → Advances (code E ds) bound s (Halt.done v) →
        Answers E ds bound s n x →
        EndsTyped E (IoTy fine.io fine.type) fine.use_of_term x →
        Jumps E (0 + bound) typed.full (run_on bound E 0 typed.full) (0 + n) x →
        IsTyped E ds R (beside (Now.gave v) c.waiting typed.full)
    given s v bound n (Ending.value t) b (u, i, (a, e)) h (rest, p, q, k) =
        let g = (halts-are-unique (code E ds) bound s (Halt.done u) (Halt.done v) a b).0 in
        let same : u ≡ v = cc g in
        let f : full.Config = record typed.full { term = t } in
        typed-at R f (Now.gave v) c.waiting
        (record {
          io = fine.io;
          type = fine.type;
          use_of_term = fine.use_of_term;
          use_of_waiting = fine.use_of_waiting;
          has = h;
          waits =
              fine.waits;
          counted = fine.counted;
        })
        (subst (λ v. IsNow E ds t (Now.gave v)) same (k, i)) typed.beside.waiting
    given s v bound n (Ending.trapped k) b (a, e) h j =
        absurd (cc ((halts-are-unique (code E ds) bound s (Halt.trapped k) (Halt.done v) a b).0))
    given s v bound n Ending.going b (a, e) h j =
        absurd (cc ((halts-are-unique (code E ds) bound s Halt.spent (Halt.done v) a b).0))
    given s v bound n Ending.stuck b a h j = absurd a

    gives-typed : (s : State) (v : Value) (bound : ℕ) → c.now ≡ Now.computing s →
        Advances (code E ds) bound s (Halt.done v) →
        IsTyped E ds R (record c { now = Now.gave v })
    gives-typed s v bound e a =
        let x : Evaluation = evaluated E bound 0 typed.full.term in
        subst (λ d. IsTyped E ds R (record d { now = Now.gave v })) (beside-is typed.beside)
        (given s v bound x.made x.ending a
        (answers-as E w whole ds listed s fine.has (now-is (Now.computing s) e) bound)
        (ends-typed E w whole (IoTy fine.io fine.type) fine.use_of_term bound 0 typed.full.term fine.has)
        (jump E bound 0 typed.full))

    -- ---- actions
    performed : (v : Value) → c.now ≡ Now.gave v →
        Alike E w whole ds listed (perform typed.full typed.full.term) (turn c v)
    performed v e =
        let i = now-is (Now.gave v) e in
        subst (λ d. Alike E w whole ds listed (perform typed.full typed.full.term) (turn d v)) (beside-is typed.beside)
        (perform-alike E w whole ds listed typed.full c.waiting typed.beside.waiting c.now v fine.has i.0 i.1)

    kept : (v : Value) → c.now ≡ Now.gave v → Kept E R typed.full (perform typed.full typed.full.term)
    kept v e = subst (Kept E R typed.full) (ap (take_turn typed.full) (now-is (Now.gave v) e).0)
        (turn_kept (sound_of w) R (bodied_of E whole) typed.full fine)

    goes-typed : (o : full.Turn) (p : Turn) (d : Config) → Kept E R typed.full o → Alike E w whole ds listed o p →
        p ≡ Turn.goes d →
        IsTyped E ds R d
    goes-typed (full.Turn.goes f) p d k (x, vs, a, i, hs) e =
        let q = sym a ∙ e in let same : beside x vs f ≡ d =
        cc q in subst (IsTyped E ds R) same (typed-at R f x vs k i hs)
    goes-typed (full.Turn.halts u) p d k a e = absurd (cc (sym a ∙ e))

    halts-free : (o : full.Turn) (p : Turn) → Kept E R typed.full o → Alike E w whole ds listed o p →
        p ≢ Turn.halts Verdict.stuck
    halts-free (full.Turn.goes f) p k (x, vs, a, i, hs) e = cc (sym a ∙ e)
    halts-free (full.Turn.halts Verdict.ended) p k a e = cc (sym a ∙ e)
    halts-free (full.Turn.halts (Verdict.trapped j)) p k a e = cc (sym a ∙ e)
    halts-free (full.Turn.halts Verdict.stuck) p k a e = k
    halts-free (full.Turn.halts Verdict.running) p k a e = cc (sym a ∙ e)

    turns-typed : (d : Config) (v : Value) → c.now ≡ Now.gave v → turn c v ≡ Turn.goes d → IsTyped E ds R d
    turns-typed d v e a = goes-typed (perform typed.full typed.full.term) (turn c v) d (kept v e) (performed v e) a

    turns-free : (v : Value) → c.now ≡ Now.gave v → turn c v ≢ Turn.halts Verdict.stuck
    turns-free v e = halts-free (perform typed.full typed.full.term) (turn c v) (kept v e) (performed v e)

    runs-typed : (more n : ℕ) → (r : Seen) × Runs (code E ds) more n c r
    runs-typed more n =
        let r : Seen = seen_of (run_on more E n typed.full) in (
          r,
          subst (λ c. Runs (code E ds) more n c r) (beside-is typed.beside)
              (run-beside E w whole ds listed R more n typed.full c.now c.waiting fine typed.beside.now
              typed.beside.waiting),
        )

pub code-keeps-types : (E : Env) → WellFormed E → Complete E → (ds : List GlobalId) → Lists E ds → CodeKeepsTypes E ds
code-keeps-types E w whole ds l = record {
  starts = starts-typed E w whole ds l;
  answers = λ R c s t e bound. answers-typed E w whole ds l R c t s e bound;
  gives = λ R c s v bound t e a. gives-typed E w whole ds l R c t s v bound e a;
  turns = λ R c d v t e a. turns-typed E w whole ds l R c t d v e a;
  never_stuck = λ R c v t e. turns-free E w whole ds l R c t v e;
  runs = λ R c t more n. runs-typed E w whole ds l R c t more n;
}
