-- The run of a typed main's code is that of its full run.
use Rattle.std.proofs.Common.{◌≡◌, ℕ, zero, suc, ◌+◌, ◌<◌, ◌≤◌, List, [], refl, sym, ◌∙◌, ap, subst, arith}
use mathlib.Core.Path.{subst₂}
use Rattle.qtt_base.specs.declared.place.GlobalId.{GlobalId}
use Rattle.qtt_term.specs.Term.{Term}
use Rattle.qtt_term.specs.Signature.{Env, UnitTy, IoTy}
use Rattle.qtt_term.specs.FullRun as full
use Rattle.qtt_term.specs.FullRun.{Verdict, at_end, going, run_on, perform, take_turn}
use Rattle.qtt_term.specs.Environment.{WellFormed, Complete, IsMain}
use Rattle.qtt_preserve.proofs.Sound.{sound_of, bodied_of}
use Rattle.qtt_preserve.proofs.Run.{Fine, Kept, turn_kept}
use Rattle.qtt_preserve.proofs.Discipline.{main_fine}
use Rattle.qtt_code.specs.Value.{Value}
use Rattle.qtt_code.specs.Machine.{State, start}
use Rattle.qtt_run.specs.Code.{Lists, code, first_block}
use Rattle.qtt_run.specs.Evaluation.{Ending, Evaluation, evaluated, Answers}
use Rattle.qtt_run.specs.CodeRun as run
use Rattle.qtt_run.specs.CodeRun.{Now, Config, Turn, turn, seen, seen_of, Runs}
use Rattle.qtt_run.specs.Beside.{AllValuesOf, IsNow}
use Rattle.qtt_run.proofs.Evaluating.{answers-as, start-represents}
use Rattle.qtt_run.proofs.Jumping.{stop, Jumps, jump, EndsTyped, ends-typed}
use Rattle.qtt_run.proofs.Performing.{beside, Alike, perform-alike}

-- ---- where a full run halts
halted : (E : Env) (left n : ℕ) (c : full.Config) (v : Verdict) → full.turn E c ≡ full.Turn.halts v →
    run_on left E n c ≡ record { verdict = v; count = n; last = at_end v c }
halted E zero n c v e = ap (full.stopped n c) e
halted E (suc left) n c v e = ap (λ o. going n c o (run_on left E (suc n))) e

-- what is seen of the run of code that halts beside it
seen-beside : (v : Verdict) (n : ℕ) (x : Now) (vs : List Value) (c : full.Config) →
    seen v n (beside x vs c) ≡ stop v n c
seen-beside Verdict.ended n x vs c = refl
seen-beside (Verdict.trapped k) n x vs c = refl
seen-beside Verdict.stuck n x vs c = refl
seen-beside Verdict.running n x vs c = refl

module _ (E : Env) (w : WellFormed E) (whole : Complete E) (ds : List GlobalId) (listed : Lists E ds) (R : Term) where
  abbrev Typed : full.Config → Type 0
  Typed c = Fine E R c.term c.waiting c.tapes

  -- the run of code from beside a configuration is the full run from it
  abbrev Follows : ℕ → ℕ → Now → List Value → full.Config → Type 0
  Follows left n x vs c = Runs (code E ds) left n (beside x vs c) (seen_of (run_on left E n c))

  -- from wherever the run of code has given a value, within so many contractions
  abbrev FromValues : ℕ → Type 0
  FromValues left =
      (n : ℕ) (c : full.Config) (v : Value) (vs : List Value) → Typed c → IsNow E ds c.term (Now.gave v) →
      AllValuesOf E ds c.waiting vs →
      Follows left n (Now.gave v) vs c

  abbrev FromAll : ℕ → Type 0
  FromAll left =
      (n : ℕ) (c : full.Config) (x : Now) (vs : List Value) → Typed c → IsNow E ds c.term x →
      AllValuesOf E ds c.waiting vs →
      Follows left n x vs c

  -- ---- the machine computes
  module _ (left n : ℕ) (c : full.Config) (s : State) (vs : List Value) (typed : Typed c)
      (waits : AllValuesOf E ds c.waiting vs)
      (next : (rest : ℕ) → rest ≤ left → FromValues rest) where
    computed : (m : ℕ) (x : Ending) → Answers E ds left s m x →
        EndsTyped E (IoTy typed.io typed.type) typed.use_of_term x →
        Jumps E (n + left) c (run_on left E n c) (n + m) x → Follows left n (Now.computing s) vs c
    computed m (Ending.value t) (v, i, (a, e)) h (rest, p, q, k) =
        let whole_bound : a.made + rest ≡ left = omega (arith, p, e) in
        let fine : Fine E R t c.waiting c.tapes = record {
          io = typed.io;
          type = typed.type;
          use_of_term = typed.use_of_term;
          use_of_waiting = typed.use_of_waiting;
          has = h;
          waits = typed.waits;
          counted = typed.counted;
        } in
        Runs.gives refl a whole_bound
        (subst₂ (λ j r. Runs (code E ds) rest j (beside (Now.gave v) vs c) (seen_of r)) (ap (λ m. n + m) (sym e))
        (sym q)
        (next rest (omega (arith, p)) (n + m) (record c { term = t }) v vs fine (k, i) waits))
    computed m (Ending.trapped k) (a, e) h j =
        subst (λ r. Runs (code E ds) left n (beside (Now.computing s) vs c) r)
        (ap (λ m. stop (Verdict.trapped k) (n + m) c) e ∙ sym j)
        (Runs.traps refl a)
    computed m Ending.going (a, e) h j =
        subst (λ r. Runs (code E ds) left n (beside (Now.computing s) vs c) r)
        (ap (λ m. stop Verdict.running (n + m) c) e ∙ sym j)
        (Runs.spends refl a)
    computed m Ending.stuck a h j = absurd a

    computes : IsNow E ds c.term (Now.computing s) → Follows left n (Now.computing s) vs c
    computes r =
        let x : Evaluation = evaluated E left 0 c.term in
        computed x.made x.ending (answers-as E w whole ds listed s typed.has r left)
        (ends-typed E w whole (IoTy typed.io typed.type) typed.use_of_term left 0 c.term typed.has) (jump E left n c)

  -- ---- an action was given
  module _ (c : full.Config) (v : Value) (vs : List Value) (waits : AllValuesOf E ds c.waiting vs) where
    performs : (left n : ℕ) → ((more : ℕ) → more < left → FromAll more) → (o : full.Turn) → full.turn E c ≡ o →
        Kept E R c o →
        Alike E w whole ds listed o (turn (beside (Now.gave v) vs c) v) → Follows left n (Now.gave v) vs c
    performs left n next (full.Turn.halts u) e k a =
        subst (λ r. Runs (code E ds) left n (beside (Now.gave v) vs c) r)
        (seen-beside u n (Now.gave v) vs c ∙ ap seen_of (sym (halted E left n c u e))) (Runs.halts refl a)
    performs zero n next (full.Turn.goes d) e k (x, us, a, i, hs) =
        subst (λ r. Runs (code E ds) 0 n (beside (Now.gave v) vs c) r)
        (ap (λ o. seen_of (full.stopped n c o)) (sym e)) (Runs.stays refl a)
    performs (suc left) n next (full.Turn.goes d) e k (x, us, a, i, hs) =
        subst (λ r. Runs (code E ds) (suc left) n (beside (Now.gave v) vs c) r)
        (ap (λ o. seen_of (going n c o (run_on left E (suc n)))) (sym e))
        (Runs.acts refl a (next left (omega arith) (suc n) d x us k i hs))

  from-values : (left : ℕ) → ((more : ℕ) → more < left → FromAll more) → FromValues left
  from-values left next n c v vs typed (k, i) waits =
      let e : full.turn E c ≡ perform c c.term = ap (take_turn c) k in
      performs c v vs waits left n next (perform c c.term) e
      (subst (Kept E R c) e (turn_kept (sound_of w) R (bodied_of E whole) c typed))
      (perform-alike E w whole ds listed c vs waits (Now.gave v) v typed.has k i)

  from-all : (most left : ℕ) → left < most → FromAll left
  from-all zero left l n c x vs typed i waits = absurd (omega (arith, l))
  from-all (suc most) left l n c (Now.gave v) vs typed i waits =
      from-values left (λ more h. from-all most more (omega (arith, l, h))) n c v vs typed i waits
  from-all (suc most) left l n c (Now.computing s) vs typed i waits =
      computes left n c s vs typed waits
      (λ rest h. from-values rest (λ more g. from-all most more (omega (arith, l, h, g)))) i

  pub run-beside : (left : ℕ) → FromAll left
  run-beside left = from-all (suc left) left (omega arith)

pub code-follows : (E : Env) → WellFormed E → Complete E → (ds : List GlobalId) → Lists E ds →
    (main : GlobalId) → IsMain E main →
    (bound : ℕ) (input : List ℕ) →
    Runs (code E ds) bound 0 (run.start (first_block E ds main) input) (seen_of (full.full bound E main input))
code-follows E w whole ds listed main m bound input =
    run-beside E w whole ds listed UnitTy bound 0 (full.start main input)
    (Now.computing (start (first_block E ds main))) []
    (main_fine w main m) (start-represents E w whole ds listed main) AllValuesOf.none
