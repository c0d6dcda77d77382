-- Runs of the code of a typed environment, of which only the program is named.
use Rattle.std.proofs.Common.{◌≡◌, ◌≢◌, ℕ, ◌≤◌, List, refl, sym, subst, arith}
use Rattle.qtt_term.specs.Term.{Term}
use Rattle.qtt_base.specs.declared.place.GlobalId.{GlobalId}
use Rattle.qtt_term.specs.Signature.{Env, UnitTy}
use Rattle.qtt_term.specs.FullRun.{Verdict}
use Rattle.qtt_code.specs.Value.{Value}
use Rattle.qtt_code.specs.Instruction.{Program}
use Rattle.qtt_code.specs.Machine.{State, Halt, Advances}
use Rattle.qtt_run.specs.CodeRun.{Now, Config, Turn, turn, Seen, seen, Runs}
use Rattle.qtt_run.specs.Beside.{IsTyped}
use Rattle.qtt_run.specs.Laws.{CodeKeepsTypes}
use Rattle.qtt_run.specs.Underway.{IsTypedIn}
use Rattle.qtt_run.proofs.Keeping.{code-keeps-types}

keeps : {P : Program} {c : Config} (t : IsTypedIn P c) → CodeKeepsTypes t.env t.ids
keeps t = code-keeps-types t.env t.well_formed t.complete t.ids t.listed

again : {P : Program} {c : Config} (t : IsTypedIn P c) (d : Config) → IsTyped t.env t.ids UnitTy d → IsTypedIn P d
again t d h = record {
  env = t.env;
  ids = t.ids;
  well_formed = t.well_formed;
  complete = t.complete;
  listed = t.listed;
  program = t.program;
  typed = h;
}

pub typed-answers : {P : Program} {c : Config} → IsTypedIn P c → (s : State) → c.now ≡ Now.computing s → (bound : ℕ) →
    (h : Halt) × Advances P bound s h
typed-answers {c = c} t s e bound =
    let k : CodeKeepsTypes t.env t.ids = keeps t in
    subst (λ P. (h : Halt) × Advances P bound s h) (sym t.program) (k.answers UnitTy c s t.typed e bound)

pub typed-gives : {P : Program} {c : Config} → IsTypedIn P c → (s : State) (v : Value) (bound : ℕ) →
    c.now ≡ Now.computing s →
    Advances P bound s (Halt.done v) →
    IsTypedIn P (record c { now = Now.gave v })
typed-gives {c = c} t s v bound e a =
    let k : CodeKeepsTypes t.env t.ids = keeps t in
    again t (record c { now = Now.gave v })
    (k.gives UnitTy c s v bound t.typed e (subst (λ P. Advances P bound s (Halt.done v)) t.program a))

pub typed-turns : {P : Program} {c : Config} → IsTypedIn P c → (d : Config) (v : Value) → c.now ≡ Now.gave v →
    turn c v ≡ Turn.goes d →
    IsTypedIn P d
typed-turns {c = c} t d v e a =
    let k : CodeKeepsTypes t.env t.ids = keeps t in again t d (k.turns UnitTy c d v t.typed e a)

pub typed-unstuck : {P : Program} {c : Config} → IsTypedIn P c →
    (v : Value) → c.now ≡ Now.gave v → turn c v ≢ Turn.halts Verdict.stuck
typed-unstuck {c = c} t v e = let k : CodeKeepsTypes t.env t.ids = keeps t in k.never_stuck UnitTy c v t.typed e

pub typed-runs : {P : Program} {c : Config} → IsTypedIn P c → (more n : ℕ) → (r : Seen) × Runs P more n c r
typed-runs {c = c} t more n =
    let k : CodeKeepsTypes t.env t.ids = keeps t in
    subst (λ P. (r : Seen) × Runs P more n c r) (sym t.program) (k.runs UnitTy c t.typed more n)

-- ---- the rest of the input is of no matter to types
any-typed : {E : Env} {ds : List GlobalId} {R : Term} {c : Config} → IsTyped E ds R c → (input : List ℕ) →
    IsTyped E ds R (record c { input = input })
any-typed t input =
    let k = t.configured in
    let b = t.beside in
    record {
      full = record t.full { input = input };
      configured = record {
        io = k.io;
        type = k.type;
        use_of_term = k.use_of_term;
        use_of_waiting = k.use_of_waiting;
        typed = k.typed;
        waits = k.waits;
        counted = k.counted;
      };
      beside = record { now = b.now; waiting = b.waiting; input = refl; events = b.events; tapes = b.tapes };
    }

pub typed-over : {P : Program} {c : Config} → IsTypedIn P c →
    (input : List ℕ) → IsTypedIn P (record c { input = input })
typed-over {c = c} t input = again t (record c { input = input }) (any-typed t.typed input)

-- ---- a run counts on
seen-count : (w : Verdict) (n : ℕ) (c : Config) → let r : Seen = seen w n c in r.count ≡ n
seen-count Verdict.ended n c = refl
seen-count (Verdict.trapped k) n c = refl
seen-count Verdict.stuck n c = refl
seen-count Verdict.running n c = refl

pub counts-on : {C : Program} {more n : ℕ} {c : Config} {r : Seen} → Runs C more n c r → n ≤ r.count
counts-on (Runs.spends e a) = omega arith
counts-on (Runs.traps e a) = omega arith
counts-on (Runs.gives e a p x) = let h = counts-on x in omega (arith, h)
counts-on {n = n} {c = c} (Runs.halts {w = w} e a) = let h = seen-count w n c in omega (arith, h)
counts-on (Runs.stays e a) = omega arith
counts-on (Runs.acts e a x) = let h = counts-on x in omega (arith, h)
