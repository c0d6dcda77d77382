-- Steps of the code of a run under way.
use Rattle.std.proofs.Common.{◌≡◌, ℕ, suc, ◌+◌, ◌-◌, ◌≤◌, ◌<◌, ◌^◌, List, [], ◌∷◌, ◌++◌, length, reverse, Option, Result, Ok, Err, refl, sym, ◌∙◌, ap, subst, arith}
use Rattle.std.specs.Result.{IsErr, IsErrAnd}
use Rattle.std.proofs.lemmas.Bool.{false≢true}
use Rattle.std.proofs.lemmas.List.{reverse-append}
use Rattle.qtt_prims.specs.Tapes.{Taped, new_tape, with_line, shut, changed}
use Rattle.qtt_prims.specs.declared.lit.Lit.TheVariants as literal
use Rattle.qtt_edge.specs.Sink.{Adds, AddsFront}
use Rattle.qtt_edge.specs.Tapes.{HasRoom, KeepsOthers, Opens, AddsLine, Closes}
use Rattle.qtt_edge.specs.declared.line_cutter.LineError.{LineError}
use Rattle.qtt_edge.specs.declared.sink.SinkError.{SinkError}
use Rattle.qtt_edge.specs.declared.tapes.TapeError.{TapeError}
use Rattle.qtt_term.specs.Term.{Io}
use Rattle.qtt_term.specs.FullStep.{Cause}
use Rattle.qtt_code.specs.Value.{Value, Values, ◌▹◌}
use Rattle.qtt_code.specs.Instruction.{Program}
use Rattle.qtt_code.specs.Machine as machine
use Rattle.qtt_code.specs.Machine.{State, Advances, called}
use Rattle.qtt_value.specs.declared.val.Val.{Val}
use Rattle.qtt_value.specs.View.{value, values}
use Rattle.qtt_machine.specs.declared.event.Halt.{Halt}
use Rattle.qtt_machine.specs.declared.event.Halt.TheVariants as halted
use Rattle.qtt_machine.specs.declared.machine.Machine.{Machine}
use Rattle.qtt_machine.specs.Machine as code_machine
use Rattle.qtt_machine.specs.Events.{cause}
use Rattle.qtt_machine.specs.Runs as runs
use Rattle.qtt_run.specs.declared.handles.Handles.{Handles}
use Rattle.qtt_run.specs.declared.lines.Lines.{Lines}
use Rattle.qtt_run.specs.declared.lines.Found.{Found}
use Rattle.qtt_run.specs.declared.lines.Found.TheVariants.{Line, End, Bad}
use Rattle.qtt_run.specs.declared.program.RunHow.{RunHow}
use Rattle.qtt_run.specs.declared.program.RunHow.TheVariants as how
use Rattle.qtt_base.specs.declared.errors.MemoryError.{MemoryError}
use Rattle.qtt_run.specs.declared.running.Running.{Running}
use Rattle.qtt_run.specs.declared.running.Turn as code_turn
use Rattle.qtt_run.specs.CodeRun.{Now, pure_unit, pure_handle}
use Rattle.qtt_run.specs.Deed.{binds, puts, opens, writes, closes, gets, gives}
use Rattle.qtt_run.specs.Front.{Failure}
use Rattle.qtt_run.specs.Handles.{Mirrors}
use Rattle.qtt_run.specs.Lines.{LeftOver, HasInput, Finds}
use Rattle.qtt_run.specs.Stop.{line_failure, sink_failure, tape_failure}
use Rattle.qtt_run.specs.Underway.{Origin, Underway, IsUnderway, Computes, Ahead, GivesNext, Finished, Broken, Trapping, AfterHalt, Turned, Came}
use Rattle.qtt_run.proofs.Handling.{same-length, has-room}
use Rattle.qtt_run.proofs.Waiting.{broken-here, broken-reading, computed, machine-spent, machine-traps}
use Rattle.qtt_run.proofs.Effects.{bind-acts, give-ends, give-bound, give-acts, give-answers, put-acts, put-breaks, open-acts, open-breaks, write-acts, write-breaks, close-acts, close-breaks}
use Rattle.qtt_run.proofs.Getting.{Reads, reads-line, reads-end, got-acts, got-bound, bad-traps}

-- ---- errors
module _ {E : Type 0} (why : E → Failure) (o : Origin) (x : E) where
  pub turn-failed : (m : Running) (i u : Option (List ℕ)) (t : Option (List Taped)) (r : Result code_turn.Turn E) →
      IsErrAnd r (λ e. e ≡ x) →
      Broken o (why x) m.left u t → Turned why o m i u t r
  turn-failed m i u t (Ok h) e b = absurd e
  turn-failed m i u t (Err y) e b = subst (λ y. Broken o (why y) m.left u t) (sym e) b

  pub came-failed : (left : ℕ) (u : Option (List ℕ)) (t : Option (List Taped)) (r : Result RunHow E) →
      IsErrAnd r (λ e. e ≡ x) →
      Broken o (why x) left u t → Came why o left u t r
  came-failed left u t (Ok h) e b = absurd e
  came-failed left u t (Err y) e b = subst (λ y. Broken o (why y) left u t) (sym e) b

pub halt-failed : (o : Origin) (m : Running) (i u : Option (List ℕ)) (t : Option (List Taped))
    (r : Result Halt MemoryError) → IsErr r →
    Broken o Failure.memory m.left u t → AfterHalt o m i u t r
halt-failed o m i u t (Ok h) e b = absurd (false≢true e)
halt-failed o m i u t (Err x) e b = b

-- ---- the machine
-- the same advance of the same program from the same state
moved : {P Q : Program} {s r : State} {bound : ℕ} {h : machine.Halt} → P ≡ Q → s ≡ r → (a : Advances P bound s h) →
    (b : Advances Q bound r h) × (b.made ≡ a.made)
moved {P = P} {Q = Q} {s = s} {r = r} {bound = bound} {h = h} e f a =
    subst (λ r. (b : Advances Q bound r h) × (b.made ≡ a.made)) f
    (subst (λ Q. (b : Advances Q bound s h) × (b.made ≡ a.made)) e (a, refl))

pub advance-within : (m : Running) (x : Machine) (h : Halt) (a : code_machine.Advanced m.machine m.left h x) →
    a.made ≤ m.left
advance-within m x h a =
    let n : a.ran.run.made ≡ a.made = a.ran.count in
    let w : a.ran.run.made ≤ m.left = a.ran.run.within in
    omega (arith, n, w)

module _ {o : Origin} {i u : Option (List ℕ)} {t : Option (List Taped)} where
  pub computes-ready : (m : Running) → Computes o m i u t → code_machine.IsReady m.machine
  computes-ready m (s, c) = c.stands.2

  pub computes-broken : (m : Running) → Computes o m i u t → Broken o Failure.memory m.left u t
  computes-broken m (s, c) = broken-here c.run

  pub underway-reading : {v : Value} (m : Running) → IsUnderway o (Now.gave v) m i u t → (e : LineError) →
      Broken o (line_failure e) m.left u t
  underway-reading m c e = broken-reading c.run e

  pub underway-broken : {v : Value} (m : Running) → IsUnderway o (Now.gave v) m i u t →
      Broken o Failure.memory m.left u t
  underway-broken m c = broken-here c.run

  pub after-advance : (m : Running) (x : Machine) (left : ℕ) (h : Halt) → Computes o m i u t →
      (a : code_machine.Advanced m.machine m.left h x) → a.made + left ≡ m.left →
      AfterHalt o (record m { machine = x; left = left }) i u t (Ok h)
  after-advance m x left (halted.Done v) (s, c) a e =
      let (b, q) = moved c.stands.0 c.stands.1 a.ran.run in
      let n : a.ran.run.made ≡ a.made = a.ran.count in
      record { run = computed c.run (value v) b left (omega (arith, e, q, n)); stands = a.same_program ∙ c.stands.0 }
  after-advance m x left (halted.Trap k) (s, c) a e =
      let (b, q) = moved c.stands.0 c.stands.1 a.ran.run in
      let n : a.ran.run.made ≡ a.made = a.ran.count in
      machine-traps c.run (cause k) b left (omega (arith, e, q, n))
  after-advance m x left halted.Spent (s, c) a e =
      let (b, q) = moved c.stands.0 c.stands.1 a.ran.run in
      let n : a.ran.run.made ≡ a.made = a.ran.count in
      machine-spent c.run b left (omega (arith, e, q, n))

-- ---- results and continuations
waiting-pushed : (vs : List Val) (v : Val) → reverse (values (vs ++ v ∷ [])) ≡ value v ∷ reverse (values vs)
waiting-pushed vs v = ap reverse (values-append vs) ∙ reverse-append (values vs) (value v ∷ [])
  where
    values-append : (vs : List Val) → values (vs ++ v ∷ []) ≡ values vs ++ value v ∷ []
    values-append [] = refl
    values-append (w ∷ ws) = ap (λ us. value w ∷ us) (values-append ws)

module _ (o : Origin) (i u : Option (List ℕ)) (t : Option (List Taped)) (m : Running) where
  abbrev With : Now → List Val → Type 0
  With x vs = Underway o x (reverse (values vs)) m.left (LeftOver m.lines i) m.handles u t

  abbrev Waits : Now → List Value → Type 0
  Waits x ws = Underway o x ws m.left (LeftOver m.lines i) m.handles u t

  pub given-ends : {n : Io} {r : Value} → IsUnderway o (Now.gave (gives n r)) m i u t → m.waiting.items ≡ [] →
      Finished o how.Ended m.left u t
  given-ends {n = n} {r = r} c e = give-ends (subst (With (Now.gave (gives n r))) e c.run)

  module _ {n : Io} {r : Value} (c : IsUnderway o (Now.gave (gives n r)) m i u t) (ks : List Val) (k : Val)
      (e : m.waiting.items ≡ ks ++ k ∷ []) where
    waits : Waits (Now.gave (gives n r)) (value k ∷ reverse (values ks))
    waits = subst (Waits (Now.gave (gives n r))) (waiting-pushed ks k) (subst (With (Now.gave (gives n r))) e c.run)

    pub given-bound : m.left ≡ 0 → Finished o how.Bound m.left u t
    given-bound z = give-bound (value k) (reverse (values ks)) waits z

    pub given-acts : (more : ℕ) → m.left ≡ suc more →
        Underway o (Now.computing (called (value k) r)) (reverse (values ks)) more (LeftOver m.lines i) m.handles u t
    given-acts more z = give-acts (value k) (reverse (values ks)) waits more z

    pub given-answers : runs.Answers o.program (called (value k) r)
    given-answers bound = give-answers (value k) (reverse (values ks)) waits bound

  pub bind-ahead : {a b : Io} (v : Val) (k : Val) → IsUnderway o (Now.gave (binds a b (value v) (value k))) m i u t →
      (ks : List Val) → ks ≡ m.waiting.items ++ k ∷ [] → (more : ℕ) → m.left ≡ suc more →
      Underway o (Now.gave (value v)) (reverse (values ks)) more (LeftOver m.lines i) m.handles u t
  bind-ahead v k c ks e more z =
      subst (λ ws. Underway o (Now.gave (value v)) ws more (LeftOver m.lines i) m.handles u t)
      (sym (waiting-pushed m.waiting.items k) ∙ ap (λ ks. reverse (values ks)) (sym e)) (bind-acts c.run more z)

-- ---- lines of the input
module _ {o : Origin} {i j u : Option (List ℕ)} {t : Option (List Taped)} (m : Running)
    (c : IsUnderway o (Now.gave gets) m i u t) (x : Lines)
    (f : Found) (finds : (rest : List ℕ) → LeftOver x j rest →
    (input : List ℕ) × LeftOver m.lines i input × Finds input rest f)
    (more : HasInput x j) where
  next-line : (line : Value) → ((input rest : List ℕ) → Finds input rest f → Reads (gives Io.io line) input rest) →
      GivesNext o line (record m { lines = x }) j u t
  next-line line reads =
      let back : (rest : List ℕ) → LeftOver x j rest →
      (input : List ℕ) × LeftOver m.lines i input × Reads (gives Io.io line) input rest =
      λ rest q. let (input, p, r) = finds rest q in (input, p, reads input rest r) in
      record {
        ahead = record {
          next = λ left e. got-acts c.run (gives Io.io line) (LeftOver x j) back more left e;
          program = c.stands;
        };
        bound = λ e.
            got-bound c.run (gives Io.io line) (LeftOver x j) back more e;
        broken = broken-here c.run;
      }

  pub found-line : (s : List ℕ) → f ≡ Line s →
      GivesNext o (Value.con 1 (Value.literal (literal.Text s) ▹ Values.none)) (record m { lines = x }) j u t
  found-line s e =
      next-line (Value.con 1 (Value.literal (literal.Text s) ▹ Values.none))
      (λ input rest r. reads-line s input rest (subst (Finds input rest) e r))

  pub found-end : f ≡ End → GivesNext o (Value.con 0 Values.none) (record m { lines = x }) j u t
  found-end e = next-line (Value.con 0 Values.none)
      (λ input rest r. reads-end input rest (subst (Finds input rest) e r))

  pub found-bad : f ≡ Bad → Trapping o Cause.bad_input_line m.left m.handles u t
  found-bad e =
      let (rest, q) = more in
      let (input, p, r) = finds rest q in
      bad-traps c.run input p (subst (Finds input rest) e r)

-- ---- effects
module _ {o : Origin} {i u : Option (List ℕ)} {t : Option (List Taped)} (m : Running) where
  pub put-ahead : {s : List ℕ} → IsUnderway o (Now.gave (puts s)) m i u t →
      (w : Option (List ℕ)) → Adds u w (s ++ 10 ∷ []) →
      (v : Value) → v ≡ pure_unit → Ahead o (Now.gave v) m i w t
  put-ahead c w p v e =
      subst (λ v. Ahead o (Now.gave v) m i w t) (sym e)
      (record { next = λ left z. put-acts c.run left z w p; program = c.stands })

  pub put-broken : {s : List ℕ} → IsUnderway o (Now.gave (puts s)) m i u t → 0 < m.left →
      (failed : SinkError) (w : Option (List ℕ)) →
      AddsFront u w (s ++ 10 ∷ []) → Broken o (sink_failure failed) m.left w t
  put-broken c l failed w p = put-breaks c.run (m.left - 1) (omega (arith, l)) w failed p

  abbrev opened_of : {s : List ℕ} → IsUnderway o (Now.gave (opens s)) m i u t → List Taped
  opened_of c = c.run.opened

  pub open-ahead : {s : List ℕ} (c : IsUnderway o (Now.gave (opens s)) m i u t) (x : Handles)
      (w : Option (List Taped)) → Opens t w s →
      Mirrors x w (c.run.opened ++ new_tape s ∷ []) → (v : Value) → v ≡ pure_handle (length c.run.opened) →
      Ahead o (Now.gave v) (record m { handles = x }) i u w
  open-ahead c x w p r v e =
      subst (λ v. Ahead o (Now.gave v) (record m { handles = x }) i u w) (sym e)
      (record { next = λ left z. open-acts c.run left z x w p r; program = c.stands })

  pub write-ahead : {n : ℕ} {s : List ℕ} (c : IsUnderway o (Now.gave (writes n s)) m i u t)
      (w : Option (List Taped)) → AddsLine t w n s →
      Mirrors m.handles w (changed n (with_line s) c.run.opened) →
      (v : Value) → v ≡ pure_handle n → Ahead o (Now.gave v) m i u w
  write-ahead c w p r v e =
      subst (λ v. Ahead o (Now.gave v) m i u w) (sym e)
      (record { next = λ left z. write-acts c.run left z w p r; program = c.stands })

  pub close-ahead : {n : ℕ} (c : IsUnderway o (Now.gave (closes n)) m i u t) (x : Handles)
      (w : Option (List Taped)) → Closes t w n →
      Mirrors x w (changed n shut c.run.opened) →
      (v : Value) → v ≡ pure_unit → Ahead o (Now.gave v) (record m { handles = x }) i u w
  close-ahead c x w p r v e =
      subst (λ v. Ahead o (Now.gave v) (record m { handles = x }) i u w) (sym e)
      (record { next = λ left z. close-acts c.run left z x w p r; program = c.stands })

  -- a call for a tape failed
  module _ (l : 0 < m.left) (failed : TapeError) (w : Option (List Taped)) where
    pub open-broken : {s : List ℕ} → IsUnderway o (Now.gave (opens s)) m i u t → w ≡ t →
        Broken o (tape_failure failed) m.left u w
    open-broken c p = open-breaks c.run (m.left - 1) (omega (arith, l)) failed w p

    pub write-broken : {n : ℕ} {s : List ℕ} → IsUnderway o (Now.gave (writes n s)) m i u t → KeepsOthers n t w →
        Broken o (tape_failure failed) m.left u w
    write-broken c k = write-breaks c.run (m.left - 1) (omega (arith, l)) failed w k

    pub close-broken : {n : ℕ} → IsUnderway o (Now.gave (closes n)) m i u t → KeepsOthers n t w →
        Broken o (tape_failure failed) m.left u w
    close-broken c k = close-breaks c.run (m.left - 1) (omega (arith, l)) failed w k

-- ---- errors behind a contraction that is not counted
pub broken-uncounted : {o : Origin} {why : Failure} {more left : ℕ} {u : Option (List ℕ)} {t : Option (List Taped)}
    (made : ℕ) →
    Broken o why more u t → left ≡ suc more → made + left ≡ o.bound → Broken o why left u t
broken-uncounted {o = o} {more = more} {left = left} made b e c =
    let n : b.made + more ≡ o.bound = b.counted in
    let w : b.made ≤ b.seen.count = b.reached in
    record {
      seen = b.seen;
      began = b.began;
      did = b.did;
      made = made;
      counted = c;
      reached = omega (arith, n, w, e, c);
    }

pub ahead-broken : {o : Origin} {i u w : Option (List ℕ)} {t s : Option (List Taped)} {x y : Now}
    (m n : Running) → IsUnderway o x m i u t →
    Ahead o y n i w s → 0 < m.left → n.left ≡ m.left → Broken o Failure.memory m.left w s
ahead-broken m n a h l e =
    broken-uncounted a.run.made (broken-here (h.next (m.left - 1) (omega (arith, l, e))))
    (omega (arith, l)) a.run.counted

-- ---- room for tapes
module _ {o : Origin} {x : Now} {ws : List Value} {left : ℕ} {R : List ℕ → Type 0} {h : Handles}
    {u : Option (List ℕ)} {t : Option (List Taped)}
    (a : Underway o x ws left R h u t) where
  pub few-handles : length h.all.items < 2 ^ 32 - 1
  few-handles =
      let n = same-length h.all.items a.opened a.mirrors.flags in
      let f : length a.opened ≤ a.made = a.few in
      let c : a.made + left ≡ o.bound = a.counted in
      let s : o.bound ≤ 4000000000 = o.small in
      omega (arith, n, f, c, s)

  pub tapes-room : HasRoom t
  tapes-room =
      let n = same-length h.all.items a.opened a.mirrors.flags in
      let f : length h.all.items < 2 ^ 32 - 1 = few-handles in
      has-room h t a.opened a.mirrors (omega (arith, n, f))

pub few-to-close : {o : Origin} {k : Cause} {left : ℕ} {h : Handles} {u : Option (List ℕ)}
    {t : Option (List Taped)} → Trapping o k left h u t →
    length h.all.items < 2 ^ 32
few-to-close {o = o} {left = left} {h = h} a =
    let n = same-length h.all.items a.opened a.mirrors.flags in
    let f : length a.opened ≤ a.count = a.few in
    let c : a.count + left ≡ o.bound = a.counted in
    let s : o.bound ≤ 4000000000 = o.small in
    omega (arith, n, f, c, s)

-- the same line by an equal value
pub line-given : {o : Origin} {v w : Value} {i u : Option (List ℕ)} {t : Option (List Taped)} (m : Running) →
    GivesNext o v m i u t → w ≡ v →
    GivesNext o w m i u t
line-given {o = o} {i = i} {u = u} {t = t} m a e = subst (λ v. GivesNext o v m i u t) (sym e) a
