-- A run of code performs an action as the full run does.
use Rattle.std.proofs.Common.{◌≡◌, ℕ, Bool, true, false, cond, List, [], ◌∷◌, length, Option, Some, None, refl, sym, ◌∙◌, ap, subst}
use mathlib.Core.Path.{subst₂}
use Rattle.qtt_base.specs.declared.place.GlobalId.{GlobalId}
use Rattle.qtt_usage.specs.Mult.{𝟙, ω}
use Rattle.qtt_usage.specs.Uses.{Use}
use Rattle.qtt_prims.specs.Tapes.{Taped, with_line, shut}
use Rattle.qtt_prims.specs.Lines.{is_line, line_of, after_line}
use Rattle.qtt_prims.specs.declared.lit.Lit.TheVariants as literal
use Rattle.qtt_term.specs.Term.{Io, Action, Term, Terms, ε, ◌▸◌, Act, TextLit, Tape}
use Rattle.qtt_term.specs.Substitution.{closed}
use Rattle.qtt_term.specs.Signature.{Env, line_id, line_family, family_of, family_at, UnitTy, MkUnit, LineTy, HandleTy, IoTy, StringTy, Eof, Got, mult_of, act_signature}
use Rattle.qtt_term.specs.FullStep.{Cause, Outcome, full_step}
use Rattle.qtt_term.specs.FullRun as full
use Rattle.qtt_term.specs.FullRun.{Event, Verdict, at_open, perform}
use Rattle.qtt_term.specs.Value as core
use Rattle.qtt_term.specs.Value.{mults, field_mults}
use Rattle.qtt_term.specs.Judgement.{Part, Usable, Judged, Args, Rule}
use Rattle.qtt_term.specs.Environment.{WellFormed, Complete}
use Rattle.qtt_term.proofs.Evaluation.{value-kept}
use Rattle.qtt_preserve.specs.Within.{Has, HasAll}
use Rattle.qtt_preserve.proofs.Sound.{sound_of}
use Rattle.qtt_preserve.proofs.Progress.{text_value, tape_value}
use Rattle.qtt_erase.specs.Erasure.{arguments, erase, erases}
use Rattle.qtt_erase.specs.Binding.{∅, ◌◂◌}
use Rattle.qtt_erase.specs.Operator as operator
use Rattle.qtt_closure.specs.StandsFor.{StandsFor, AllStandFor}
use Rattle.qtt_code.specs.Value.{Value, Values, ◌▹◌}
use Rattle.qtt_code.specs.Machine.{called}
use Rattle.qtt_lower.specs.Programs.{bodies, flat_program}
use Rattle.qtt_run.specs.Code.{Lists, IsValueOf}
use Rattle.qtt_run.specs.CodeRun as run
use Rattle.qtt_run.specs.CodeRun.{Now, Config, Turn, pure_unit, pure_handle, pure_eof, pure_got, turn}
use Rattle.qtt_run.specs.Beside.{AllValuesOf, IsNow}
use Rattle.qtt_run.proofs.Evaluating.{call-represents}
use Rattle.qtt_run.proofs.Values.{literal-value, tape-value, action-value, no-values, one-value, two-values, action_value}

-- the configuration of code beside that of a full run
abbrev pub beside : Now → List Value → full.Config → Config
beside x vs c = record { now = x; waiting = vs; input = c.input; events = c.events; tapes = c.tapes }

mult_of-used : (m : Io) → Usable Part.run (mult_of m)
mult_of-used Io.io = tt
mult_of-used Io.io1 = tt

module _ (E : Env) (w : WellFormed E) (whole : Complete E) (ds : List GlobalId) (listed : Lists E ds) where
  -- the same turn
  abbrev pub Alike : full.Turn → Turn → Type 0
  Alike (full.Turn.goes d) o =
      (x : Now) × (vs : List Value) × (o ≡ Turn.goes (beside x vs d)) × IsNow E ds d.term x ×
      AllValuesOf E ds d.waiting vs
  Alike (full.Turn.halts v) o = o ≡ Turn.halts v

  -- ---- what actions give
  pure-kept : (m : Io) (A t : Term) → core.Value E t → full_step E (Act (Action.pure m) 1 (A ▸ t ▸ ε)) ≡ Outcome.value
  pure-kept m A t h = value-kept {E = E} {t = Act (Action.pure m) 1 (A ▸ t ▸ ε)}
      (core.Value.act {a = Action.pure m} {k = 1} (parts m))
    where
      parts : (m : Io) → core.Values E (mults (act_signature (Action.pure m)).arguments) (A ▸ t ▸ ε)
      parts Io.io = core.Values.kept_one (core.Values.many h core.Values.none)
      parts Io.io1 = core.Values.kept_one (core.Values.one h core.Values.none)

  unit-now : IsNow E ds full.pure_unit (Now.gave pure_unit)
  unit-now = (
    pure-kept Io.io UnitTy MkUnit (core.Value.con core.Values.no_more),
    StandsFor.operator tt (AllStandFor.more (StandsFor.operator tt AllStandFor.none) AllStandFor.none),
  )

  handle-now : (h : ℕ) → IsNow E ds (full.pure_handle h) (Now.gave (pure_handle h))
  handle-now h = (
    pure-kept Io.io1 HandleTy (Tape h) core.Value.tape,
    StandsFor.operator tt (AllStandFor.more (StandsFor.operator tt AllStandFor.none) AllStandFor.none),
  )

  eof-now : IsNow E ds (full.pure_line Eof) (Now.gave pure_eof)
  eof-now = (
    pure-kept Io.io LineTy Eof (core.Value.con core.Values.no_more),
    StandsFor.operator tt (AllStandFor.more (StandsFor.operator tt AllStandFor.none) AllStandFor.none),
  )

  line_is : line_family ≡ family_at E line_id
  line_is = sym (ap family_of w.prims.lines)

  got-kept : (s : List ℕ) → core.Value E (Got (TextLit s))
  got-kept s =
      core.Value.con {f = line_id} {c = 1} {k = 0}
      (subst (λ F. core.Values E (field_mults F.constructors 1) (TextLit s ▸ ε)) line_is
      (core.Values.many core.Value.lit core.Values.none))

  got-value : (s : List ℕ) → AllStandFor (flat_program (bodies E ds)) (erases E [] (arguments
      (field_mults (family_at E line_id).constructors 1)) (TextLit s ▸ ε)) (operator.Literal (literal.Text s) ◂ ∅)
  got-value s =
      subst (λ F. AllStandFor (flat_program (bodies E ds))
      (erases E [] (arguments (field_mults F.constructors 1)) (TextLit s ▸ ε))
      (operator.Literal (literal.Text s) ◂ ∅)) line_is
      (AllStandFor.more (StandsFor.operator tt AllStandFor.none) AllStandFor.none)

  got-now : (s : List ℕ) → IsNow E ds (full.pure_line (Got (TextLit s))) (Now.gave (pure_got s))
  got-now s = (
    pure-kept Io.io LineTy (Got (TextLit s)) (got-kept s),
    StandsFor.operator tt (AllStandFor.more (StandsFor.operator tt (got-value s)) AllStandFor.none),
  )

  -- ---- the table of actions
  module _ (c : full.Config) (vs : List Value) (waits : AllValuesOf E ds c.waiting vs) (x : Now) (j : ℕ) where
    -- an action that is a value and its value, both performed
    abbrev Performed : Action → Terms → Value → Type 0
    Performed a ts v = Alike (perform c (Act a j ts)) (turn (beside x vs c) v)

    text-given : {t : Term} {u : Use} (v : Value) → Has E Part.run [] t StringTy u → core.Value E t →
        IsValueOf E ds t v →
        (s : List ℕ) × (t ≡ TextLit s) × (v ≡ Value.literal (literal.Text s))
    text-given v h k i =
        let (s, e) = text_value (sound_of w).bodies h (value-kept k) in
        (s, e, literal-value (literal.Text s) v (subst (λ t. IsValueOf E ds t v) e i))

    tape-given : {t : Term} {u : Use} (v : Value) → Has E Part.run [] t HandleTy u → core.Value E t →
        IsValueOf E ds t v →
        (h : ℕ) × (t ≡ Tape h) × (v ≡ Value.tape h)
    tape-given v g k i =
        let (h, e) = tape_value (sound_of w).bodies g (value-kept k) in
        (h, e, tape-value h v (subst (λ t. IsValueOf E ds t v) e i))

    bind-alike : (m n : Io) {ts : Terms} {js : List Judged} (v : Value) →
        Args (act_signature (Action.bind m n)).arguments closed ts js →
        core.Values E (mults (act_signature (Action.bind m n)).arguments) ts →
        IsValueOf E ds (Act (Action.bind m n) j ts) v →
        Performed (Action.bind m n) ts v
    bind-alike m n v (Args.more {a = A} (Args.more {a = B} (Args.more {a = t} (Args.more {a = k} Args.none))))
        (core.Values.kept_one (core.Values.kept_one (core.Values.one kt (core.Values.one kk r)))) i =
        let (us, e, h) = action-value (Action.bind m n) (erase E [] t ◂ erase E [] k ◂ ∅) v i in
        let (y, z, d, hy, hz) = two-values (erase E [] t) (erase E [] k) us h in
        subst (Performed (Action.bind m n) (A ▸ B ▸ t ▸ k ▸ ε)) (sym (e ∙ ap (Value.action (Action.bind m n)) d))
        (Now.gave y, z ∷ vs, refl, (value-kept kt, hy), AllValuesOf.more hz waits)

    resumed : (m : Io) (t : Term) (v : Value) → IsValueOf E ds t v → {ks : List Term} {us : List Value} →
        AllValuesOf E ds ks us →
        Alike (full.resume m t c ks) (run.resume v (beside x vs c) us)
    resumed m t v i AllValuesOf.none = refl
    resumed m t v i (AllValuesOf.more {t = k} {v = z} {vs = us} h hs) = (
      Now.computing (called z v),
      us,
      refl,
      call-represents E w whole ds listed (mult_of m) k t z v
          (mult_of-used m) h i,
      hs,
    )

    pure-given : (m : Io) (A t : Term) (v : Value) → IsValueOf E ds (Act (Action.pure m) j (A ▸ t ▸ ε)) v →
        (z : Value) × (v ≡ Value.action (Action.pure m) (z ▹ Values.none)) × IsValueOf E ds t z
    pure-given Io.io A t v i =
        let (us, e, h) = action-value (Action.pure Io.io) (erase E [] t ◂ ∅) v i in
        let (z, d, hz) = one-value (erase E [] t) us h in
        (z, e ∙ ap (Value.action (Action.pure Io.io)) d, hz)
    pure-given Io.io1 A t v i =
        let (us, e, h) = action-value (Action.pure Io.io1) (erase E [] t ◂ ∅) v i in
        let (z, d, hz) = one-value (erase E [] t) us h in
        (z, e ∙ ap (Value.action (Action.pure Io.io1)) d, hz)

    pure-alike : (m : Io) {ts : Terms} {js : List Judged} (v : Value) →
        Args (act_signature (Action.pure m)).arguments closed ts js →
        IsValueOf E ds (Act (Action.pure m) j ts) v → Performed (Action.pure m) ts v
    pure-alike m v (Args.more {a = A} (Args.more {a = t} Args.none)) i =
        let (z, e, hz) = pure-given m A t v i in
        subst (Performed (Action.pure m) (A ▸ t ▸ ε)) (sym e) (resumed m t z hz waits)

    put-alike : {ts : Terms} {js : List Judged} (v : Value) →
        Args (act_signature Action.put_line).arguments closed ts js →
        HasAll E Part.run [] [] ts js →
        core.Values E (ω ∷ []) ts → IsValueOf E ds (Act Action.put_line j ts) v → Performed Action.put_line ts v
    put-alike v (Args.more {a = t} Args.none) (HasAll.more p g f HasAll.none) (core.Values.many kt r) i =
        let (us, e, h) = action-value Action.put_line (erase E [] t ◂ ∅) v i in
        let (z, d, hz) = one-value (erase E [] t) us h in
        let (s, et, ez) = text-given z g kt hz in
        subst₂ (λ t v. Performed Action.put_line (t ▸ ε) v) (sym et) (sym (e ∙ ap (Value.action Action.put_line) d ∙ ap
        (λ z. Value.action Action.put_line (z ▹ Values.none)) ez))
        (Now.gave pure_unit, vs, refl, unit-now, waits)

    line-alike : (b : Bool) (s r : List ℕ) →
        Alike (cond b (full.Turn.goes (record c { term = full.pure_line (Got (TextLit s)); input = r }))
        (full.Turn.halts (Verdict.trapped Cause.bad_input_line)))
        (cond b (Turn.goes (record (beside x vs c) { now = Now.gave (pure_got s); input = r }))
        (Turn.halts (Verdict.trapped Cause.bad_input_line)))
    line-alike true s r = (Now.gave (pure_got s), vs, refl, got-now s, waits)
    line-alike false s r = refl

    read-alike : (bs : List ℕ) → Alike (full.read c bs) (run.read (beside x vs c) bs)
    read-alike [] = (Now.gave pure_eof, vs, refl, eof-now, waits)
    read-alike (b ∷ bs) = line-alike (is_line (line_of (b ∷ bs))) (line_of (b ∷ bs)) (after_line (b ∷ bs))

    get-alike : {ts : Terms} {js : List Judged} (v : Value) →
        Args (act_signature Action.get_line).arguments closed ts js →
        IsValueOf E ds (Act Action.get_line j ts) v → Performed Action.get_line ts v
    get-alike v Args.none i =
        let (us, e, h) = action-value Action.get_line ∅ v i in
        subst (Performed Action.get_line ε) (sym (e ∙ ap (Value.action Action.get_line) (no-values us h)))
        (read-alike c.input)

    open-alike : {ts : Terms} {js : List Judged} (v : Value) →
        Args (act_signature Action.opens).arguments closed ts js →
        HasAll E Part.run [] [] ts js →
        core.Values E (ω ∷ []) ts → IsValueOf E ds (Act Action.opens j ts) v → Performed Action.opens ts v
    open-alike v (Args.more {a = t} Args.none) (HasAll.more p g f HasAll.none) (core.Values.many kt r) i =
        let (us, e, h) = action-value Action.opens (erase E [] t ◂ ∅) v i in
        let (z, d, hz) = one-value (erase E [] t) us h in
        let (s, et, ez) = text-given z g kt hz in
        subst₂ (λ t v. Performed Action.opens (t ▸ ε) v) (sym et) (sym (e ∙ ap (Value.action Action.opens) d ∙ ap
        (λ z. Value.action Action.opens (z ▹ Values.none)) ez))
        (Now.gave (pure_handle (length c.tapes)), vs, refl, handle-now (length c.tapes), waits)

    used-alike : (t : Term) (v : Value) (e : Event) (o : Option (List Taped)) → IsNow E ds t (Now.gave v) →
        Alike (full.use_tape c t e o) (run.use_tape (beside x vs c) v e o)
    used-alike t v e (Some tapes) h = (Now.gave v, vs, refl, h, waits)
    used-alike t v e None h = refl

    write-alike : {ts : Terms} {js : List Judged} (v : Value) →
        Args (act_signature Action.writes).arguments closed ts js →
        HasAll E Part.run [] [] ts js →
        core.Values E (𝟙 ∷ ω ∷ []) ts → IsValueOf E ds (Act Action.writes j ts) v → Performed Action.writes ts v
    write-alike v (Args.more {a = t} (Args.more {a = s} Args.none)) (HasAll.more p g f (HasAll.more q k l HasAll.none))
        (core.Values.one kt (core.Values.many ks r)) i =
        let (us, e, h) = action-value Action.writes (erase E [] t ◂ erase E [] s ◂ ∅) v i in
        let (y, z, d, hy, hz) = two-values (erase E [] t) (erase E [] s) us h in
        let (n, et, ey) = tape-given y g kt hy in
        let (m, es, ez) = text-given z k ks hz in
        let made : Value → Value → Value = λ y z. Value.action Action.writes (y ▹ z ▹ Values.none) in
        let is : v ≡ made (Value.tape n) (Value.literal (literal.Text m)) =
        e ∙ ap (Value.action Action.writes) d ∙ ap (λ y. made y z) ey ∙ ap (made (Value.tape n)) ez in
        subst (Performed Action.writes (t ▸ s ▸ ε)) (sym is)
        (subst₂ (λ t s. Performed Action.writes (t ▸ s ▸ ε)
        (made (Value.tape n) (Value.literal (literal.Text m)))) (sym et) (sym es)
        (used-alike (full.pure_handle n) (pure_handle n) (Event.wrote n m) (at_open n (with_line m) c.tapes)
        (handle-now n)))

    close-alike : {ts : Terms} {js : List Judged} (v : Value) →
        Args (act_signature Action.closes).arguments closed ts js →
        HasAll E Part.run [] [] ts js →
        core.Values E (𝟙 ∷ []) ts → IsValueOf E ds (Act Action.closes j ts) v → Performed Action.closes ts v
    close-alike v (Args.more {a = t} Args.none) (HasAll.more p g f HasAll.none) (core.Values.one kt r) i =
        let (us, e, h) = action-value Action.closes (erase E [] t ◂ ∅) v i in
        let (y, d, hy) = one-value (erase E [] t) us h in
        let (n, et, ey) = tape-given y g kt hy in
        subst₂ (λ t v. Performed Action.closes (t ▸ ε) v) (sym et) (sym (e ∙ ap (Value.action Action.closes) d ∙ ap
        (λ z. Value.action Action.closes (z ▹ Values.none)) ey))
        (used-alike full.pure_unit pure_unit (Event.closed_tape n) (at_open n shut c.tapes) unit-now)

    act-alike : (a : Action) {ts : Terms} {C : Term} {u : Use} (v : Value) → Has E Part.run [] (Act a j ts) C u →
        core.Values E (mults (act_signature a).arguments) ts →
        IsValueOf E ds (Act a j ts) v → Performed a ts v
    act-alike (Action.bind m n) v (Has.at_node (Rule.named there used args) hs cv f) k i = bind-alike m n v args k i
    act-alike (Action.pure m) v (Has.at_node (Rule.named there used args) hs cv f) k i = pure-alike m v args i
    act-alike Action.put_line v (Has.at_node (Rule.named there used args) hs cv f) k i = put-alike v args hs k i
    act-alike Action.get_line v (Has.at_node (Rule.named there used args) hs cv f) k i = get-alike v args i
    act-alike Action.opens v (Has.at_node (Rule.named there used args) hs cv f) k i = open-alike v args hs k i
    act-alike Action.writes v (Has.at_node (Rule.named there used args) hs cv f) k i = write-alike v args hs k i
    act-alike Action.closes v (Has.at_node (Rule.named there used args) hs cv f) k i = close-alike v args hs k i

  module _ (c : full.Config) (vs : List Value) (waits : AllValuesOf E ds c.waiting vs) (x : Now) where
    pub perform-alike : {A : Term} {m : Io} {u : Use} (v : Value) → Has E Part.run [] c.term (IoTy m A) u →
        full_step E c.term ≡ Outcome.value →
        IsValueOf E ds c.term v → Alike (perform c c.term) (turn (beside x vs c) v)
    perform-alike {A} {m} {u} v h k i =
        let (a, j, ts, e, vals) = action_value (sound_of w).bodies h k in
        subst (λ t. Alike (perform c t) (turn (beside x vs c) v)) (sym e)
        (act-alike c vs waits x j a v (subst (λ t. Has E Part.run [] t (IoTy m A) u) e h) vals
        (subst (λ t. IsValueOf E ds t v) e i))
