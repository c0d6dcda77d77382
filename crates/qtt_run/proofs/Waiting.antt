-- What a step does to a run under way.
use Rattle.std.proofs.Common.{◌≡◌, ◌≢◌, ℕ, suc, ◌+◌, ◌≤◌, List, [], ◌∷◌, ◌++◌, length, Option, option_map, inl, refl, sym, ◌∙◌, ap, subst, append_assoc, arith}
use Rattle.qtt_prims.specs.Tapes.{Taped}
use Rattle.qtt_edge.specs.Sink.{Adds}
use Rattle.qtt_edge.specs.declared.line_cutter.LineError.{LineError}
use Rattle.qtt_edge.specs.declared.line_cutter.LineError.TheVariants as line
use Rattle.qtt_term.specs.FullStep.{Cause}
use Rattle.qtt_term.specs.FullRun.{Event, Verdict, text_of, tape_list}
use Rattle.qtt_code.specs.Value.{Value}
use Rattle.qtt_code.specs.Machine.{State, Halt, Advances}
use Rattle.qtt_run.specs.declared.handles.Handles.{Handles}
use Rattle.qtt_run.specs.declared.program.RunHow.{RunHow}
use Rattle.qtt_run.specs.declared.program.RunHow.TheVariants as how
use Rattle.qtt_run.specs.CodeRun.{Now, Config, Turn, turn, Seen, seen, Runs}
use Rattle.qtt_run.specs.Deed.{puts}
use Rattle.qtt_run.specs.Handles.{Mirrors}
use Rattle.qtt_run.specs.Front.{Failure, tapes_behind, DidNoMore, DidPart}
use Rattle.qtt_run.specs.Program.{Outcome, outcome}
use Rattle.qtt_run.specs.Stop.{line_failure}
use Rattle.qtt_run.specs.Underway.{Origin, Underway, outside, Finished, Broken, Trapping}
use Rattle.qtt_run.proofs.Events.{runs-add-events}
use Rattle.qtt_run.proofs.TypedCode.{typed-answers, typed-gives, typed-turns, typed-unstuck, typed-runs, counts-on}

abbrev pub At : Now → List Value → List ℕ → List Event → List Taped → Config
At x ws i es ts = record { now = x; waiting = ws; input = i; events = es; tapes = ts }

module _ {o : Origin} where
  -- ---- where the run is cut off
  module _ {x : Now} {ws : List Value} {left : ℕ} {R : List ℕ → Type 0} {h : Handles} {u : Option (List ℕ)}
      {t : Option (List Taped)}
      (a : Underway o x ws left R h u t) where
    abbrev pub here : Config
    here = At x ws a.some.0 a.events a.opened

    whole : (r : Seen) × Runs o.program left a.made here r
    whole = typed-runs (a.typed a.some.0) left a.made

    -- it began, and what was done is a front of it
    broken-so : (why : Failure) → ((later : List Event) → DidPart why a.events later (outside o u t)) →
        Broken o why left u t
    broken-so why part =
        let (r, run) = whole in
        let (later, front) = runs-add-events o.program left a.made here r run in
        record {
          seen = r;
          began = a.way a.some.0 a.some.1 r run;
          did = record { events = a.events; later = later; front = front; part = part later };
          made = a.made;
          counted = a.counted;
          reached = counts-on run;
        }

    pub told-tapes : t ≡ tapes_behind a.events (outside o u t)
    told-tapes = a.tells ∙ ap (λ ts. option_map (λ _. ts) o.tapes) (sym a.listed)

    no-more : DidNoMore a.events (outside o u t)
    no-more = record { output = a.puts; tapes = told-tapes }

    pub broken-here : Broken o Failure.memory left u t
    broken-here = broken-so Failure.memory (λ later. inl no-more)

    -- no line could be read
    pub broken-reading : (e : LineError) → Broken o (line_failure e) left u t
    broken-reading line.Fault = broken-so Failure.source (λ later. no-more)
    broken-reading line.Memory = broken-here

  -- ---- the machine computes
  module _ {s : State} {ws : List Value} {left : ℕ} {R : List ℕ → Type 0} {h : Handles} {u : Option (List ℕ)}
      {t : Option (List Taped)}
      (a : Underway o (Now.computing s) ws left R h u t) where
    pub computing-answers : (bound : ℕ) → (k : Halt) × Advances o.program bound s k
    computing-answers bound = typed-answers (a.typed a.some.0) s refl bound

    pub computed : (v : Value) (b : Advances o.program left s (Halt.done v)) (rest : ℕ) → b.made + rest ≡ left →
        Underway o (Now.gave v) ws rest R h u t
    computed v b rest e =
        let c : a.made + left ≡ o.bound = a.counted in
        let f : length a.opened ≤ a.made = a.few in
        record {
          events = a.events;
          opened = a.opened;
          made = a.made + b.made;
          typed = λ i. typed-gives (a.typed i) s v left refl b;
          way = λ i p r run. a.way i p r (Runs.gives refl b e run);
          some = a.some;
          counted = omega (arith, c, e);
          few = omega (arith, f);
          puts = a.puts;
          tells = a.tells;
          listed = a.listed;
          mirrors = a.mirrors;
        }

    pub machine-spent : (b : Advances o.program left s Halt.spent) (rest : ℕ) → b.made + rest ≡ left →
        Finished o how.Bound rest u t
    machine-spent b rest e =
        let c : a.made + left ≡ o.bound = a.counted in
        record {
          seen = seen Verdict.running (a.made + b.made) (here a);
          began = a.way a.some.0 a.some.1 (seen Verdict.running (a.made + b.made) (here a)) (Runs.spends refl b);
          verdict = refl;
          counted = omega (arith, c, e);
          puts = a.puts;
          tells = a.tells;
        }

    pub machine-traps : (k : Cause) (b : Advances o.program left s (Halt.trapped k)) (rest : ℕ) → b.made + rest ≡ left →
        Trapping o k rest h u t
    machine-traps k b rest e =
        let c : a.made + left ≡ o.bound = a.counted in
        let f : length a.opened ≤ a.made = a.few in
        record {
          events = a.events;
          opened = a.opened;
          input = a.some.0;
          count = a.made + b.made;
          began = a.way a.some.0 a.some.1 (seen (Verdict.trapped k) (a.made + b.made) (here a)) (Runs.traps refl b);
          counted = omega (arith, c, e);
          few = omega (arith, f);
          puts = a.puts;
          tells = a.tells;
          listed = a.listed;
          mirrors = a.mirrors;
        }

  -- ---- an action was given
  module _ {v : Value} {ws : List Value} {left : ℕ} {R : List ℕ → Type 0} {h : Handles} {u : Option (List ℕ)}
      {t : Option (List Taped)}
      (a : Underway o (Now.gave v) ws left R h u t) where
    pub gave-unstuck : (i : List ℕ) → turn (At (Now.gave v) ws i a.events a.opened) v ≢ Turn.halts Verdict.stuck
    gave-unstuck i = typed-unstuck (a.typed i) v refl

    -- it would go on, and the bound is reached
    pub bound-reached : (d : Config) → turn (here a) v ≡ Turn.goes d → left ≡ 0 → Finished o how.Bound left u t
    bound-reached d go e =
        record {
          seen = seen Verdict.running a.made (here a);
          began =
              a.way a.some.0 a.some.1 (seen Verdict.running a.made (here a))
              (subst (λ l. Runs o.program l a.made (here a) (seen Verdict.running a.made (here a))) (sym e)
              (Runs.stays refl go));
          verdict = refl;
          counted = a.counted;
          puts = a.puts;
          tells = a.tells;
        }

    -- it is performed, whatever the input
    module _ (more : ℕ) (e : left ≡ suc more) (x : Now) (us : List Value) (es : List Event) (ts : List Taped)
        (go : (i : List ℕ) → turn (At (Now.gave v) ws i a.events a.opened) v ≡ Turn.goes (At x us i es ts)) where
      one-act : (i : List ℕ) (r : Seen) → Runs o.program more (suc a.made) (At x us i es ts) r →
          Runs o.program left a.made (At (Now.gave v) ws i a.events a.opened) r
      one-act i r run =
          subst (λ l. Runs o.program l a.made (At (Now.gave v) ws i a.events a.opened) r) (sym e)
          (Runs.acts refl (go i) run)

      pub acted : (k : Handles) (w : Option (List ℕ)) (s : Option (List Taped)) → length ts ≤ suc a.made →
          Adds o.output w (text_of es) →
          s ≡ option_map (λ _. ts) o.tapes → tape_list [] es ≡ ts → Mirrors k s ts → Underway o x us more R k w s
      acted k w s few puts tells listed mirrors =
          let c : a.made + left ≡ o.bound = a.counted in
          record {
            events = es;
            opened = ts;
            made = suc a.made;
            typed = λ i. typed-turns (a.typed i) (At x us i es ts) v refl (go i);
            way = λ i p r run. a.way i p r (one-act i r run);
            some = a.some;
            counted = omega (arith, c, e);
            few = few;
            puts = puts;
            tells = tells;
            listed = listed;
            mirrors = mirrors;
          }

      -- its event was done in part
      pub broken-within : (ev : Event) → es ≡ a.events ++ ev ∷ [] →
          (why : Failure) (w : Option (List ℕ)) (s : Option (List Taped)) →
          ((rest : List Event) → DidPart why a.events (ev ∷ rest) (outside o w s)) → Broken o why left w s
      broken-within ev q why w s part =
          let i : List ℕ = a.some.0 in
          let (r, run) = typed-runs (typed-turns (a.typed i) (At x us i es ts) v refl (go i)) more (suc a.made) in
          let (rest, front) = runs-add-events o.program more (suc a.made) (At x us i es ts) r run in
          let n : suc a.made ≤ r.count = counts-on run in
          record {
            seen = r;
            began = a.way i a.some.1 r (one-act i r run);
            did = record {
              events = a.events;
              later = ev ∷ rest;
              front = front ∙ ap (λ es. es ++ rest) q ∙ append_assoc a.events (ev ∷ []) rest;
              part = part rest;
            };
            made = a.made;
            counted = a.counted;
            reached = omega (arith, n);
          }

    abbrev opened-few : length a.opened ≤ suc a.made
    opened-few = let f : length a.opened ≤ a.made = a.few in omega (arith, f)

    -- nothing is done to the outside
    pub acted-inside : (more : ℕ) → left ≡ suc more → (x : Now) (us : List Value) →
        ((i : List ℕ) → turn (At (Now.gave v) ws i a.events a.opened) v ≡ Turn.goes (At x us i a.events a.opened)) →
        Underway o x us more R h u t
    acted-inside more e x us go =
        acted more e x us a.events a.opened go h u t opened-few a.puts a.tells a.listed a.mirrors

    pub halts-here : (w : Verdict) (m : RunHow) → turn (here a) v ≡ Turn.halts w →
        (r : Seen) → r ≡ seen w a.made (here a) →
        r.events ≡ a.events → r.tapes ≡ a.opened → r.count ≡ a.made → outcome m ≡ Outcome.came r.verdict → Finished o m
        left u t
    halts-here w m e r q es ts n p =
        let c : a.made + left ≡ o.bound = a.counted in
        record {
          seen = r;
          began =
              a.way a.some.0 a.some.1 r
              (subst (λ r. Runs o.program left a.made (here a) r) (sym q) (Runs.halts refl e));
          verdict = p;
          counted = omega (arith, c, n);
          puts = subst (λ es. Adds o.output u (text_of es)) (sym es) a.puts;
          tells = a.tells ∙ ap (λ ts. option_map (λ _. ts) o.tapes) (sym ts);
        }
