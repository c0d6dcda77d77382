-- The effects of a run under way: its lines, its tapes, its continuations.
use Rattle.std.proofs.Common.{◌≡◌, ◌≢◌, ℕ, suc, ◌≤◌, List, [], ◌∷◌, ◌++◌, length, take, Option, Some, None, inl, inr, refl, sym, ◌∙◌, ap, subst, arith}
use Rattle.qtt_prims.specs.Tapes.{Taped, new_tape, with_line, shut, changed}
use Rattle.qtt_edge.specs.Sink.{Adds, AddsFront}
use Rattle.qtt_edge.specs.Tapes.{KeepsOthers, Opens, AddsLine, Closes}
use Rattle.qtt_edge.specs.declared.sink.SinkError.{SinkError}
use Rattle.qtt_edge.specs.declared.sink.SinkError.TheVariants as sink
use Rattle.qtt_edge.specs.declared.tapes.TapeError.{TapeError}
use Rattle.qtt_edge.specs.declared.tapes.TapeError.TheVariants as tape
use Rattle.qtt_term.specs.Term.{Io}
use Rattle.qtt_term.specs.FullRun.{Event, Verdict, at_open, text_of}
use Rattle.qtt_term.proofs.Output.{next-length}
use Rattle.qtt_code.specs.Value.{Value}
use Rattle.qtt_code.specs.Machine.{Halt, Advances, called}
use Rattle.qtt_run.specs.declared.handles.Handles.{Handles}
use Rattle.qtt_run.specs.declared.program.RunHow.TheVariants as how
use Rattle.qtt_run.specs.CodeRun.{Now, Config, Turn, turn, use_tape, pure_unit, pure_handle, seen}
use Rattle.qtt_run.specs.Deed.{binds, puts, opens, writes, closes, gives}
use Rattle.qtt_run.specs.Handles.{Mirrors, HasOpen}
use Rattle.qtt_run.specs.Front.{Outside, DidPartOfLine, DidPartOfTape, SameButOf, DidPart}
use Rattle.qtt_run.specs.Stop.{sink_failure, tape_failure}
use Rattle.qtt_run.specs.Underway.{Origin, Underway, outside, Finished, Broken}
use Rattle.qtt_run.proofs.TypedCode.{typed-answers, typed-turns}
use Rattle.qtt_run.proofs.Telling.{text-append, text-same, adds-then, told-more, open-changed, open-at, changed-length, tells-then}
use Rattle.qtt_run.proofs.Waiting.{At, here, acted, acted-inside, told-tapes, broken-within, bound-reached, halts-here, gave-unstuck}

-- a tape that is used is open
use-open : (c : Config) (v : Value) (e : Event) (q : Option (List Taped)) →
    use_tape c v e q ≢ Turn.halts Verdict.stuck →
    (U : List Taped) × (q ≡ Some U)
use-open c v e None h = absurd (h refl)
use-open c v e (Some U) h = (U, refl)

-- ---- the next event, where the call that does it failed
line-part : (e : SinkError) (es ds : List Event) (x : Outside) → DidPartOfLine es ds x →
    DidPart (sink_failure e) es ds x
line-part sink.Failed es ds x p = p
line-part sink.Memory es ds x p = inr (inl p)

pub tape-part : (e : TapeError) (es ds : List Event) (x : Outside) → DidPartOfTape es ds x →
    DidPart (tape_failure e) es ds x
tape-part tape.Failed es ds x p = p
tape-part tape.Memory es ds x p = inr (inr p)

module _ {o : Origin} where
  -- ---- continuations
  pub bind-acts : {m n : Io} {t k : Value} {ws : List Value} {left : ℕ} {R : List ℕ → Type 0} {h : Handles}
      {u : Option (List ℕ)} {ts : Option (List Taped)} →
      Underway o (Now.gave (binds m n t k)) ws left R h u ts →
      (more : ℕ) → left ≡ suc more → Underway o (Now.gave t) (k ∷ ws) more R h u ts
  bind-acts {t = t} {k = k} {ws = ws} a more e = acted-inside a more e (Now.gave t) (k ∷ ws) (λ i. refl)

  module _ {m : Io} {r : Value} {left : ℕ} {R : List ℕ → Type 0} {h : Handles} {u : Option (List ℕ)}
      {ts : Option (List Taped)} where
    pub give-ends : Underway o (Now.gave (gives m r)) [] left R h u ts → Finished o how.Ended left u ts
    give-ends a = halts-here a Verdict.ended how.Ended refl (seen Verdict.ended a.made (here a)) refl refl refl
        refl refl

    pub give-bound : (k : Value) (ks : List Value) → Underway o (Now.gave (gives m r)) (k ∷ ks) left R h u ts →
        left ≡ 0 →
        Finished o how.Bound left u ts
    give-bound k ks a e =
        bound-reached a (At (Now.computing (called k r)) ks a.some.0 a.events a.opened) refl e

    pub give-acts : (k : Value) (ks : List Value) → Underway o (Now.gave (gives m r)) (k ∷ ks) left R h u ts →
        (more : ℕ) → left ≡ suc more →
        Underway o (Now.computing (called k r)) ks more R h u ts
    give-acts k ks a more e = acted-inside a more e (Now.computing (called k r)) ks (λ i. refl)

    pub give-answers : (k : Value) (ks : List Value) → Underway o (Now.gave (gives m r)) (k ∷ ks) left R h u ts →
        (bound : ℕ) →
        (x : Halt) × Advances o.program bound (called k r) x
    give-answers k ks a bound =
        typed-answers
        (typed-turns (a.typed a.some.0) (At (Now.computing (called k r)) ks a.some.0 a.events a.opened)
        (gives m r) refl refl)
        (called k r) refl bound

  -- ---- lines
  module _ {s : List ℕ} {ws : List Value} {left : ℕ} {R : List ℕ → Type 0} {h : Handles} {u : Option (List ℕ)}
      {ts : Option (List Taped)}
      (a : Underway o (Now.gave (puts s)) ws left R h u ts) (more : ℕ) (e : left ≡ suc more) (w : Option (List ℕ)) where
    pub put-acts : Adds u w (s ++ 10 ∷ []) → Underway o (Now.gave pure_unit) ws more R h w ts
    put-acts p =
        let f : length a.opened ≤ a.made = a.few in
        acted a more e (Now.gave pure_unit) ws (a.events ++ Event.line s ∷ []) a.opened (λ i. refl) h w ts
        (omega (arith, f))
        (subst (Adds o.output w) (sym (text-append a.events (Event.line s ∷ [])))
        (adds-then o.output u w (text_of a.events) (s ++ 10 ∷ []) a.puts p))
        a.tells (told-more a.events a.opened a.opened (Event.line s) a.listed refl) a.mirrors

    pub put-breaks : (failed : SinkError) → AddsFront u w (s ++ 10 ∷ []) → Broken o (sink_failure failed) left w ts
    put-breaks failed (n, p) =
        broken-within a more e (Now.gave pure_unit) ws (a.events ++ Event.line s ∷ []) a.opened (λ i. refl)
        (Event.line s) refl
        (sink_failure failed) w ts
        (λ rest.
        line-part failed a.events (Event.line s ∷ rest) (outside o w ts)
        (record {
          line = s;
          rest = rest;
          next = refl;
          bytes = n;
          output = adds-then o.output u w (text_of a.events) (take n (s ++ 10 ∷ [])) a.puts p;
          tapes = told-tapes a;
        }))

  -- ---- tapes
  -- what an event of a tape leaves, where its call failed
  tape-left : {v : Value} {ws : List Value} {left : ℕ} {R : List ℕ → Type 0} {h : Handles} {u : Option (List ℕ)}
      {t : Option (List Taped)}
      (a : Underway o (Now.gave v) ws left R h u t) (failed : TapeError) (next : Event) (w : Option (List Taped)) →
      SameButOf next t w →
      (rest : List Event) → DidPart (tape_failure failed) a.events (next ∷ rest) (outside o u w)
  tape-left {u = u} a failed next w p rest =
      tape-part failed a.events (next ∷ rest) (outside o u w)
      (record {
        next = next;
        rest = rest;
        is = refl;
        output = a.puts;
        tapes = subst (λ q. SameButOf next q w) (told-tapes a) p;
      })

  module _ {s : List ℕ} {ws : List Value} {left : ℕ} {R : List ℕ → Type 0} {h : Handles} {u : Option (List ℕ)}
      {t : Option (List Taped)}
      (a : Underway o (Now.gave (opens s)) ws left R h u t) where
    pub open-acts : (more : ℕ) → left ≡ suc more → (k : Handles) (w : Option (List Taped)) → Opens t w s →
        Mirrors k w (a.opened ++ new_tape s ∷ []) →
        Underway o (Now.gave (pure_handle (length a.opened))) ws more R k u w
    open-acts more e k w p m =
        let f : length a.opened ≤ a.made = a.few in
        let n = next-length a.opened (new_tape s) in
        acted a more e (Now.gave (pure_handle (length a.opened))) ws (a.events ++ Event.opened s ∷ [])
        (a.opened ++ new_tape s ∷ [])
        (λ i. refl) k u w (omega (arith, f, n))
        (subst (Adds o.output u) (sym (text-same a.events (Event.opened s) refl)) a.puts)
        (tells-then o.tapes t w a.opened (λ all. all ++ new_tape s ∷ []) a.tells p)
        (told-more a.events a.opened (a.opened ++ new_tape s ∷ []) (Event.opened s) a.listed refl) m

    pub open-breaks : (more : ℕ) → left ≡ suc more → (failed : TapeError) (w : Option (List Taped)) → w ≡ t →
        Broken o (tape_failure failed) left u w
    open-breaks more e failed w p =
        broken-within a more e (Now.gave (pure_handle (length a.opened))) ws (a.events ++ Event.opened s ∷ [])
        (a.opened ++ new_tape s ∷ []) (λ i. refl) (Event.opened s) refl (tape_failure failed) u w
        (tape-left a failed (Event.opened s) w p)

  module _ {n : ℕ} {s : List ℕ} {ws : List Value} {left : ℕ} {R : List ℕ → Type 0} {h : Handles}
      {u : Option (List ℕ)} {t : Option (List Taped)}
      (a : Underway o (Now.gave (writes n s)) ws left R h u t) where
    write-there : (U : List Taped) × (at_open n (with_line s) a.opened ≡ Some U)
    write-there = use-open (here a) (pure_handle n) (Event.wrote n s) (at_open n (with_line s) a.opened)
        (gave-unstuck a a.some.0)

    write-is : at_open n (with_line s) a.opened ≡ Some (changed n (with_line s) a.opened)
    write-is =
        let (U, e) = write-there in e ∙ ap (λ U. Some U) (sym (open-changed n (with_line s) a.opened U e))

    pub write-open : HasOpen h t n
    write-open = (a.opened, a.mirrors, open-at n (with_line s) a.opened (changed n (with_line s) a.opened) write-is)

    write-goes : (i : List ℕ) →
        turn (At (Now.gave (writes n s)) ws i a.events a.opened) (writes n s)
        ≡ Turn.goes (At (Now.gave (pure_handle n)) ws i (a.events ++ Event.wrote n s ∷ [])
        (changed n (with_line s) a.opened))
    write-goes i = ap (use_tape (At (Now.gave (writes n s)) ws i a.events a.opened) (pure_handle n)
        (Event.wrote n s)) write-is

    pub write-bound : left ≡ 0 → Finished o how.Bound left u t
    write-bound e =
        bound-reached a (At (Now.gave (pure_handle n)) ws a.some.0 (a.events ++ Event.wrote n s ∷ [])
        (changed n (with_line s) a.opened))
        (write-goes a.some.0) e

    pub write-acts : (more : ℕ) → left ≡ suc more → (w : Option (List Taped)) → AddsLine t w n s →
        Mirrors h w (changed n (with_line s) a.opened) → Underway o (Now.gave (pure_handle n)) ws more R h u w
    write-acts more e w p m =
        let f : length a.opened ≤ a.made = a.few in
        let l = changed-length n (with_line s) a.opened in
        acted a more e (Now.gave (pure_handle n)) ws (a.events ++ Event.wrote n s ∷ [])
        (changed n (with_line s) a.opened) write-goes h u w
        (omega (arith, f, l)) (subst (Adds o.output u) (sym (text-same a.events (Event.wrote n s) refl)) a.puts)
        (tells-then o.tapes t w a.opened (changed n (with_line s)) a.tells p)
        (told-more a.events a.opened (changed n (with_line s) a.opened) (Event.wrote n s) a.listed refl) m

    pub write-breaks : (more : ℕ) → left ≡ suc more → (failed : TapeError) (w : Option (List Taped)) →
        KeepsOthers n t w →
        Broken o (tape_failure failed) left u w
    write-breaks more e failed w p =
        broken-within a more e (Now.gave (pure_handle n)) ws (a.events ++ Event.wrote n s ∷ [])
        (changed n (with_line s) a.opened) write-goes
        (Event.wrote n s) refl (tape_failure failed) u w (tape-left a failed (Event.wrote n s) w p)

  module _ {n : ℕ} {ws : List Value} {left : ℕ} {R : List ℕ → Type 0} {h : Handles} {u : Option (List ℕ)}
      {t : Option (List Taped)}
      (a : Underway o (Now.gave (closes n)) ws left R h u t) where
    close-there : (U : List Taped) × (at_open n shut a.opened ≡ Some U)
    close-there = use-open (here a) pure_unit (Event.closed_tape n) (at_open n shut a.opened) (gave-unstuck a a.some.0)

    close-is : at_open n shut a.opened ≡ Some (changed n shut a.opened)
    close-is = let (U, e) = close-there in e ∙ ap (λ U. Some U) (sym (open-changed n shut a.opened U e))

    pub close-open : HasOpen h t n
    close-open = (a.opened, a.mirrors, open-at n shut a.opened (changed n shut a.opened) close-is)

    close-goes : (i : List ℕ) →
        turn (At (Now.gave (closes n)) ws i a.events a.opened) (closes n)
        ≡ Turn.goes (At (Now.gave pure_unit) ws i (a.events ++ Event.closed_tape n ∷ []) (changed n shut a.opened))
    close-goes i = ap (use_tape (At (Now.gave (closes n)) ws i a.events a.opened) pure_unit (Event.closed_tape n))
        close-is

    pub close-bound : left ≡ 0 → Finished o how.Bound left u t
    close-bound e =
        bound-reached a (At (Now.gave pure_unit) ws a.some.0 (a.events ++ Event.closed_tape n ∷ [])
        (changed n shut a.opened))
        (close-goes a.some.0) e

    pub close-acts : (more : ℕ) → left ≡ suc more → (k : Handles) (w : Option (List Taped)) → Closes t w n →
        Mirrors k w (changed n shut a.opened) → Underway o (Now.gave pure_unit) ws more R k u w
    close-acts more e k w p m =
        let f : length a.opened ≤ a.made = a.few in
        let l = changed-length n shut a.opened in
        acted a more e (Now.gave pure_unit) ws (a.events ++ Event.closed_tape n ∷ [])
        (changed n shut a.opened) close-goes k u w
        (omega (arith, f, l)) (subst (Adds o.output u) (sym (text-same a.events (Event.closed_tape n) refl)) a.puts)
        (tells-then o.tapes t w a.opened (changed n shut) a.tells p)
        (told-more a.events a.opened (changed n shut a.opened) (Event.closed_tape n) a.listed refl) m

    pub close-breaks : (more : ℕ) → left ≡ suc more → (failed : TapeError) (w : Option (List Taped)) →
        KeepsOthers n t w →
        Broken o (tape_failure failed) left u w
    close-breaks more e failed w p =
        broken-within a more e (Now.gave pure_unit) ws (a.events ++ Event.closed_tape n ∷ []) (changed n shut a.opened)
        close-goes
        (Event.closed_tape n) refl (tape_failure failed) u w (tape-left a failed (Event.closed_tape n) w p)
