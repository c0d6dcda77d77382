-- The answer of a run tells what the full run does.
use Rattle.std.proofs.Common.{◌≡◌, ℕ, ◌+◌, ◌≤◌, List, Option, Some, option_map, Result, Ok, Err, refl, sym, ◌∙◌, ap, subst, arith}
use Rattle.std.specs.Prelude.{IfSome}
use Rattle.std.specs.Result.{IsErr}
use Rattle.std.proofs.lemmas.Bool.{false≢true}
use Rattle.qtt_base.specs.declared.place.GlobalId.{GlobalId}
use Rattle.qtt_base.specs.declared.errors.MemoryError.{MemoryError}
use Rattle.qtt_prims.specs.Tapes.{Taped}
use Rattle.qtt_edge.specs.Counts.{Counts}
use Rattle.qtt_edge.specs.Sink.{Adds}
use Rattle.qtt_term.specs.Signature.{Env}
use Rattle.qtt_term.specs.FullRun.{Verdict, Run, full, text_of}
use Rattle.qtt_term.specs.TapeDiscipline.{ClosedOnce}
use Rattle.qtt_term.specs.Keyed.{with_id}
use Rattle.qtt_term.proofs.Options.{some-injective}
use Rattle.qtt_lower.specs.declared.program.Compiled.{Compiled}
use Rattle.qtt_lower.specs.Programs.{base_id}
use Rattle.qtt_lower.specs.Whole.{compiled_program, compiled_bases}
use Rattle.qtt_run.specs.declared.program.RunHow.{RunHow}
use Rattle.qtt_run.specs.declared.program.RunHow.TheVariants as how
use Rattle.qtt_run.specs.declared.program.RunEnd.{RunEnd}
use Rattle.qtt_run.specs.declared.stop.Stop.{Stop}
use Rattle.qtt_run.specs.declared.stop.Stop.TheVariants as stop
use Rattle.qtt_run.specs.Code.{code, first_block}
use Rattle.qtt_run.specs.CodeRun.{Seen, seen_of, Runs, start}
use Rattle.qtt_run.specs.Laws.{ClosesTapes}
use Rattle.qtt_run.specs.Front.{Failure, Outside, DidFront}
use Rattle.qtt_run.specs.Program.{block_of, IsCodeOfMain, Outcome, outcome, IsOver, Did, Answers, RunsAsFull, Ends}
use Rattle.qtt_run.specs.Stop.{failure}
use Rattle.qtt_run.specs.Underway.{Origin, Began, outside, Finished, Broken, Came, IsAnswered}
use Rattle.qtt_run.proofs.EndToEnd.{code-runs-as-full-runs, code-closes-tapes}

module _ (c : Compiled) (main : GlobalId) (E : Env) (k : IsCodeOfMain c main E) (o : Origin)
    (same : o.program ≡ compiled_program c)
    (begins : option_map block_of (with_id base_id main (compiled_bases c)) ≡ Some o.block) where
  run-of : (r : Seen) (b : Began o r) → Runs (code E k.ids) o.bound 0 (start (first_block E k.ids main) b.input) r
  run-of r b =
      subst (λ P. Runs P o.bound 0 (start (first_block E k.ids main) b.input) r) (same ∙ k.program)
      (subst (λ n. Runs o.program o.bound 0 (start n b.input) r) (some-injective (sym begins ∙ k.begins)) b.run)

  full-seen : (r : Seen) (b : Began o r) → r ≡ seen_of (full o.bound E main b.input)
  full-seen r b = (code-runs-as-full-runs E k.well_formed k.complete k.ids k.listed main k.is_main o.bound b.input
      r).0 (run-of r b)

  closes-once : (r : Seen) (b : Began o r) → ClosesTapes r
  closes-once r b = code-closes-tapes E k.well_formed k.complete k.ids k.listed main k.is_main o.bound b.input r
      (run-of r b)

  over-closed : (r : Seen) (v : Verdict) → ClosesTapes r → r.verdict ≡ v → IsOver v → ClosedOnce r.events
  over-closed r Verdict.ended t e h = t.ended e
  over-closed r (Verdict.trapped j) t e h = t.trapped j e
  over-closed r Verdict.stuck t e h = absurd h
  over-closed r Verdict.running t e h = absurd h

  module _ (u : Option (List ℕ)) (t : Option (List Taped)) (used : ℕ) where
    abbrev behind : Outside
    behind = outside o u t

    module _ (left : ℕ) (counted : used + left ≡ o.bound) where
      did-all : (h : RunHow) → (f : Finished o h left u t) →
          Did (full o.bound E main f.began.input) (outcome h) used behind
      did-all h f =
          let r : Run = full o.bound E main f.began.input in
          let s : Seen = f.seen in
          let e : s ≡ seen_of r = full-seen s f.began in
          let n : s.count + left ≡ o.bound = f.counted in
          let m : s.count ≡ used = omega (arith, n, counted) in
          subst (λ q. Did r q used behind) (sym f.verdict)
          (record {
            verdict = sym (ap (λ (s : Seen). s.verdict) e);
            count = sym (ap (λ (s : Seen). s.count) e) ∙ m;
            output = subst (λ es. Adds o.output u (text_of es)) (ap (λ (s : Seen). s.events) e) f.puts;
            tapes =
                f.tells ∙ ap (λ (s : Seen). option_map (λ _. s.tapes) o.tapes) e;
            closed = λ h.
                subst ClosedOnce (ap (λ (s : Seen). s.events) e)
                (over-closed s s.verdict (closes-once s f.began) refl h);
          })

      module _ (why : Failure) (f : Broken o why left u t) where
        abbrev whole : Run
        whole = full o.bound E main f.began.input

        is-seen : f.seen ≡ seen_of whole
        is-seen = full-seen f.seen f.began

        did-front : DidFront whole.last.events why behind
        did-front = subst (λ es. DidFront es why behind) (ap (λ (s : Seen). s.events) is-seen) f.did

        did-some : Did whole (Outcome.broke why) used behind
        did-some =
            let m : f.seen.count ≡ whole.count = ap (λ (s : Seen). s.count) is-seen in
            let n : f.made + left ≡ o.bound = f.counted in
            let w : f.made ≤ f.seen.count = f.reached in
            (did-front, omega (arith, n, w, counted, m))

      -- ---- the answer
      abbrev AsFull : Result RunEnd MemoryError → Type 0
      AsFull answer = RunsAsFull o.bound E main o.input behind answer

      as-full : (answer : Result RunEnd MemoryError) (input : List ℕ) → IfSome o.input (λ bytes. input ≡ bytes) →
          Answers (full o.bound E main input) behind answer → AsFull answer
      as-full answer input told a = record { input = input; told = told; answers = a }

      pub answered : (came : Result RunHow Stop) (answer : Result RunEnd MemoryError) → Came failure o left u t came →
          IsAnswered came used answer →
          AsFull answer
      answered (Ok h) answer f e =
          subst AsFull (sym e) (as-full (Ok (record { how = h; used = used })) f.began.input f.began.told (did-all h f))
      answered (Err stop.Source) answer f e =
          subst AsFull (sym e)
          (as-full (Ok (record { how = how.SourceFault; used = used })) f.began.input f.began.told
          (did-some Failure.source f))
      answered (Err stop.Sink) answer f e =
          subst AsFull (sym e)
          (as-full (Ok (record { how = how.SinkFault; used = used })) f.began.input f.began.told
          (did-some Failure.sink f))
      answered (Err stop.Tape) answer f e =
          subst AsFull (sym e)
          (as-full (Ok (record { how = how.TapeFault; used = used })) f.began.input f.began.told
          (did-some Failure.tape f))
      answered (Err stop.Memory) answer f (err, e) =
          subst AsFull (sym e) (as-full (Err err) f.began.input f.began.told (did-front Failure.memory f))

-- ---- the counts of faults
ends-so : (h g : RunHow) (used : ℕ) (answer : Result RunEnd MemoryError) →
    answer ≡ Ok (record { how = g; used = used }) → Ends h answer → g ≡ h
ends-so h g used answer e x = subst (Ends h) e x

ends-not : (h : RunHow) (err : MemoryError) (answer : Result RunEnd MemoryError) → answer ≡ Err err → Ends h answer → ⊥
ends-not h err answer e x = subst (Ends h) e x

broke≢came : (why : Failure) (v : Verdict) → Outcome.broke why ≡ Outcome.came v → ⊥
broke≢came why v e = cc e

module _ (o : Origin) (left : ℕ) (u : Option (List ℕ)) (t : Option (List Taped)) (used : ℕ) where
  -- what a run came to by itself is no fault of a device
  no-fault : (g h : RunHow) (why : Failure) → Finished o g left u t → outcome h ≡ Outcome.broke why → g ≡ h → ⊥
  no-fault g h why f n e = broke≢came why f.seen.verdict (sym n ∙ ap outcome (sym e) ∙ f.verdict)

  pub source-failed : (came : Result RunHow Stop) (answer : Result RunEnd MemoryError) → Came failure o left u t came →
      IsAnswered came used answer →
      Ends how.SourceFault answer → came ≡ Err stop.Source
  source-failed (Ok g) answer c e x =
      absurd (no-fault g how.SourceFault Failure.source c refl (ends-so how.SourceFault g used answer e x))
  source-failed (Err stop.Source) answer c e x = refl
  source-failed (Err stop.Sink) answer c e x = absurd (cc (ends-so how.SourceFault how.SinkFault used answer e x))
  source-failed (Err stop.Tape) answer c e x = absurd (cc (ends-so how.SourceFault how.TapeFault used answer e x))
  source-failed (Err stop.Memory) answer c (err, e) x = absurd (ends-not how.SourceFault err answer e x)

  pub sink-failed : (came : Result RunHow Stop) (answer : Result RunEnd MemoryError) → Came failure o left u t came →
      IsAnswered came used answer →
      Ends how.SinkFault answer → came ≡ Err stop.Sink
  sink-failed (Ok g) answer c e x =
      absurd (no-fault g how.SinkFault Failure.sink c refl (ends-so how.SinkFault g used answer e x))
  sink-failed (Err stop.Source) answer c e x = absurd (cc (ends-so how.SinkFault how.SourceFault used answer e x))
  sink-failed (Err stop.Sink) answer c e x = refl
  sink-failed (Err stop.Tape) answer c e x = absurd (cc (ends-so how.SinkFault how.TapeFault used answer e x))
  sink-failed (Err stop.Memory) answer c (err, e) x = absurd (ends-not how.SinkFault err answer e x)

  pub tape-failed : (came : Result RunHow Stop) (answer : Result RunEnd MemoryError) → Came failure o left u t came →
      IsAnswered came used answer →
      Ends how.TapeFault answer → came ≡ Err stop.Tape
  tape-failed (Ok g) answer c e x =
      absurd (no-fault g how.TapeFault Failure.tape c refl (ends-so how.TapeFault g used answer e x))
  tape-failed (Err stop.Source) answer c e x = absurd (cc (ends-so how.TapeFault how.SourceFault used answer e x))
  tape-failed (Err stop.Sink) answer c e x = absurd (cc (ends-so how.TapeFault how.SinkFault used answer e x))
  tape-failed (Err stop.Tape) answer c e x = refl
  tape-failed (Err stop.Memory) answer c (err, e) x = absurd (ends-not how.TapeFault err answer e x)

pub counts-so : {a b : ℕ} {A B : Type 0} → Counts a b A → (B → A) → Counts a b B
counts-so k f = record { later = k.later; rose = λ x. k.rose (f x) }

-- ---- how much is left
pub came-left : (o : Origin) (left : ℕ) (u : Option (List ℕ)) (t : Option (List Taped)) (came : Result RunHow Stop) →
    Came failure o left u t came → left ≤ o.bound
came-left o left u t (Ok h) f = let n : f.seen.count + left ≡ o.bound = f.counted in omega (arith, n)
came-left o left u t (Err s) f = let n : f.made + left ≡ o.bound = f.counted in omega (arith, n)

pub error-is : (r : Result RunEnd MemoryError) → IsErr r → (e : MemoryError) × (r ≡ Err e)
error-is (Ok x) e = absurd (false≢true e)
error-is (Err x) e = (x, refl)
