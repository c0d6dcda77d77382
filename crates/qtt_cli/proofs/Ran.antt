-- What carrying out a request comes to, by how its run went.
use Rattle.std.proofs.Common.{◌≡◌, ◌≢◌, ◌∙◌, ◌⊎◌, ◌++◌, inl, inr, ℕ, List, [], codes, take, Option, None, Some, IfSome, option_map, Result, Ok, Err, refl, sym, ap, subst}
use Rattle.std.proofs.lemmas.List.{append-nil, append_assoc}
use Rattle.qtt_edge.specs.Sink.{Adds}
use Rattle.qtt_words.specs.Asked.{Work, Asked}
use Rattle.qtt_term.specs.FullRun as full
use Rattle.qtt_term.specs.FullRun.{Run, text_of}
use Rattle.qtt_run.specs.Front.{Outside}
use Rattle.qtt_run.specs.Program.{DidAll}
use Rattle.qtt_graph.specs.Graph.{Name}
use Rattle.qtt_load.specs.Reading.{Texts}
use Rattle.qtt_gen_load.specs.Texts.{generated_texts}
use Rattle.qtt_build.specs.Built.{Built}
use Rattle.qtt_outcome.specs.Stop.{◌>>=◌, Runnable, runnable}
use Rattle.qtt_outcome.specs.Outcome.{Outcome, outcome_of, verdict_status, verdict_line, run_outcome, run_of, counts, counted_outcome, texts_for, root_of, worked}
use Rattle.qtt_outcome.specs.Headline.{came}
use Rattle.qtt_cli.specs.declared.device.Device.TheVariants as device
use Rattle.qtt_cli.specs.declared.stop.Stop.{Stop}
use Rattle.qtt_cli.specs.declared.stop.Stop.TheVariants as stop
use Rattle.qtt_cli.specs.declared.verdict.Verdict.{Verdict}
use Rattle.qtt_cli.specs.declared.verdict.Verdict.TheVariants as verdict
use Rattle.qtt_cli.specs.Views.{verdict_of}
use Rattle.qtt_cli.specs.Seen.{Seen, one_of, Over}
use Rattle.qtt_cli.specs.Parts.{DoesAll, IsRunOf, PutsFrontBehind, Part}
use Rattle.qtt_cli.specs.Printed.{Puts}
use Rattle.qtt_cli.specs.Running.{Did}
use Rattle.qtt_cli.specs.Commands.{program_for}
use Rattle.qtt_cli.specs.Texts.{counts_of}
use Rattle.qtt_cli.specs.Works.{ComesTo, Generates, Carries}
use Rattle.qtt_cli.proofs.Carried.{HasProgram}
use Rattle.qtt_cli.proofs.Answered.{ok-then}
use Rattle.qtt_cli.proofs.Shapes.{built-at, shape-run, shape-gen, ran, ran_counted}

-- ---- two puts, one behind the other
pub adds-then : (before mid now : Option (List ℕ)) (first more : List ℕ) → Adds before mid first → Adds mid now more →
    Adds before now (first ++ more)
adds-then None mid now first more a b = by mid a b
  where
    by : (mid : Option (List ℕ)) → Adds None mid first → Adds mid now more → Adds None now (first ++ more)
    by None a b = b
    by (Some bytes) a b = absurd (cc a)
adds-then (Some held) mid now first more a b =
    b ∙ ap (option_map (λ (bs : List ℕ). bs ++ more)) a ∙ ap (λ (bs : List ℕ). Some bs) (append_assoc held first more)

-- ---- what the request comes to, where there is a program
pub worked-ran : (texts : Texts) (input : List ℕ) (r : Asked) (root : Name) → r.work ≡ Work.run root →
    (p : Built × Runnable) → program_for root r.budget texts ≡ Ok p → worked texts input r ≡ Ok (ran r input p)
worked-ran texts input r root w p e =
    shape-run texts input r root w ∙ ap (λ m. m >>= (λ q. Ok (ran r input q))) e ∙ ok-then p (λ q. Ok (ran r input q))

pub worked-counted : (texts : Texts) (input : List ℕ) (r : Asked) (n : ℕ) → r.work ≡ Work.gen n →
    (p : Built × Runnable) → program_for (codes "Main") r.budget (generated_texts n) ≡ Ok p →
    worked texts input r ≡ Ok (ran_counted r input p)
worked-counted texts input r n w p e =
    shape-gen texts input r n w ∙ ap (λ m. m >>= (λ q. Ok (ran_counted r input q))) e
    ∙ ok-then p (λ q. Ok (ran_counted r input q))

-- a run that did not end has no lines behind it
pub silent : (B : Built) (R : Run) (v : Verdict) → v ≢ verdict.Ended → counts B R (verdict_of v) ≡ []
silent B R verdict.Ended other = absurd (other refl)
silent B R (verdict.Trapped k) other = refl
silent B R verdict.Running other = refl

-- this device failed
pub record FailsBeside (s : Seen) (x : Stop) : Type 0 where
  pub input : x ≡ stop.Failed device.Input → s.failed device.Input
  pub output : x ≡ stop.Failed device.Output → s.failed device.Output
  pub tape : x ≡ stop.Failed device.Tape → s.failed device.Tape

module _ (s : Seen) (r : Asked) (w : Work) (e : r.work ≡ w) (texts : Texts)
    (texts_told : IfSome s.texts (λ f. f ≡ texts))
    (input : List ℕ) (input_told : IfSome s.input (λ bytes. input ≡ bytes)) (p : Built × Runnable)
    (h : HasProgram (root_of w) r.budget (texts_for texts w) p) where
  abbrev over : Over s
  over = record { texts = texts; texts_told = texts_told; input = input; input_told = input_told }

  abbrev run : Run
  run = run_of r.steps p.0 p.1 input

  abbrev is-run : IsRunOf texts input r run
  is-run = record {
    built = p.0;
    is_built = built-at texts r w e ∙ h.built;
    no_hole = h.no_hole;
    program = p.1;
    is_program = ap (λ (v : Work). runnable r.budget (root_of v) p.0) e ∙ h.program;
    run = refl;
  }

  -- ---- it did not come to an end
  pub carries-broken : (x : Stop) → Did run s.outside (Err x) → FailsBeside s x → Carries s r (Err x)
  carries-broken stop.Usage d f = absurd d
  carries-broken (stop.Absent a) d f = absurd d
  carries-broken (stop.Refused y) d f = absurd d
  carries-broken (stop.Failed device.Vault) d f = absurd d
  carries-broken (stop.Failed device.Input) d f =
      record { failed = f.input refl; over = over; done = Part.run is-run d }
  carries-broken (stop.Failed device.Output) d f =
      record { failed = f.output refl; over = over; done = Part.run is-run d }
  carries-broken (stop.Failed device.Tape) d f =
      record { failed = f.tape refl; over = over; done = Part.run is-run d }
  carries-broken stop.Memory d f = inr (record { over = over; part = Part.run is-run d })

  -- ---- it did, and these lines are put behind it
  ran-with : (more : List ℕ) → worked texts input r ≡ Ok (run_outcome run more) → (v : Verdict) →
      run.verdict ≡ verdict_of v → Adds s.outside.output_before s.outside.output (text_of run.last.events ++ more) →
      s.outside.tapes ≡ option_map (λ _. run.last.tapes) s.outside.tapes_before → ComesTo s r (Ok v)
  ran-with more is v so output tapes =
      let o : came texts input r ≡ run_outcome run more = ap outcome_of is in
      record {
        over = over;
        status = ap (λ (y : Outcome). y.status) o ∙ ap verdict_status so;
        told = ap (λ (y : Outcome). y.err) o ∙ ap verdict_line so;
        done = subst (λ (y : Outcome). DoesAll y s.outside) (sym o) (record { output = output; tapes = tapes });
      }

  pub carries-ran : worked texts input r ≡ Ok (run_outcome run []) → (v : Verdict) (used : ℕ) →
      DidAll run (verdict_of v) used s.outside → Carries s r (Ok v)
  carries-ran is v used d =
      ran-with [] is v d.verdict
      (subst (λ (bs : List ℕ). Adds s.outside.output_before s.outside.output bs)
      (sym (append-nil (text_of run.last.events))) d.output) d.tapes

  -- ---- of generated modules
  module _ (n : ℕ) (gen : r.work ≡ Work.gen n) (is : worked texts input r ≡ Ok (counted_outcome p.0 run))
      (mid : Option (List ℕ)) (used : ℕ) where
    abbrev at_mid : Outside
    at_mid = record {
      output_before = s.outside.output_before;
      output = mid;
      tapes_before = s.outside.tapes_before;
      tapes = s.outside.tapes;
    }

    -- a run that trapped, or goes on: no line is put behind it
    pub carries-silent : (v : Verdict) → counts p.0 run (verdict_of v) ≡ [] → DidAll run (verdict_of v) used s.outside →
        Carries s r (Ok v)
    carries-silent v none d =
        let more : counts p.0 run run.verdict ≡ [] = ap (counts p.0 run) d.verdict ∙ none in
        carries-ran (is ∙ ap (λ (bs : List ℕ). Ok (run_outcome run bs)) more) v used d

    module _ (d : DidAll run full.Verdict.ended used at_mid) where
      lines : counts p.0 run run.verdict ≡ counts_of p.0.order used
      lines = ap (counts p.0 run) d.verdict ∙ ap (counts_of p.0.order) d.count

      put-front : (count : ℕ) → Adds mid s.outside.output (take count (counts_of p.0.order used)) →
          PutsFrontBehind run (counts p.0 run run.verdict) s.outside
      put-front count a = record {
        count = count;
        output = subst (λ (bs : List ℕ). Adds s.outside.output_before s.outside.output
            (text_of run.last.events ++ take count bs)) (sym lines)
            (adds-then s.outside.output_before mid s.outside.output (text_of run.last.events)
            (take count (counts_of p.0.order used)) d.output a);
        tapes = d.tapes;
      }

      -- memory ran out before the lines of counts were made
      pub carries-unmade : mid ≡ s.outside.output → Carries s r (Err stop.Memory)
      carries-unmade stays =
          let none = still mid s.outside.output stays in
          inr (record { over = over; part = Part.behind n gen tt is-run (put-front 0 none) })
        where
          still : (old new : Option (List ℕ)) → old ≡ new → Adds old new []
          still None new stays = sym stays
          still (Some bytes) new stays = sym stays ∙ ap (λ (bs : List ℕ). Some bs) (sym (append-nil bytes))

      pub carries-counts : (result : Result Verdict Stop) →
          Puts (counts_of p.0.order used) mid s.outside.output result →
          (result ≡ Err (stop.Failed device.Output) → s.failed device.Output) → Carries s r result
      carries-counts (Ok v) put fails =
          subst (λ (x : Verdict). ComesTo s r (Ok x)) (sym put.0)
          (ran-with (counts p.0 run run.verdict) is verdict.Ended d.verdict
          (subst (λ (bs : List ℕ). Adds s.outside.output_before s.outside.output (text_of run.last.events ++ bs))
          (sym lines)
          (adds-then s.outside.output_before mid s.outside.output (text_of run.last.events)
          (counts_of p.0.order used) d.output put.1)) d.tapes)
      carries-counts (Err stop.Usage) put fails = absurd put
      carries-counts (Err (stop.Absent a)) put fails = absurd put
      carries-counts (Err (stop.Refused x)) put fails = absurd put
      carries-counts (Err (stop.Failed device.Vault)) put fails = absurd put
      carries-counts (Err (stop.Failed device.Input)) put fails = absurd put
      carries-counts (Err (stop.Failed device.Output)) put fails = record {
        failed = fails refl;
        over = over;
        done = Part.behind n gen tt is-run (put-front put.0 put.1);
      }
      carries-counts (Err (stop.Failed device.Tape)) put fails = absurd put
      carries-counts (Err stop.Memory) put fails =
          inr (record { over = over; part = Part.behind n gen tt is-run (put-front put.0 put.1) })

-- ---- what comes of generated modules, over any texts
if-some-then : (o : Option Texts) (a b : Texts) → IfSome o (λ f. f ≡ a) → a ≡ b → IfSome o (λ f. f ≡ b)
if-some-then None a b h e = tt
if-some-then (Some f) a b h e = h ∙ e

module _ (s : Seen) (r : Asked) (texts : Texts) (told : IfSome s.texts (λ f. f ≡ texts)) where
  abbrev apart : Seen
  apart = record {
    texts = Some texts;
    input = s.input;
    outside = s.outside;
    failed = one_of ⊥ (Unit {0}) (Unit {0}) (Unit {0});
    missed = ⊥;
  }

  over-of : Over apart → Over s
  over-of o = record {
    texts = o.texts;
    texts_told = if-some-then s.texts texts o.texts told o.texts_told;
    input = o.input;
    input_told = o.input_told;
  }

  comes-of : (went : Result Verdict Stop) → ComesTo apart r went → ComesTo s r went
  unfolding over-of
  comes-of went t = record { over = over-of t.over; status = t.status; told = t.told; done = t.done }

  pub carries-generated : (went : Result Verdict Stop) → Carries apart r went →
      (went ≡ Err (stop.Failed device.Input) → s.failed device.Input) →
      (went ≡ Err (stop.Failed device.Output) → s.failed device.Output) →
      (went ≡ Err (stop.Failed device.Tape) → s.failed device.Tape) → Carries s r went
  unfolding over-of
  carries-generated (Ok v) t input output tape = comes-of (Ok v) t
  carries-generated (Err stop.Usage) t input output tape = t
  carries-generated (Err (stop.Absent a)) t input output tape = (comes-of (Err (stop.Absent a)) t.0, by t.1)
    where
      by : ⊥ ⊎ Generates r → s.missed ⊎ Generates r
      by (inl m) = absurd m
      by (inr g) = inr g
  carries-generated (Err (stop.Refused x)) t input output tape = comes-of (Err (stop.Refused x)) t
  carries-generated (Err (stop.Failed device.Vault)) t input output tape = absurd t.failed
  carries-generated (Err (stop.Failed device.Input)) t input output tape =
      record { failed = input refl; over = over-of t.over; done = t.done }
  carries-generated (Err (stop.Failed device.Output)) t input output tape =
      record { failed = output refl; over = over-of t.over; done = t.done }
  carries-generated (Err (stop.Failed device.Tape)) t input output tape =
      record { failed = tape refl; over = over-of t.over; done = t.done }
  carries-generated (Err stop.Memory) (inl n) input output tape = inl n
  carries-generated (Err stop.Memory) (inr p) input output tape =
      inr (record { over = over-of p.over; part = p.part })
