-- What a call answers, from what its work did and what it told.
use Rattle.std.proofs.Common.{◌≡◌, ◌∙◌, ◌⊎◌, inl, inr, ℕ, List, [], ◌∷◌, length, take, Option, Some, None, Result, Ok, Err, refl, sym, ap, subst, arith}
use Rattle.std.specs.Option.{ForSome}
use Rattle.qtt_edge.specs.Counts.{Rose}
use Rattle.qtt_edge.specs.Sink.{Adds, AddsFront}
use Rattle.qtt_words.specs.Asked.{Asked, asked}
use Rattle.qtt_outcome.specs.Outcome.{line, usage_line, outcome_of, answered}
use Rattle.qtt_cli.specs.declared.device.Device.{Device}
use Rattle.qtt_cli.specs.declared.stop.Stop.{Stop}
use Rattle.qtt_cli.specs.declared.stop.Stop.TheVariants as stop
use Rattle.qtt_cli.specs.declared.verdict.Verdict.{Verdict}
use Rattle.qtt_cli.specs.declared.verdict.Verdict.TheVariants as verdict
use Rattle.qtt_cli.specs.Answers.{Call, IsTold, Left, Due, RunsOut, Answers}
use Rattle.qtt_cli.specs.Parts.{DoesNothing}
use Rattle.qtt_cli.specs.Told.{status_of, line_of, device_line, memory_line, Tells, Reports, Finishes}
use Rattle.qtt_cli.specs.Works.{ComesTo, Broke, Generates, Carries, Works}
use Rattle.qtt_cli.proofs.Overs.{some-over, tells-only}
use Rattle.qtt_cli.proofs.Ended.{Laws, answers-asked, answers-broke, answers-memory, answers-usage, all-left, due-of}

-- ---- fronts
take-whole : (bytes : List ℕ) → take (length bytes) bytes ≡ bytes
take-whole [] = refl
take-whole (b ∷ bytes) = ap (λ (bs : List ℕ). b ∷ bs) (take-whole bytes)

-- all of a line is a front of it
whole-front : (old new : Option (List ℕ)) (bytes : List ℕ) → Adds old new bytes → AddsFront old new bytes
whole-front old new bytes a =
    (length bytes, subst (λ (bs : List ℕ). Adds old new bs) (sym (take-whole bytes)) a)

module _ (laws : Laws) (c : Call) (status before now : ℕ)
    (empty : ForSome c.seen.outside.tapes_before (λ all. all ≡ []))
    (rises : Rose before now → c.err_failed) where
  abbrev TellsIn : List ℕ → Type 0
  TellsIn due = Tells c.err_before c.err before now due

  abbrev ReportsIn : ℕ → List ℕ → Type 0
  ReportsIn n due = Reports n due status c.err_before c.err before now

  told : (due : List ℕ) → TellsIn due → IsTold c due
  told due (inl a) = inl a
  told due (inr f) = inr (rises f.0, f.1)

  -- with a front of a line that was due, or of the line of want of memory
  ran-out : Left c → (due : List ℕ) → Due c due →
      AddsFront c.err_before c.err due ⊎ AddsFront c.err_before c.err memory_line → RunsOut c
  ran-out left due is (inl f) = record { left = left; due = due; is_due = is; told = f }
  ran-out left due is (inr f) = record { left = left; due = memory_line; is_due = Due.out_of_memory; told = f }

  -- want of memory was told
  memory-told : Left c → ReportsIn 71 memory_line → Answers c status
  memory-told left (inl (s, inl a)) =
      answers-memory laws c status s
      (ran-out left memory_line Due.out_of_memory (inr (whole-front c.err_before c.err memory_line a)))
  memory-told left (inl (s, inr f)) =
      answers-memory laws c status s (ran-out left memory_line Due.out_of_memory (inr f.1))
  memory-told left (inr (s, f)) =
      answers-memory laws c status s (ran-out left memory_line Due.out_of_memory f)

  module _ (r : Asked) (is : asked c.words ≡ Some r) where
    -- a refusal, or a trap, or the bound of the steps
    ended : (went : Result Verdict Stop) → ComesTo c.seen r went →
        (status ≡ status_of went → IsTold c (line_of went) → Answers c status) →
        ReportsIn (status_of went) (line_of went) → Answers c status
    ended went t answers (inl p) = answers p.0 (told (line_of went) p.1)
    ended went t answers (inr p) =
        answers-memory laws c status p.0
        (ran-out (all-left laws c status r is went t) (line_of went) (due-of laws c status r is went t) p.1)

    failed : (d : Device) → Broke c.seen r d → ReportsIn 74 (line (device_line d)) → Answers c status
    failed d b (inl p) = answers-broke laws c status r is d b p.0 (told (line (device_line d)) p.1)
    failed d b (inr p) =
        answers-memory laws c status p.0
        (ran-out (Left.broke is b.failed b.over b.done) (line (device_line d)) (Due.of_device b.failed) p.1)

    of-carried : (went : Result Verdict Stop) → Carries c.seen r went →
        Finishes went status c.err_before c.err before now → Answers c status
    of-carried (Ok verdict.Ended) t f =
        answers-asked laws c status r is (Ok verdict.Ended) t (inl (inl f.0))
        (λ e. absurd (let g : 0 ≡ 64 = sym f.0 ∙ e in omega (arith, g)))
        (λ e. absurd (let g : 0 ≡ 66 = sym f.0 ∙ e in omega (arith, g))) f.0 (inl f.1)
    of-carried (Ok (verdict.Trapped k)) t f =
        ended (Ok (verdict.Trapped k)) t
        (λ s. answers-asked laws c status r is (Ok (verdict.Trapped k)) t (inl (inr (inl s)))
        (λ e. absurd (let g : 2 ≡ 64 = sym s ∙ e in omega (arith, g)))
        (λ e. absurd (let g : 2 ≡ 66 = sym s ∙ e in omega (arith, g))) s) f
    of-carried (Ok verdict.Running) t f =
        ended (Ok verdict.Running) t
        (λ s. answers-asked laws c status r is (Ok verdict.Running) t (inl (inr (inr s)))
        (λ e. absurd (let g : 3 ≡ 64 = sym s ∙ e in omega (arith, g)))
        (λ e. absurd (let g : 3 ≡ 66 = sym s ∙ e in omega (arith, g))) s) f
    of-carried (Err stop.Usage) t f = absurd t
    of-carried (Err (stop.Absent a)) t f =
        ended (Err (stop.Absent a)) t.0
        (λ s. answers-asked laws c status r is (Err (stop.Absent a)) t.0 (inr (inr (inr s)))
        (λ e. absurd (let g : 66 ≡ 64 = sym s ∙ e in omega (arith, g))) (λ e. lacking t.1) s) f
      where
        lacking : c.seen.missed ⊎ Generates r → c.seen.missed
        lacking (inl m) = m
        lacking (inr g) =
            absurd (laws.generated t.0.over.texts t.0.over.input r g.number g.is g.positive g.bounded t.0.status)
    of-carried (Err (stop.Refused x)) t f =
        ended (Err (stop.Refused x)) t
        (λ s. answers-asked laws c status r is (Err (stop.Refused x)) t (inr (inl s))
        (λ e. absurd (let g : 1 ≡ 64 = sym s ∙ e in omega (arith, g)))
        (λ e. absurd (let g : 1 ≡ 66 = sym s ∙ e in omega (arith, g))) s) f
    of-carried (Err (stop.Failed d)) t f = failed d t f
    of-carried (Err stop.Memory) (inl n) f = memory-told (Left.nothing n) f
    of-carried (Err stop.Memory) (inr p) f = memory-told (Left.part is p.over p.part) f

  of-usage : asked c.words ≡ None → DoesNothing c.seen.outside → ReportsIn 64 (line usage_line) → Answers c status
  of-usage is n (inl p) =
      answers-usage laws c status is (tells-only 64 usage_line c.seen.outside empty n) p.0 (told (line usage_line) p.1)
  of-usage is n (inr p) =
      answers-memory laws c status p.0 (ran-out (Left.nothing n) (line usage_line) usage-due p.1)
    where
      usage-due : Due c (line usage_line)
      usage-due =
          let o = some-over c.seen in
          subst (Due c) (ap (λ (x : Option Asked). (outcome_of (answered o.texts o.input x)).err) is) (Due.of_outcome o)

  pub finished : (went : Result Verdict Stop) → Works c.words c.seen went →
      Finishes went status c.err_before c.err before now → Answers c status
  finished went (Works.usage is n) f = of-usage is n f
  finished went (Works.memory n) f = memory-told (Left.nothing n) f
  finished went (Works.carried {r = r} is t) f = of-carried r is went t f
