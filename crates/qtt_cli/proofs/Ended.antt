-- What the status of a call says, by how its work went.
use Rattle.std.proofs.Common.{◌≡◌, ◌≢◌, ◌∙◌, ◌⊎◌, inl, inr, ℕ, Option, Some, None, Result, sym, ap, subst, arith}
use Rattle.qtt_words.specs.Asked.{Asked, asked}
use Rattle.qtt_build.specs.Built.{Built}
use Rattle.qtt_outcome.specs.Outcome.{Outcome, outcome_of, answered, line, usage_line}
use Rattle.qtt_outcome.specs.Completeness.{IsReady, GoesOn, IsOverBudget, DerivedGoesOn}
use Rattle.qtt_outcome.specs.Headline.{came, Declares, HasDerivations, IsGoing, IsRefused, IsAbsent, runs, IsRun, AcceptedIsDerived, RefusedForReason, GeneratedLackNone, AbsentIsTold, RunsAreEvaluations, JobsChangeNothing}
use Rattle.qtt_cli.specs.declared.device.Device.{Device}
use Rattle.qtt_cli.specs.declared.stop.Stop.{Stop}
use Rattle.qtt_cli.specs.declared.verdict.Verdict.{Verdict}
use Rattle.qtt_cli.specs.Answers.{Call, IsTold, outcome_over, Ends, Left, Due, RunsOut, IsEnd, Answers}
use Rattle.qtt_cli.specs.Seen.{Over}
use Rattle.qtt_cli.specs.Parts.{DoesAll}
use Rattle.qtt_cli.specs.Told.{status_of, line_of, device_line}
use Rattle.qtt_cli.specs.Works.{ComesTo, Broke}
use Rattle.qtt_cli.proofs.Overs.{some-over}

-- ---- statuses
not-memory : (n : ℕ) → IsEnd n → n ≡ 71 → ⊥
not-memory n (inl (inl e)) h = absurd (let g : 0 ≡ 71 = sym e ∙ h in omega (arith, g))
not-memory n (inl (inr (inl e))) h = absurd (let g : 2 ≡ 71 = sym e ∙ h in omega (arith, g))
not-memory n (inl (inr (inr e))) h = absurd (let g : 3 ≡ 71 = sym e ∙ h in omega (arith, g))
not-memory n (inr (inl e)) h = absurd (let g : 1 ≡ 71 = sym e ∙ h in omega (arith, g))
not-memory n (inr (inr (inl e))) h = absurd (let g : 64 ≡ 71 = sym e ∙ h in omega (arith, g))
not-memory n (inr (inr (inr e))) h = absurd (let g : 66 ≡ 71 = sym e ∙ h in omega (arith, g))

not-failed : (n : ℕ) → IsEnd n → n ≡ 74 → ⊥
not-failed n (inl (inl e)) h = absurd (let g : 0 ≡ 74 = sym e ∙ h in omega (arith, g))
not-failed n (inl (inr (inl e))) h = absurd (let g : 2 ≡ 74 = sym e ∙ h in omega (arith, g))
not-failed n (inl (inr (inr e))) h = absurd (let g : 3 ≡ 74 = sym e ∙ h in omega (arith, g))
not-failed n (inr (inl e)) h = absurd (let g : 1 ≡ 74 = sym e ∙ h in omega (arith, g))
not-failed n (inr (inr (inl e))) h = absurd (let g : 64 ≡ 74 = sym e ∙ h in omega (arith, g))
not-failed n (inr (inr (inr e))) h = absurd (let g : 66 ≡ 74 = sym e ∙ h in omega (arith, g))

-- the laws of outcomes
pub record Laws : Type 0 where
  pub derived : AcceptedIsDerived
  pub reasons : RefusedForReason
  pub lacking : AbsentIsTold
  pub evaluations : RunsAreEvaluations
  pub complete : DerivedGoesOn
  pub generated : GeneratedLackNone
  pub jobs : JobsChangeNothing

module _ (laws : Laws) (c : Call) (status : ℕ) where
  -- ---- words that ask for something
  module _ (r : Asked) (is : asked c.words ≡ Some r) where
    comes : (o : Over c.seen) → outcome_over c o ≡ came o.texts o.input r
    comes o = ap (λ (x : Option Asked). outcome_of (answered o.texts o.input x)) is

    only : (x : Asked) → asked c.words ≡ Some x → r ≡ x
    only x e = let g : Some r ≡ Some x = sym is ∙ e in cc g

    pub ends-asked : (went : Result Verdict Stop) → ComesTo c.seen r went → status ≡ status_of went →
        IsTold c (line_of went) → Ends c status
    ends-asked went t s told =
        let o = t.over in
        let same = comes o in
        let now : status ≡ (came o.texts o.input r).status = s ∙ sym t.status in
        record {
          over = o;
          status_is = now ∙ sym (ap (λ (x : Outcome). x.status) same);
          done = subst (λ (x : Outcome). DoesAll x c.seen.outside) (sym same) t.done;
          told = subst (IsTold c) (sym t.told ∙ sym (ap (λ (x : Outcome). x.err) same)) told;
          accepted = λ x e going.
              subst (λ (y : Asked). (B : Built) × HasDerivations o.texts y B) (only x e)
              (laws.derived o.texts o.input r (subst IsGoing now going));
          refused = λ x e one.
              subst (λ (y : Asked). IsRefused o.texts y (outcome_over c o)) (only x e)
              (subst (λ (y : Outcome). IsRefused o.texts r y) (sym same)
              (laws.reasons o.texts o.input r (sym now ∙ one)));
          absent = λ x e lacks.
              subst (λ (y : Asked). IsAbsent o.texts y (outcome_over c o)) (only x e)
              (subst (λ (y : Outcome). IsAbsent o.texts r y) (sym same)
              (laws.lacking o.texts o.input r (sym now ∙ lacks)));
          run = λ x e w going.
              let f = only x e in
              subst (λ (y : Asked). IsRun o.texts o.input y (outcome_over c o)) f
              (subst (λ (y : Outcome). IsRun o.texts o.input r y) (sym same)
              (laws.evaluations o.texts o.input r (ap (λ (y : Asked). runs y.work) f ∙ w) (subst IsGoing now going)));
          complete = λ x B e declares ready.
              let f = only x e in
              subst (λ (y : Asked). GoesOn o.texts o.input y B ⊎ IsOverBudget o.texts y (outcome_over c o)) f
              (subst (λ (y : Outcome). GoesOn o.texts o.input r B ⊎ IsOverBudget o.texts r y) (sym same)
              (laws.complete o.texts o.input r B (subst (λ (y : Asked). Declares o.texts y B) (sym f) declares)
              (subst (λ (y : Asked). IsReady y B) (sym f) ready)));
          jobs = λ x j e.
              let f = only x e in
              same ∙ sym (laws.jobs o.texts o.input r j)
              ∙ ap (λ (y : Asked). came o.texts o.input (record y { jobs = j })) f;
        }

    -- the call came to an end that is none of the words' own
    pub answers-asked : (went : Result Verdict Stop) → ComesTo c.seen r went → IsEnd status → status ≢ 64 →
        (status ≡ 66 → c.seen.missed) →
        status ≡ status_of went → IsTold c (line_of went) → Answers c status
    answers-asked went t end other absent s told = record {
      statuses = inl end;
      ends = λ i. ends-asked went t s told;
      usage = λ e. absurd (other e);
      usage_always = λ e. absurd (let g : Some r ≡ None = sym is ∙ e in cc g);
      absent = absent;
      failed = λ e. absurd (not-failed status end e);
      memory = λ e. absurd (not-memory status end e);
    }

    -- a device failed, and err is told so
    pub answers-broke : (d : Device) → Broke c.seen r d → status ≡ 74 → IsTold c (line (device_line d)) →
        Answers c status
    answers-broke d b s told = record {
      statuses = inr (inr s);
      ends = λ i. absurd (not-failed status i s);
      usage = λ e. absurd (let g : 74 ≡ 64 = sym s ∙ e in omega (arith, g));
      usage_always = λ e. absurd (let g : Some r ≡ None = sym is ∙ e in cc g);
      absent = λ e. absurd (let g : 74 ≡ 66 = sym s ∙ e in omega (arith, g));
      failed = λ e. record {
        device = d;
        failed = b.failed;
        request = r;
        asked_for = is;
        over = b.over;
        done = b.done;
        told = told;
      };
      memory = λ e. absurd (let g : 74 ≡ 71 = sym s ∙ e in omega (arith, g));
    }

    pub all-left : (went : Result Verdict Stop) → ComesTo c.seen r went → Left c
    all-left went t =
        Left.all t.over (subst (λ (x : Outcome). DoesAll x c.seen.outside) (sym (comes t.over)) t.done)

    pub due-of : (went : Result Verdict Stop) → ComesTo c.seen r went → Due c (line_of went)
    due-of went t =
        subst (Due c) (ap (λ (x : Outcome). x.err) (comes t.over) ∙ t.told) (Due.of_outcome t.over)

  -- ---- memory ran out
  pub answers-memory : status ≡ 71 → RunsOut c → Answers c status
  answers-memory s out = record {
    statuses = inr (inl s);
    ends = λ i. absurd (not-memory status i s);
    usage = λ e. absurd (let g : 71 ≡ 64 = sym s ∙ e in omega (arith, g));
    usage_always = λ e. inr s;
    absent = λ e. absurd (let g : 71 ≡ 66 = sym s ∙ e in omega (arith, g));
    failed = λ e. absurd (let g : 71 ≡ 74 = sym s ∙ e in omega (arith, g));
    memory = λ e. out;
  }

  -- ---- words that ask for nothing
  pub answers-usage : asked c.words ≡ None → DoesAll (outcome_of (answered (some-over c.seen).texts
      (some-over c.seen).input None)) c.seen.outside → status ≡ 64 → IsTold c (line usage_line) → Answers c status
  answers-usage is done s told =
      let o = some-over c.seen in
      let same : outcome_over c o ≡ outcome_of (answered o.texts o.input None) =
      ap (λ (x : Option Asked). outcome_of (answered o.texts o.input x)) is in
      record {
        statuses = inl (inr (inr (inl s)));
        ends = λ i. record {
          over = o;
          status_is = s ∙ sym (ap (λ (x : Outcome). x.status) same);
          done = subst (λ (x : Outcome). DoesAll x c.seen.outside) (sym same) done;
          told = subst (IsTold c) (sym (ap (λ (x : Outcome). x.err) same)) told;
          accepted = λ x e going. absurd (let g : None ≡ Some x = sym is ∙ e in cc g);
          refused = λ x e one. absurd (let g : None ≡ Some x = sym is ∙ e in cc g);
          absent = λ x e lacks. absurd (let g : None ≡ Some x = sym is ∙ e in cc g);
          run = λ x e w going. absurd (let g : None ≡ Some x = sym is ∙ e in cc g);
          complete = λ x B e declares ready. absurd (let g : None ≡ Some x = sym is ∙ e in cc g);
          jobs = λ x j e. absurd (let g : None ≡ Some x = sym is ∙ e in cc g);
        };
        usage = λ e. is;
        usage_always = λ e. inl s;
        absent = λ e. absurd (let g : 64 ≡ 66 = sym s ∙ e in omega (arith, g));
        failed = λ e. absurd (let g : 64 ≡ 74 = sym s ∙ e in omega (arith, g));
        memory = λ e. absurd (let g : 64 ≡ 71 = sym s ∙ e in omega (arith, g));
      }
