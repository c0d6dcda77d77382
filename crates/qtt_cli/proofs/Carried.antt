-- What carrying out a request comes to, by how its stages went.
use Rattle.std.proofs.Common.{◌≡◌, ◌∙◌, ◌⊎◌, inl, inr, ℕ, List, [], true, Result, Ok, Err, refl, sym, ap, subst}
use Rattle.std.specs.Option.{ForSome}
use Rattle.qtt_edge.specs.Sink.{Adds}
use Rattle.qtt_words.specs.Asked.{Asked}
use Rattle.qtt_graph.specs.Graph.{Name}
use Rattle.qtt_load.specs.Reading.{Texts}
use Rattle.qtt_module.specs.Refused.{refused_of}
use Rattle.qtt_build.specs.Built.{Built}
use Rattle.qtt_outcome.specs.Stop as outcome
use Rattle.qtt_outcome.specs.Stop.{Answer, ◌>>=◌, no_holes, Runnable, runnable}
use Rattle.qtt_diag.specs.Messages.{message}
use Rattle.qtt_outcome.specs.Outcome.{Outcome, absent_line, puts, stopped, outcome_of, worked}
use Rattle.qtt_outcome.specs.Headline.{came}
use Rattle.qtt_outcome.proofs.Answers.{both}
use Rattle.qtt_cli.specs.declared.device.Device.TheVariants as device
use Rattle.qtt_cli.specs.declared.stop.Stop.{Stop}
use Rattle.qtt_cli.specs.declared.stop.Stop.TheVariants as stop
use Rattle.qtt_cli.specs.declared.verdict.Verdict.{Verdict}
use Rattle.qtt_cli.specs.Stops.{Comes, AnswersOver, IsAbsent}
use Rattle.qtt_cli.specs.Seen.{Seen, Over}
use Rattle.qtt_cli.specs.Commands.{built_over, over_build, program_for}
use Rattle.qtt_cli.specs.Parts.{DoesNothing, DoesAll, prints, asks_vault, Part}
use Rattle.qtt_cli.specs.Printed.{Puts}
use Rattle.qtt_cli.specs.Running.{Fails}
use Rattle.qtt_cli.specs.Told.{status_of, line_of}
use Rattle.qtt_cli.specs.Works.{ComesTo, Generates, Carries}
use Rattle.qtt_cli.proofs.Answered.{ok-then, err-then}
use Rattle.qtt_cli.proofs.Overs.{some-input, some-over, no-tapes, tells-only}
use Rattle.qtt_cli.proofs.Shapes.{shown}

module _ (s : Seen) (r : Asked) (empty : ForSome s.outside.tapes_before (λ all. all ≡ [])) where
  -- ---- nothing is done
  -- the request comes to what is only told
  stops : {A : Type 0} (answer : Texts → Answer A) (k : List ℕ → A → Answer Outcome) →
      ((t : Texts) (i : List ℕ) → worked t i r ≡ answer t >>= k i) → (x : outcome.Stop) →
      Comes s.texts answer (Err x) → DoesAll (stopped x) s.outside → (went : Result Verdict Stop) →
      (stopped x).status ≡ status_of went → (stopped x).err ≡ line_of went → ComesTo s r went
  stops answer k shape x c done went status told =
      let i = some-input s.input in
      let w : worked c.0 i.0 r ≡ Err x = shape c.0 i.0 ∙ ap (λ m. m >>= k i.0) c.2 ∙ err-then x (k i.0) in
      let o : came c.0 i.0 r ≡ stopped x = ap outcome_of w in
      record {
        over = record { texts = c.0; texts_told = c.1; input = i.0; input_told = i.1 };
        status = ap (λ (y : Outcome). y.status) o ∙ status;
        told = ap (λ (y : Outcome). y.err) o ∙ told;
        done = subst (λ (y : Outcome). DoesAll y s.outside) (sym o) done;
      }

  pub carries-stop : {A X : Type 0} (answer : Texts → Answer A) (view : X → A) (k : List ℕ → A → Answer Outcome) →
      ((t : Texts) (i : List ℕ) → worked t i r ≡ answer t >>= k i) → (result : Result X Stop) (x : Stop) →
      result ≡ Err x → AnswersOver s.texts answer view result → DoesNothing s.outside →
      (IsAbsent result → s.missed ⊎ Generates r) →
      (Fails device.Vault result → s.failed device.Vault × (asks_vault r.work ≡ true)) → Carries s r (Err x)
  carries-stop {X = X} answer view k shape result x e a n misses fails =
      by x (subst (AnswersOver s.texts answer view) e a)
      (subst (λ (y : Result X Stop). IsAbsent y → s.missed ⊎ Generates r) e misses)
      (subst (λ (y : Result X Stop). Fails device.Vault y → s.failed device.Vault × (asks_vault r.work ≡ true)) e fails)
    where
      by : (x : Stop) → AnswersOver s.texts answer view (Err x) →
          (IsAbsent {X = X} (Err x) → s.missed ⊎ Generates r) →
          (Fails {X = X} device.Vault (Err x) → s.failed device.Vault × (asks_vault r.work ≡ true)) →
          Carries s r (Err x)
      by stop.Usage a misses fails = absurd a
      by (stop.Absent m) a misses fails =
          let y = outcome.Stop.absent m in
          let d = tells-only 66 (absent_line m) s.outside empty n in
          (stops answer k shape y a d (Err (stop.Absent m)) refl refl, misses tt)
      by (stop.Refused f) a misses fails =
          let y = outcome.Stop.refused (refused_of f) in
          let d = tells-only 1 (message (refused_of f).kept) s.outside empty n in
          stops answer k shape y a d (Err (stop.Refused f)) refl refl
      by (stop.Failed device.Vault) a misses fails =
          let f = fails refl in record { failed = f.0; over = some-over s; done = (f.1, n) }
      by (stop.Failed device.Input) a misses fails = absurd a
      by (stop.Failed device.Output) a misses fails = absurd a
      by (stop.Failed device.Tape) a misses fails = absurd a
      by stop.Memory a misses fails = inl n

  -- ---- a text is put
  puts-all : (text : List ℕ) → Adds s.outside.output_before s.outside.output text →
      s.outside.tapes ≡ s.outside.tapes_before → DoesAll (puts text) s.outside
  puts-all text a t = record { output = a; tapes = t ∙ no-tapes s.outside.tapes_before empty }

  pub carries-put : (answer : Texts → Answer (List ℕ)) →
      ((t : Texts) (i : List ℕ) → worked t i r ≡ answer t >>= shown) → prints r.work ≡ true → (text : List ℕ) →
      Comes s.texts answer (Ok text) → (result : Result Verdict Stop) →
      Puts text s.outside.output_before s.outside.output result → s.outside.tapes ≡ s.outside.tapes_before →
      (Fails device.Output result → s.failed device.Output) → Carries s r result
  carries-put answer shape p text c result put t fails = by result put fails
    where
      over : Over s
      over =
          let i = some-input s.input in
          record { texts = c.0; texts_told = c.1; input = i.0; input_told = i.1 }

      is : worked over.texts over.input r ≡ Ok (puts text)
      is = shape over.texts over.input ∙ ap (λ m. m >>= shown) c.2 ∙ ok-then text shown

      by : (result : Result Verdict Stop) → Puts text s.outside.output_before s.outside.output result →
          (Fails device.Output result → s.failed device.Output) → Carries s r result
      by (Ok v) put fails =
          let o : came over.texts over.input r ≡ puts text = ap outcome_of is in
          let done : DoesAll (puts text) s.outside = puts-all text put.1 t in
          subst (λ (w : Verdict). ComesTo s r (Ok w)) (sym put.0) (record {
            over = over;
            status = ap (λ (y : Outcome). y.status) o;
            told = ap (λ (y : Outcome). y.err) o;
            done = subst (λ (y : Outcome). DoesAll y s.outside) (sym o) done;
          })
      by (Err stop.Usage) put fails = absurd put
      by (Err (stop.Absent a)) put fails = absurd put
      by (Err (stop.Refused x)) put fails = absurd put
      by (Err (stop.Failed device.Vault)) put fails = absurd put
      by (Err (stop.Failed device.Input)) put fails = absurd put
      by (Err (stop.Failed device.Output)) put fails =
          record { failed = fails refl; over = over; done = Part.text p tt is put t }
      by (Err (stop.Failed device.Tape)) put fails = absurd put
      by (Err stop.Memory) put fails = inr (record { over = over; part = Part.text p tt is put t })

-- ---- a program
-- what stands in a program that there is
pub record HasProgram (root : Name) (n : ℕ) (texts : Texts) (p : Built × Runnable) : Type 0 where
  pub built : built_over root n texts ≡ Ok p.0
  pub no_hole : no_holes p.0 ≡ Ok tt
  pub program : runnable n root p.0 ≡ Ok p.1

pub has-program : (root : Name) (n : ℕ) (texts : Texts) (p : Built × Runnable) →
    program_for root n texts ≡ Ok p → HasProgram root n texts p
has-program root n texts p e =
    let b = both (built_over root n texts) (over_build root n) p e in
    let h = both (no_holes b.value) (λ u. runnable n root b.value >>= (λ x. Ok (b.value, x))) p b.later in
    let x = both (runnable n root b.value) (λ x. Ok (b.value, x)) p h.later in
    let pair : (b.value, x.value) ≡ p = cc x.later in
    subst (HasProgram root n texts) pair
    (record { built = b.first; no_hole = h.first; program = x.first })
