-- The worked calls.
use Rattle.std.proofs.Common.{◌≡◌, ◌∙◌, ℕ, zero, suc, true, List, [], ◌∷◌, ◌++◌, take, inl, inr, Some, None, Ok, codes, refl, sym, ap, arith}
use Rattle.qtt_term.specs.FullRun.{Event, text_of}
use Rattle.qtt_words.specs.Asked.{Work, Asked, asked}
use Rattle.qtt_run.specs.Front.{Failure, DidFront, DidPartOfLine}
use Rattle.qtt_load.specs.Reading.{Texts}
use Rattle.qtt_outcome.specs.Outcome.{line, puts, usage_line, worked, answered, outcome_of}
use Rattle.qtt_cli.specs.declared.device.Device.{Device}
use Rattle.qtt_cli.specs.declared.device.Device.TheVariants as device
use Rattle.qtt_cli.specs.Parts.{prints, asks_vault, Part, Breaks}
use Rattle.qtt_cli.specs.Answers.{IsTold, Ends, outcome_over}
use Rattle.qtt_cli.specs.Rows.{LineRows, BreakRows, AnswerRows, ended, put_out, two_lines, no_words}
use Rattle.qtt_cli.proofs.Overs.{tells-only}
use Rattle.qtt_cli.proofs.Ended.{Laws, answers-usage}

pub line-rows : LineRows
line-rows = record {
  vault = refl;
  input = refl;
  output = refl;
  tape = refl;
  failed = refl;
  memory = refl;
  no_memory = refl;
  absent = refl;
  not_there = refl;
  division = refl;
  trapped = refl;
  bound = refl;
  running = refl;
  done = refl;
}

-- ---- devices that fail
front-of-text : (texts : Texts) (r : Asked) → prints r.work ≡ true →
    worked texts [] r ≡ Ok (puts (ended (codes "checked Main 1"))) →
    Breaks texts [] r device.Output (put_out (codes "checked"))
front-of-text texts r p w = Part.text p tt w (7, refl) refl

-- the first byte that is put is that of the first line
not-b : (m : ℕ) (bytes : List ℕ) → take m (97 ∷ bytes) ≡ 98 ∷ [] → ⊥
not-b zero bytes e = absurd (cc e)
not-b (suc m) bytes e = absurd (let g : ◌≡◌ {A = ℕ} 97 98 = cc e in omega (arith, g))

first-line-first : DidFront two_lines Failure.sink (put_out (codes "b")) → ⊥
first-line-first d = by d.events d.later d.front d.part
  where
    by : (events later : List Event) → two_lines ≡ events ++ later →
        DidPartOfLine events later (put_out (codes "b")) → ⊥
    by [] later f p =
        let n : Event.line (codes "a") ∷ Event.line (codes "b") ∷ [] ≡ Event.line p.line ∷ p.rest = f ∙ p.next in
        let e : Event.line (codes "a") ≡ Event.line p.line = cc n in
        let l : codes "a" ≡ p.line = cc e in
        let o : Some (98 ∷ []) ≡ Some (take p.bytes (p.line ++ 10 ∷ [])) = p.output in
        let b : 98 ∷ [] ≡ take p.bytes (p.line ++ 10 ∷ []) = cc o in
        not-b p.bytes (10 ∷ []) (ap (λ (l : List ℕ). take p.bytes (l ++ 10 ∷ [])) l ∙ sym b)
    by (x ∷ events) later f p =
        let e : Event.line (codes "a") ≡ x = cc f in
        let t : text_of (x ∷ events) ≡ text_of (Event.line (codes "a") ∷ events) =
        ap (λ (y : Event). text_of (y ∷ events)) (sym e) in
        let o : Some (98 ∷ []) ≡ Some (text_of (x ∷ events) ++ take p.bytes (p.line ++ 10 ∷ [])) = p.output in
        let b : 98 ∷ [] ≡ text_of (x ∷ events) ++ take p.bytes (p.line ++ 10 ∷ []) = cc o in
        let c : 98 ∷ [] ≡ 97 ∷ 10 ∷ (text_of events ++ take p.bytes (p.line ++ 10 ∷ [])) =
        b ∙ ap (λ (bs : List ℕ). bs ++ take p.bytes (p.line ++ 10 ∷ [])) t in
        absurd (let g : ◌≡◌ {A = ℕ} 98 97 = cc c in omega (arith, g))

pub break-rows : BreakRows
break-rows = record {
  front_of_text = front-of-text;
  vault = λ texts r v. (v, record { output = refl; tapes = refl });
  no_vault_is_asked = λ texts r n w d. absurd
      (let g : asks_vault (Work.gen n) ≡ true = ap asks_vault (sym w) ∙ d.0 in cc g);
  not_behind_the_vault = λ texts r d. absurd (let g : Some (codes "a") ≡ Some [] = d.1.output in cc g);
  front_of_run = record {
    events = Event.line (codes "a") ∷ [];
    later = Event.line (codes "b") ∷ [];
    front = refl;
    part = record { line = codes "b"; rest = []; next = refl; bytes = 1; output = refl; tapes = refl };
  };
  first_line_first = first-line-first;
}

-- ---- a call without words
nothing-asked : asked [] ≡ None
nothing-asked = refl

ends-with-usage : (told : List ℕ) (status : ℕ) → Ends (no_words told) status → status ≡ 64
ends-with-usage told status e =
    e.status_is ∙ ap (λ x. (outcome_of (answered e.over.texts e.over.input x)).status) nothing-asked

no-empty-line : (bytes : List ℕ) → [] ≡ line bytes → ⊥
no-empty-line [] e = absurd (cc e)
no-empty-line (b ∷ bytes) e = absurd (cc e)

never-silent : (due : List ℕ) → due ≡ line usage_line → IsTold (no_words []) due → ⊥
never-silent due same (inl t) =
    let h : [] ≡ due = cc t in no-empty-line usage_line (h ∙ same)
never-silent due same (inr f) = f.0

no-device : (d : Device) → (no_words (line usage_line)).seen.failed d → ⊥
no-device device.Vault f = f
no-device device.Input f = f
no-device device.Output f = f
no-device device.Tape f = f

pub answer-rows : Laws → AnswerRows
answer-rows laws = record {
  usage = answers-usage laws (no_words (line usage_line)) 64 nothing-asked
      (tells-only 64 usage_line (put_out []) (λ all e. sym (cc e)) (record { output = refl; tapes = refl })) refl
      (inl refl);
  not_done = λ a.
      let e : 0 ≡ 64 = ends-with-usage [] 0 (a.ends (inl (inl refl))) in absurd (omega (arith, e));
  not_failed = λ a. let f = a.failed refl in no-device f.device f.failed;
  not_silent = λ a.
      let e = a.ends (inr (inr (inl refl))) in
      never-silent (outcome_over (no_words []) e.over).err
      (ap (λ x. (outcome_of (answered e.over.texts e.over.input x)).err) nothing-asked) e.told;
}
