-- A full run goes through the evaluation of its term, and on from the value.
use Rattle.std.proofs.Common.{◌≡◌, ℕ, zero, suc, ◌+◌, refl, sym, ◌∙◌, ap, subst, arith, []}
use Rattle.qtt_usage.specs.Uses.{Use}
use Rattle.qtt_term.specs.Term.{Term}
use Rattle.qtt_term.specs.Signature.{Env}
use Rattle.qtt_term.specs.FullStep.{Outcome, full_step}
use Rattle.qtt_term.specs.FullRun as full
use Rattle.qtt_term.specs.FullRun.{Verdict, take_turn, at_end, Run, going, run_on}
use Rattle.qtt_term.specs.Judgement.{Part}
use Rattle.qtt_term.specs.Environment.{WellFormed, Complete}
use Rattle.qtt_preserve.specs.Within.{Has}
use Rattle.qtt_run.specs.Evaluation.{Ending, Evaluation, stopped, continued, evaluated}
use Rattle.qtt_run.specs.CodeRun.{Seen, seen_of}
use Rattle.qtt_run.proofs.Evaluating.{next-typed}

-- what is seen of a full run that stops here
abbrev pub stop : Verdict → ℕ → full.Config → Seen
stop w n c = seen_of (record { verdict = w; count = n; last = at_end w c })

module _ (E : Env) where
  -- a run that ends at this count, where its term was evaluated in so many steps to this ending
  abbrev pub Jumps : ℕ → full.Config → Run → ℕ → Ending → Type 0
  Jumps end c r made (Ending.value t) =
      (rest : ℕ) × (made + rest ≡ end) × (r ≡ run_on rest E made (record c { term = t })) ×
      (full_step E t ≡ Outcome.value)
  Jumps end c r made (Ending.trapped k) = seen_of r ≡ stop (Verdict.trapped k) made c
  Jumps end c r made Ending.going = seen_of r ≡ stop Verdict.running made c
  Jumps end c r made Ending.stuck = Unit {0}

  stopped-jumps : (n : ℕ) (c : full.Config) (o : Outcome) → full_step E c.term ≡ o →
      let x : Evaluation = stopped n c.term o in Jumps (n + 0) c (full.stopped n c (take_turn c o)) x.made x.ending
  stopped-jumps n c Outcome.value e = (0, refl, ap (λ o. full.stopped n c (take_turn c o)) (sym e), e)
  stopped-jumps n c (Outcome.step s) e = refl
  stopped-jumps n c (Outcome.trap k) e = refl
  stopped-jumps n c Outcome.stuck e = tt

  -- the term of the configuration that is left does not matter
  jumps-on : (end d : ℕ) (c : full.Config) (s : Term) (r : Run) (made : ℕ) (x : Ending) → end ≡ d →
      Jumps end (record c { term = s }) r made x → Jumps d c r made x
  jumps-on end d c s r made (Ending.value t) e (rest, p, q, v) = (rest, p ∙ e, q, v)
  jumps-on end d c s r made (Ending.trapped k) e h = h
  jumps-on end d c s r made Ending.going e h = h
  jumps-on end d c s r made Ending.stuck e h = tt

  continued-jumps : (left n : ℕ) (c : full.Config) (o : Outcome) → full_step E c.term ≡ o →
      ((s : Term) → let x : Evaluation = evaluated E left (suc n) s in Jumps (suc n + left) (record c { term = s })
      (run_on left E (suc n) (record c { term = s })) x.made x.ending) →
      let x : Evaluation = continued n c.term o (evaluated E left (suc n)) in Jumps (n + suc left) c
      (going n c (take_turn c o) (run_on left E (suc n))) x.made x.ending
  continued-jumps left n c Outcome.value e next =
      (suc left, refl, ap (λ o. going n c (take_turn c o) (run_on left E (suc n))) (sym e), e)
  continued-jumps left n c (Outcome.step s) e next =
      let x : Evaluation = evaluated E left (suc n) s in
      jumps-on (suc n + left) (n + suc left) c s (run_on left E (suc n) (record c { term = s })) x.made x.ending
      (omega arith) (next s)
  continued-jumps left n c (Outcome.trap k) e next = refl
  continued-jumps left n c Outcome.stuck e next = tt

  jumps : (left n : ℕ) (c : full.Config) → let x : Evaluation =
      evaluated E left n c.term in Jumps (n + left) c (run_on left E n c) x.made x.ending
  jumps zero n c = stopped-jumps n c (full_step E c.term) refl
  jumps (suc left) n c = continued-jumps left n c (full_step E c.term) refl
      (λ s. jumps left (suc n) (record c { term = s }))

  -- ---- an evaluation that is counted from n on
  record Shifted (n : ℕ) (x y : Evaluation) : Type 0 where
    made : x.made ≡ n + y.made
    ending : x.ending ≡ y.ending

  stopped-shifted : (n k j : ℕ) (t : Term) (o : Outcome) → j ≡ n + k → Shifted n (stopped j t o) (stopped k t o)
  stopped-shifted n k j t Outcome.value e = record { made = e; ending = refl }
  stopped-shifted n k j t (Outcome.step s) e = record { made = e; ending = refl }
  stopped-shifted n k j t (Outcome.trap c) e = record { made = e; ending = refl }
  stopped-shifted n k j t Outcome.stuck e = record { made = e; ending = refl }

  continued-shifted : (n k j : ℕ) (t : Term) (o : Outcome) (f g : Term → Evaluation) → j ≡ n + k →
      ((s : Term) → Shifted n (f s) (g s)) →
      Shifted n (continued j t o f) (continued k t o g)
  continued-shifted n k j t Outcome.value f g e next = record { made = e; ending = refl }
  continued-shifted n k j t (Outcome.step s) f g e next = next s
  continued-shifted n k j t (Outcome.trap c) f g e next = record { made = e; ending = refl }
  continued-shifted n k j t Outcome.stuck f g e next = record { made = e; ending = refl }

  shifted : (bound n k j : ℕ) (t : Term) → j ≡ n + k → Shifted n (evaluated E bound j t) (evaluated E bound k t)
  shifted zero n k j t e = stopped-shifted n k j t (full_step E t) e
  shifted (suc bound) n k j t e =
      continued-shifted n k j t (full_step E t) (evaluated E bound (suc j)) (evaluated E bound (suc k)) e
      (λ s. shifted bound n (suc k) (suc j) s (omega (arith, e)))

  pub jump : (left n : ℕ) (c : full.Config) → let x : Evaluation =
      evaluated E left 0 c.term in Jumps (n + left) c (run_on left E n c) (n + x.made) x.ending
  jump left n c =
      let x : Evaluation = evaluated E left 0 c.term in
      let y : Evaluation = evaluated E left n c.term in
      let s : Shifted n y x = shifted left n 0 n c.term (omega arith) in
      subst (Jumps (n + left) c (run_on left E n c) (n + x.made)) s.ending
      (subst (λ m. Jumps (n + left) c (run_on left E n c) m y.ending) s.made (jumps left n c))

-- ---- the value of a typed term has its type
abbrev pub EndsTyped : Env → Term → Use → Ending → Type 0
EndsTyped E A u (Ending.value t) = Has E Part.run [] t A u
EndsTyped E A u _ = Unit {0}

module _ (E : Env) (w : WellFormed E) (whole : Complete E) (A : Term) (u : Use) where
  stopped-typed : (n : ℕ) (t : Term) (o : Outcome) → Has E Part.run [] t A u →
      let x : Evaluation = stopped n t o in EndsTyped E A u x.ending
  stopped-typed n t Outcome.value h = h
  stopped-typed n t (Outcome.step s) h = tt
  stopped-typed n t (Outcome.trap k) h = tt
  stopped-typed n t Outcome.stuck h = tt

  continued-typed : (bound n : ℕ) (t : Term) (o : Outcome) → full_step E t ≡ o → Has E Part.run [] t A u →
      ((s : Term) → Has E Part.run [] s A u →
      let x : Evaluation = evaluated E bound (suc n) s in EndsTyped E A u x.ending) →
      let x : Evaluation = continued n t o (evaluated E bound (suc n)) in EndsTyped E A u x.ending
  continued-typed bound n t Outcome.value e h next = h
  continued-typed bound n t (Outcome.step s) e h next = next s (next-typed E w whole e h)
  continued-typed bound n t (Outcome.trap k) e h next = tt
  continued-typed bound n t Outcome.stuck e h next = tt

  pub ends-typed : (bound n : ℕ) (t : Term) → Has E Part.run [] t A u →
      let x : Evaluation = evaluated E bound n t in EndsTyped E A u x.ending
  ends-typed zero n t h = stopped-typed n t (full_step E t) h
  ends-typed (suc bound) n t h = continued-typed bound n t (full_step E t) refl h (λ s g. ends-typed bound (suc n) s g)
