-- What is found where a type is found, and where one is given.
use Rattle.std.proofs.Common.{◌≡◌, ℕ, Result, refl, sym, ap, subst, ◌∙◌}
use mathlib.Core.Path.{ap₂, fun_ext}
use Rattle.qtt_base.specs.declared.place.Span.{Span}
use Rattle.qtt_term.specs.Term.{Term}
use Rattle.qtt_term.specs.Signature.{Env}
use Rattle.qtt_term.specs.Scope.{Scope, depth}
use Rattle.qtt_term.specs.Ask.{Ask, ◌>>=◌}
use Rattle.qtt_term.specs.declared.rule.Rule.TheVariants as rule
use Rattle.qtt_core_check.proofs.Continuing.{bind-done, bind-along}
use Rattle.qtt_rules.specs.declared.errors.ElabError.{ElabError}
use Rattle.qtt_rules.specs.Refusal.{at}
use Rattle.qtt_rules.specs.Asks.{Asks, agree}
use Rattle.qtt_rules.specs.Judged.{Judged, judged, Mode}
use Rattle.qtt_bidi.specs.Answers.{Reaches, Refuses, Gives}
use Rattle.qtt_bidi.specs.Elaboration.{switched}
use Rattle.qtt_bidi.proofs.Within.{on, on_done, here, tail, same, same-answer, same-refusal}

pub bind-back : {F P A : Type 0} (m : Ask F P A) → m >>= (λ a. Ask.done a) ≡ m
unfolding ◌>>=◌
bind-back (Ask.done a) = refl
bind-back (Ask.fail f) = refl
bind-back (Ask.head p d t g) = ap (Ask.head p d t) (fun_ext λ h. bind-back (g h))
bind-back (Ask.read p d t g) = ap (Ask.read p d t) (fun_ext λ r. bind-back (g r))
bind-back (Ask.compare p d t s m w) = ap₂ (Ask.compare p d t s) (bind-back m) (bind-back w)

pub switched-then : (S : Scope) (m : Mode) (s : Span) (x : Asks Judged) →
    switched S m s x ≡ x >>= (λ j. switched S m s (Ask.done j))
switched-then S Mode.synth s x = sym (bind-back x)
switched-then S (Mode.check A) s x =
    bind-along x _ _ (λ j. sym (bind-done j
    (λ j. agree (depth S) j.type A (at s rule.Switch 2) >>= (λ u. Ask.done (judged A j.core j.uses)))))

module _ (E : Env) (n : ℕ) (S : Scope) (m : Mode) (s : Span) (x : Asks Judged) where
  pub switch-refused : (e : ElabError) → Refuses E n x e → Refuses E n (switched S m s x) e
  switch-refused e h =
      same-refusal E n (x >>= (λ j. switched S m s (Ask.done j))) (switched S m s x) e (switched-then S m s x)
      (here E n x (λ j. switched S m s (Ask.done j)) e h)

  pub switch-gives : {X : Type 0} (view : X → Judged) (r : Result X ElabError) {j : Judged} →
      Reaches E n x j → Gives E n (switched S m s (Ask.done j)) view r → Gives E n (switched S m s x) view r
  switch-gives view r h f =
      same E n (x >>= (λ j. switched S m s (Ask.done j))) (switched S m s x) view r (switched-then S m s x)
      (tail E n x (λ j. switched S m s (Ask.done j)) view r h f)

-- ---- an answer that is there
abbrev agreeing : Scope → Span → Term → Judged → Asks Judged
agreeing S s A j = agree (depth S) j.type A (at s rule.Switch 2) >>= (λ u. Ask.done (judged A j.core j.uses))

checking : (S : Scope) (s : Span) (m : Mode) (j : Judged) (A : Term) → m ≡ Mode.check A →
    switched S m s (Ask.done j) ≡ agreeing S s A j
checking S s m j A e = ap (λ m. switched S m s (Ask.done j)) e ∙ bind-done j (λ j. agreeing S s A j)

pub switch-synth : {E : Env} {n : ℕ} (S : Scope) (s : Span) (m : Mode) (j : Judged) → m ≡ Mode.synth →
    Reaches E n (switched S m s (Ask.done j)) j
switch-synth {E} {n} S s m j e = subst (λ m. Reaches E n (switched S m s (Ask.done j)) j) (sym e) on_done

pub switch-differs : (E : Env) (n : ℕ) (S : Scope) (s : Span) (m : Mode) (j : Judged) (A : Term) →
    m ≡ Mode.check A → (r : ElabError) →
    Refuses E n (agree (depth S) j.type A (at s rule.Switch 2)) r → Refuses E n (switched S m s (Ask.done j)) r
switch-differs E n S s m j A e r h =
    same-refusal E n (agreeing S s A j) (switched S m s (Ask.done j)) r (checking S s m j A e)
    (here E n (agree (depth S) j.type A (at s rule.Switch 2)) (λ u. Ask.done (judged A j.core j.uses)) r h)

pub switch-agrees : {E : Env} {n : ℕ} (S : Scope) (s : Span) (m : Mode) (j : Judged) (A : Term) →
    m ≡ Mode.check A →
    Reaches E n (agree (depth S) j.type A (at s rule.Switch 2)) tt →
    Reaches E n (switched S m s (Ask.done j)) (judged A j.core j.uses)
switch-agrees S s m j A e h =
    same-answer (agreeing S s A j) (switched S m s (Ask.done j)) _ (checking S s m j A e)
    (on (λ u. Ask.done (judged A j.core j.uses)) h on_done)
