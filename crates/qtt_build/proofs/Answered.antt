-- The modules of a rank are accepted, or the first refusal is told.
use Rattle.std.proofs.Common.{◌≡◌, ◌⊎◌, inl, inr, List, [], ◌∷◌, map, Ok, Err, refl, sym, ap, ◌∙◌, subst}
use Rattle.std.specs.Prelude.{Result, IfOk, IfErr, Vec}
use Rattle.std.specs.Global.{Global}
use Rattle.qtt_jobs.specs.Answered.{Answered, Stopped}
use Rattle.qtt_module.specs.declared.checked.Checked.{Checked}
use Rattle.qtt_module.specs.declared.errors.ModuleError.{ModuleError}
use Rattle.qtt_module.specs.declared.errors.ModuleError.TheVariants as error
use Rattle.qtt_module.specs.Refused.{Refused, refused_of, Answer, ◌>>=◌}
use Rattle.qtt_module.specs.Answer.{Gives}
use Rattle.qtt_module.specs.Text.{Accepted}
use Rattle.qtt_build.specs.Built.{all_accepted}
use Rattle.qtt_module.specs.TextCalls.{accepted_of}
use Rattle.qtt_build.specs.Answer.{accepted_list}

abbrev then_one : Accepted → List Accepted → Answer (List Accepted)
then_one A As = Ok (A ∷ As)

one-more : (A : Accepted) (As : List Accepted) (a : Answer Accepted) (more : List (Answer Accepted)) → a ≡ Ok A →
    all_accepted more ≡ Ok As → all_accepted (a ∷ more) ≡ Ok (A ∷ As)
unfolding all_accepted ◌>>=◌
one-more A As a more e h =
    ap (λ b. all_accepted (b ∷ more)) e ∙ ap (λ m. m >>= then_one A) h

one-refused : (r : Refused) (a : Answer Accepted) (more : List (Answer Accepted)) → a ≡ Err r →
    all_accepted (a ∷ more) ≡ Err r
unfolding all_accepted ◌>>=◌
one-refused r a more e = ap (λ b. all_accepted (b ∷ more)) e

later-refused : (r : Refused) (A : Accepted) (a : Answer Accepted) (more : List (Answer Accepted)) → a ≡ Ok A →
    all_accepted more ≡ Err r → all_accepted (a ∷ more) ≡ Err r
unfolding all_accepted ◌>>=◌
later-refused r A a more e h =
    ap (λ b. all_accepted (b ∷ more)) e ∙ ap (λ m. m >>= then_one A) h

-- the error is want of memory, or the refusal of all of them
abbrev pub TellsFirst : ModuleError → List (Answer Accepted) → Type 0
TellsFirst (error.Refused r) answers = all_accepted answers ≡ Err (refused_of r)
TellsFirst error.Memory answers = Unit {0}

-- what a job may be answered
module _ {J : Type 0} (wanted : J → Answer Accepted) where
  abbrev pub Says : J → Result Checked ModuleError → Type 0
  Says j r = Gives accepted_of r (wanted j)

  all-taken : (js : List J) (xs : List Checked) → Answered Says js xs →
      all_accepted (map wanted js) ≡ Ok (map accepted_of xs)
  unfolding all_accepted
  all-taken [] [] h = refl
  all-taken [] (x ∷ xs) h = absurd h
  all-taken (j ∷ js) [] h = absurd h
  all-taken (j ∷ js) (x ∷ xs) h =
      one-more (accepted_of x) (map accepted_of xs) (wanted j) (map wanted js) h.0 (all-taken js xs h.1)

  first-told : (js : List J) (e : ModuleError) → Stopped Says js e → TellsFirst e (map wanted js)
  first-told [] e h = absurd h
  first-told (j ∷ js) error.Memory h = tt
  first-told (j ∷ js) (error.Refused r) (inl h) = one-refused (refused_of r) (wanted j) (map wanted js) h
  first-told (j ∷ js) (error.Refused r) (inr h) =
      later-refused (refused_of r) (accepted_of h.0) (wanted j) (map wanted js) h.1
      (first-told js (error.Refused r) h.2)

  told : {M : Type 0} (js : List J) (e : ModuleError) → ((m : M) × (e ≡ error.Memory)) ⊎ Stopped Says js e →
      TellsFirst e (map wanted js)
  told js e (inl m) = subst (λ x. TellsFirst x (map wanted js)) (sym m.1) tt
  told js e (inr s) = first-told js e s

  pub gives-told : (M : Type 0) (r : Result (Vec Checked Global) ModuleError) (js : List J) →
      IfOk r (λ v. Answered Says js v.items) → IfErr r (λ e. ((m : M) × (e ≡ error.Memory)) ⊎ Stopped Says js e) →
      Gives accepted_list r (all_accepted (map wanted js))
  gives-told M (Ok v) js h s = all-taken js v.items h
  gives-told M (Err e) js h s = by_error e (told js e s)
    where
      by_error : (e : ModuleError) → TellsFirst e (map wanted js) →
          Gives accepted_list (Err e) (all_accepted (map wanted js))
      by_error error.Memory t = tt
      by_error (error.Refused r) t = t
