-- What holds of all that a phrase says, where no limit is passed.
use Rattle.std.proofs.Common.{◌≡◌, Bool, true, false, cond, List, [], ◌∷◌, ◌++◌, Option, None, refl, subst, inl, inr, ◌⊎◌}
use Rattle.qtt_base.specs.declared.place.Span.{Span}
use Rattle.qtt_base.specs.declared.limits.Quantity.{Quantity}
use Rattle.qtt_phrase.specs.Phrase.{Weighed, Token, Chain, ◌then◌, Making, ◌or◌, Many, Run, Above, Perhaps, Placed}
use Rattle.qtt_phrase.proofs.Exact.{opens_both}
use Rattle.qtt_grammar.specs.declared.class.Class.{Class}
use Rattle.qtt_grammar.specs.declared.class.Pass.{Pass}
use Rattle.qtt_grammar.specs.declared.stop.Excess.{Excess}
use Rattle.qtt_grammar.specs.declared.lexeme.Lexeme.{Lexeme}
use Rattle.qtt_grammar.specs.Limits.{is_full, one_above}
use Rattle.qtt_grammar.specs.Grammar.{Says, of, place, Opening, Up_to}
use Rattle.qtt_reprint.proofs.Prints.{first_none}

-- it holds of each
abbrev pub Each : {A : Type 0} → (A → Type 0) → List A → Type 0
Each R [] = Unit {0}
Each R (a ∷ more) = R a × Each R more

each_split : {A : Type 0} (R : A → Type 0) (us vs : List A) → Each R (us ++ vs) → Each R us × Each R vs
each_split R [] vs e = (tt, e)
each_split R (u ∷ us) vs e = let s = each_split R us vs e.1 in ((e.0, s.0), s.1)

-- the same along a run
abbrev pub Along : {A S : Type 0} → (S → Bool) → (S → Bool) → (S → A → S) → (S → A → Type 0) → S → List A → Type 0
Along ends goes next R s [] = ends s ≡ true
Along ends goes next R s (a ∷ more) = (goes s ≡ true) × (R s a × Along ends goes next R (next s a) more)

-- R holds of each value that fair tokens say
pub record Gives (Fair : Lexeme → Type 0) {A : Type 0} (P : Says A) (R : A → Type 0) : Type 0 where
  pub at : (ls : List Lexeme) (a : A) → Each Fair ls → P ls a None → R a

module _ {Fair : Lexeme → Type 0} where
  pub weighed_gives : {A : Type 0} {R : A → Type 0} (faults : Lexeme → Option Excess) (is : Lexeme → Bool)
      (value : Lexeme → A) → ((x : Lexeme) → Fair x → is x ≡ true → faults x ≡ None → R (value x)) →
      Gives Fair (Weighed faults is value) R
  weighed_gives {R} faults is value f = record { at = λ ls a fair d. weighed_at ls a fair d }
    where
      weighed_at : (ls : List Lexeme) (a : _) → Each Fair ls → Weighed faults is value ls a None → R a
      weighed_at ls a fair (x, alone, e, v, o) = subst R v (f x ((subst (Each Fair) alone fair).0) e o)

  pub token_gives : {A : Type 0} {R : A → Type 0} (is : Lexeme → Bool) (value : Lexeme → A) →
      ((x : Lexeme) → Fair x → is x ≡ true → R (value x)) → Gives Fair (Token is value) R
  token_gives is value f = weighed_gives (λ _. None) is value (λ x g e o. f x g e)

  chain_at : {A B : Type 0} {R : A → Type 0} {S : A → B → Type 0} (P : Says A) (Q : A → Says B) → Gives Fair P R →
      ((a : A) → R a → Gives Fair (Q a) (S a)) → (ls : List Lexeme) (c : A × B) → Each Fair ls →
      Chain P Q ls c None → R c.0 × S c.0 c.1
  chain_at P Q p q ls c fair (us, vs, o, r, parts, m, n, none) =
      let both = first_none o r none in
      let halves = each_split Fair us vs (subst (Each Fair) parts fair) in
      let first : _ = p.at us c.0 halves.0 (subst (λ (x : Option Excess). P us c.0 x) both.0 m) in
      (first, (q c.0 first).at vs c.1 halves.1 (subst (λ (x : Option Excess). Q c.0 vs c.1 x) both.1 n))

  pub chain_gives : {A B : Type 0} {R : A → Type 0} {S : A → B → Type 0} {P : Says A} (Q : A → Says B) →
      Gives Fair P R → ((a : A) → R a → Gives Fair (Q a) (S a)) → Gives Fair (Chain P Q) (λ c. R c.0 × S c.0 c.1)
  chain_gives {P} Q p q = record { at = λ ls c fair d. chain_at P Q p q ls c fair d }

  infixr 6 ◌then_gives◌
  pub ◌then_gives◌ : {A B : Type 0} {R : A → Type 0} {S : B → Type 0} {P : Says A} {Q : Says B} → Gives Fair P R →
      Gives Fair Q S → Gives Fair (P then Q) (λ c. R c.0 × S c.1)
  ◌then_gives◌ {Q} p q = chain_gives (λ _. Q) p (λ a r. q)

  pub made_gives : {A B : Type 0} {R : A → Type 0} {S : B → Type 0} {P : Says A} (f : A → B) → Gives Fair P R →
      ((a : A) → R a → S (f a)) → Gives Fair (Making f P) S
  made_gives {S} f p g = record { at = λ ls b fair d. subst S d.2 (g d.0 (p.at ls d.0 fair d.1)) }

  either_at : {A : Type 0} (P Q : Says A) (R : A → Type 0) → Gives Fair P R → Gives Fair Q R →
      (ls : List Lexeme) (a : A) → Each Fair ls → P ls a None ⊎ Q ls a None → R a
  either_at P Q R p q ls a fair (inl d) = p.at ls a fair d
  either_at P Q R p q ls a fair (inr d) = q.at ls a fair d

  infixr 4 ◌or_gives◌
  pub ◌or_gives◌ : {A : Type 0} {R : A → Type 0} {P Q : Says A} → Gives Fair P R → Gives Fair Q R →
      Gives Fair (P or Q) R
  ◌or_gives◌ {R} {P} {Q} p q = record { at = λ ls a fair d. either_at P Q R p q ls a fair d }

  many_at : {A : Type 0} (P : Says A) (R : A → Type 0) → Gives Fair P R →
      (ls : List Lexeme) (l : List A) → Each Fair ls → Many P ls l None → Each R l
  many_at P R p ls [] fair d = tt
  many_at P R p ls (a ∷ l) fair (us, vs, o, r, parts, m, n, none) =
      let both = first_none o r none in
      let halves = each_split Fair us vs (subst (Each Fair) parts fair) in (
        p.at us a halves.0 (subst (λ (x : Option Excess). P us a x) both.0 m),
        many_at P R p vs l halves.1 (subst (λ (x : Option Excess). Many P vs l x) both.1 n),
      )

  pub many_gives : {A : Type 0} {R : A → Type 0} {P : Says A} → Gives Fair P R → Gives Fair (Many P) (Each R)
  many_gives {R} {P} p = record { at = λ ls l fair d. many_at P R p ls l fair d }

  run_at : {A S : Type 0} (ends goes : S → Bool) (next : S → A → S) (P : S → Says A) (R : S → A → Type 0) →
      ((s : S) → Gives Fair (P s) (R s)) → (s : S) (ls : List Lexeme) (l : List A) → Each Fair ls →
      Run ends goes next P s ls l None → Along ends goes next R s l
  run_at ends goes next P R p s ls [] fair d = d.1
  run_at ends goes next P R p s ls (a ∷ l) fair (us, vs, o, r, parts, g, m, n, none) =
      let both = first_none o r none in
      let halves = each_split Fair us vs (subst (Each Fair) parts fair) in (
        g,
        (
          (p s).at us a halves.0 (subst (λ (x : Option Excess). P s us a x) both.0 m),
          run_at ends goes next P R p (next s a) vs l halves.1
              (subst (λ (x : Option Excess). Run ends goes next P (next s a) vs l x) both.1 n),
        ),
      )

  pub run_gives : {A S : Type 0} (ends goes : S → Bool) (next : S → A → S) (P : S → Says A) (R : S → A → Type 0) →
      ((s : S) → Gives Fair (P s) (R s)) →
      (s : S) → Gives Fair (Run ends goes next P s) (Along ends goes next R s)
  run_gives ends goes next P R p s = record { at = λ ls l fair d. run_at ends goes next P R p s ls l fair d }

  perhaps_at : {A : Type 0} (P : Says A) (R : A → Type 0) (none : A) → R none → Gives Fair P R →
      (ls : List Lexeme) (a : A) → Each Fair ls → Perhaps none P ls a None → R a
  perhaps_at P R none r p ls a fair (inl d) = subst R d.1 r
  perhaps_at P R none r p ls a fair (inr d) = p.at ls a fair d

  pub perhaps_gives : {A : Type 0} {R : A → Type 0} {P : Says A} (none : A) → R none → Gives Fair P R →
      Gives Fair (Perhaps none P) R
  perhaps_gives {R} {P} none r p = record { at = λ ls a fair d. perhaps_at P R none r p ls a fair d }

  placed_at : {A : Type 0} (P : Says A) (R : A → Type 0) → Gives Fair P R →
      (ls : List Lexeme) (c : Span × A) → Each Fair ls → Placed place P ls c None → R c.1
  placed_at P R p ls c fair (x, r, parts, e, d) = p.at ls c.1 fair d

  pub placed_gives : {A : Type 0} {R : A → Type 0} {P : Says A} → Gives Fair P R →
      Gives Fair (Placed place P) (λ c. R c.1)
  placed_gives {R} {P} p = record { at = λ ls c fair d. placed_at P R p ls c fair d }

  pub wider_gives : {A : Type 0} {R S : A → Type 0} {P : Says A} → ((a : A) → R a → S a) → Gives Fair P R →
      Gives Fair P S
  wider_gives f p = record { at = λ ls a fair d. f a (p.at ls a fair d) }

  -- where a level opens, one may
  opened_at : {B : Type 0} (may : Bool) (is : Class → Bool) (Q : Says B) (S : B → Type 0) →
      (may ≡ true → Gives Fair Q S) → (ls : List Lexeme) (c : Span × B) → Each Fair ls →
      (Opening may is then Q) ls c None → S c.1
  opened_at may is Q S q ls c fair (us, vs, o, r, parts, (x, alone, e, v, w), n, none) =
      let both = first_none o r none in
      let halves = each_split Fair us vs (subst (Each Fair) parts fair) in
      (q (opens_both may (of is x) e).0).at vs c.1 halves.1 (subst (λ (y : Option Excess). Q vs c.1 y) both.1 n)

  pub opened_gives : {B : Type 0} {S : B → Type 0} {Q : Says B} (may : Bool) (is : Class → Bool) →
      (may ≡ true → Gives Fair Q S) → Gives Fair (Opening may is then Q) (λ c. S c.1)
  opened_gives {S} {Q} may is q = record { at = λ ls c fair d. opened_at may is Q S q ls c fair d }

  limited : {A : Type 0} (P : Says A) (R : A → Type 0) (fault : Lexeme → Excess) (b : Bool) → Gives Fair P R →
      (ls : List Lexeme) (a : A) → Each Fair ls → cond b (Above fault P) P ls a None → (b ≡ false) × R a
  limited P R fault true p ls a fair (x, r, o, parts, d, e) = absurd cc
  limited P R fault false p ls a fair d = (refl, p.at ls a fair d)

  pub up_to_gives : {A : Type 0} {R : A → Type 0} {P : Says A} (pass : Pass) (q : Quantity) (n : _) →
      Gives Fair P R → Gives Fair (Up_to pass q n P) (λ a. (is_full pass q n ≡ false) × R a)
  up_to_gives {R} {P} pass q n p =
      record { at = λ ls a fair d. limited P R (λ x. one_above q x.place) (is_full pass q n) p ls a fair d }
