-- Words that a phrase says, wherever they stand.
use Rattle.std.proofs.Common.{◌≡◌, Bool, true, List, [], ◌∷◌, ◌++◌, map, Option, Some, None, refl, sym, ap, ◌∙◌, append_assoc, inl, inr}
use Rattle.qtt_base.specs.declared.place.Span.{Span}
use Rattle.qtt_phrase.specs.Phrase.{Weighed, Token, Chain, ◌then◌, Making, ◌or◌, Many, Run, Perhaps, Placed, first}
use Rattle.qtt_grammar.specs.declared.class.Class.{Class}
use Rattle.qtt_grammar.specs.declared.stop.Excess.{Excess}
use Rattle.qtt_grammar.specs.declared.lexeme.Lexeme.{Lexeme}
use Rattle.qtt_reprint.specs.Sketch.{unplaced}
use Rattle.qtt_grammar.specs.Grammar.{Says, of, place}

-- the phrase says something of which R holds, by these words at any places, and no limit is passed
pub record Prints {A : Type 0} (P : Says A) (ws : List Lexeme) (R : A → Type 0) : Type 0 where
  pub at : (ls : List Lexeme) → map unplaced ls ≡ ws → (a : A) × P ls a None × R a

-- ---- lists of words

pub record Splits (us vs ls : List Lexeme) : Type 0 where
  pub front : List Lexeme
  pub back : List Lexeme
  pub parts : ls ≡ front ++ back
  pub left : map unplaced front ≡ us
  pub right : map unplaced back ≡ vs

split_more : (x : Lexeme) (u : Lexeme) (us vs ls : List Lexeme) → unplaced x ≡ u → Splits us vs ls →
    Splits (u ∷ us) vs (x ∷ ls)
split_more x u us vs ls e s = record {
  front = x ∷ s.front;
  back = s.back;
  parts = ap (λ (l : List Lexeme). x ∷ l) s.parts;
  left = let f = s.left in cc;
  right = s.right;
}

split : (us vs ls : List Lexeme) → map unplaced ls ≡ us ++ vs → Splits us vs ls
split [] vs ls e = record { front = []; back = ls; parts = refl; left = refl; right = e }
split (u ∷ us) vs [] e = absurd cc
split (u ∷ us) vs (x ∷ ls) e = split_more x u us vs ls (let h = e in cc) (split us vs ls (let h = e in cc))

pub record Single (w : Lexeme) (ls : List Lexeme) : Type 0 where
  pub token : Lexeme
  pub alone : ls ≡ token ∷ []
  pub is : unplaced token ≡ w

single : (w : Lexeme) (ls : List Lexeme) → map unplaced ls ≡ w ∷ [] → Single w ls
single w [] e = absurd cc
single w (x ∷ []) e = record { token = x; alone = refl; is = let h = e in cc }
single w (x ∷ y ∷ ls) e = absurd cc

empty : (ls : List Lexeme) → map unplaced ls ≡ [] → ls ≡ []
empty [] e = refl
empty (x ∷ ls) e = absurd cc

-- ---- phrases

module _ {A : Type 0} {P : Says A} where
  pub words_are : {us vs : List Lexeme} {R : A → Type 0} → us ≡ vs → Prints P us R → Prints P vs R
  words_are e p = record { at = λ ls f. p.at ls (f ∙ sym e) }

  pub value_is : {ws : List Lexeme} {R S : A → Type 0} → ((a : A) → R a → S a) → Prints P ws R → Prints P ws S
  value_is f p = record { at = λ ls e. let g = p.at ls e in (g.0, g.1, f g.0 g.2) }

pub weighed : {A : Type 0} {R : A → Type 0} (faults : Lexeme → Option Excess) (is : Class → Bool)
    (value : Lexeme → A) (w : Lexeme) → is w.class ≡ true →
    ((x : Lexeme) → unplaced x ≡ w → (faults x ≡ None) × R (value x)) →
    Prints (Weighed faults (of is) value) (w ∷ []) R
weighed faults is value w e f =
    record {
      at = λ ls h. let s = single w ls h in let g = f s.token s.is in
          (value s.token, (s.token, s.alone, ap (λ (x : Lexeme). is x.class) s.is ∙ e, refl, g.0), g.1);
    }

pub token : {A : Type 0} {R : A → Type 0} (is : Class → Bool) (value : Lexeme → A) (w : Lexeme) →
    is w.class ≡ true → ((x : Lexeme) → unplaced x ≡ w → R (value x)) → Prints (Token (of is) value) (w ∷ []) R
token is value w e f = weighed (λ _. None) is value w e (λ x h. (refl, f x h))

pub chain : {A B : Type 0} {P : Says A} {Q : A → Says B} {us vs : List Lexeme} {R : A → Type 0}
    {S : A → B → Type 0} → Prints P us R → ((a : A) → R a → Prints (Q a) vs (S a)) →
    Prints (Chain P Q) (us ++ vs) (λ c. R c.0 × S c.0 c.1)
chain {us} {vs} p q = record {
  at = λ ls e.
      let s = split us vs ls e in
      let a = p.at s.front s.left in
      let b = (q a.0 a.2).at s.back s.right in
      ((a.0, b.0), (s.front, s.back, None, None, s.parts, a.1, b.1, refl), (a.2, b.2));
}

infixr 6 ◌then_prints◌
pub ◌then_prints◌ : {A B : Type 0} {P : Says A} {Q : Says B} {us vs : List Lexeme} {R : A → Type 0}
    {S : B → Type 0} → Prints P us R → Prints Q vs S → Prints (P then Q) (us ++ vs) (λ c. R c.0 × S c.1)
p then_prints q = chain p (λ a r. q)

pub made : {A B : Type 0} {P : Says A} {ws : List Lexeme} {R : A → Type 0} {S : B → Type 0} (f : A → B) →
    Prints P ws R → ((a : A) → R a → S (f a)) → Prints (Making f P) ws S
made f p g = record { at = λ ls e. let a = p.at ls e in (f a.0, (a.0, a.1, refl), g a.0 a.2) }

module _ {A : Type 0} {P Q : Says A} {ws : List Lexeme} {R : A → Type 0} where
  pub first_of : Prints P ws R → Prints (P or Q) ws R
  first_of p = record { at = λ ls e. let a = p.at ls e in (a.0, inl a.1, a.2) }

  pub second_of : Prints Q ws R → Prints (P or Q) ws R
  second_of p = record { at = λ ls e. let a = p.at ls e in (a.0, inr a.1, a.2) }

module _ {A : Type 0} {P : Says A} where
  pub many_none : {R : List A → Type 0} → R [] → Prints (Many P) [] R
  many_none r = record { at = λ ls e. ([], (empty ls e, refl), r) }

  pub many_more : {us vs : List Lexeme} {R : A → Type 0} {S T : List A → Type 0} → Prints P us R →
      Prints (Many P) vs S → ((a : A) (more : List A) → R a → S more → T (a ∷ more)) →
      Prints (Many P) (us ++ vs) T
  many_more {us} {vs} p q f = record {
    at = λ ls e.
        let s = split us vs ls e in
        let a = p.at s.front s.left in
        let b = q.at s.back s.right in
        (a.0 ∷ b.0, (s.front, s.back, None, None, s.parts, a.1, b.1, refl), f a.0 b.0 a.2 b.2);
  }

  pub nothing : {R : A → Type 0} (none : A) → R none → Prints (Perhaps none P) [] R
  nothing none r = record { at = λ ls e. (none, inl (empty ls e, refl, refl), r) }

  pub something : {ws : List Lexeme} {R : A → Type 0} {none : A} → Prints P ws R → Prints (Perhaps none P) ws R
  something p = record { at = λ ls e. let a = p.at ls e in (a.0, inr a.1, a.2) }

module _ {A S : Type 0} {ends goes : S → Bool} {next : S → A → S} {P : S → Says A} where
  pub run_none : {R : List A → Type 0} (s : S) → ends s ≡ true → R [] → Prints (Run ends goes next P s) [] R
  run_none s h r = record { at = λ ls e. ([], (empty ls e, h, refl), r) }

  pub run_more : {us vs : List Lexeme} {R : A → Type 0} {T : A → List A → Type 0} {U : List A → Type 0} (s : S) →
      goes s ≡ true → Prints (P s) us R → ((a : A) → R a → Prints (Run ends goes next P (next s a)) vs (T a)) →
      ((a : A) (more : List A) → R a → T a more → U (a ∷ more)) → Prints (Run ends goes next P s) (us ++ vs) U
  run_more {us} {vs} s h p q f = record {
    at = λ ls e.
        let t = split us vs ls e in
        let a = p.at t.front t.left in
        let b = (q a.0 a.2).at t.back t.right in
        (a.0 ∷ b.0, (t.front, t.back, None, None, t.parts, h, a.1, b.1, refl), f a.0 b.0 a.2 b.2);
  }

placed_at : {A : Type 0} (P : Says A) (R : A → Type 0) (w : Lexeme) (ws ls : List Lexeme) →
    map unplaced ls ≡ w ∷ ws → (a : A) → P ls a None → R a → (c : Span × A) × Placed place P ls c None × R c.1
placed_at P R w ws [] e a p r = absurd cc
placed_at P R w ws (x ∷ ls) e a p r = ((x.place, a), (x, ls, refl, refl, p), r)

-- a phrase with the place of its first token
pub placed : {A : Type 0} {P : Says A} {R : A → Type 0} {w : Lexeme} {ws : List Lexeme} → Prints P (w ∷ ws) R →
    Prints (Placed place P) (w ∷ ws) (λ c. R c.1)
placed {P} {R} {w} {ws} p = record { at = λ ls e. let a = p.at ls e in placed_at P R w ws ls e a.0 a.1 a.2 }

-- neither of two parts has a fault
pub first_none : {F : Type 0} (p q : Option F) → first p q ≡ None → (p ≡ None) × (q ≡ None)
first_none None q e = (refl, e)
first_none (Some f) q e = absurd cc

then_more : {A B : Type 0} (P : Says A) (Q : Says B) (front back ls : List Lexeme) (a : A) (c : List A × B) →
    ls ≡ front ++ back → P front a None → (Many P then Q) back c None → (Many P then Q) ls (a ∷ c.0, c.1) None
then_more P Q front back ls a c parts m (ws, xs, o, q, apart, n, k, none) =
    let both = first_none o q none in (
      front ++ ws,
      xs,
      o,
      q,
      parts ∙ ap (λ (v : List Lexeme). front ++ v) apart ∙ sym (append_assoc front ws xs),
      (front, ws, None, o, refl, m, n, refl),
      k,
      none,
    )

-- one more of the many that stand before another phrase
pub many_then_more : {A B : Type 0} {R : A → Type 0} {us vs : List Lexeme} (P : Says A) (Q : Says B)
    (S T : List A × B → Type 0) → Prints P us R → Prints (Many P then Q) vs S →
    ((a : A) (c : List A × B) → R a → S c → T (a ∷ c.0, c.1)) → Prints (Many P then Q) (us ++ vs) T
many_then_more {us} {vs} P Q S T p q f = record {
  at = λ ls e.
      let s = split us vs ls e in
      let a = p.at s.front s.left in
      let b = q.at s.back s.right in
      ((a.0 ∷ b.0.0, b.0.1), then_more P Q s.front s.back ls a.0 b.0 s.parts a.1 b.1, f a.0 b.0 a.2 b.2);
}
