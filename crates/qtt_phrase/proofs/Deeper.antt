-- Where more levels may open all is read as before, but where a level was refused; and there it is read further.
use Rattle.std.proofs.Common.{◌≡◌, ℕ, zero, suc, ◌<◌, ◌≤◌, Bool, true, false, cond, ◌&&◌, List, [], ◌∷◌, length, Option, Some, None, refl, ap, subst, arith, inl, inr, ◌⊎◌}
use Rattle.qtt_phrase.specs.Reading.{Kind, Read, Reader, ◌>>=◌, judge, token_at, chain_at, then_at, making_at, begins, either_at, perhaps_at, ended, run_at, all_at, opening_at, placed_at, cap_at}
use Rattle.qtt_phrase.specs.Reading.Kind.{unexpected, too_deep}
use Rattle.qtt_phrase.specs.Reading.Read.{got, bad, over}

-- the tokens that are left
abbrev pub left_of : {T F A : Type 0} → Read T F A → List T
left_of (got a ls) = ls
left_of (bad k ls) = ls
left_of (over f ls) = ls

-- no level was refused
abbrev pub Shallow : {T F A : Type 0} → Read T F A → Type 0
Shallow (got a ls) = Unit {0}
Shallow (bad unexpected ls) = Unit {0}
Shallow (bad too_deep ls) = ⊥
Shallow (over f ls) = Unit {0}

-- a level was refused, and where more may open the token that opens it is read
pub record Further {T F A : Type 0} (r s : Read T F A) : Type 0 where
  pub rest : List T
  pub refused : r ≡ bad too_deep rest
  pub further : length (left_of s) < length rest

abbrev pub SameOr : {T F A : Type 0} → Read T F A → Read T F A → Type 0
SameOr r s = ((r ≡ s) × Shallow r) ⊎ Further r s

pub record Deepens {T F A : Type 0} (p q : Reader T F A) : Type 0 where
  pub at : (ls : List T) → SameOr (p ls) (q ls)
  -- reading adds no token
  pub keeps : (ls : List T) → length (left_of (q ls)) ≤ length ls

bind_keeps : {T F A B : Type 0} (s : Read T F A) (g : A → List T → Read T F B) →
    ((a : A) (ls : List T) → length (left_of (g a ls)) ≤ length ls) →
    length (left_of (s >>= g)) ≤ length (left_of s)
bind_keeps (got a ls) g h = h a ls
bind_keeps (bad k ls) g h = omega arith
bind_keeps (over f ls) g h = omega arith

bind_within : {T F A B : Type 0} (s : Read T F A) (g : A → List T → Read T F B) (n : ℕ) → length (left_of s) ≤ n →
    ((a : A) (ls : List T) → length (left_of (g a ls)) ≤ length ls) → length (left_of (s >>= g)) ≤ n
bind_within s g n h k = omega (arith, h, bind_keeps s g k)

bind_same : {T F A B : Type 0} (r s : Read T F A) (f g : A → List T → Read T F B) → r ≡ s → Shallow r →
    ((a : A) (ls : List T) → SameOr (f a ls) (g a ls)) → SameOr (r >>= f) (s >>= g)
bind_same (got a ls) s f g e sh h = subst (λ (x : Read _ _ _). SameOr (f a ls) (x >>= g)) e (h a ls)
bind_same (bad unexpected ls) s f g e sh h = inl (ap (λ (x : Read _ _ _). x >>= g) e, tt)
bind_same (bad too_deep ls) s f g e sh h = absurd sh
bind_same (over k ls) s f g e sh h = inl (ap (λ (x : Read _ _ _). x >>= g) e, tt)

bind_both : {T F A B : Type 0} (r s : Read T F A) (f g : A → List T → Read T F B) → SameOr r s →
    ((a : A) (ls : List T) → SameOr (f a ls) (g a ls)) →
    ((a : A) (ls : List T) → length (left_of (g a ls)) ≤ length ls) → SameOr (r >>= f) (s >>= g)
bind_both r s f g (inl e) h k = bind_same r s f g e.0 e.1 h
bind_both r s f g (inr d) h k =
    inr (record {
      rest = d.rest;
      refused = ap (λ (x : Read _ _ _). x >>= f) d.refused;
      further = omega (arith, bind_keeps s g k, d.further);
    })

pub chain_deepens : {T F A B : Type 0} {p p2 : Reader T F A} {q q2 : A → Reader T F B} → Deepens p p2 →
    ((a : A) → Deepens (q a) (q2 a)) → Deepens (chain_at p q) (chain_at p2 q2)
chain_deepens {p} {p2} {q} {q2} d e = record {
  at = λ ls. bind_both (p ls) (p2 ls) (λ a r. q a r >>= λ b s. got (a, b) s)
      (λ a r. q2 a r >>= λ b s. got (a, b) s) (d.at ls)
      (λ a r. bind_both (q a r) (q2 a r) (λ b s. got (a, b) s) (λ b s. got (a, b) s) ((e a).at r)
      (λ b s. inl (refl, tt)) (λ b s. omega arith))
      (λ a r. bind_within (q2 a r) (λ b s. got (a, b) s) (length r) ((e a).keeps r) (λ b s. omega arith));
  keeps = λ ls. bind_within (p2 ls) (λ a r. q2 a r >>= λ b s. got (a, b) s) (length ls) (d.keeps ls)
      (λ a r. bind_within (q2 a r) (λ b s. got (a, b) s) (length r) ((e a).keeps r) (λ b s. omega arith));
}

pub then_deepens : {T F A B : Type 0} {p p2 : Reader T F A} {q q2 : Reader T F B} → Deepens p p2 → Deepens q q2 →
    Deepens (then_at p q) (then_at p2 q2)
then_deepens d e = chain_deepens d (λ _. e)

pub making_deepens : {T F A B : Type 0} {p p2 : Reader T F A} (f : A → B) → Deepens p p2 →
    Deepens (making_at f p) (making_at f p2)
making_deepens {p} {p2} f d = record {
  at = λ ls. bind_both (p ls) (p2 ls) (λ a r. got (f a) r) (λ a r. got (f a) r) (d.at ls) (λ a r. inl (refl, tt))
      (λ a r. omega arith);
  keeps = λ ls. bind_within (p2 ls) (λ a r. got (f a) r) (length ls) (d.keeps ls) (λ a r. omega arith);
}

cond_both : {T F A : Type 0} (b : Bool) (x y u v : Read T F A) → SameOr x u → SameOr y v →
    SameOr (cond b x y) (cond b u v)
cond_both true x y u v d e = d
cond_both false x y u v d e = e

cond_keeps : {T F A : Type 0} (b : Bool) (u v : Read T F A) (n : ℕ) → length (left_of u) ≤ n →
    length (left_of v) ≤ n → length (left_of (cond b u v)) ≤ n
cond_keeps true u v n d e = d
cond_keeps false u v n d e = e

pub either_deepens : {T F A : Type 0} {p p2 q q2 : Reader T F A} (test : List T → Bool) → Deepens p p2 →
    Deepens q q2 → Deepens (either_at test p q) (either_at test p2 q2)
either_deepens {p} {p2} {q} {q2} test d e = record {
  at = λ ls. cond_both (test ls) (p ls) (q ls) (p2 ls) (q2 ls) (d.at ls) (e.at ls);
  keeps = λ ls. cond_keeps (test ls) (p2 ls) (q2 ls) (length ls) (d.keeps ls) (e.keeps ls);
}

pub perhaps_deepens : {T F A : Type 0} {p p2 : Reader T F A} (t : T → Bool) (none : A) → Deepens p p2 →
    Deepens (perhaps_at t none p) (perhaps_at t none p2)
perhaps_deepens {p} {p2} t none d = record {
  at = λ ls. cond_both (begins t ls) (p ls) (got none ls) (p2 ls) (got none ls) (d.at ls) (inl (refl, tt));
  keeps = λ ls. cond_keeps (begins t ls) (p2 ls) (got none ls) (length ls) (d.keeps ls) (omega arith);
}

ended_same : {T : Type 0} (F A : Type 0) (b : Bool) (ls : List T) → SameOr (ended {F = F} {A = A} b ls) (ended b ls)
ended_same F A true ls = inl (refl, tt)
ended_same F A false ls = inl (refl, tt)

ended_keeps : {T : Type 0} (F A : Type 0) (b : Bool) (ls : List T) →
    length (left_of (ended {F = F} {A = A} b ls)) ≤ length ls
ended_keeps F A true ls = omega arith
ended_keeps F A false ls = omega arith

module _ {T F A S : Type 0} (ends goes : S → Bool) (next : S → A → S) (test : S → T → Bool)
    (p q : S → Reader T F A) (d : (s : S) → Deepens (p s) (q s)) where
  run_keeps : (n : ℕ) (s : S) (ls : List T) → length (left_of (run_at ends goes next test q n s ls)) ≤ length ls
  run_keeps zero s ls = ended_keeps F A (ends s) ls
  run_keeps (suc n) s ls = cond_keeps (goes s && begins (test s) ls)
      (q s ls >>= λ a r. run_at ends goes next test q n (next s a) r >>= λ b t. got (a ∷ b) t) (ended (ends s) ls)
      (length ls)
      (bind_within (q s ls) (λ a r. run_at ends goes next test q n (next s a) r >>= λ b t. got (a ∷ b) t)
      (length ls) ((d s).keeps ls)
      (λ a r. bind_within (run_at ends goes next test q n (next s a) r) (λ b t. got (a ∷ b) t) (length r)
      (run_keeps n (next s a) r) (λ b t. omega arith)))
      (ended_keeps F A (ends s) ls)

  run_both : (n : ℕ) (s : S) (ls : List T) →
      SameOr (run_at ends goes next test p n s ls) (run_at ends goes next test q n s ls)
  run_both zero s ls = ended_same F A (ends s) ls
  run_both (suc n) s ls = cond_both (goes s && begins (test s) ls)
      (p s ls >>= λ a r. run_at ends goes next test p n (next s a) r >>= λ b t. got (a ∷ b) t) (ended (ends s) ls)
      (q s ls >>= λ a r. run_at ends goes next test q n (next s a) r >>= λ b t. got (a ∷ b) t) (ended (ends s) ls)
      (bind_both (p s ls) (q s ls) (λ a r. run_at ends goes next test p n (next s a) r >>= λ b t. got (a ∷ b) t)
      (λ a r. run_at ends goes next test q n (next s a) r >>= λ b t. got (a ∷ b) t) ((d s).at ls)
      (λ a r. bind_both (run_at ends goes next test p n (next s a) r)
      (run_at ends goes next test q n (next s a) r) (λ b t. got (a ∷ b) t) (λ b t. got (a ∷ b) t)
      (run_both n (next s a) r) (λ b t. inl (refl, tt)) (λ b t. omega arith))
      (λ a r. bind_within (run_at ends goes next test q n (next s a) r) (λ b t. got (a ∷ b) t) (length r)
      (run_keeps n (next s a) r) (λ b t. omega arith)))
      (ended_same F A (ends s) ls)

  pub all_deepens : (s : S) → Deepens (all_at ends goes next test p s) (all_at ends goes next test q s)
  all_deepens s = record { at = λ ls. run_both (length ls) s ls; keeps = λ ls. run_keeps (length ls) s ls }

token_same : {T F A : Type 0} (b : Bool) (o : Option F) (v : A) (x : T) (ls : List T) →
    SameOr (cond b (judge o v ls) (bad unexpected (x ∷ ls))) (cond b (judge o v ls) (bad unexpected (x ∷ ls)))
token_same true None v x ls = inl (refl, tt)
token_same true (Some f) v x ls = inl (refl, tt)
token_same false o v x ls = inl (refl, tt)

token_keeps : {T F A : Type 0} (b : Bool) (o : Option F) (v : A) (x : T) (ls : List T) →
    length (left_of (cond b (judge o v ls) (bad unexpected (x ∷ ls)))) ≤ length (x ∷ ls)
token_keeps true None v x ls = omega arith
token_keeps true (Some f) v x ls = omega arith
token_keeps false o v x ls = omega arith

token_at_same : {T F A : Type 0} (faults : T → Option F) (is : T → Bool) (value : T → A) (ls : List T) →
    SameOr (token_at faults is value ls) (token_at faults is value ls)
token_at_same faults is value [] = inl (refl, tt)
token_at_same faults is value (x ∷ ls) = token_same (is x) (faults x) (value x) x ls

token_at_keeps : {T F A : Type 0} (faults : T → Option F) (is : T → Bool) (value : T → A) (ls : List T) →
    length (left_of (token_at faults is value ls)) ≤ length ls
token_at_keeps faults is value [] = omega arith
token_at_keeps faults is value (x ∷ ls) = token_keeps (is x) (faults x) (value x) x ls

pub token_deepens : {T F A : Type 0} (faults : T → Option F) (is : T → Bool) (value : T → A) →
    Deepens (token_at faults is value) (token_at faults is value)
token_deepens faults is value = record { at = token_at_same faults is value; keeps = token_at_keeps faults is value }

-- ---- a token that opens a level

opening_closed : {T F A B : Type 0} (b : Bool) (v : A) (x : T) (ls : List T) (f g : A → List T → Read T F B) →
    ((a : A) (r : List T) → length (left_of (g a r)) ≤ length r) →
    SameOr (cond {A = Read T F A} b (bad too_deep (x ∷ ls)) (bad unexpected (x ∷ ls)) >>= f)
    (cond {A = Read T F A} b (got v ls) (bad unexpected (x ∷ ls)) >>= g)
opening_closed true v x ls f g h = inr (record { rest = x ∷ ls; refused = refl; further = omega (arith, h v ls) })
opening_closed false v x ls f g h = inl (refl, tt)

opening_same : {T F A : Type 0} (b : Bool) (v : A) (x : T) (ls : List T) →
    SameOr (cond {A = Read T F A} b (got v ls) (bad unexpected (x ∷ ls)))
    (cond b (got v ls) (bad unexpected (x ∷ ls)))
opening_same true v x ls = inl (refl, tt)
opening_same false v x ls = inl (refl, tt)

opening_keeps : {T A : Type 0} (F : Type 0) (b : Bool) (v : A) (x : T) (ls : List T) →
    length (left_of (cond {A = Read T F A} b (got v ls) (bad unexpected (x ∷ ls)))) ≤ length (x ∷ ls)
opening_keeps F true v x ls = omega arith
opening_keeps F false v x ls = omega arith

module _ {T A : Type 0} (F : Type 0) (is : T → Bool) (value : T → A) where
  open_same : (ls : List T) → SameOr (opening_at {F = F} true is value ls) (opening_at true is value ls)
  open_same [] = inl (refl, tt)
  open_same (x ∷ ls) = opening_same (is x) (value x) x ls

  open_keeps : (ls : List T) → length (left_of (opening_at {F = F} true is value ls)) ≤ length ls
  open_keeps [] = omega arith
  open_keeps (x ∷ ls) = opening_keeps F (is x) (value x) x ls

  pub open_deepens : Deepens (opening_at {F = F} true is value) (opening_at true is value)
  open_deepens = record { at = open_same; keeps = open_keeps }

module _ {T F A B : Type 0} (is : T → Bool) (value : T → A) (q q2 : A → Reader T F B) where
  closed_at : ((a : A) (ls : List T) → length (left_of (q2 a ls)) ≤ length ls) →
      (ls : List T) → SameOr (chain_at (opening_at false is value) q ls)
      (chain_at (opening_at true is value) q2 ls)
  closed_at h [] = inl (refl, tt)
  closed_at h (x ∷ ls) = opening_closed (is x) (value x) x ls (λ a r. q a r >>= λ b s. got (a, b) s)
      (λ a r. q2 a r >>= λ b s. got (a, b) s)
      (λ a r. bind_within (q2 a r) (λ b s. got (a, b) s) (length r) (h a r) (λ b s. omega arith))

  -- where no level may open, nothing behind the token is read
  pub closed_deepens : ((a : A) (ls : List T) → length (left_of (q2 a ls)) ≤ length ls) →
      Deepens (chain_at (opening_at false is value) q) (chain_at (opening_at true is value) q2)
  closed_deepens h = record {
    at = closed_at h;
    keeps = λ ls. bind_within (opening_at {F = F} true is value ls) (λ a r. q2 a r >>= λ b s. got (a, b) s)
        (length ls) (open_keeps F is value ls)
        (λ a r. bind_within (q2 a r) (λ b s. got (a, b) s) (length r) (h a r) (λ b s. omega arith));
  }

-- ---- a phrase with its first token's place

module _ {T S F A : Type 0} (place : T → S) (p q : Reader T F A) (d : Deepens p q) where
  placed_same : (ls : List T) → SameOr (placed_at place p ls) (placed_at place q ls)
  placed_same [] = inl (refl, tt)
  placed_same (x ∷ ls) = bind_both (p (x ∷ ls)) (q (x ∷ ls)) (λ a r. got (place x, a) r)
      (λ a r. got (place x, a) r) (d.at (x ∷ ls)) (λ a r. inl (refl, tt)) (λ a r. omega arith)

  placed_keeps : (ls : List T) → length (left_of (placed_at place q ls)) ≤ length ls
  placed_keeps [] = omega arith
  placed_keeps (x ∷ ls) = bind_within (q (x ∷ ls)) (λ a r. got (place x, a) r) (length (x ∷ ls))
      (d.keeps (x ∷ ls)) (λ a r. omega arith)

  pub placed_deepens : Deepens (placed_at place p) (placed_at place q)
  placed_deepens = record { at = placed_same; keeps = placed_keeps }

-- ---- one too many

-- the tokens that begin one too many: more of them where more levels may open
pub record CapGrows {T : Type 0} (is is2 : T → Bool) (kind kind2 : T → Kind) : Type 0 where
  pub more : (x : T) → is x ≡ true → is2 x ≡ true
  pub same : (x : T) → is x ≡ false → kind x ≡ unexpected → (is2 x ≡ false) × (kind2 x ≡ unexpected)
  pub deep : (x : T) → is x ≡ false → kind x ≡ too_deep → is2 x ≡ true

module _ {T F : Type 0} (A : Type 0) (is is2 : T → Bool) (kind kind2 : T → Kind) (fault : T → F)
    (c : CapGrows is is2 kind kind2) where
  cap_same_at : (x : T) (ls : List T) (b : Bool) (k : Kind) → is x ≡ b → kind x ≡ k →
      SameOr (cond {A = Read T F A} b (over (fault x) ls) (bad k (x ∷ ls))) (cap_at is2 kind2 fault (x ∷ ls))
  cap_same_at x ls true k e f = rw (c.more x e) (inl (refl, tt))
  cap_same_at x ls false unexpected e f = rw ((c.same x e f).0, (c.same x e f).1) (inl (refl, tt))
  cap_same_at x ls false too_deep e f =
      rw (c.deep x e f) (inr (record { rest = x ∷ ls; refused = refl; further = omega arith }))

  cap_same : (ls : List T) → SameOr (cap_at {A = A} is kind fault ls) (cap_at is2 kind2 fault ls)
  cap_same [] = inl (refl, tt)
  cap_same (x ∷ ls) = cap_same_at x ls (is x) (kind x) refl refl

  cap_keeps_at : (b : Bool) (x : T) (ls : List T) →
      length (left_of (cond {A = Read T F A} b (over (fault x) ls) (bad (kind2 x) (x ∷ ls)))) ≤ length (x ∷ ls)
  cap_keeps_at true x ls = omega arith
  cap_keeps_at false x ls = omega arith

  cap_keeps : (ls : List T) → length (left_of (cap_at {A = A} is2 kind2 fault ls)) ≤ length ls
  cap_keeps [] = omega arith
  cap_keeps (x ∷ ls) = cap_keeps_at (is2 x) x ls

  pub cap_deepens : Deepens (cap_at {A = A} is kind fault) (cap_at is2 kind2 fault)
  cap_deepens = record { at = cap_same; keeps = cap_keeps }
