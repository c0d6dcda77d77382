-- Readers that are exact for their phrases: a choice by the first token, perhaps a phrase, places, and levels.
use Rattle.std.proofs.Common.{◌≡◌, Bool, true, false, cond, List, [], ◌∷◌, ◌++◌, Option, Some, None, refl, sym, ap, subst, ◌∙◌, append_assoc, inl, inr}
use Rattle.qtt_phrase.specs.Phrase.{Phrase, Weighed, Token, Chain, Making, ◌or◌, Above, Perhaps, Placed, first, opens}
use Rattle.qtt_phrase.specs.Reading.{Kind, Read, Reader, ◌>>=◌, begins, perhaps_at, opening_at, placed_at, cap_at}
use Rattle.qtt_phrase.specs.Reading.Kind.{unexpected, too_deep}
use Rattle.qtt_phrase.specs.Reading.Read.{got, bad, over}
use Rattle.qtt_phrase.proofs.Chained.{Stops, Judged, Splits, Stuck, Started, Passed, Exact, judged_is, judged_read, bind_got, bind_bad, bind_over, nothing, Choice, chosen}

-- ---- a choice by the first token

-- what begins a phrase is what begins it with other tokens behind
pub same_start : {T : Type 0} (t : T → Bool) (us : List T) (x : T) (r s : List T) →
    begins t (us ++ x ∷ r) ≡ begins t (us ++ x ∷ s)
same_start t [] x r s = refl
same_start t (u ∷ us) x r s = refl

-- the tokens with which a phrase begins
pub record Begins {T F A : Type 0} (P : Phrase T F A) (t : T → Bool) : Type 0 where
  pub at : (us rest : List T) (a : A) (o : Option F) → P us a o → begins t (us ++ rest) ≡ true

-- no token is of both kinds
abbrev pub Apart : {T : Type 0} → (T → Bool) → (T → Bool) → Type 0
Apart t u = (x : _) → u x ≡ true → t x ≡ false

-- each token of the one kind is of the other
abbrev pub Among : {T : Type 0} → (T → Bool) → (T → Bool) → Type 0
Among t u = (x : _) → t x ≡ true → u x ≡ true

pub begins_apart : {T : Type 0} (t u : T → Bool) (ls : List T) → Apart t u → begins u ls ≡ true → begins t ls ≡ false
begins_apart t u [] h e = refl
begins_apart t u (x ∷ ls) h e = h x e

pub by_head : {T F A : Type 0} (t u : T → Bool) (P : Phrase T F A) (p : Reader T F A) (Q : Phrase T F A)
    (q : Reader T F A) (g : T → Bool) → Begins P t → Begins Q u → Apart t u → Choice (begins t) P p Q q g
by_head t u P p Q q g bp bq apart = record {
  left = bp.at;
  right = λ us rest a o m e. begins_apart t u (us ++ rest) apart (bq.at us rest a o m);
  left_bad = λ front x r s k h e. let f : begins t (front ++ x ∷ s) ≡ true = same_start t front x s r ∙ e in rw f (h s);
  left_over = λ front x r s k h e. let f : begins t (front ++ x ∷ s) ≡ true =
      same_start t front x s r ∙ e in rw f (h s);
  right_got = λ front x r s a m e. same_start t front x s r ∙ e;
  right_bad = λ front x r s k h e. let f : begins t (front ++ x ∷ s) ≡ false =
      same_start t front x s r ∙ e in rw f (h s);
  right_over = λ front x r s k h e. let f : begins t (front ++ x ∷ s) ≡ false =
      same_start t front x s r ∙ e in rw f (h s);
}

pub begins_token : {T F A : Type 0} (faults : T → Option F) (is : T → Bool) (value : T → A) →
    Begins (Weighed faults is value) is
begins_token faults is value = record { at = λ us rest a o m. rw m.1 m.2 }

pub begins_making : {T F A B : Type 0} (f : A → B) (P : Phrase T F A) (t : T → Bool) → Begins P t →
    Begins (Making f P) t
begins_making f P t b = record { at = λ us rest a o m. b.at us rest m.0 o m.1 }

pub begins_chain : {T F A B : Type 0} (P : Phrase T F A) (Q : A → Phrase T F B) (t : T → Bool) → Begins P t →
    Begins (Chain P Q) t
begins_chain P Q t b = record
    { at = λ us rest c o m. rw (m.4, append_assoc m.0 m.1 rest) (b.at m.0 (m.1 ++ rest) c.0 m.2 m.5) }

begins_either : {T F A : Type 0} (P Q : Phrase T F A) (t : T → Bool) → Begins P t → Begins Q t →
    (us rest : List T) (a : A) (o : Option F) → (P or Q) us a o → begins t (us ++ rest) ≡ true
begins_either P Q t bp bq us rest a o (inl m) = bp.at us rest a o m
begins_either P Q t bp bq us rest a o (inr m) = bq.at us rest a o m

pub begins_or : {T F A : Type 0} (P Q : Phrase T F A) (t : T → Bool) → Begins P t → Begins Q t → Begins (P or Q) t
begins_or P Q t bp bq = record { at = begins_either P Q t bp bq }

wider_at : {T : Type 0} (t u : T → Bool) (ls : List T) → Among t u → begins t ls ≡ true → begins u ls ≡ true
wider_at t u [] h e = absurd cc
wider_at t u (x ∷ ls) h e = h x e

pub begins_wider : {T F A : Type 0} (P : Phrase T F A) (t u : T → Bool) → Among t u → Begins P t → Begins P u
begins_wider P t u h b = record { at = λ us rest a o m. wider_at t u (us ++ rest) h (b.at us rest a o m) }

pub begins_placed : {T S F A : Type 0} (place : T → S) (P : Phrase T F A) (t : T → Bool) → Begins P t →
    Begins (Placed place P) t
begins_placed place P t b = record { at = λ us rest c o m. b.at us rest c.1 o m.4 }

pub begins_above : {T F A : Type 0} (fault : T → F) (P : Phrase T F A) (t : T → Bool) → Begins P t →
    Begins (Above fault P) t
begins_above fault P t b = record { at = λ us rest a o m. b.at us rest a m.2 m.4 }

-- ---- nothing, or a phrase

module _ {T F A : Type 0} (fresh : F → Type 0) (none : A) (t : T → Bool) (P : Phrase T F A) (gP g : T → Bool)
    (p : Reader T F A)
    (ex : Exact fresh P gP p) (bp : Begins P t) (wider : (ls : List T) → Stops g ls → Stops t ls × Stops gP ls) where
  perhaps_sound : (ls : List T) (a : A) (rest : List T) → perhaps_at t none p ls ≡ got a rest →
      Splits (Perhaps none P) (perhaps_at t none p) ls a rest
  perhaps_sound ls a rest e =
      elim (chosen (begins t ls) (p ls) (got none ls) (got a rest) e) [
        | inl c ↦
            let s = ex.sound ls a rest c.1 in
            record {
              front = s.front;
              parts = s.parts;
              means = inr s.means;
              stays = λ x r z h. rw (bp.at s.front (x ∷ z) a None s.means) (s.stays x r z h);
            }
        | inr c ↦
            let a-is : none ≡ a = let h = c.1 in cc in
            let rest-is : ls ≡ rest = let h = c.1 in cc in
            record {
              front = [];
              parts = rest-is;
              means = inl (refl, a-is, refl);
              stays = λ x r z h. let f : begins t (x ∷ z) ≡ false =
                  sym (ap (begins t) (rest-is ∙ h)) ∙ c.0 in rw f (ap (λ v. got v (x ∷ z)) a-is);
            }
      ]

  perhaps_complete : (us : List T) (a : A) (o : Option F) (rest : List T) → Perhaps none P us a o → Stops g rest →
      Judged o a rest (perhaps_at t none p (us ++ rest))
  perhaps_complete us a o rest (inl (e, f, k)) h =
      rw (e, (wider rest h).0) (judged_is o None a rest (got none rest) (sym k) (ap (λ v. got v rest) f))
  perhaps_complete us a o rest (inr m) h = rw (bp.at us rest a o m) (ex.complete us a o rest m (wider rest h).1)

  perhaps_stuck : (ls : List T) (k : Kind) (rest : List T) → perhaps_at t none p ls ≡ bad k rest →
      Stuck fresh (Perhaps none P) (perhaps_at t none p) ls k rest
  perhaps_stuck ls k rest e =
      elim (chosen (begins t ls) (p ls) (got none ls) (bad k rest) e) [
        | inl c ↦
            let s = ex.stuck ls k rest c.1 in
            record {
              front = s.front;
              parts = s.parts;
              stays = λ x r z h.
                  let whole : ls ≡ s.front ++ x ∷ r = s.parts ∙ ap (λ (m : List T). s.front ++ m) h in
                  let f : begins t (s.front ++ x ∷ z) ≡ true =
                  same_start t s.front x z r ∙ sym (ap (begins t) whole) ∙ c.0 in
                  rw f (s.stays x r z h);
              goes = elim s.goes [
                | inl n ↦ inl n
                | inr go ↦
                    inr (record {
                      more = go.more;
                      value = go.value;
                      fault = go.fault;
                      means = inr go.means;
                      mild = go.mild;
                    })
              ];
            }
        | inr c ↦ let h = c.1 in absurd cc
      ]

  perhaps_passed : (ls : List T) (f : F) (rest : List T) → perhaps_at t none p ls ≡ over f rest →
      Passed (Perhaps none P) (perhaps_at t none p) ls f rest
  perhaps_passed ls f rest e =
      elim (chosen (begins t ls) (p ls) (got none ls) (over f rest) e) [
        | inl c ↦
            let s = ex.passed ls f rest c.1 in
            record {
              front = s.front;
              last = s.last;
              parts = s.parts;
              stays = λ z.
                  let b : begins t (s.front ++ s.last ∷ z) ≡ true =
                  same_start t s.front s.last z rest ∙ sym (ap (begins t) s.parts) ∙ c.0 in
                  rw b (s.stays z);
              begun = record {
                more = s.begun.more;
                value = s.begun.value;
                fault = s.begun.fault;
                means = inr s.begun.means;
              };
            }
        | inr c ↦ let h = c.1 in absurd cc
      ]

  pub perhaps_exact : Exact fresh (Perhaps none P) g (perhaps_at t none p)
  perhaps_exact = record {
    sound = perhaps_sound;
    complete = perhaps_complete;
    stuck = perhaps_stuck;
    passed = perhaps_passed;
  }

-- ---- a token that opens a level

opening_got : {T F A : Type 0} (b may : Bool) (v : A) (x : T) (ls : List T) (a : A) (rest : List T) →
    cond {A = Read T F A} b (cond may (got v ls) (bad too_deep (x ∷ ls))) (bad unexpected (x ∷ ls)) ≡ got a rest →
    (b ≡ true) × (may ≡ true) × (v ≡ a) × (ls ≡ rest)
opening_got true true v x ls a rest e = (refl, refl, cc, cc)
opening_got true false v x ls a rest e = absurd cc
opening_got false may v x ls a rest e = absurd cc

opening_bad : {T F A : Type 0} (b may : Bool) (v : A) (x : T) (ls : List T) (k : Kind) (rest : List T) →
    cond {A = Read T F A} b (cond may (got v ls) (bad too_deep (x ∷ ls))) (bad unexpected (x ∷ ls)) ≡ bad k rest →
    (x ∷ ls ≡ rest) × ((s : List T) →
    cond {A = Read T F A} b (cond may (got v s) (bad too_deep (x ∷ s))) (bad unexpected (x ∷ s)) ≡ bad k (x ∷ s))
opening_bad true true v x ls k rest e = absurd cc
opening_bad true false v x ls k rest e = (cc, λ s. cc)
opening_bad false may v x ls k rest e = (cc, λ s. cc)

opening_over : {T F A : Type 0} (b may : Bool) (v : A) (x : T) (ls : List T) (f : F) (rest : List T) →
    cond b (cond may (got v ls) (bad too_deep (x ∷ ls))) (bad unexpected (x ∷ ls)) ≡ over f rest → ⊥
opening_over true true v x ls f rest e = cc
opening_over true false v x ls f rest e = cc
opening_over false may v x ls f rest e = cc

pub opens_both : (may b : Bool) → cond may b false ≡ true → (may ≡ true) × (b ≡ true)
opens_both true true e = (refl, refl)
opens_both true false e = absurd cc
opens_both false b e = absurd cc

module _ {T F A : Type 0} (fresh : F → Type 0) (may : Bool) (is : T → Bool) (value : T → A) where
  opening_sound : (ls : List T) (a : A) (rest : List T) → opening_at {F = F} may is value ls ≡ got a rest →
      Splits (Token (opens may is) value) (opening_at {F = F} may is value) ls a rest
  opening_sound [] a rest e = absurd cc
  opening_sound (x ∷ ls) a rest e =
      let t = opening_got (is x) may (value x) x ls a rest e in
      record {
        front = x ∷ [];
        parts = ap (λ (r : List T). x ∷ r) t.3;
        means = (x, refl, rw (t.1, t.0) refl, t.2, refl);
        stays = λ y r s h. rw (t.0, t.1) (ap (λ z. got z (y ∷ s)) t.2);
      }

  opening_complete : (us : List T) (a : A) (o : Option F) (rest : List T) → Token (opens may is) value us a o →
      Judged o a rest (opening_at {F = F} may is value (us ++ rest))
  opening_complete us a o rest (x, e, v, w, f) = let b =
      opens_both may (is x) v in rw (e, b.1, b.0)
      (judged_is o None a rest (got (value x) rest) (sym f) (ap (λ z. got z rest) w))

  opening_stuck : (ls : List T) (k : Kind) (rest : List T) → opening_at {F = F} may is value ls ≡ bad k rest →
      Stuck fresh (Token (opens may is) value) (opening_at {F = F} may is value) ls k rest
  opening_stuck [] k rest e = record { front = []; parts = cc; stays = λ x r s h. absurd cc; goes = inl refl }
  opening_stuck (x ∷ ls) k rest e =
      let t = opening_bad (is x) may (value x) x ls k rest e in
      record {
        front = [];
        parts = t.0;
        stays = λ y r s h. let same : x ≡ y = (let h2 = t.0 in cc) in rw (← same) (t.1 s);
        goes = inl refl;
      }

  opening_passed : (ls : List T) (f : F) (rest : List T) → opening_at {F = F} may is value ls ≡ over f rest →
      Passed (Token (opens may is) value) (opening_at {F = F} may is value) ls f rest
  opening_passed [] f rest e = absurd cc
  opening_passed (x ∷ ls) f rest e = absurd (opening_over (is x) may (value x) x ls f rest e)

  pub opening_exact : Exact fresh (Token (opens may is) value) nothing (opening_at {F = F} may is value)
  opening_exact = record {
    sound = opening_sound;
    complete = λ us a o rest m e. opening_complete us a o rest m;
    stuck = opening_stuck;
    passed = opening_passed;
  }

-- ---- a phrase with its first token's place

module _ {T S F A : Type 0} {fresh : F → Type 0} (place : T → S) {P : Phrase T F A} {g : T → Bool}
    {p : Reader T F A} (t : T → Bool) (ex : Exact fresh P g p) (bp : Begins P t) where
  -- no phrase is empty
  filled : (us : List T) (a : A) (o : Option F) → P us a o → (x : T) × (r : List T) × (us ≡ x ∷ r)
  filled [] a o m = absurd (let h = bp.at [] [] a o m in cc)
  filled (x ∷ r) a o m = (x, r, refl)

  placed_sound : (ls : List T) (c : S × A) (rest : List T) → placed_at place p ls ≡ got c rest →
      Splits (Placed place P) (placed_at place p) ls c rest
  placed_sound [] c rest e = absurd cc
  placed_sound (x ∷ ls) c rest e =
      let u = bind_got (p (x ∷ ls)) (λ a r. got (place x, a) r) c rest e in
      let s = ex.sound (x ∷ ls) u.value u.rest u.first in
      let c-is : (place x, u.value) ≡ c = let h = u.second in cc in
      let rest-is : u.rest ≡ rest = let h = u.second in cc in
      let n = filled s.front u.value None s.means in
      let x-is : x ≡ n.0 = (let h : x ∷ ls ≡ (n.0 ∷ n.1) ++ u.rest = s.parts ∙
      ap (λ (z : List T). z ++ u.rest) n.2 in cc) in
      record {
        front = s.front;
        parts = s.parts ∙ ap (λ (z : List T). s.front ++ z) rest-is;
        means = subst (λ (z : S × A). Placed place P s.front z None) c-is (n.0, n.1, n.2, ap place (sym x-is), s.means);
        stays = λ y r z h.
            let stay = s.stays y r z (rest-is ∙ h) in
            let way : s.front ++ y ∷ z ≡ n.0 ∷ (n.1 ++ y ∷ z) = ap (λ (m : List T). m ++ y ∷ z) n.2 in
            let there : p (n.0 ∷ (n.1 ++ y ∷ z)) ≡ got u.value (y ∷ z) = sym (ap p way) ∙ stay in
            ap (λ (m : List T). placed_at place p m) way ∙
            ap (λ (m : Read T F A). m >>= λ a r. got (place n.0, a) r) there ∙
            ap (λ (m : T). got (place m, u.value) (y ∷ z)) (sym x-is) ∙ ap (λ m. got m (y ∷ z)) c-is;
      }

  placed_judged : (o : Option F) (v : S) (a : A) (rest : List T) (r : Read T F A) → Judged o a rest r →
      Judged {A = S × A} o (v, a) rest (r >>= λ a r. got (v, a) r)
  placed_judged None v a rest r h = ap (λ (y : Read T F A). y >>= λ a r. got (v, a) r) h
  placed_judged (Some k) v a rest r (s, h) = (s, ap (λ (y : Read T F A). y >>= λ a r. got (v, a) r) h)

  placed_complete : (us : List T) (c : S × A) (o : Option F) (rest : List T) → Placed place P us c o →
      Stops g rest → Judged o c rest (placed_at place p (us ++ rest))
  placed_complete us c o rest (x, r, e, v, m) h =
      let one : Judged o c.1 rest (p (x ∷ (r ++ rest))) =
      judged_read o c.1 rest (p (x ∷ (r ++ rest))) (p (us ++ rest))
      (sym (ap (λ (z : List T). p (z ++ rest)) e)) (ex.complete us c.1 o rest m h) in
      judged_read o c rest (placed_at place p (us ++ rest)) (placed_at place p (x ∷ (r ++ rest)))
      (ap (λ (z : List T). placed_at place p (z ++ rest)) e)
      (subst (λ (z : S). Judged {A = S × A} o (z, c.1) rest (p (x ∷ (r ++ rest)) >>= λ a r. got (place x, a) r)) v
      (placed_judged o (place x) c.1 rest (p (x ∷ (r ++ rest))) one))

  -- reading stops in the same way with the place of the first token
  placed_bad : (front : List T) (x : T) (s : List T) (k : Kind) → p (front ++ x ∷ s) ≡ bad k (x ∷ s) →
      placed_at place p (front ++ x ∷ s) ≡ bad k (x ∷ s)
  placed_bad [] x s k e = ap (λ (m : Read T F A). m >>= λ a r. got (place x, a) r) e
  placed_bad (y ∷ front) x s k e = ap (λ (m : Read T F A). m >>= λ a r. got (place y, a) r) e

  placed_over : (front : List T) (x : T) (s : List T) (k : F) → p (front ++ x ∷ s) ≡ over k s →
      placed_at place p (front ++ x ∷ s) ≡ over k s
  placed_over [] x s k e = ap (λ (m : Read T F A). m >>= λ a r. got (place x, a) r) e
  placed_over (y ∷ front) x s k e = ap (λ (m : Read T F A). m >>= λ a r. got (place y, a) r) e

  placed_means : (us : List T) (a : A) (o : Option F) → P us a o → (c : S × A) × Placed place P us c o
  placed_means us a o m = let n = filled us a o m in ((place n.0, a), (n.0, n.1, n.2, refl, m))

  placed_stuck : (ls : List T) (k : Kind) (rest : List T) → placed_at place p ls ≡ bad k rest →
      Stuck fresh (Placed place P) (placed_at place p) ls k rest
  placed_stuck [] k rest e = record { front = []; parts = cc; stays = λ x r s h. absurd cc; goes = inl refl }
  placed_stuck (x ∷ ls) k rest e =
      elim (bind_bad (p (x ∷ ls)) (λ a r. got (place x, a) r) k rest e) [
        | inl h ↦
            let s = ex.stuck (x ∷ ls) k rest h in
            record {
              front = s.front;
              parts = s.parts;
              stays = λ y r z h2. placed_bad s.front y z k (s.stays y r z h2);
              goes = elim s.goes [
                | inl n ↦ inl n
                | inr go ↦ inr (let c = placed_means (s.front ++ go.more) go.value go.fault go.means in
                    record { more = go.more; value = c.0; fault = go.fault; means = c.1; mild = go.mild })
              ];
            }
        | inr u ↦ let h = u.second in absurd cc
      ]

  placed_passed : (ls : List T) (f : F) (rest : List T) → placed_at place p ls ≡ over f rest →
      Passed (Placed place P) (placed_at place p) ls f rest
  placed_passed [] f rest e = absurd cc
  placed_passed (x ∷ ls) f rest e =
      elim (bind_over (p (x ∷ ls)) (λ a r. got (place x, a) r) f rest e) [
        | inl h ↦
            let s = ex.passed (x ∷ ls) f rest h in
            let c = placed_means ((s.front ++ s.last ∷ []) ++ s.begun.more) s.begun.value s.begun.fault s.begun.means in
            record {
              front = s.front;
              last = s.last;
              parts = s.parts;
              stays = λ z. placed_over s.front s.last z f (s.stays z);
              begun = record { more = s.begun.more; value = c.0; fault = s.begun.fault; means = c.1 };
            }
        | inr u ↦ let h = u.second in absurd cc
      ]

  pub placed_exact : Exact fresh (Placed place P) g (placed_at place p)
  placed_exact = record {
    sound = placed_sound;
    complete = placed_complete;
    stuck = placed_stuck;
    passed = placed_passed;
  }

-- ---- one too many

cap_got : {T F A : Type 0} (b : Bool) (k : Kind) (f : F) (x : T) (ls : List T) (a : A) (rest : List T) →
    cond b (over f ls) (bad k (x ∷ ls)) ≡ got a rest → ⊥
cap_got true k f x ls a rest e = cc
cap_got false k f x ls a rest e = cc

cap_bad : {T F A : Type 0} (b : Bool) (k : Kind) (f : F) (x : T) (ls : List T) (c : Kind) (rest : List T) →
    cond {A = Read T F A} b (over f ls) (bad k (x ∷ ls)) ≡ bad c rest → (b ≡ false) × (k ≡ c) × (x ∷ ls ≡ rest)
cap_bad true k f x ls c rest e = absurd cc
cap_bad false k f x ls c rest e = (refl, cc, cc)

cap_over : {T F A : Type 0} (b : Bool) (k : Kind) (f : F) (x : T) (ls : List T) (c : F) (rest : List T) →
    cond {A = Read T F A} b (over f ls) (bad k (x ∷ ls)) ≡ over c rest → (b ≡ true) × (f ≡ c) × (ls ≡ rest)
cap_over true k f x ls c rest e = (refl, cc, cc)
cap_over false k f x ls c rest e = absurd cc

module _ {T F A : Type 0} (fresh : F → Type 0) (P : Phrase T F A) (g : T → Bool) (is : T → Bool) (kind : T → Kind)
    (fault : T → F) (bp : Begins P is) (starts : (x : T) → is x ≡ true → Started P (x ∷ [])) where
  capped_sound : (ls : List T) (a : A) (rest : List T) → cap_at is kind fault ls ≡ got a rest →
      Splits (Above fault P) (cap_at is kind fault) ls a rest
  capped_sound [] a rest e = absurd cc
  capped_sound (x ∷ ls) a rest e = absurd (cap_got (is x) (kind x) (fault x) x ls a rest e)

  capped_judged : (x : T) (r : List T) (a : A) (o : Option F) (rest : List T) → is x ≡ true → Some (fault x) ≡ o →
      Judged o a rest (cap_at is kind fault (x ∷ (r ++ rest)))
  capped_judged x r a o rest b f =
      judged_is o (Some (fault x)) a rest (cap_at is kind fault (x ∷ (r ++ rest))) (sym f) (r ++ rest, rw b refl)

  capped_complete : (us : List T) (a : A) (o : Option F) (rest : List T) → Above fault P us a o →
      Judged o a rest (cap_at is kind fault (us ++ rest))
  capped_complete us a o rest (x, r, p, e, m, f) =
      judged_read o a rest (cap_at is kind fault (us ++ rest)) (cap_at is kind fault (x ∷ (r ++ rest)))
      (ap (λ (z : List T). cap_at is kind fault (z ++ rest)) e)
      (capped_judged x r a o rest (sym (ap (λ (z : List T). begins is (z ++ [])) e) ∙ bp.at us [] a p m) f)

  capped_stuck : (ls : List T) (k : Kind) (rest : List T) → cap_at {A = A} is kind fault ls ≡ bad k rest →
      Stuck fresh (Above fault P) (cap_at is kind fault) ls k rest
  capped_stuck [] k rest e = record { front = []; parts = cc; stays = λ x r s h. absurd cc; goes = inl refl }
  capped_stuck (x ∷ ls) k rest e =
      let t = cap_bad (is x) (kind x) (fault x) x ls k rest e in
      record {
        front = [];
        parts = t.2;
        stays = λ y r s h. let same : x ≡ y = (let j = t.2 in cc) in rw (← same, t.0, t.1) refl;
        goes = inl refl;
      }

  capped_passed : (ls : List T) (f : F) (rest : List T) → cap_at {A = A} is kind fault ls ≡ over f rest →
      Passed (Above fault P) (cap_at is kind fault) ls f rest
  capped_passed [] f rest e = absurd cc
  capped_passed (x ∷ ls) f rest e =
      let t = cap_over (is x) (kind x) (fault x) x ls f rest e in
      let s = starts x t.0 in
      record {
        front = [];
        last = x;
        parts = ap (λ (r : List T). x ∷ r) t.2;
        stays = λ s. rw (t.0, t.1) refl;
        begun = record {
          more = s.more;
          value = s.value;
          fault = Some (fault x);
          means = (x, s.more, s.fault, refl, s.means, refl);
        };
      }

  pub capped_exact : Exact fresh (Above fault P) g (cap_at is kind fault)
  capped_exact = record {
    sound = capped_sound;
    complete = λ us a o rest m e. capped_complete us a o rest m;
    stuck = capped_stuck;
    passed = capped_passed;
  }
