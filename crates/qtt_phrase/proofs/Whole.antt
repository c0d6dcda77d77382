-- Whole lists of tokens: what is read of them, and their first fault.
use Rattle.std.proofs.Common.{◌≡◌, Bool, List, [], ◌∷◌, ◌++◌, Option, Some, None, refl, sym, ap, subst, ◌∙◌, append_assoc, inl, inr, ◌⊎◌}
use Rattle.std.proofs.lemmas.List.{append-nil}
use Rattle.qtt_phrase.specs.Phrase.{Phrase, FirstBad, Settles}
use Rattle.qtt_phrase.specs.Reading.{Kind, Read, Reader}
use Rattle.qtt_phrase.specs.Reading.Read.{got, bad, over}
use Rattle.qtt_phrase.proofs.Chained.{Exact, Sample, Begun, Judged, Mild}

-- one of two fronts of a list is a front of the other
pub data Fronts {T : Type 0} (us vs rest : List T) : Type 0 where
  shorter : (m : List T) → us ≡ vs ++ m → Fronts us vs rest
  longer : (x : T) (m r : List T) → vs ≡ us ++ x ∷ m → rest ≡ x ∷ r → Fronts us vs rest

fronts_more : {T : Type 0} (u : T) (us vs rest : List T) → Fronts us vs rest → Fronts (u ∷ us) (u ∷ vs) rest
fronts_more u us vs rest (shorter m e) = shorter m (ap (λ z. u ∷ z) e)
fronts_more u us vs rest (longer x m r e f) = longer x m r (ap (λ z. u ∷ z) e) f

pub fronts : {T : Type 0} (us vs rest more : List T) → us ++ rest ≡ vs ++ more → Fronts us vs rest
fronts us [] rest more e = shorter us refl
fronts [] (v ∷ vs) rest more e = longer v vs (vs ++ more) refl e
fronts (u ∷ us) (v ∷ vs) rest more e =
    let same : u ≡ v = cc in
    let later : us ++ rest ≡ vs ++ more = cc in
    subst (λ w. Fronts (u ∷ us) (w ∷ vs) rest) same (fronts_more u us vs rest (fronts us vs rest more later))

module _ {T F A : Type 0} {fresh : F → Type 0} (P : Phrase T F A) (g : T → Bool) (p : Reader T F A)
    (ex : Exact fresh P g p) (some : Sample fresh P) where
  -- a whole phrase is read to its end
  pub whole : (ls : List T) (a : A) (o : Option F) → P ls a o → Judged o a [] (p ls)
  whole ls a o m = subst (λ (z : List T). Judged o a [] (p z)) (append-nil ls) (ex.complete ls a o [] m refl)

  pub found : (ls : List T) (a : A) → p ls ≡ got a [] → P ls a None
  found ls a e = let s = ex.sound ls a [] e in subst (λ (z : List T). P z a None)
      (sym (s.parts ∙ append-nil s.front)) s.means

  begun_some : (front : List T) → (front ≡ []) ⊎ Begun fresh P front → Begun fresh P front
  begun_some front (inl e) =
      record {
        more = some.tokens;
        value = some.value;
        fault = some.fault;
        means = subst (λ (z : List T). P (z ++ some.tokens) some.value some.fault) (sym e) some.means;
        mild =
            some.mild;
      }
  begun_some front (inr go) = go

  not_bad : (o : Option F) (a : A) (r : Read T F A) (k : Kind) (rest : List T) → r ≡ bad k rest → Judged o a [] r → ⊥
  not_bad None a r k rest e j = let h = sym e ∙ j in cc
  not_bad (Some f) a r k rest e (w, j) = let h = sym e ∙ j in cc

  not_short : (o : Option F) (a b : A) (r : Read T F A) (x : T) (rest : List T) → r ≡ got b (x ∷ rest) →
      Judged o a [] r → ⊥
  not_short None a b r x rest e j = let h = sym e ∙ j in cc
  not_short (Some f) a b r x rest e (w, j) = let h = sym e ∙ j in cc

  -- no phrase begins with the bad token behind the front
  none_bad : (front : List T) (x : T) (k : Kind) → ((s : List T) → p (front ++ x ∷ s) ≡ bad k (x ∷ s)) →
      (more : List T) (a : A) (o : Option F) → P (front ++ x ∷ more) a o → ⊥
  none_bad front x k stays more a o m =
      not_bad o a (p (front ++ x ∷ more)) k (x ∷ more) (stays more) (whole (front ++ x ∷ more) a o m)

  none_long : (front : List T) (x : T) (b : A) → ((s : List T) → p (front ++ x ∷ s) ≡ got b (x ∷ s)) →
      (more : List T) (a : A) (o : Option F) → P (front ++ x ∷ more) a o → ⊥
  none_long front x b stays more a o m =
      not_short o a b (p (front ++ x ∷ more)) x more (stays more) (whole (front ++ x ∷ more) a o m)

  pub bad_first : (ls : List T) (k : Kind) (rest : List T) → p ls ≡ bad k rest → FirstBad P ls rest
  bad_first ls k rest e =
      let s = ex.stuck ls k rest e in
      let go = begun_some s.front s.goes in
      record {
        front = s.front;
        parts = s.parts;
        goes = (go.more, go.value, go.fault, go.means);
        stops = λ x r h (more, a, o, m). none_bad s.front x k (λ w. s.stays x r w h) more a o
            (subst (λ (z : List T). P z a o) (append_assoc s.front (x ∷ []) more) m);
      }

  pub got_first : (ls : List T) (a : A) (x : T) (r : List T) → p ls ≡ got a (x ∷ r) → FirstBad P ls (x ∷ r)
  got_first ls a x r e =
      let s = ex.sound ls a (x ∷ r) e in
      record {
        front = s.front;
        parts = s.parts;
        goes = ([], a, None, subst (λ (z : List T). P z a None) (sym (append-nil s.front)) s.means);
        stops = λ y q h (more, b, o, m). none_long s.front y a (λ w. s.stays y q w h) more b o
            (subst (λ (z : List T). P z b o) (append_assoc s.front (y ∷ []) more) m);
      }

  over_is : (f : F) (a : A) (o : Option F) (r : Read T F A) (rest : List T) → r ≡ over f rest → Judged o a [] r →
      o ≡ Some f
  over_is f a None r rest e j = absurd (let h = sym e ∙ j in cc)
  over_is f a (Some k) r rest e (w, j) = let h = sym e ∙ j in cc

  pub over_settles : (ls : List T) (f : F) (rest : List T) → p ls ≡ over f rest → Settles P ls f
  over_settles ls f rest e =
      let s = ex.passed ls f rest e in
      record {
        front = s.front ++ s.last ∷ [];
        rest = rest;
        parts = s.parts ∙ sym (append_assoc s.front (s.last ∷ []) rest);
        begun = (s.begun.more, s.begun.value, s.begun.fault, s.begun.means);
        each = λ more a o m.
            let m2 = subst (λ (z : List T). P z a o) (append_assoc s.front (s.last ∷ []) more) m in
            over_is f a o (p (s.front ++ s.last ∷ more)) more (s.stays more) (whole (s.front ++ s.last ∷ more) a o m2);
      }

  -- ---- where nothing is settled

  mild_not : (f : F) (o : Option F) → (fresh f → ⊥) → Mild fresh o → o ≡ Some f → ⊥
  mild_not f None h m e = cc
  mild_not f (Some k) h m e = h (let same : k ≡ f = cc in subst (λ (z : F). fresh z) same m)

  pub bad_settles_none : (ls : List T) (k : Kind) (rest : List T) (f : F) → p ls ≡ bad k rest →
      (fresh f → ⊥) → Settles P ls f → ⊥
  bad_settles_none ls k rest f e h st =
      let s = ex.stuck ls k rest e in
      let go = begun_some s.front s.goes in
      elim (fronts s.front st.front rest st.rest (sym s.parts ∙ st.parts)) [
        | shorter m same ↦ mild_not f go.fault h go.mild
            (st.each (m ++ go.more) go.value go.fault
            (subst (λ (z : List T). P z go.value go.fault)
            (ap (λ (z : List T). z ++ go.more) same ∙ append_assoc st.front m go.more) go.means))
        | longer x m r same rest_is ↦ none_bad s.front x k (λ w. s.stays x r w rest_is)
            (m ++ st.begun.0) st.begun.1 st.begun.2
            (subst (λ (z : List T). P z st.begun.1 st.begun.2)
            (ap (λ (z : List T). z ++ st.begun.0) same ∙ append_assoc s.front (x ∷ m) st.begun.0) st.begun.3)
      ]

  none_settled : (us : List T) (a : A) (f : F) (st : Settles P us f) (vs more : List T) → P vs a None →
      vs ≡ st.front ++ more → ⊥
  none_settled us a f st vs more m e = let h = st.each more a None (subst (λ (z : List T). P z a None) e m) in cc

  pub got_settles_none : (ls : List T) (a : A) (rest : List T) (f : F) → p ls ≡ got a rest → Settles P ls f → ⊥
  got_settles_none ls a rest f e st =
      let s = ex.sound ls a rest e in
      elim (fronts s.front st.front rest st.rest (sym s.parts ∙ st.parts)) [
        | shorter m same ↦ none_settled ls a f st s.front m s.means same
        | longer x m r same rest_is ↦ none_long s.front x a (λ w. s.stays x r w rest_is)
            (m ++ st.begun.0) st.begun.1 st.begun.2
            (subst (λ (z : List T). P z st.begun.1 st.begun.2)
            (ap (λ (z : List T). z ++ st.begun.0) same ∙ append_assoc s.front (x ∷ m) st.begun.0) st.begun.3)
      ]
