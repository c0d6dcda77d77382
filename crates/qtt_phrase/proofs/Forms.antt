-- Shorter forms, by which a production's reader is shown exact in a few lines.
use Rattle.std.proofs.Common.{◌≡◌, Bool, true, false, cond, List, [], ◌∷◌, ◌++◌, Option, None, refl, ap, subst, ◌∙◌, append_assoc, inl, inr}
use Rattle.qtt_phrase.specs.Phrase.{Phrase, Weighed, Token, Chain, ◌then◌, Making, ◌or◌, Many, Run, Above, Perhaps, Placed, first, opens}
use Rattle.qtt_phrase.specs.Reading.{Kind, Read, Reader, ◌>>=◌, token_at, chain_at, then_at, making_at, begins, either_at, perhaps_at, many_at, counted_at, opening_at, placed_at, cap_at}
use Rattle.qtt_phrase.specs.Reading.Kind.{unexpected, too_deep}
use Rattle.qtt_phrase.specs.Reading.Read.{got, bad, over}
use Rattle.qtt_phrase.proofs.Exact.{Begins, Apart, Among, opening_exact, perhaps_exact, placed_exact, by_head, begins_token, begins_making, begins_chain, begins_or, begins_wider, begins_placed, begins_above, capped_exact, begins_apart, opens_both}
use Rattle.qtt_phrase.proofs.Chained.{Stops, Exact, Sample, Stuck, Started, nothing, token_exact, making_exact, chain_exact, or_exact, mild_first}
use Rattle.qtt_phrase.proofs.Runs.{run_exact}

-- ---- sets of tokens

abbrev pub either : {T : Type 0} → (T → Bool) → (T → Bool) → T → Bool
either t u x = cond (t x) true (u x)

pub among_left : {T : Type 0} (t u : T → Bool) → Among t (either t u)
among_left t u x e = rw e refl

pub among_right : {T : Type 0} (t u : T → Bool) → Among u (either t u)
among_right t u x e = elim (t x) as (λ (v : Bool). cond v true (u x) ≡ true) [ true ↦ refl | false ↦ e ]

either_at_case : (b c : Bool) {P : Type 0} → (b ≡ true → P) → (c ≡ true → P) → cond b true c ≡ true → P
either_at_case true c f g e = f refl
either_at_case false c f g e = g e

pub among_either : {T : Type 0} (t u w : T → Bool) → Among t w → Among u w → Among (either t u) w
among_either t u w f g x e = either_at_case (t x) (u x) (f x) (g x) e

pub among_self : {T : Type 0} (t : T → Bool) → Among t t
among_self t x e = e

pub nothing_among : {T : Type 0} (t : T → Bool) → Among nothing t
nothing_among t x e = absurd cc

not_in : {T : Type 0} (t u : T → Bool) (x : T) (b : Bool) → Among t u → u x ≡ false → t x ≡ b → t x ≡ false
not_in t u x true h e f = absurd (let k = h x f in cc)
not_in t u x false h e f = f

-- what stops at a set of tokens stops at each smaller one
pub stops_fewer : {T : Type 0} (t u : T → Bool) (ls : List T) → Among t u → Stops u ls → Stops t ls
stops_fewer t u [] h e = refl
stops_fewer t u (x ∷ ls) h e = not_in t u x (t x) h e refl

pub stops_nothing : {T : Type 0} (ls : List T) → Stops nothing ls
stops_nothing [] = refl
stops_nothing (x ∷ ls) = refl

-- ---- one phrase for another

module _ {T F A : Type 0} {fresh : F → Type 0} (P Q : Phrase T F A)
    (to : (ts : List T) (a : A) (o : Option F) → P ts a o → Q ts a o)
    (back : (ts : List T) (a : A) (o : Option F) → Q ts a o → P ts a o) where
  pub alike_exact : {g : T → Bool} {p : Reader T F A} → Exact fresh P g p → Exact fresh Q g p
  alike_exact {g} {p} ex = record {
    sound = λ ls a rest e. let s =
        ex.sound ls a rest e in
        record { front = s.front; parts = s.parts; means = to s.front a None s.means; stays = s.stays };
    complete = λ us a o rest m e. ex.complete us a o rest (back us a o m) e;
    stuck = λ ls k rest e. let s =
        ex.stuck ls k rest e in
        record {
          front = s.front;
          parts = s.parts;
          stays = s.stays;
          goes = elim s.goes [
            | inl n ↦ inl n
            | inr go ↦
                inr (record {
                  more = go.more;
                  value = go.value;
                  fault = go.fault;
                  means = to (s.front ++ go.more) go.value go.fault go.means;
                  mild = go.mild;
                })
          ];
        };
    passed = λ ls f rest e. let s =
        ex.passed ls f rest e in
        record {
          front = s.front;
          last = s.last;
          parts = s.parts;
          stays = s.stays;
          begun = record {
            more = s.begun.more;
            value = s.begun.value;
            fault = s.begun.fault;
            means = to ((s.front ++ s.last ∷ []) ++ s.begun.more) s.begun.value s.begun.fault s.begun.means;
          };
        };
  }

-- an exact reader with the same answers
pub same_reader : {T F A : Type 0} {fresh : F → Type 0} {P : Phrase T F A} {g : T → Bool} (p q : Reader T F A) →
    p ≡ q → Exact fresh P g p → Exact fresh P g q
same_reader {fresh} {P} {g} p q e ex = subst (λ (r : Reader _ _ _). Exact fresh P g r) e ex

pub wider_goes : {T F A : Type 0} {fresh : F → Type 0} {P : Phrase T F A} {g : T → Bool} {p : Reader T F A}
    (u : T → Bool) → Among g u → Exact fresh P g p → Exact fresh P u p
wider_goes {g} u h ex = record {
  sound = ex.sound;
  complete = λ us a o rest m e. ex.complete us a o rest m (stops_fewer g u rest h e);
  stuck = ex.stuck;
  passed = ex.passed;
}

-- ---- what stands behind a phrase

-- where a phrase ends before a second one, whether that is empty or not
pub record Leads {T F B : Type 0} (gP : T → Bool) (Q : Phrase T F B) (g : T → Bool) : Type 0 where
  pub at : (vs rest : List T) (b : B) (o : Option F) → Q vs b o → Stops g rest → Stops gP (vs ++ rest)

pub leads_begins : {T F B : Type 0} {gP : T → Bool} {Q : Phrase T F B} {g u : T → Bool} → Begins Q u →
    Apart gP u → Leads gP Q g
leads_begins {gP} {u} b apart =
    record { at = λ vs rest q o m e. begins_apart gP u (vs ++ rest) apart (b.at vs rest q o m) }

pub leads_nothing : {T F B : Type 0} {Q : Phrase T F B} {g : T → Bool} → Leads nothing Q g
leads_nothing = record { at = λ vs rest q o m e. stops_nothing (vs ++ rest) }

leads_perhaps_at : {T F B : Type 0} (gP : T → Bool) (Q : Phrase T F B) (g u : T → Bool) (none : B) → Begins Q u →
    Apart gP u → Among gP g → (vs rest : List T) (b : B) (o : Option F) → Perhaps none Q vs b o → Stops g rest →
    Stops gP (vs ++ rest)
leads_perhaps_at gP Q g u none bq apart h vs rest b o (inl (e, f, n)) k = rw e (stops_fewer gP g rest h k)
leads_perhaps_at gP Q g u none bq apart h vs rest b o (inr m) k =
    begins_apart gP u (vs ++ rest) apart (bq.at vs rest b o m)

pub leads_perhaps : {T F B : Type 0} {gP : T → Bool} {Q : Phrase T F B} {g u : T → Bool} (none : B) → Begins Q u →
    Apart gP u → Among gP g → Leads gP (Perhaps none Q) g
leads_perhaps {gP} {Q} {g} {u} none bq apart h = record { at = leads_perhaps_at gP Q g u none bq apart h }

-- what stands before a phrase that may be empty, and then another one
pub leads_over : {T F B C : Type 0} {gP u : T → Bool} {Q : Phrase T F B} {R : Phrase T F C} {g : T → Bool} →
    Leads u R g → Leads gP Q u → Leads gP (Q then R) g
leads_over lr lq = record {
  at = λ vs rest p o m k. rw (m.4, append_assoc m.0 m.1 rest)
      (lq.at m.0 (m.1 ++ rest) p.0 m.2 m.5 (lr.at m.1 rest p.1 m.3 m.6 k));
}

-- what stands before a run
run_leads_at : {T F A S : Type 0} (ends goes : S → Bool) (next : S → A → S) (P : S → Phrase T F A)
    (gP u g : T → Bool) → ((s : S) → Begins (P s) u) → Apart gP u → Among gP g →
    (s : S) (vs rest : List T) (bs : List A) (o : Option F) → Run ends goes next P s vs bs o → Stops g rest →
    Stops gP (vs ++ rest)
run_leads_at ends goes next P gP u g bp apart h s vs rest [] o (e, n, f) k = rw e (stops_fewer gP g rest h k)
run_leads_at ends goes next P gP u g bp apart h s vs rest (b ∷ bs) o (us, ws, i, j, e, go, m, more, f) k =
    begins_apart gP u (vs ++ rest) apart (rw (e, append_assoc us ws rest) ((bp s).at us (ws ++ rest) b i m))

pub leads_run : {T F A S : Type 0} (ends goes : S → Bool) (next : S → A → S) (P : S → Phrase T F A)
    (s : S) {gP u g : T → Bool} → ((s : S) → Begins (P s) u) → Apart gP u → Among gP g →
    Leads gP (Run ends goes next P s) g
leads_run ends goes next P s {gP} {u} {g} bp apart h = record { at = run_leads_at ends goes next P gP u g bp apart h s }

many_leads_at : {T F A : Type 0} (P : Phrase T F A) (gP u g : T → Bool) → Begins P u → Apart gP u → Among gP g →
    (vs rest : List T) (bs : List A) (o : Option F) → Many P vs bs o → Stops g rest → Stops gP (vs ++ rest)
many_leads_at P gP u g bp apart h vs rest [] o (e, f) k = rw e (stops_fewer gP g rest h k)
many_leads_at P gP u g bp apart h vs rest (b ∷ bs) o (us, ws, i, j, e, m, more, f) k =
    begins_apart gP u (vs ++ rest) apart (rw (e, append_assoc us ws rest) (bp.at us (ws ++ rest) b i m))

pub leads_many : {T F A : Type 0} {P : Phrase T F A} {gP u g : T → Bool} → Begins P u → Apart gP u → Among gP g →
    Leads gP (Many P) g
leads_many {P} {gP} {u} {g} bp apart h = record { at = many_leads_at P gP u g bp apart h }

-- ---- readers with the tokens that begin their phrases

pub record Reads {T F A : Type 0} (fresh : F → Type 0) (P : Phrase T F A) (t g : T → Bool)
    (p : Reader T F A) : Type 0 where
  pub exact : Exact fresh P g p
  pub begins : Begins P t

pub weighed : {T F A : Type 0} {fresh : F → Type 0} (faults : T → Option F) (is : T → Bool) (value : T → A) →
    Reads fresh (Weighed faults is value) is nothing (token_at faults is value)
weighed {fresh} faults is value =
    record { exact = token_exact fresh faults is value; begins = begins_token faults is value }

pub tok : {T F A : Type 0} {fresh : F → Type 0} (is : T → Bool) (value : T → A) →
    Reads fresh (Token is value) is nothing (token_at (λ _. None) is value)
tok is value = weighed (λ _. None) is value

opens_is : {T : Type 0} (may : Bool) (is : T → Bool) → Among (opens may is) is
opens_is may is x e = (opens_both may (is x) e).1

pub begins_opening : {T F A : Type 0} (may : Bool) (is : T → Bool) (value : T → A) →
    Begins {F = F} (Token (opens may is) value) is
begins_opening may is value =
    begins_wider (Token (opens may is) value) (opens may is) is (opens_is may is)
    (begins_token (λ _. None) (opens may is) value)

pub opening : {T F A : Type 0} {fresh : F → Type 0} (may : Bool) (is : T → Bool) (value : T → A) →
    Reads fresh (Token (opens may is) value) is nothing (opening_at {F = F} may is value)
opening {fresh} may is value = record { exact = opening_exact fresh may is value; begins = begins_opening may is value }

-- where no level may open, nothing is read
module _ {T F A B : Type 0} (fresh : F → Type 0) (is : T → Bool) (value : T → A) (Q : A → Phrase T F B)
    (q : A → Reader T F B) (g : T → Bool) where
  abbrev paired : A → List T → Read T F (A × B)
  paired a r = q a r >>= λ b s. got (a, b) s

  shut_by : (b : Bool) (x : T) (ls : List T) →
      (cond {A = Read T F A} b (bad too_deep (x ∷ ls)) (bad unexpected (x ∷ ls)) >>= paired) ≡ bad
      (cond b too_deep unexpected) (x ∷ ls)
  shut_by true x ls = refl
  shut_by false x ls = refl

  shut_at : (x : T) (ls : List T) →
      chain_at (opening_at false is value) q (x ∷ ls) ≡ bad (cond (is x) too_deep unexpected) (x ∷ ls)
  shut_at x ls = shut_by (is x) x ls

  shut_sound : (ls : List T) (c : A × B) (rest : List T) → chain_at (opening_at false is value) q ls ≡ got c rest → ⊥
  shut_sound [] c rest e = cc
  shut_sound (x ∷ ls) c rest e = let h = shut_at x ls in cc

  shut_passed : (ls : List T) (f : F) (rest : List T) → chain_at (opening_at false is value) q ls ≡ over f rest → ⊥
  shut_passed [] c rest e = cc
  shut_passed (x ∷ ls) c rest e = let h = shut_at x ls in cc

  shut_stuck : (ls : List T) (k : Kind) (rest : List T) → chain_at (opening_at false is value) q ls ≡ bad k rest →
      Stuck fresh (Chain (Token (opens false is) value) Q) (chain_at (opening_at false is value) q) ls k rest
  shut_stuck [] k rest e = record { front = []; parts = cc; stays = λ x r s h. absurd cc; goes = inl refl }
  shut_stuck (x ∷ ls) k rest e =
      let h = shut_at x ls in
      let k-is : cond (is x) too_deep unexpected ≡ k = cc in
      let rest-is : x ∷ ls ≡ rest = cc in
      record {
        front = [];
        parts = rest-is;
        stays = λ y r s j. let same : x ≡ y = cc in rw (← same) (shut_at x s ∙ ap (λ (c : Kind). bad c (x ∷ s)) k-is);
        goes = inl refl;
      }

  pub shut : Reads fresh (Chain (Token (opens false is) value) Q) is g (chain_at (opening_at false is value) q)
  shut = record {
    exact = record {
      sound = λ ls c rest e. absurd (shut_sound ls c rest e);
      complete = λ us c o rest m e. absurd (let h = m.5.2 in cc);
      stuck = shut_stuck;
      passed = λ ls f rest e. absurd (shut_passed ls f rest e);
    };
    begins = begins_chain (Token (opens false is) value) Q is (begins_opening false is value);
  }

pub make : {T F A B : Type 0} {fresh : F → Type 0} {P : Phrase T F A} {t g : T → Bool} {p : Reader T F A}
    (f : A → B) → Reads fresh P t g p → Reads fresh (Making f P) t g (making_at f p)
make {P} {t} f r = record { exact = making_exact f r.exact; begins = begins_making f P t r.begins }

-- the second phrase may depend on the first one's value
pub bind : {T F A B : Type 0} {fresh : F → Type 0} {P : Phrase T F A} {t gP : T → Bool} {p : Reader T F A}
    {Q : A → Phrase T F B} {g : T → Bool} {q : A → Reader T F B} → Reads fresh P t gP p →
    ((a : A) → Exact fresh (Q a) g (q a)) →
    ((us : List T) (a : A) (o : Option F) → P us a o → Sample fresh (Q a)) →
    ((a : A) → Leads gP (Q a) g) → Reads fresh (Chain P Q) t g (chain_at p q)
bind {fresh} {P} {t} {gP} {p} {Q} {g} {q} r eq some l = record {
  exact = chain_exact fresh P gP p Q (λ _. g) q g r.exact eq
      (record { before = λ a vs rest b o m e. (l a).at vs rest b o m e; after = λ a vs rest b o m e. e }) some;
  begins = begins_chain P Q t r.begins;
}

pub seq_if : {T F A B : Type 0} {fresh : F → Type 0} {P : Phrase T F A} {t gP : T → Bool} {p : Reader T F A}
    {Q : Phrase T F B} {g : T → Bool} {q : Reader T F B} → Reads fresh P t gP p → Exact fresh Q g q →
    ((us : List T) (a : A) (o : Option F) → P us a o → Sample fresh Q) → Leads gP Q g →
    Reads fresh (P then Q) t g (then_at p q)
seq_if r eq some l = bind r (λ _. eq) some (λ _. l)

pub follow : {T F A B : Type 0} {fresh : F → Type 0} {P : Phrase T F A} {t gP : T → Bool} {p : Reader T F A}
    {Q : Phrase T F B} {g : T → Bool} {q : Reader T F B} → Reads fresh P t gP p → Exact fresh Q g q →
    Sample fresh Q → Leads gP Q g → Reads fresh (P then Q) t g (then_at p q)
follow r eq some l = bind r (λ _. eq) (λ us a o m. some) (λ _. l)

pub seq : {T F A B : Type 0} {fresh : F → Type 0} {P : Phrase T F A} {t : T → Bool} {p : Reader T F A}
    {Q : Phrase T F B} {g : T → Bool} {q : Reader T F B} → Reads fresh P t nothing p → Exact fresh Q g q →
    Sample fresh Q → Reads fresh (P then Q) t g (then_at p q)
seq r eq some = follow r eq some leads_nothing

pub join : {T F A B : Type 0} {fresh : F → Type 0} {P : Phrase T F A} {t gP : T → Bool} {p : Reader T F A}
    {Q : Phrase T F B} {u g : T → Bool} {q : Reader T F B} → Reads fresh P t gP p → Reads fresh Q u g q →
    Sample fresh Q → Apart gP u → Reads fresh (P then Q) t g (then_at p q)
join r eq some apart = follow r eq.exact some (leads_begins eq.begins apart)

-- the same where the first phrase may be empty
pub then_exact : {T F A B : Type 0} {fresh : F → Type 0} {P : Phrase T F A} {gP : T → Bool} {p : Reader T F A}
    {Q : Phrase T F B} {g : T → Bool} {q : Reader T F B} → Exact fresh P gP p → Exact fresh Q g q →
    Sample fresh Q → Leads gP Q g → Exact fresh (P then Q) g (then_at p q)
then_exact {fresh} {P} {gP} {p} {Q} {g} {q} ep eq some l =
    chain_exact fresh P gP p (λ _. Q) (λ _. g) (λ _. q) g ep (λ _. eq)
    (record { before = λ a vs rest b o m e. l.at vs rest b o m e; after = λ a vs rest b o m e. e })
    (λ us a o m. some)

-- one or another, by the first token
pub alt : {T F A : Type 0} {fresh : F → Type 0} {P : Phrase T F A} {t gP : T → Bool} {p : Reader T F A}
    {Q : Phrase T F A} {u gQ : T → Bool} {q : Reader T F A} (g : T → Bool) → Reads fresh P t gP p →
    Reads fresh Q u gQ q → Apart t u → Among gP g → Among gQ g →
    Reads fresh (P or Q) (either t u) g (either_at (begins t) p q)
alt {fresh} {P} {t} {gP} {p} {Q} {u} {gQ} {q} g rp rq apart hp hq = record {
  exact = or_exact fresh (begins t) P p Q q gP gQ g rp.exact rq.exact
      (λ ls e. (stops_fewer gP g ls hp e, stops_fewer gQ g ls hq e))
      (by_head t u P p Q q g rp.begins rq.begins apart);
  begins = begins_or P Q (either t u) (begins_wider P t (either t u) (among_left t u) rp.begins)
      (begins_wider Q u (either t u) (among_right t u) rq.begins);
}

pub starting : {T F A : Type 0} {fresh : F → Type 0} {P : Phrase T F A} {t g : T → Bool} {p : Reader T F A}
    (u : T → Bool) → Among t u → Reads fresh P t g p → Reads fresh P u g p
starting {P} {t} u h r = record { exact = r.exact; begins = begins_wider P t u h r.begins }

pub ending : {T F A : Type 0} {fresh : F → Type 0} {P : Phrase T F A} {t g : T → Bool} {p : Reader T F A}
    (u : T → Bool) → Among g u → Reads fresh P t g p → Reads fresh P t u p
ending u h r = record { exact = wider_goes u h r.exact; begins = r.begins }

pub place_of : {T S F A : Type 0} {fresh : F → Type 0} {P : Phrase T F A} {t g : T → Bool} {p : Reader T F A}
    (place : T → S) → Reads fresh P t g p → Reads fresh (Placed place P) t g (placed_at place p)
place_of {P} {t} place r =
    record { exact = placed_exact place t r.exact r.begins; begins = begins_placed place P t r.begins }

pub maybe : {T F A : Type 0} {fresh : F → Type 0} {P : Phrase T F A} {t gP : T → Bool} {p : Reader T F A}
    (none : A) (g : T → Bool) → Reads fresh P t gP p → Among t g → Among gP g →
    Exact fresh (Perhaps none P) g (perhaps_at t none p)
maybe {fresh} {P} {t} {gP} {p} none g r ht hg =
    perhaps_exact fresh none t P gP g p r.exact r.begins
    (λ ls e. (stops_fewer t g ls ht e, stops_fewer gP g ls hg e))

pub capped : {T F A : Type 0} {fresh : F → Type 0} {P : Phrase T F A} (fault : T → F) (is : T → Bool)
    (kind : T → Kind) (g : T → Bool) → Begins P is → ((x : T) → is x ≡ true → Started P (x ∷ [])) →
    Reads fresh (Above fault P) is g (cap_at is kind fault)
capped {fresh} {P} fault is kind g bp starts =
    record { exact = capped_exact fresh P g is kind fault bp starts; begins = begins_above fault P is bp }

-- ---- any number of them

many_run : {T F A : Type 0} (P : Phrase T F A) (ts : List T) (as' : List A) (o : Option F) → Many P ts as' o →
    Run {S = Unit {0}} (λ _. true) (λ _. true) (λ _ _. tt) (λ _. P) tt ts as' o
many_run P ts [] o (m, f) = (m, refl, f)
many_run P ts (a ∷ more) o (us, vs, p, q, e, m, ms, f) = (us, vs, p, q, e, refl, m, many_run P vs more q ms, f)

run_many : {T F A : Type 0} (P : Phrase T F A) (ts : List T) (as' : List A) (o : Option F) →
    Run {S = Unit {0}} (λ _. true) (λ _. true) (λ _ _. tt) (λ _. P) tt ts as' o → Many P ts as' o
run_many P ts [] o (m, n, f) = (m, f)
run_many P ts (a ∷ more) o (us, vs, p, q, e, go, m, ms, f) = (us, vs, p, q, e, m, run_many P vs more q ms, f)

pub many : {T F A : Type 0} {fresh : F → Type 0} {P : Phrase T F A} {t gP : T → Bool} {p : Reader T F A}
    (g : T → Bool) → Reads fresh P t gP p → Apart gP t → Among t g → Among gP g →
    Exact fresh (Many P) g (many_at t p)
many {fresh} {P} {t} {gP} {p} g r apart ht hg =
    alike_exact (Run (λ _. true) (λ _. true) (λ _ _. tt) (λ _. P) tt) (Many P) (run_many P) (many_run P)
    (run_exact fresh (λ _. true) (λ _. true) (λ _ _. tt) (λ _. P) (λ _. t) gP g (λ _. p) (λ _. r.exact)
    (record {
      starts = λ s us rest a o m. r.begins.at us rest a o m;
      apart = λ s ls go e. begins_apart gP t ls apart e;
      last =
          λ s ls e. (stops_fewer t g ls ht e, stops_fewer gP g ls hg e);
    })
    (λ s. record { tokens = []; value = []; fault = None; means = (refl, refl, refl); mild = tt }) tt)

-- any number of them, each as a state asks
pub counted : {T F A S : Type 0} {fresh : F → Type 0} {t gP : T → Bool} {p : S → Reader T F A} (next : S → A → S)
    (P : S → Phrase T F A) (g : T → Bool) → ((s : S) → Reads fresh (P s) t gP (p s)) → Apart gP t → Among t g →
    Among gP g → (s : S) → Exact fresh (Run (λ _. true) (λ _. true) next P s) g (counted_at next t p s)
counted {T} {F} {A} {S} {fresh} {t} {gP} {p} next P g r apart ht hg s =
    run_exact fresh (λ _. true) (λ _. true) next P (λ _. t) gP g p (λ s. (r s).exact)
    (record {
      starts = λ s us rest a o m. (r s).begins.at us rest a o m;
      apart = λ s ls go e. begins_apart gP t ls apart e;
      last =
          λ s ls e. (stops_fewer t g ls ht e, stops_fewer gP g ls hg e);
    })
    (λ s. record { tokens = []; value = []; fault = None; means = (refl, refl, refl); mild = tt }) s

-- ---- samples

unfoldable pub sample_then : {T F A B : Type 0} {fresh : F → Type 0} {P : Phrase T F A} {Q : Phrase T F B} →
    Sample fresh P → Sample fresh Q → Sample fresh (P then Q)
sample_then {fresh} a b =
    record {
      tokens = a.tokens ++ b.tokens;
      value = (a.value, b.value);
      fault = first a.fault b.fault;
      means = (a.tokens, b.tokens, a.fault, b.fault, refl, a.means, b.means, refl);
      mild =
          mild_first fresh a.fault b.fault a.mild b.mild;
    }

unfoldable pub sample_token : {T F A : Type 0} {fresh : F → Type 0} (is : T → Bool) (value : T → A) (x : T) →
    is x ≡ true → Sample {F = F} fresh (Token is value)
sample_token is value x e =
    record { tokens = x ∷ []; value = value x; fault = None; means = (x, refl, e, refl, refl); mild = tt }

unfoldable pub sample_none : {T F A : Type 0} {fresh : F → Type 0} (none : A) (P : Phrase T F A) →
    Sample fresh (Perhaps none P)
sample_none none P = record { tokens = []; value = none; fault = None; means = inl (refl, refl, refl); mild = tt }

unfoldable pub sample_many : {T F A : Type 0} {fresh : F → Type 0} (P : Phrase T F A) → Sample fresh (Many P)
sample_many P = record { tokens = []; value = []; fault = None; means = (refl, refl); mild = tt }

unfoldable pub sample_run : {T F A S : Type 0} {fresh : F → Type 0} (next : S → A → S) (P : S → Phrase T F A)
    (s : S) → Sample fresh (Run (λ _. true) (λ _. true) next P s)
sample_run next P s = record { tokens = []; value = []; fault = None; means = (refl, refl, refl); mild = tt }

unfoldable pub sample_making : {T F A B : Type 0} {fresh : F → Type 0} {P : Phrase T F A} (f : A → B) →
    Sample fresh P → Sample fresh (Making f P)
sample_making f a = record
    { tokens = a.tokens; value = f a.value; fault = a.fault; means = (a.value, a.means, refl); mild = a.mild }
