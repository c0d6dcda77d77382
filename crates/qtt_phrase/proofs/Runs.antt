-- Runs of phrases are read exactly where each of them is.
use Rattle.std.proofs.Common.{◌≡◌, ℕ, zero, suc, ◌<◌, ◌≤◌, Bool, true, false, cond, ◌&&◌, List, [], ◌∷◌, ◌++◌, length, Option, Some, None, refl, sym, ap, subst, ◌∙◌, append_assoc, arith, inl, inr, ◌⊎◌}
use Rattle.std.proofs.lemmas.List.{length-append}
use Rattle.qtt_phrase.specs.Phrase.{Phrase, Run, first}
use Rattle.qtt_phrase.specs.Reading.{Kind, Read, Reader, ◌>>=◌, begins, ended, run_at, all_at}
use Rattle.qtt_phrase.specs.Reading.Kind.{unexpected}
use Rattle.qtt_phrase.specs.Reading.Read.{got, bad, over}
use Rattle.qtt_phrase.proofs.Exact.{same_start}
use Rattle.qtt_phrase.proofs.Chained.{Stops, Judged, Begun, Started, Exact, Sample, mild_first, judged_is, judged_read, then_goes, bind_got, bind_bad, bind_over, chosen}

pub record Repeats {T F A S : Type 0} (goes : S → Bool) (test : S → T → Bool) (gP g : T → Bool)
    (P : S → Phrase T F A) : Type 0 where
  pub starts : (s : S) (us rest : List T) (a : A) (o : Option F) → P s us a o → begins (test s) (us ++ rest) ≡ true
  -- what begins another one doesn't go on with one
  pub apart : (s : S) (ls : List T) → goes s ≡ true → begins (test s) ls ≡ true → Stops gP ls
  pub last : (s : S) (ls : List T) → Stops g ls → (goes s && begins (test s) ls ≡ false) × Stops gP ls

both_true : (a b : Bool) → a && b ≡ true → (a ≡ true) × (b ≡ true)
both_true true true e = (refl, refl)
both_true true false e = absurd cc
both_true false b e = absurd cc

pub ended_got : {T F A : Type 0} (b : Bool) (ls : List T) (bs : List A) (rest : List T) →
    ended {T = T} {F = F} {A = A} b ls ≡ got bs rest → (b ≡ true) × ([] ≡ bs) × (ls ≡ rest)
ended_got true ls bs rest e = (refl, cc, cc)
ended_got false ls bs rest e = absurd cc

pub ended_bad : {T F A : Type 0} (b : Bool) (ls : List T) (k : Kind) (rest : List T) →
    ended {T = T} {F = F} {A = A} b ls ≡ bad k rest → (b ≡ false) × (unexpected ≡ k) × (ls ≡ rest)
ended_bad true ls k rest e = absurd cc
ended_bad false ls k rest e = (refl, cc, cc)

pub ended_over : {T F A : Type 0} (b : Bool) (ls : List T) (f : F) (rest : List T) →
    ended {T = T} {F = F} {A = A} b ls ≡ over f rest → ⊥
ended_over true ls f rest e = cc
ended_over false ls f rest e = cc

module _ {T F A S : Type 0} (fresh : F → Type 0) (ends goes : S → Bool) (next : S → A → S) (P : S → Phrase T F A)
    (test : S → T → Bool) (gP g : T → Bool) (p : S → Reader T F A)
    (ex : (s : S) → Exact fresh (P s) gP (p s)) (rep : Repeats goes test gP g P)
    (some : (s : S) → Sample fresh (Run ends goes next P s)) where
  record SplitsRun (s : S) (ls : List T) (bs : List A) (rest : List T) : Type 0 where
    front : List T
    parts : ls ≡ front ++ rest
    means : Run ends goes next P s front bs None
    stays : (m : ℕ) (x : T) (r z : List T) → rest ≡ x ∷ r → length (front ++ x ∷ z) ≤ m →
        run_at ends goes next test p m s (front ++ x ∷ z) ≡ got bs (x ∷ z)

  record StuckRun (s : S) (ls : List T) (k : Kind) (rest : List T) : Type 0 where
    front : List T
    parts : ls ≡ front ++ rest
    stays : (m : ℕ) (x : T) (r z : List T) → rest ≡ x ∷ r → length (front ++ x ∷ z) ≤ m →
        run_at ends goes next test p m s (front ++ x ∷ z) ≡ bad k (x ∷ z)
    goes_on : (front ≡ []) ⊎ Begun fresh (Run ends goes next P s) front

  record PassedRun (s : S) (ls : List T) (f : F) (rest : List T) : Type 0 where
    front : List T
    last : T
    parts : ls ≡ front ++ last ∷ rest
    stays : (m : ℕ) (z : List T) → length (front ++ last ∷ z) ≤ m →
        run_at ends goes next test p m s (front ++ last ∷ z) ≡ over f z
    begun : Started (Run ends goes next P s) (front ++ last ∷ [])

  abbrev again : ℕ → S → A → List T → Read T F (List A)
  again n s a r = run_at ends goes next test p n (next s a) r >>= λ b t. got (a ∷ b) t

  abbrev front_with : A → Read T F (List A) → Read T F (List A)
  front_with a y = y >>= λ b t. got (a ∷ b) t

  -- a phrase takes at least one token
  shorter : (s : S) (us rest : List T) (a : A) (o : Option F) → P s us a o → length rest < length (us ++ rest)
  shorter s [] rest a o m = absurd (let h = rep.starts s [] [] a o m in cc)
  shorter s (x ∷ us) rest a o m = omega (arith, length-append (x ∷ us) rest)

  -- where no other one comes
  run_none : (n : ℕ) (s : S) (ls : List T) → goes s && begins (test s) ls ≡ false →
      run_at ends goes next test p n s ls ≡ ended (ends s) ls
  run_none zero s ls e = refl
  run_none (suc n) s ls e = rw e refl

  more_than : (front : List T) (x : T) (z : List T) → length (front ++ x ∷ z) ≤ zero → ⊥
  more_than front x z h = omega (arith, length-append front (x ∷ z))

  comes : (s : S) (ls : List T) → goes s ≡ true → begins (test s) ls ≡ true → goes s && begins (test s) ls ≡ true
  comes s ls e f = rw (e, f) refl

  later_at : (m : ℕ) (s : S) (us vs : List T) (x : T) (z : List T) (a : A) (y : Read T F (List A)) →
      goes s ≡ true → p s (us ++ (vs ++ x ∷ z)) ≡ got a (vs ++ x ∷ z) →
      begins (test s) (us ++ (vs ++ x ∷ z)) ≡ true → length (vs ++ x ∷ z) < length (us ++ (vs ++ x ∷ z)) →
      ((o : ℕ) → length (vs ++ x ∷ z) ≤ o → run_at ends goes next test p o (next s a) (vs ++ x ∷ z) ≡ y) →
      length ((us ++ vs) ++ x ∷ z) ≤ m → run_at ends goes next test p m s ((us ++ vs) ++ x ∷ z) ≡ front_with a y
  later_at zero s us vs x z a y go e b lt step long = absurd (more_than (us ++ vs) x z long)
  later_at (suc m) s us vs x z a y go e b lt step long =
      let way = append_assoc us vs (x ∷ z) in
      let h = ap length way in
      let le : length (vs ++ x ∷ z) ≤ m = omega arith in
      rw (way, go, b, e, step m le) refl

  first_bad_at : (m : ℕ) (s : S) (front : List T) (k : Kind) (x : T) (r z : List T) →
      goes s && begins (test s) (front ++ x ∷ r) ≡ true → p s (front ++ x ∷ z) ≡ bad k (x ∷ z) →
      length (front ++ x ∷ z) ≤ m → run_at ends goes next test p m s (front ++ x ∷ z) ≡ bad k (x ∷ z)
  first_bad_at zero s front k x r z b e long = absurd (more_than front x z long)
  first_bad_at (suc m) s front k x r z b e long = let c : goes s && begins (test s) (front ++ x ∷ z) ≡ true =
      ap (λ (v : Bool). goes s && v) (same_start (test s) front x z r) ∙ b in rw (c, e) refl

  first_over_at : (m : ℕ) (s : S) (front : List T) (f : F) (x : T) (r z : List T) →
      goes s && begins (test s) (front ++ x ∷ r) ≡ true → p s (front ++ x ∷ z) ≡ over f z →
      length (front ++ x ∷ z) ≤ m → run_at ends goes next test p m s (front ++ x ∷ z) ≡ over f z
  first_over_at zero s front k x r z b e long = absurd (more_than front x z long)
  first_over_at (suc m) s front k x r z b e long = let c : goes s && begins (test s) (front ++ x ∷ z) ≡ true =
      ap (λ (v : Bool). goes s && v) (same_start (test s) front x z r) ∙ b in rw (c, e) refl

  ended_stays : (m : ℕ) (s : S) (x : T) (r z : List T) (b : Bool) → goes s && begins (test s) (x ∷ r) ≡ false →
      ends s ≡ b → run_at ends goes next test p m s (x ∷ z) ≡ ended b (x ∷ z)
  ended_stays m s x r z b e f = run_none m s (x ∷ z) e ∙ ap (λ (v : Bool). ended v (x ∷ z)) f

  -- a run with one phrase in front
  run_and : (s : S) (us vs : List T) (a : A) (more : List A) (k l : Option F) → goes s ≡ true → P s us a k →
      Run ends goes next P (next s a) vs more l → Run ends goes next P s (us ++ vs) (a ∷ more) (first k l)
  run_and s us vs a more k l go m ms = (us, vs, k, l, refl, go, m, ms, refl)

  sound_ended : (s : S) (ls : List T) (bs : List A) (rest : List T) → goes s && begins (test s) ls ≡ false →
      ended {F = F} {A = A} (ends s) ls ≡ got bs rest → SplitsRun s ls bs rest
  sound_ended s ls bs rest none e =
      let t = ended_got (ends s) ls bs rest e in
      record {
        front = [];
        parts = t.2;
        means = rw (← t.1) (refl, t.0, refl);
        stays = λ m x r z h long. let k : goes s && begins (test s) (x ∷ r) ≡ false =
            sym (ap (λ (v : List T). goes s && begins (test s) v) (t.2 ∙ h)) ∙ none in
            ended_stays m s x r z true k t.0 ∙ ap (λ v. got v (x ∷ z)) t.1;
      }

  none_at_end : (s : S) → goes s && begins (test s) [] ≡ false
  none_at_end s = elim (goes s) as (λ (v : Bool). v && false ≡ false) [ true ↦ refl | false ↦ refl ]

  run_sound : (n : ℕ) (s : S) (ls : List T) → length ls ≤ n →
      (bs : List A) (rest : List T) → run_at ends goes next test p n s ls ≡ got bs rest → SplitsRun s ls bs rest
  run_sound zero s [] le bs rest e = sound_ended s [] bs rest (none_at_end s) e
  run_sound zero s (x ∷ ls) le bs rest e = absurd (omega arith)
  run_sound (suc n) s ls le bs rest e =
      elim (chosen (goes s && begins (test s) ls) (p s ls >>= again n s) (ended (ends s) ls) (got bs rest) e) [
        | inl c ↦
            let t = bind_got (p s ls) (again n s) bs rest c.1 in
            let u = bind_got (run_at ends goes next test p n (next s t.value) t.rest)
            (λ b w. got (t.value ∷ b) w) bs rest t.second in
            let x = (ex s).sound ls t.value t.rest t.first in
            let lt : length t.rest ≤ n =
            (let h = shorter s x.front t.rest t.value None x.means in let k = ap length x.parts in
            omega arith) in
            let y = run_sound n (next s t.value) t.rest lt u.value u.rest u.first in
            let bs-is : t.value ∷ u.value ≡ bs = let h = u.second in cc in
            let rest-is : u.rest ≡ rest = let h = u.second in cc in
            let go = (both_true (goes s) (begins (test s) ls) c.0).0 in
            record {
              front = x.front ++ y.front;
              parts = x.parts ∙ ap (λ (z : List T). x.front ++ z)
                  (y.parts ∙ ap (λ (z : List T). y.front ++ z) rest-is) ∙ sym (append_assoc x.front y.front rest);
              means = subst (λ (z : List A). Run ends goes next P s (x.front ++ y.front) z None) bs-is
                  (run_and s x.front y.front t.value u.value None None go x.means y.means);
              stays = λ m w r z h long.
                  later_at m s x.front y.front w z t.value (got u.value (w ∷ z)) go
                  (then_goes (P s) (p s) ls t.value t.rest x y.front w r z
                  (y.parts ∙ ap (λ (v : List T). y.front ++ v) (rest-is ∙ h)))
                  (rep.starts s x.front (y.front ++ w ∷ z) t.value None x.means)
                  (shorter s x.front (y.front ++ w ∷ z) t.value None x.means)
                  (λ o longer. y.stays o w r z (rest-is ∙ h) longer) long
                  ∙ ap (λ v. got v (w ∷ z)) bs-is;
            }
        | inr c ↦ sound_ended s ls bs rest c.0 c.1
      ]

  -- where more of them follow, one may end before them
  one_ends : (s : S) (vs rest : List T) (bs : List A) (o : Option F) → Run ends goes next P s vs bs o →
      Stops gP rest → Stops gP (vs ++ rest)
  one_ends s vs rest [] o (m, n, f) e = rw m e
  one_ends s vs rest (b ∷ bs) o (us, ws, k, l, parts, go, pu, more, f) e =
      rep.apart s (vs ++ rest) go
      (let way : vs ++ rest ≡ us ++ (ws ++ rest) = rw parts (append_assoc us ws rest) in
      ap (begins (test s)) way ∙ rep.starts s us (ws ++ rest) b k pu)

  again_judged : (n : ℕ) (s : S) (o u : Option F) (a : A) (bs : List A) (mid rest : List T) (r : Read T F A) →
      Judged o a mid r → Judged u bs rest (run_at ends goes next test p n (next s a) mid) →
      Judged (first o u) (a ∷ bs) rest (r >>= again n s)
  again_judged n s (Some k) u a bs mid rest r (v, h) h2 = (v, ap (λ (z : Read T F A). z >>= again n s) h)
  again_judged n s None None a bs mid rest r h h2 = ap (λ (z : Read T F A). z >>= again n s) h ∙ ap (front_with a) h2
  again_judged n s None (Some k) a bs mid rest r h (v, h2) =
      (v, ap (λ (z : Read T F A). z >>= again n s) h ∙ ap (front_with a) h2)

  run_complete : (n : ℕ) (s : S) (us rest : List T) → length (us ++ rest) ≤ n →
      (bs : List A) (o : Option F) → Run ends goes next P s us bs o → Stops g rest →
      Judged o bs rest (run_at ends goes next test p n s (us ++ rest))
  run_complete n s us rest le [] o (m, end, f) e = let none =
      (rep.last s rest e).0 in judged_is o None [] rest (run_at ends goes next test p n s (us ++ rest)) (sym f)
      (rw m (run_none n s rest none ∙ ap (λ (v : Bool). ended v rest) end))
  run_complete zero s us rest le (b ∷ bs) o (vs, ws, k, l, parts, go, pv, more, f) e =
      absurd (let h = shorter s vs (ws ++ rest) b k pv in let way : us ++ rest ≡ vs ++ (ws ++ rest) = rw parts
      (append_assoc vs ws rest) in let k = ap length way in omega arith)
  run_complete (suc n) s us rest le (b ∷ bs) o (vs, ws, k, l, parts, go, pv, more, f) e =
      let way : us ++ rest ≡ vs ++ (ws ++ rest) = rw parts (append_assoc vs ws rest) in
      let h = shorter s vs (ws ++ rest) b k pv in
      let long = ap length way in
      let lt : length (ws ++ rest) ≤ n = omega arith in
      let some : goes s && begins (test s) (vs ++ (ws ++ rest)) ≡ true =
      comes s (vs ++ (ws ++ rest)) go (rep.starts s vs (ws ++ rest) b k pv) in
      let one = (ex s).complete vs b k (ws ++ rest) pv (one_ends (next s b) ws rest bs l more (rep.last s rest e).1) in
      let two = run_complete n (next s b) ws rest lt bs l more e in
      judged_is o (first k l) (b ∷ bs) rest (run_at ends goes next test p (suc n) s (us ++ rest)) (sym f)
      (judged_read (first k l) (b ∷ bs) rest (run_at ends goes next test p (suc n) s (us ++ rest))
      (p s (vs ++ (ws ++ rest)) >>= again n s)
      (ap (run_at ends goes next test p (suc n) s) way ∙
      ap (λ (v : Bool). cond v (p s (vs ++ (ws ++ rest)) >>= again n s) (ended (ends s) (vs ++ (ws ++ rest))))
      some)
      (again_judged n s k l b bs (ws ++ rest) rest (p s (vs ++ (ws ++ rest))) one two))

  stuck_ended : (s : S) (ls : List T) (k : Kind) (rest : List T) → goes s && begins (test s) ls ≡ false →
      ended {F = F} {A = A} (ends s) ls ≡ bad k rest → StuckRun s ls k rest
  stuck_ended s ls k rest none e =
      let t = ended_bad (ends s) ls k rest e in
      record {
        front = [];
        parts = t.2;
        stays = λ m x r z h long. let j : goes s && begins (test s) (x ∷ r) ≡ false =
            sym (ap (λ (v : List T). goes s && begins (test s) v) (t.2 ∙ h)) ∙ none in
            ended_stays m s x r z false j t.0 ∙ ap (λ v. bad v (x ∷ z)) t.1;
        goes_on = inl refl;
      }

  run_stuck : (n : ℕ) (s : S) (ls : List T) → length ls ≤ n →
      (k : Kind) (rest : List T) → run_at ends goes next test p n s ls ≡ bad k rest → StuckRun s ls k rest
  run_stuck zero s [] le k rest e = stuck_ended s [] k rest (none_at_end s) e
  run_stuck zero s (x ∷ ls) le k rest e = absurd (omega arith)
  run_stuck (suc n) s ls le k rest e =
      elim (chosen (goes s && begins (test s) ls) (p s ls >>= again n s) (ended (ends s) ls) (bad k rest) e) [
        | inr c ↦ stuck_ended s ls k rest c.0 c.1
        | inl c ↦ let go = (both_true (goes s) (begins (test s) ls) c.0).0 in
            elim (bind_bad (p s ls) (again n s) k rest c.1) [
              | inl h ↦
                  let q = (ex s).stuck ls k rest h in
                  record {
                    front = q.front;
                    parts = q.parts;
                    stays = λ m x r z h2 long. first_bad_at m s q.front k x r z
                        (sym (ap (λ (v : List T). goes s && begins (test s) v)
                        (q.parts ∙ ap (λ (y : List T). q.front ++ y) h2)) ∙ c.0) (q.stays x r z h2) long;
                    goes_on = elim q.goes [
                      | inl none ↦ inl none
                      | inr on ↦ inr (let c = some (next s on.value) in record {
                        more = on.more ++ c.tokens;
                        value = on.value ∷ c.value;
                        fault = first on.fault c.fault;
                        means = subst (λ (v : List T). Run ends goes next P s v (on.value ∷ c.value)
                            (first on.fault c.fault)) (append_assoc q.front on.more c.tokens)
                            (run_and s (q.front ++ on.more) c.tokens on.value c.value on.fault c.fault go on.means
                            c.means);
                        mild = mild_first fresh on.fault c.fault on.mild c.mild;
                      })
                    ];
                  }
              | inr t ↦ elim (bind_bad (run_at ends goes next test p n (next s t.value) t.rest)
                  (λ b w. got (t.value ∷ b) w) k rest t.second) [
                    | inr u ↦ let h = u.second in absurd cc
                    | inl h ↦
                        let x = (ex s).sound ls t.value t.rest t.first in
                        let lt : length t.rest ≤ n =
                        (let h2 = shorter s x.front t.rest t.value None x.means in let h3 = ap length x.parts in
                        omega arith) in
                        let y = run_stuck n (next s t.value) t.rest lt k rest h in
                        record {
                          front = x.front ++ y.front;
                          parts = x.parts ∙ ap (λ (z : List T). x.front ++ z) y.parts ∙
                              sym (append_assoc x.front y.front rest);
                          stays = λ m w r z h2 long.
                              later_at m s x.front y.front w z t.value (bad k (w ∷ z)) go
                              (then_goes (P s) (p s) ls t.value t.rest x y.front w r z
                              (y.parts ∙ ap (λ (v : List T). y.front ++ v) h2))
                              (rep.starts s x.front (y.front ++ w ∷ z) t.value None x.means)
                              (shorter s x.front (y.front ++ w ∷ z) t.value None x.means)
                              (λ o longer. y.stays o w r z h2 longer) long;
                          goes_on = elim y.goes_on [
                            | inl none ↦ inr (let c = some (next s t.value) in record {
                              more = c.tokens;
                              value = t.value ∷ c.value;
                              fault = c.fault;
                              means = subst (λ (v : List T). Run ends goes next P s v (t.value ∷ c.value) c.fault)
                                  (sym (rw none (append_assoc x.front [] c.tokens)))
                                  (run_and s x.front c.tokens t.value c.value None c.fault go x.means c.means);
                              mild = c.mild;
                            })
                            | inr on ↦ inr (record {
                              more = on.more;
                              value = t.value ∷ on.value;
                              fault = on.fault;
                              means = subst (λ (v : List T). Run ends goes next P s v (t.value ∷ on.value) on.fault)
                                  (sym (append_assoc x.front y.front on.more))
                                  (run_and s x.front (y.front ++ on.more) t.value on.value None on.fault go x.means
                                  on.means);
                              mild = on.mild;
                            })
                          ];
                        }
                  ]
            ]
      ]

  run_passed : (n : ℕ) (s : S) (ls : List T) → length ls ≤ n →
      (f : F) (rest : List T) → run_at ends goes next test p n s ls ≡ over f rest → PassedRun s ls f rest
  run_passed zero s ls le f rest e = absurd (ended_over (ends s) ls f rest e)
  run_passed (suc n) s ls le f rest e =
      elim (chosen (goes s && begins (test s) ls) (p s ls >>= again n s) (ended (ends s) ls) (over f rest) e) [
        | inr c ↦ absurd (ended_over (ends s) ls f rest c.1)
        | inl c ↦ let go = (both_true (goes s) (begins (test s) ls) c.0).0 in
            elim (bind_over (p s ls) (again n s) f rest c.1) [
              | inl h ↦
                  let q = (ex s).passed ls f rest h in
                  let c' = some (next s q.begun.value) in
                  record {
                    front = q.front;
                    last = q.last;
                    parts = q.parts;
                    stays = λ m z long. first_over_at m s q.front f q.last rest z
                        (sym (ap (λ (v : List T). goes s && begins (test s) v) q.parts) ∙ c.0) (q.stays z) long;
                    begun = record {
                      more = q.begun.more ++ c'.tokens;
                      value = q.begun.value ∷ c'.value;
                      fault = first q.begun.fault c'.fault;
                      means = subst (λ (v : List T). Run ends goes next P s v (q.begun.value ∷ c'.value)
                          (first q.begun.fault c'.fault))
                          (append_assoc (q.front ++ q.last ∷ []) q.begun.more c'.tokens)
                          (run_and s ((q.front ++ q.last ∷ []) ++ q.begun.more) c'.tokens q.begun.value c'.value
                          q.begun.fault c'.fault go q.begun.means c'.means);
                    };
                  }
              | inr t ↦ elim (bind_over (run_at ends goes next test p n (next s t.value) t.rest)
                  (λ b w. got (t.value ∷ b) w) f rest t.second) [
                    | inr u ↦ let h = u.second in absurd cc
                    | inl h ↦
                        let x = (ex s).sound ls t.value t.rest t.first in
                        let lt : length t.rest ≤ n =
                        (let h2 = shorter s x.front t.rest t.value None x.means in let h3 = ap length x.parts in
                        omega arith) in
                        let y = run_passed n (next s t.value) t.rest lt f rest h in
                        record {
                          front = x.front ++ y.front;
                          last = y.last;
                          parts = x.parts ∙ ap (λ (z : List T). x.front ++ z) y.parts ∙
                              sym (append_assoc x.front y.front (y.last ∷ rest));
                          stays = λ m z long.
                              later_at m s x.front y.front y.last z t.value (over f z) go
                              (then_goes (P s) (p s) ls t.value t.rest x y.front y.last rest z y.parts)
                              (rep.starts s x.front (y.front ++ y.last ∷ z) t.value None x.means)
                              (shorter s x.front (y.front ++ y.last ∷ z) t.value None x.means)
                              (λ o longer. y.stays o z longer) long;
                          begun = record {
                            more = y.begun.more;
                            value = t.value ∷ y.begun.value;
                            fault = y.begun.fault;
                            means = subst (λ (v : List T). Run ends goes next P s v
                                (t.value ∷ y.begun.value) y.begun.fault)
                                (sym (ap (λ (z : List T). z ++ y.begun.more)
                                (append_assoc x.front y.front (y.last ∷ []))
                                ∙ append_assoc x.front (y.front ++ y.last ∷ []) y.begun.more))
                                (run_and s x.front ((y.front ++ y.last ∷ []) ++ y.begun.more) t.value y.begun.value None
                                y.begun.fault go x.means y.begun.means);
                          };
                        }
                  ]
            ]
      ]

  bind_enough : (n m : ℕ) (s : S) (ls : List T) (r : Read T F A) → p s ls ≡ r →
      ((a : A) (rest : List T) → length rest < length ls →
      run_at ends goes next test p n (next s a) rest ≡ run_at ends goes next test p m (next s a) rest) →
      (r >>= again n s) ≡ (r >>= again m s)
  bind_enough n m s ls (bad k r) e same = refl
  bind_enough n m s ls (over f r) e same = refl
  bind_enough n m s ls (got a r) e same =
      let x = (ex s).sound ls a r e in
      let lt : length r < length ls =
      (let h = shorter s x.front r a None x.means in let k = ap length x.parts in omega arith) in
      ap (front_with a) (same a r lt)

  -- more steps than there are tokens change nothing
  pub run_enough : (n m : ℕ) (s : S) (ls : List T) → length ls ≤ n → length ls ≤ m →
      run_at ends goes next test p n s ls ≡ run_at ends goes next test p m s ls
  run_enough zero m s [] le lm = sym (run_none m s [] (none_at_end s))
  run_enough zero m s (x ∷ ls) le lm = absurd (omega arith)
  run_enough (suc n) zero s [] le lm = run_none (suc n) s [] (none_at_end s)
  run_enough (suc n) zero s (x ∷ ls) le lm = absurd (omega arith)
  run_enough (suc n) (suc m) s ls le lm =
      ap (λ (y : Read T F (List A)). cond (goes s && begins (test s) ls) y (ended (ends s) ls))
      (bind_enough n m s ls (p s ls) refl (λ a r lt. run_enough n m (next s a) r (omega arith) (omega arith)))

  pub run_exact : (s : S) → Exact fresh (Run ends goes next P s) g (all_at ends goes next test p s)
  run_exact s = record {
    sound = λ ls bs rest e. let q =
        run_sound (length ls) s ls (omega arith) bs rest e in
        record {
          front = q.front;
          parts = q.parts;
          means = q.means;
          stays = λ x r z h. q.stays (length (q.front ++ x ∷ z)) x r z h (omega arith);
        };
    complete = λ us bs o rest m e. run_complete (length (us ++ rest)) s us rest (omega arith) bs o m e;
    stuck = λ ls k rest e. let q =
        run_stuck (length ls) s ls (omega arith) k rest e in
        record {
          front = q.front;
          parts = q.parts;
          stays = λ x r z h. q.stays (length (q.front ++ x ∷ z)) x r z h
              (omega arith);
          goes = q.goes_on;
        };
    passed = λ ls f rest e. let q =
        run_passed (length ls) s ls (omega arith) f rest e in
        record {
          front = q.front;
          last = q.last;
          parts = q.parts;
          stays = λ z. q.stays (length (q.front ++ q.last ∷ z)) z (omega arith);
          begun = q.begun;
        };
  }
