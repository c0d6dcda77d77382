-- The characters that bytes spell are those that are read.
use Rattle.std.proofs.Common.{◌≡◌, ℕ, zero, suc, ◌+◌, ◌-◌, ◌<◌, ◌≤◌, ◌==◌, ◌&&◌, nat_lt, Bool, true, false, cond, List, [], ◌∷◌, ◌++◌, length, take, drop, encode_utf8, refl, sym, ap, subst, ◌∙◌, append_assoc, append-nil, length-append, length-take, take-append-drop, take_at, drop_at, arith}
use Rattle.std.proofs.Math.Seq.{take-append-add}
use Rattle.std.proofs.Math.Utf8.{scalar, scalars}
use Rattle.std.proofs.lemmas.Bool.{eqb-true}
use Rattle.std.proofs.lemmas.Bool.Decides.{nat_tests}
use Rattle.std.proofs.lemmas.Str.{IsUtf8-nil, IsUtf8-append, IsUtf8-encode, IsUtf8-from_is_utf8, is_utf8-from_IsUtf8, chars_from_encodes, encodes-chars, utf8_valid_len_le, length-encode, len_utf8_bounds, IsUtf8-drop, IsCharBoundary-from_take}
use Rattle.std.specs.Str.{IsUtf8, StartsWithNoChar, chars, encode_utf8_all, is_utf8}
use Rattle.std.specs.Str.Lossy.{utf8_valid_len, valid_len_up_to}
use Rattle.qtt_lexer.specs.Characters.{begins}
use Rattle.qtt_lexer.specs.Lexed.{tokens_from, without_mark, lexed}
use Rattle.qtt_lexer.specs.Place.{start}
use Rattle.qtt_lexer_laws.specs.Characters.{IsBehindMark, Spell}
use Rattle.qtt_lexer_laws.specs.Characters.IsBehindMark.{marked, unmarked}
use Rattle.qtt_lexer_laws.proofs.Standing.{is_broken}

-- The mark

passed : (all cs : List ℕ) → IsBehindMark all cs → without_mark all ≡ cs
passed all cs (marked ds) = refl
passed all cs (unmarked ds h) = kept ds h where
  kept : (ds : List ℕ) → begins (λ c. c == 0xFEFF) ds ≡ false → without_mark ds ≡ ds
  kept [] h = refl
  kept (d ∷ ds) h = rw h refl

mark_by : (b : Bool) (c : ℕ) (cs : List ℕ) → (c == 0xFEFF) ≡ b → IsBehindMark (c ∷ cs) (cond b cs (c ∷ cs))
mark_by true c cs e = subst (λ (x : ℕ). IsBehindMark (x ∷ cs) cs) (sym (eqb-true c 0xFEFF e)) (marked cs)
mark_by false c cs e = unmarked (c ∷ cs) e

behind_mark : (all : List ℕ) → IsBehindMark all (without_mark all)
behind_mark [] = unmarked [] refl
behind_mark (c ∷ cs) = mark_by (c == 0xFEFF) c cs refl

-- The longest front of UTF-8

front_by : (b : Bool) (bs : List ℕ) (n : ℕ) → is_utf8 (take (suc n) bs) ≡ b →
    IsUtf8 (take (valid_len_up_to bs n) bs) → IsUtf8 (take (cond b (suc n) (valid_len_up_to bs n)) bs)
front_by true bs n e h = IsUtf8-from_is_utf8 (take (suc n) bs) e
front_by false bs n e h = h

front_up_to : (bs : List ℕ) (n : ℕ) → IsUtf8 (take (valid_len_up_to bs n) bs)
front_up_to bs zero = IsUtf8-nil
front_up_to bs (suc n) = front_by (is_utf8 (take (suc n) bs)) bs n refl (front_up_to bs n)

longest_by : (b : Bool) (bs : List ℕ) (k n : ℕ) → is_utf8 (take (suc n) bs) ≡ b → IsUtf8 (take k bs) → k ≤ suc n →
    (k ≤ n → k ≤ valid_len_up_to bs n) → k ≤ cond b (suc n) (valid_len_up_to bs n)
longest_by true bs k n e h le rest = le
longest_by false bs k n e h le rest = by (suc n - k) (omega (arith, le)) where
  by : (d : ℕ) → suc n ≡ d + k → k ≤ valid_len_up_to bs n
  by zero is =
      let same : k ≡ suc n = omega (arith, is) in
      let f = sym e ∙ ap (λ (m : ℕ). is_utf8 (take m bs)) (sym same) ∙ is_utf8-from_IsUtf8 (take k bs) h in
      absurd (let g = f in cc)
  by (suc d) is = rest (omega (arith, is))

longest_up_to : (bs : List ℕ) (k n : ℕ) → IsUtf8 (take k bs) → k ≤ n → k ≤ valid_len_up_to bs n
longest_up_to bs k zero h le = omega (arith, le)
longest_up_to bs k (suc n) h le =
    longest_by (is_utf8 (take (suc n) bs)) bs k n refl h le (λ le'. longest_up_to bs k n h le')

valid_front : (bs : List ℕ) → IsUtf8 (take (utf8_valid_len bs) bs)
unfolding utf8_valid_len
valid_front bs = front_up_to bs (length bs)

valid_longest : (bs : List ℕ) (k : ℕ) → IsUtf8 (take k bs) → k ≤ length bs → k ≤ utf8_valid_len bs
unfolding utf8_valid_len
valid_longest bs k h le = longest_up_to bs k (length bs) h le

-- behind it no character begins
no_character : (bs : List ℕ) → StartsWithNoChar (drop (utf8_valid_len bs) bs)
no_character bs c rest scalar e =
    let n = utf8_valid_len bs in
    let k = length (encode_utf8 c) in
    let front : length (take n bs) ≡ n = omega (arith, length-take n bs, utf8_valid_len_le bs) in
    let whole : bs ≡ (take n bs ++ encode_utf8 c) ++ rest =
    sym (take-append-drop n bs) ∙ ap (λ (ds : List ℕ). take n bs ++ ds) e ∙
    sym (append_assoc (take n bs) (encode_utf8 c) rest) in
    let long : length (take n bs ++ encode_utf8 c) ≡ n + k =
    omega (arith, front, length-append (take n bs) (encode_utf8 c)) in
    let taken : take (n + k) bs ≡ take n bs ++ encode_utf8 c =
    ap (take (n + k)) whole ∙ take_at (take n bs ++ encode_utf8 c) rest (n + k) long in
    let valid : IsUtf8 (take (n + k) bs) =
    subst IsUtf8 (sym taken) (IsUtf8-append (take n bs) (encode_utf8 c) (valid_front bs) (IsUtf8-encode c scalar)) in
    let within : n + k ≤ length bs =
    omega (arith, ap length whole, length-append (take n bs ++ encode_utf8 c) rest, long) in
    absurd (omega (arith, valid_longest bs (n + k) valid within, length-encode c, (len_utf8_bounds c).0))

-- what is read of bytes is what they spell
pub spelled_bytes : (bs : List ℕ) →
    Spell bs (without_mark (chars (take (utf8_valid_len bs) bs))) (drop (utf8_valid_len bs) bs)
spelled_bytes bs =
    let n = utf8_valid_len bs in
    record {
      front = take n bs;
      whole = take-append-drop n bs;
      utf8 = valid_front bs;
      no_more = no_character bs;
      all = chars (take n bs);
      spelled = encodes-chars (take n bs) (valid_front bs);
      behind_mark = behind_mark (chars (take n bs));
    }

-- And back

both : (a b : Bool) → (a && b) ≡ true → (a ≡ true) × (b ≡ true)
both true b h = (refl, h)
both false b h = absurd (let e = h in cc)

-- behind a front of UTF-8, no more of the bytes that follow are UTF-8 where they begin no character
no_longer : (front more rest : List ℕ) → IsUtf8 front → IsUtf8 (front ++ more) → StartsWithNoChar (more ++ rest) →
    more ≡ []
no_longer front more rest u v none =
    let n = length front in
    let within : n ≤ length (front ++ more) = omega (arith, length-append front more) in
    let boundary = IsCharBoundary-from_take (front ++ more) n v within
    (subst IsUtf8 (sym (take_at front more n refl)) u) in
    let w : IsUtf8 more = subst IsUtf8 (drop_at front more n refl) (IsUtf8-drop (front ++ more) n v boundary) in
    by w.0 w.1.0 w.1.1
  where
    by : (ds : List ℕ) → scalars ds ≡ true → encode_utf8_all ds ≡ more → more ≡ []
    by [] s e = sym e
    by (d ∷ ds) s e =
        let same : more ++ rest ≡ encode_utf8 d ++ (encode_utf8_all ds ++ rest) =
        ap (λ (xs : List ℕ). xs ++ rest) (sym e) ∙ append_assoc (encode_utf8 d) (encode_utf8_all ds) rest in
        absurd (none d (encode_utf8_all ds ++ rest) (both (scalar d) (scalars ds) s).0 same)

module _ (bs cs rest : List ℕ) (s : Spell bs cs rest) where
  front_least : length s.front ≤ utf8_valid_len bs
  front_least =
      valid_longest bs (length s.front)
      (subst IsUtf8 (sym (take_at s.front rest (length s.front) refl) ∙ ap (take (length s.front)) s.whole) s.utf8)
      (omega (arith, length-append s.front rest, ap length s.whole))

  front_valid : take (utf8_valid_len bs) bs ≡ s.front
  front_valid = by (utf8_valid_len bs - length s.front) (omega (arith, front_least)) where
    by : (k : ℕ) → length s.front + k ≡ utf8_valid_len bs → take (utf8_valid_len bs) bs ≡ s.front
    by k e =
        let taken : take (utf8_valid_len bs) bs ≡ s.front ++ take k rest =
        ap (λ (n : ℕ). take n bs) (sym e) ∙ ap (take (length s.front + k)) (sym s.whole) ∙
        take-append-add s.front rest k in
        let none : take k rest ≡ [] =
        no_longer s.front (take k rest) (drop k rest) s.utf8 (subst IsUtf8 taken (valid_front bs))
        (subst StartsWithNoChar (sym (take-append-drop k rest)) s.no_more) in
        taken ∙ ap (λ (ds : List ℕ). s.front ++ ds) none ∙ append-nil s.front

  broken_by : (r : List ℕ) (n : ℕ) → length bs ≡ n + length r → nat_lt n (length bs) ≡ is_broken r
  broken_by [] n e = grind (arith, nat_tests)
  broken_by (b ∷ more) n e = let k : n < length bs = omega (arith, e) in grind (arith, nat_tests)

  -- what is read of bytes that spell characters
  pub lexed_is : lexed bs ≡ tokens_from (is_broken rest) start 0 cs
  unfolding lexed
  lexed_is =
      let n = utf8_valid_len bs in
      let long : length bs ≡ n + length rest =
      omega (
        arith,
        ap length s.whole,
        length-append s.front rest,
        ap length front_valid,
        length-take n bs,
        utf8_valid_len_le bs,
      ) in
      let read : without_mark (chars (take n bs)) ≡ cs =
      ap (λ (ds : List ℕ). without_mark (chars ds)) front_valid ∙
      ap without_mark (sym (chars_from_encodes s.all s.front s.utf8 s.spelled)) ∙ passed s.all cs s.behind_mark in
      ap (λ (b : Bool). tokens_from b start 0 (without_mark (chars (take n bs)))) (broken_by rest n long) ∙
      ap (tokens_from (is_broken rest) start 0) read
