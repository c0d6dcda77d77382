-- The tokens are those of the longest parts of a text, and a fault has a place in it.
use Rattle.std.proofs.Common.{◌≡◌, ℕ, zero, suc, ◌<◌, ◌≤◌, ◌==◌, inl, inr, nat_lt, Bool, true, false, cond, List, [], ◌∷◌, ◌++◌, length, take, drop, Option, Some, None, Result, Ok, Err, Vec, IfOk, IfErr, refl, sym, ap, subst, ◌∙◌, append_assoc, length-append, arith}
use Rattle.std.proofs.lemmas.Bool.{eqb-true}
use Rattle.std.proofs.lemmas.Bool.Decides.{nat_tests}
use Rattle.std.proofs.lemmas.List.{take-append-drop, length-take, length-drop}
use Rattle.std.proofs.lemmas.List.Sums.{fold-append}
use Rattle.std.proofs.lemmas.Str.{IsUtf8-nil, IsUtf8-from_is_utf8, encodes-chars, utf8_valid_len_le}
use Rattle.std.proofs.Math.Seq.{take-length}
use Rattle.std.specs.Str.{chars, encode_utf8_all, IsUtf8, is_utf8}
use Rattle.std.specs.Str.Lossy.{utf8_valid_len, valid_len_up_to}
use Rattle.qtt_base.specs.declared.place.Span.{Span}
use Rattle.qtt_lexer.specs.Place.{start, place_behind, place_after}
use Rattle.qtt_lexer.specs.Fitting.{Fits}
use Rattle.qtt_lexer.specs.Piece.{piece_at}
use Rattle.qtt_lexer.specs.Forms.{IsPart, with_token, IsLongest, CutsInto, AreSpelled, IsText, HasPlace, HasPlaceIn}
use Rattle.qtt_lexer.specs.Lexed.{tokens_from, token, mistake, put_first, Mistake, seen, Gives, Refuses, without_mark, lexed}
use Rattle.std.specs.Global.{Global}
use Rattle.qtt_lexer.specs.declared.errors.LexError.{LexError}
use Rattle.qtt_lexer.specs.declared.errors.LexError.TheVariants as errors
use Rattle.qtt_lexer.specs.declared.place.Place.{Place}
use Rattle.qtt_lexer.specs.declared.token.Token.{Token}
use Rattle.qtt_lexer.specs.declared.token.TokenKind.{TokenKind}
use Rattle.qtt_lexer.specs.declared.token.TokenKind.TheVariants.{End}
use Rattle.qtt_lexer.specs.declared.piece.Cause.TheVariants.{NotUtf8}
use Rattle.qtt_lexer.specs.declared.piece.Piece.{Piece}
use Rattle.qtt_lexer.specs.declared.piece.Piece.TheVariants.{Gap, Token as TokenPiece, Wrong}
use Rattle.qtt_lexer.proofs.Fittings.{piece_at-fits}
use Rattle.qtt_lexer.proofs.Lexing.{tokens_from-gap, tokens_from-token, tokens_from-wrong}
use Rattle.qtt_lexer.proofs.Longest.{AtLeast, part_least}
use Rattle.qtt_lexer.proofs.Sound.{IsRight, piece_at-right}

-- a piece that has so many characters
abbrev HasLength : ℕ → Piece → Type 0
HasLength n (Gap m) = m ≡ n
HasLength n (TokenPiece k m) = m ≡ n
HasLength n (Wrong cause before m) = ⊥

at_most : (n m : ℕ) (q : Piece) → HasLength n q → AtLeast m q → m ≤ n
at_most n m (Gap k) h least = omega (arith, h, least)
at_most n m (TokenPiece kind k) h least = omega (arith, h, least)
at_most n m (Wrong cause before k) h least = absurd h

longest_front : (broken : Bool) (cs : List ℕ) (n : ℕ) (o : Option TokenKind) → HasLength n (piece_at broken cs) →
    0 < n → n ≤ length cs → IsPart o (take n cs) →
    IsLongest (record { kind = o; characters = take n cs }) (drop n cs)
longest_front broken cs n o has lt le right = record {
  some = omega (arith, length-take n cs, lt, le);
  form = right;
  longest = λ p more rest is some h.
      let same : (take n cs ++ more) ++ rest ≡ cs =
      append_assoc (take n cs) more rest ∙ ap (λ (ds : List ℕ). take n cs ++ ds) (sym is) ∙ take-append-drop n cs in
      let least = subst (λ (ds : List ℕ). AtLeast (length (take n cs ++ more)) (piece_at broken ds)) same
      (part_least broken p (take n cs ++ more) rest h) in
      absurd (omega (
        arith,
        at_most n (length (take n cs ++ more)) (piece_at broken cs) has least,
        length-append (take n cs) more,
        length-take n cs,
        le,
        some,
      ));
}

-- more characters at the front, cut off as one part
one_more : (p : Place) (cs : List ℕ) (n : ℕ) (o : Option TokenKind) (ts : List Token) →
    IsLongest (record { kind = o; characters = take n cs }) (drop n cs) →
    CutsInto (place_after p (take n cs)) (drop n cs) ts →
    CutsInto p cs (with_token p (record { kind = o; characters = take n cs }) o ts)
one_more p cs n o ts longest rest = record {
  cuts = record { kind = o; characters = take n cs } ∷ rest.cuts;
  whole = ap (λ (ds : List ℕ). take n cs ++ ds) rest.whole ∙ take-append-drop n cs;
  longest = (subst (IsLongest (record { kind = o; characters = take n cs })) (sym rest.whole) longest, rest.longest);
  tokens = ap (with_token p (record { kind = o; characters = take n cs }) o) rest.tokens;
}

put_first-ok : (t : Token) (r : Result (List Token) Mistake) (ts : List Token) → put_first t r ≡ Ok ts →
    (us : List Token) × (r ≡ Ok us) × (t ∷ us ≡ ts)
put_first-ok t (Ok us) ts h = (us, refl, let e = h in cc)
put_first-ok t (Err m) ts h = absurd (let e = h in cc)

put_first-err : (t : Token) (r : Result (List Token) Mistake) (m : Mistake) → put_first t r ≡ Err m → r ≡ Err m
put_first-err t (Ok us) m h = absurd (let e = h in cc)
put_first-err t (Err n) m h = h

abbrev Cuts : Bool → Place → List ℕ → List Token → Type 0
Cuts broken p cs ts = (broken ≡ false) × CutsInto p cs ts

cut_by : (b : Bool) (p : Place) (ts : List Token) →
    cond b (Err (mistake NotUtf8 p 0)) (Ok (token End p [] ∷ [])) ≡ Ok ts → Cuts b p [] ts
cut_by true p ts h = absurd (let f = h in cc)
cut_by false p ts h = (refl, record { cuts = []; whole = refl; longest = tt; tokens = let f = h in cc })

cut_end : (broken : Bool) (p : Place) (ts : List Token) → tokens_from broken p 0 [] ≡ Ok ts → Cuts broken p [] ts
unfolding tokens_from
cut_end broken p ts h = cut_by broken p ts h

module _ (broken : Bool) (p : Place) (cs : List ℕ) (ts : List Token) (some : 0 < length cs)
    (all : tokens_from broken p 0 cs ≡ Ok ts) where
  cut_piece : (q : Piece) → q ≡ piece_at broken cs → Fits (length cs) q → IsRight cs q →
      ((n : ℕ) (us : List Token) → 0 < n → tokens_from broken (place_after p (take n cs)) 0 (drop n cs) ≡ Ok us →
      Cuts broken (place_after p (take n cs)) (drop n cs) us) → Cuts broken p cs ts
  cut_piece (Gap n) is fits right rest =
      let tail = rest n ts fits.0 (sym (tokens_from-gap broken p n cs some is fits.0 fits.1) ∙ all) in
      let has : HasLength n (piece_at broken cs) = subst (HasLength n) is refl in
      (tail.0, one_more p cs n None ts (longest_front broken cs n None has fits.0 fits.1 right) tail.1)
  cut_piece (TokenPiece k n) is fits right rest =
      let parts = put_first-ok (token k p (take n cs))
      (tokens_from broken (place_after p (take n cs)) 0 (drop n cs)) ts
      (sym (tokens_from-token broken p k n cs some is fits.0 fits.1) ∙ all) in
      let tail = rest n parts.0 fits.0 parts.1 in
      let has : HasLength n (piece_at broken cs) = subst (HasLength n) is refl in
      let cut = one_more p cs n (Some k) parts.0 (longest_front broken cs n (Some k) has fits.0 fits.1 right) tail.1 in
      (tail.0, subst (CutsInto p cs) parts.2 cut)
  cut_piece (Wrong cause before n) is fits right rest =
      absurd (let e = sym (tokens_from-wrong broken p cause before n cs some is) ∙ all in cc)

cuts_within : (fuel : ℕ) (broken : Bool) (p : Place) (cs : List ℕ) (ts : List Token) → length cs ≤ fuel →
    tokens_from broken p 0 cs ≡ Ok ts → Cuts broken p cs ts
cuts_within fuel broken p [] ts h all = cut_end broken p ts all
cuts_within zero broken p (c ∷ cs) ts h all = absurd (omega (arith, h))
cuts_within (suc fuel) broken p (c ∷ cs) ts h all =
    cut_piece broken p (c ∷ cs) ts (omega arith) all (piece_at broken (c ∷ cs)) refl
    (piece_at-fits broken (c ∷ cs) (omega arith)) (piece_at-right broken (c ∷ cs) (omega arith))
    (λ n us lt rest. cuts_within fuel broken (place_after p (take n (c ∷ cs))) (drop n (c ∷ cs)) us
    (omega (arith, h, lt, length-drop n (c ∷ cs))) rest)

-- Faults

-- a fault among characters that begin at a place, or directly behind them
record IsPlaced (p : Place) (cs : List ℕ) (span : Span) : Type 0 where
  before : List ℕ
  behind : List ℕ
  whole : before ++ behind ≡ cs
  line : span.line ≡ (place_after p before).line
  col : span.col ≡ (place_after p before).col

placed_later : (p : Place) (cs : List ℕ) (n : ℕ) (span : Span) →
    IsPlaced (place_after p (take n cs)) (drop n cs) span → IsPlaced p cs span
placed_later p cs n span rest =
    let same : place_after (place_after p (take n cs)) rest.before ≡ place_after p (take n cs ++ rest.before) =
    sym (fold-append place_behind p (take n cs) rest.before) in
    record {
      before = take n cs ++ rest.before;
      behind = rest.behind;
      whole = append_assoc (take n cs) rest.before rest.behind ∙ ap (λ (ds : List ℕ). take n cs ++ ds) rest.whole
          ∙ take-append-drop n cs;
      line = rest.line ∙ ap (λ (q : Place). q.line) same;
      col = rest.col ∙ ap (λ (q : Place). q.col) same;
    }

abbrev failed : Mistake → Result (List Token) Mistake
failed m = Err m

same_mistake : (a b : Mistake) → failed a ≡ failed b → a ≡ b
same_mistake a b e = cc

placed_by : (b : Bool) (p : Place) (m : Mistake) →
    cond b (Err (mistake NotUtf8 p 0)) (Ok (token End p [] ∷ [])) ≡ Err m → IsPlaced p [] m.span
placed_by true p m h =
    let same : mistake NotUtf8 p 0 ≡ m = same_mistake (mistake NotUtf8 p 0) m h in
    record {
      before = [];
      behind = [];
      whole = refl;
      line = ap (λ (x : Mistake). x.span.line) (sym same);
      col = ap (λ (x : Mistake). x.span.col) (sym same);
    }
placed_by false p m h = absurd (let f = h in cc)

placed_end : (broken : Bool) (p : Place) (m : Mistake) → tokens_from broken p 0 [] ≡ Err m → IsPlaced p [] m.span
unfolding tokens_from
placed_end broken p m h = placed_by broken p m h

module _ (broken : Bool) (p : Place) (cs : List ℕ) (m : Mistake) (some : 0 < length cs)
    (all : tokens_from broken p 0 cs ≡ Err m) where
  placed_piece : (q : Piece) → q ≡ piece_at broken cs → Fits (length cs) q →
      ((n : ℕ) → 0 < n → tokens_from broken (place_after p (take n cs)) 0 (drop n cs) ≡ Err m →
      IsPlaced (place_after p (take n cs)) (drop n cs) m.span) → IsPlaced p cs m.span
  placed_piece (Gap n) is fits rest =
      placed_later p cs n m.span (rest n fits.0 (sym (tokens_from-gap broken p n cs some is fits.0 fits.1) ∙ all))
  placed_piece (TokenPiece k n) is fits rest =
      placed_later p cs n m.span
      (rest n fits.0 (put_first-err (token k p (take n cs)) _ m
      (sym (tokens_from-token broken p k n cs some is fits.0 fits.1) ∙ all)))
  placed_piece (Wrong cause before n) is fits rest =
      let same : mistake cause (place_after p (take before cs)) n ≡ m =
      same_mistake _ m (sym (tokens_from-wrong broken p cause before n cs some is) ∙ all) in
      record {
        before = take before cs;
        behind = drop before cs;
        whole = take-append-drop before cs;
        line = ap (λ (x : Mistake). x.span.line) (sym same);
        col = ap (λ (x : Mistake). x.span.col) (sym same);
      }

placed_within : (fuel : ℕ) (broken : Bool) (p : Place) (cs : List ℕ) (m : Mistake) → length cs ≤ fuel →
    tokens_from broken p 0 cs ≡ Err m → IsPlaced p cs m.span
placed_within fuel broken p [] m h all = placed_end broken p m all
placed_within zero broken p (c ∷ cs) m h all = absurd (omega (arith, h))
placed_within (suc fuel) broken p (c ∷ cs) m h all =
    placed_piece broken p (c ∷ cs) m (omega arith) all (piece_at broken (c ∷ cs)) refl
    (piece_at-fits broken (c ∷ cs) (omega arith))
    (λ n lt rest. placed_within fuel broken (place_after p (take n (c ∷ cs))) (drop n (c ∷ cs)) m
    (omega (arith, h, lt, length-drop n (c ∷ cs))) rest)

-- Bytes

utf8_by : (b : Bool) (bs : List ℕ) (n : ℕ) → is_utf8 (take (suc n) bs) ≡ b →
    IsUtf8 (take (valid_len_up_to bs n) bs) → IsUtf8 (take (cond b (suc n) (valid_len_up_to bs n)) bs)
utf8_by true bs n e h = IsUtf8-from_is_utf8 (take (suc n) bs) e
utf8_by false bs n e h = h

utf8_front : (bs : List ℕ) (n : ℕ) → IsUtf8 (take (valid_len_up_to bs n) bs)
utf8_front bs zero = IsUtf8-nil
utf8_front bs (suc n) = utf8_by (is_utf8 (take (suc n) bs)) bs n refl (utf8_front bs n)

valid_front : (bs : List ℕ) → IsUtf8 (take (utf8_valid_len bs) bs)
unfolding utf8_valid_len
valid_front bs = utf8_front bs (length bs)

spelled_by : (b : Bool) (c : ℕ) (cs text : List ℕ) → (c == 0xFEFF) ≡ b → encode_utf8_all (c ∷ cs) ≡ text →
    AreSpelled text (cond b cs (c ∷ cs))
spelled_by true c cs text e h = inr (ap (λ (x : ℕ). encode_utf8_all (x ∷ cs)) (sym (eqb-true c 0xFEFF e)) ∙ h)
spelled_by false c cs text e h = inl h

spelled_without : (cs text : List ℕ) → encode_utf8_all cs ≡ text → AreSpelled text (without_mark cs)
spelled_without [] text h = inl h
spelled_without (c ∷ cs) text h = spelled_by (c == 0xFEFF) c cs text refl h

spelled_text : (bytes : List ℕ) →
    AreSpelled (take (utf8_valid_len bytes) bytes) (without_mark (chars (take (utf8_valid_len bytes) bytes)))
spelled_text bytes =
    spelled_without (chars (take (utf8_valid_len bytes) bytes)) (take (utf8_valid_len bytes) bytes)
    (encodes-chars (take (utf8_valid_len bytes) bytes) (valid_front bytes))

whole_by : (bytes : List ℕ) (n : ℕ) → n ≤ length bytes → nat_lt n (length bytes) ≡ false → take n bytes ≡ bytes
whole_by bytes n le h =
    let all : n ≡ length bytes = grind (arith, nat_tests) in
    ap (λ (m : ℕ). take m bytes) all ∙ take-length bytes

-- tokens are those of a text
pub lexed-text : (bytes : List ℕ) (ts : List Token) → lexed bytes ≡ Ok ts → IsText bytes ts
unfolding lexed
lexed-text bytes ts h =
    let n = utf8_valid_len bytes in
    let cs = without_mark (chars (take n bytes)) in
    let cuts = cuts_within (length cs) (nat_lt n (length bytes)) start cs ts (omega arith) h in
    record {
      characters = cs;
      spelled = subst (λ (text : List ℕ). AreSpelled text cs) (whole_by bytes n (utf8_valid_len_le bytes) cuts.0)
          (spelled_text bytes);
      parts = cuts.1;
    }

-- bytes that are lexed are a text
pub lexed-utf8 : (bytes : List ℕ) (ts : List Token) → lexed bytes ≡ Ok ts → IsUtf8 bytes
unfolding lexed
lexed-utf8 bytes ts h =
    let n = utf8_valid_len bytes in
    let cs = without_mark (chars (take n bytes)) in
    let cuts = cuts_within (length cs) (nat_lt n (length bytes)) start cs ts (omega arith) h in
    subst IsUtf8 (whole_by bytes n (utf8_valid_len_le bytes) cuts.0) (valid_front bytes)

-- a fault has a place in the text, or directly behind it
pub lexed-place : (bytes : List ℕ) (m : Mistake) → lexed bytes ≡ Err m → HasPlace bytes m.span
unfolding lexed
lexed-place bytes m h =
    let n = utf8_valid_len bytes in
    let cs = without_mark (chars (take n bytes)) in
    let placed = placed_within (length cs) (nat_lt n (length bytes)) start cs m (omega arith) h in
    record {
      before = placed.before;
      behind = placed.behind;
      rest = drop n bytes;
      text = take n bytes;
      spelled = subst (AreSpelled (take n bytes)) (sym placed.whole) (spelled_text bytes);
      front = sym (take-append-drop n bytes);
      line = placed.line;
      col = placed.col;
    }

-- the answer's own words
pub text_of_answer : (bytes : List ℕ) (r : Result (Vec Token Global) LexError) → Gives r (lexed bytes) →
    IfOk r (λ tokens. IsText bytes tokens.items)
text_of_answer bytes (Ok tokens) h = lexed-text bytes tokens.items h
text_of_answer bytes (Err e) h = tt

place_of_error : (bytes : List ℕ) (e : LexError) → Refuses e (lexed bytes) → HasPlaceIn bytes e
place_of_error bytes errors.Memory h = tt
place_of_error bytes (errors.Fault fault) h = lexed-place bytes (seen fault) h

pub place_of_answer : (bytes : List ℕ) (r : Result (Vec Token Global) LexError) → Gives r (lexed bytes) →
    IfErr r (HasPlaceIn bytes)
place_of_answer bytes (Ok tokens) h = tt
place_of_answer bytes (Err e) h = place_of_error bytes e h
