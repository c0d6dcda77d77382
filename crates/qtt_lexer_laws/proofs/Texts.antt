-- The tokens of a text and its first fault, as they are read.
use Rattle.std.proofs.Common.{◌≡◌, ℕ, zero, suc, ◌<◌, ◌≤◌, Bool, false, List, [], ◌∷◌, ◌++◌, length, take, drop, Option, Some, None, Result, Ok, Err, refl, sym, ap, subst, ◌∙◌, append_assoc, append-nil, length-append, length-take, length-drop, take-append-drop, take_at, drop_at, arith}
use Rattle.std.proofs.lemmas.List.Sums.{fold-append}
use Rattle.qtt_lexer.specs.Fitting.{Fits}
use Rattle.qtt_lexer.specs.Forms.{IsPart, Cut, characters_of, tokens_of}
use Rattle.qtt_lexer.specs.Lexed.{Mistake, lexed, token, tokens_from, put_first}
use Rattle.qtt_lexer.specs.Piece.{piece_at}
use Rattle.qtt_lexer.specs.Place.{start, place_behind, place_after}
use Rattle.qtt_lexer.specs.declared.place.Place.{Place}
use Rattle.qtt_lexer.specs.declared.piece.Piece.{Piece}
use Rattle.qtt_lexer.specs.declared.piece.Piece.TheVariants.{Gap, Token as TokenPiece, Wrong}
use Rattle.qtt_lexer.specs.declared.token.Token.{Token}
use Rattle.qtt_lexer.specs.declared.token.TokenKind.{TokenKind}
use Rattle.qtt_lexer.specs.declared.token.TokenKind.TheVariants.{End}
use Rattle.qtt_lexer.proofs.Fittings.{piece_at-fits}
use Rattle.qtt_lexer.proofs.Lexing.{tokens_from-gap, tokens_from-token, tokens_from-wrong}
use Rattle.qtt_lexer.proofs.Sound.{IsRight, piece_at-right}
use Rattle.qtt_lexer_laws.specs.Characters.{Spell}
use Rattle.qtt_lexer_laws.specs.Cuts.{IsWhole, AreWhole, HasTokens}
use Rattle.qtt_lexer_laws.specs.Flaws.{Flaw, flaw, IsFlaw, reported, FirstFault}
use Rattle.qtt_lexer_laws.specs.Flaws.IsFlaw.{broken as is_broken_there}
use Rattle.qtt_lexer_laws.proofs.Bytes.{lexed_is, spelled_bytes}
use Rattle.qtt_lexer_laws.proofs.Exact.{part_of, exact_part}
use Rattle.qtt_lexer_laws.proofs.Reported.{flaw_reads}
use Rattle.qtt_lexer_laws.proofs.Standing.{AtMost, is_broken, flaw_of, FlawIn, ends, piece_at-flaw}

-- What is read is so

-- the tokens or the fault of characters that begin at a place, by cuts
abbrev Says : List ℕ → Place → List ℕ → Result (List Token) Mistake → Type 0
Says rest p cs (Ok ts) =
    (cuts : List Cut) × (rest ≡ []) × (characters_of cuts ≡ cs) × AreWhole cuts [] × (ts ≡ tokens_of p cuts)
Says rest p cs (Err m) =
    (cuts : List Cut) × (behind : List ℕ) × (f : Flaw) × (characters_of cuts ++ behind ≡ cs) ×
    AreWhole cuts behind × IsFlaw rest behind f × (m ≡ reported (place_after p (characters_of cuts)) f)

abbrev with_piece : Place → List ℕ → Option TokenKind → Result (List Token) Mistake → Result (List Token) Mistake
with_piece p cs None r = r
with_piece p cs (Some k) r = put_first (token k p cs) r

module _ (rest : List ℕ) (p : Place) (cs : List ℕ) (n : ℕ) where
  abbrev first_cut : Option TokenKind → Cut
  first_cut o = record { kind = o; characters = take n cs }

  further : (cuts : List Cut) (behind : List ℕ) → characters_of cuts ++ behind ≡ drop n cs →
      (take n cs ++ characters_of cuts) ++ behind ≡ cs
  further cuts behind e =
      append_assoc (take n cs) (characters_of cuts) behind ∙ ap (λ (ds : List ℕ). take n cs ++ ds) e ∙
      take-append-drop n cs

  one_more : (o : Option TokenKind) (r : Result (List Token) Mistake) → IsWhole (first_cut o) (drop n cs) →
      Says rest (place_after p (take n cs)) (drop n cs) r → Says rest p cs (with_piece p (take n cs) o r)
  one_more None (Ok ts) w h = (
    first_cut None ∷ h.0,
    h.1,
    ap (λ (ds : List ℕ). take n cs ++ ds) h.2 ∙ take-append-drop n cs,
    (subst (IsWhole (first_cut None)) (sym h.2 ∙ sym (append-nil (characters_of h.0))) w, h.3),
    h.4,
  )
  one_more (Some k) (Ok ts) w h = (
    first_cut (Some k) ∷ h.0,
    h.1,
    ap (λ (ds : List ℕ). take n cs ++ ds) h.2 ∙ take-append-drop n cs,
    (subst (IsWhole (first_cut (Some k))) (sym h.2 ∙ sym (append-nil (characters_of h.0))) w, h.3),
    ap (λ (us : List Token). token k p (take n cs) ∷ us) h.4,
  )
  one_more None (Err m) w h = (
    first_cut None ∷ h.0,
    h.1,
    h.2,
    further h.0 h.1 h.3,
    (subst (IsWhole (first_cut None)) (sym h.3) w, h.4),
    h.5,
    h.6 ∙ ap (λ (q : Place). reported q h.2) (sym (fold-append place_behind p (take n cs) (characters_of h.0))),
  )
  one_more (Some k) (Err m) w h = (
    first_cut (Some k) ∷ h.0,
    h.1,
    h.2,
    further h.0 h.1 h.3,
    (subst (IsWhole (first_cut (Some k))) (sym h.3) w, h.4),
    h.5,
    h.6 ∙ ap (λ (q : Place). reported q h.2) (sym (fold-append place_behind p (take n cs) (characters_of h.0))),
  )

first_whole : (broken : Bool) (cs : List ℕ) (n : ℕ) (o : Option TokenKind) → part_of o n ≡ piece_at broken cs →
    0 < n → n ≤ length cs → IsPart o (take n cs) → IsWhole (record { kind = o; characters = take n cs }) (drop n cs)
first_whole broken cs n o is some le right =
    let long : length (take n cs) ≡ n = omega (arith, length-take n cs, le) in
    record {
      some = omega (arith, long, some);
      form = right;
      longest = ends broken cs (take n cs) (drop n cs) (sym (take-append-drop n cs))
          (subst (AtMost (length (take n cs))) is (most o (length (take n cs)) (omega (arith, long))));
    }
  where
    most : (q : Option TokenKind) (m : ℕ) → n ≤ m → AtMost m (part_of q n)
    most None m h = h
    most (Some k) m h = h

says_end : (rest : List ℕ) (p : Place) → Says rest p [] (tokens_from (is_broken rest) p 0 [])
unfolding tokens_from
says_end [] p = ([], refl, refl, tt, refl)
says_end (b ∷ bs) p = ([], [], flaw 1 [] 0 [], refl, tt, is_broken_there (b ∷ bs) (omega arith), refl)

module _ (rest : List ℕ) (p : Place) (c : ℕ) (cs : List ℕ) where
  says_piece : (q : Piece) → q ≡ piece_at (is_broken rest) (c ∷ cs) → Fits (length (c ∷ cs)) q →
      IsRight (c ∷ cs) q → FlawIn rest (c ∷ cs) q →
      ((n : ℕ) → 0 < n → let later = place_after p (take n (c ∷ cs)) in
      Says rest later (drop n (c ∷ cs)) (tokens_from (is_broken rest) later 0 (drop n (c ∷ cs)))) →
      Says rest p (c ∷ cs) (tokens_from (is_broken rest) p 0 (c ∷ cs))
  says_piece (Gap n) is fits right stands later =
      subst (Says rest p (c ∷ cs))
      (sym (tokens_from-gap (is_broken rest) p n (c ∷ cs) (omega arith) is fits.0 fits.1))
      (one_more rest p (c ∷ cs) n None _
      (first_whole (is_broken rest) (c ∷ cs) n None is fits.0 fits.1 right) (later n fits.0))
  says_piece (TokenPiece k n) is fits right stands later =
      subst (Says rest p (c ∷ cs))
      (sym (tokens_from-token (is_broken rest) p k n (c ∷ cs) (omega arith) is fits.0 fits.1))
      (one_more rest p (c ∷ cs) n (Some k) _
      (first_whole (is_broken rest) (c ∷ cs) n (Some k) is fits.0 fits.1 right) (later n fits.0))
  says_piece (Wrong cause before n) is fits right stands later =
      subst (Says rest p (c ∷ cs))
      (sym (tokens_from-wrong (is_broken rest) p cause before n (c ∷ cs) (omega arith) is))
      ([], c ∷ cs, flaw_of (c ∷ cs) cause before n, refl, tt, stands, refl)

says_within : (fuel : ℕ) (rest : List ℕ) (p : Place) (cs : List ℕ) → length cs ≤ fuel →
    Says rest p cs (tokens_from (is_broken rest) p 0 cs)
says_within fuel rest p [] h = says_end rest p
says_within zero rest p (c ∷ cs) h = absurd (omega (arith, h))
says_within (suc fuel) rest p (c ∷ cs) h =
    says_piece rest p c cs (piece_at (is_broken rest) (c ∷ cs)) refl
    (piece_at-fits (is_broken rest) (c ∷ cs) (omega arith)) (piece_at-right (is_broken rest) (c ∷ cs) (omega arith))
    (piece_at-flaw rest c cs)
    (λ n some. says_within fuel rest (place_after p (take n (c ∷ cs))) (drop n (c ∷ cs))
    (omega (arith, h, some, length-drop n (c ∷ cs))))

-- What is so is read

-- what a part adds to what follows it
part_read : (b : Bool) (p : Place) (o : Option TokenKind) (cs behind : List ℕ) → 0 < length cs →
    piece_at b (cs ++ behind) ≡ part_of o (length cs) →
    tokens_from b p 0 (cs ++ behind) ≡ with_piece p cs o (tokens_from b (place_after p cs) 0 behind)
part_read b p None cs behind some e =
    let n = length cs in
    let le : n ≤ length (cs ++ behind) = omega (arith, length-append cs behind) in
    tokens_from-gap b p n (cs ++ behind) (omega (arith, some, le)) (sym e) some le ∙
    ap (λ (ds : List ℕ). tokens_from b (place_after p ds) 0 (drop n (cs ++ behind))) (take_at cs behind n refl) ∙
    ap (tokens_from b (place_after p cs) 0) (drop_at cs behind n refl)
part_read b p (Some k) cs behind some e =
    let n = length cs in
    let le : n ≤ length (cs ++ behind) = omega (arith, length-append cs behind) in
    tokens_from-token b p k n (cs ++ behind) (omega (arith, some, le)) (sym e) some le ∙
    ap (λ (ds : List ℕ). put_first (token k p ds) (tokens_from b (place_after p ds) 0 (drop n (cs ++ behind))))
    (take_at cs behind n refl) ∙
    ap (λ (ds : List ℕ). put_first (token k p cs) (tokens_from b (place_after p cs) 0 ds)) (drop_at cs behind n refl)

abbrev with_cuts : Place → List Cut → Result (List Token) Mistake → Result (List Token) Mistake
with_cuts p [] r = r
with_cuts p (cut ∷ cuts) r =
    with_piece p cut.characters cut.kind (with_cuts (place_after p cut.characters) cuts r)

cuts_read : (b : Bool) (p : Place) (cuts : List Cut) (behind : List ℕ) → AreWhole cuts behind →
    tokens_from b p 0 (characters_of cuts ++ behind) ≡
    with_cuts p cuts (tokens_from b (place_after p (characters_of cuts)) 0 behind)
cuts_read b p [] behind h = refl
cuts_read b p (cut ∷ cuts) behind h =
    let cs = cut.characters in
    let more = characters_of cuts ++ behind in
    ap (tokens_from b p 0) (append_assoc cs (characters_of cuts) behind) ∙
    part_read b p cut.kind cs more h.0.some (exact_part b cut.kind cs more h.0.form h.0.longest) ∙
    ap (with_piece p cs cut.kind) (cuts_read b (place_after p cs) cuts behind h.1) ∙
    ap (λ (q : Place). with_piece p cs cut.kind (with_cuts (place_after p cs) cuts (tokens_from b q 0 behind)))
    (sym (fold-append place_behind p cs (characters_of cuts)))

failed_piece : (p : Place) (cs : List ℕ) (o : Option TokenKind) (m : Mistake) → with_piece p cs o (Err m) ≡ Err m
failed_piece p cs None m = refl
failed_piece p cs (Some k) m = refl

failed_cuts : (p : Place) (cuts : List Cut) (m : Mistake) → with_cuts p cuts (Err m) ≡ Err m
failed_cuts p [] m = refl
failed_cuts p (cut ∷ cuts) m =
    ap (with_piece p cut.characters cut.kind) (failed_cuts (place_after p cut.characters) cuts m) ∙
    failed_piece p cut.characters cut.kind m

abbrev at_end : Place → Result (List Token) Mistake
at_end p = Ok (token End p [] ∷ [])

end_read : (p : Place) → tokens_from false p 0 [] ≡ at_end p
unfolding tokens_from
end_read p = refl

ended_piece : (p : Place) (cs : List ℕ) (o : Option TokenKind) (cuts : List Cut) →
    with_piece p cs o (Ok (tokens_of (place_after p cs) cuts)) ≡
    Ok (tokens_of p (record { kind = o; characters = cs } ∷ cuts))
ended_piece p cs None cuts = refl
ended_piece p cs (Some k) cuts = refl

ended_cuts : (p : Place) (cuts : List Cut) →
    with_cuts p cuts (at_end (place_after p (characters_of cuts))) ≡ Ok (tokens_of p cuts)
ended_cuts p [] = refl
ended_cuts p (cut ∷ cuts) =
    let cs = cut.characters in
    ap (λ (q : Place). with_piece p cs cut.kind (with_cuts (place_after p cs) cuts (at_end q)))
    (fold-append place_behind p cs (characters_of cuts)) ∙
    ap (with_piece p cs cut.kind) (ended_cuts (place_after p cs) cuts) ∙ ended_piece p cs cut.kind cuts

-- Bytes

module _ (bytes : List ℕ) where
  said : (cs rest : List ℕ) → Spell bytes cs rest → (r : Result (List Token) Mistake) → lexed bytes ≡ r →
      Says rest start cs r
  said cs rest s r h =
      subst (Says rest start cs) (sym (lexed_is bytes cs rest s) ∙ h)
      (says_within (length cs) rest start cs (omega arith))

  pub tokens_stand : (ts : List Token) → lexed bytes ≡ Ok ts → HasTokens bytes ts
  tokens_stand ts h = by _ _ (spelled_bytes bytes) where
    by : (cs rest : List ℕ) → Spell bytes cs rest → HasTokens bytes ts
    by cs rest s =
        let c = said cs rest s (Ok ts) h in
        record {
          cuts = c.0;
          spelled = subst (Spell bytes (characters_of c.0)) c.1
              (subst (λ (ds : List ℕ). Spell bytes ds rest) (sym c.2) s);
          whole = c.3;
          tokens = c.4;
        }

  pub fault_stands : (m : Mistake) → lexed bytes ≡ Err m → FirstFault bytes m
  fault_stands m h = by _ _ (spelled_bytes bytes) where
    by : (cs rest : List ℕ) → Spell bytes cs rest → FirstFault bytes m
    by cs rest s =
        let c = said cs rest s (Err m) h in
        record {
          cuts = c.0;
          behind = c.1;
          rest = rest;
          spelled = subst (λ (ds : List ℕ). Spell bytes ds rest) (sym c.3) s;
          whole = c.4;
          flaw = c.2;
          stands = c.5;
          says = c.6;
        }

  pub tokens_are_read : (ts : List Token) → HasTokens bytes ts → lexed bytes ≡ Ok ts
  tokens_are_read ts h =
      lexed_is bytes (characters_of h.cuts) [] h.spelled ∙
      ap (tokens_from false start 0) (sym (append-nil (characters_of h.cuts))) ∙
      cuts_read false start h.cuts [] h.whole ∙
      ap (with_cuts start h.cuts) (end_read (place_after start (characters_of h.cuts))) ∙
      ended_cuts start h.cuts ∙ ap Ok (sym h.tokens)

  pub fault_is_read : (m : Mistake) → FirstFault bytes m → lexed bytes ≡ Err m
  fault_is_read m h =
      let p = place_after start (characters_of h.cuts) in
      lexed_is bytes (characters_of h.cuts ++ h.behind) h.rest h.spelled ∙
      cuts_read (is_broken h.rest) start h.cuts h.behind h.whole ∙
      ap (with_cuts start h.cuts) (flaw_reads p h.rest h.behind h.flaw h.stands) ∙
      failed_cuts start h.cuts (reported p h.flaw) ∙ ap Err (sym h.says)
