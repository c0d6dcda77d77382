-- What begins with a `?` and belongs together is a `?` with a word.
use Rattle.std.proofs.Common.{◌≡◌, ℕ, ◌<◌, true, false, List, [], ◌∷◌, ◌++◌, length, take, drop, Option, Some, None, refl, sym, ap, ◌∙◌, append_assoc, length-append, take-append-drop, length-take, arith}
use Rattle.std.specs.Char.{is_ascii_digit}
use Rattle.qtt_lexer.specs.Characters.{is_blank, begins, begins_part}
use Rattle.qtt_lexer.specs.Forms.{IsToken, IsGap, IsPart}
use Rattle.qtt_lexer.specs.Forms.IsToken.{word as is_word, hole as is_hole, number as is_number, negative as is_negative, text as is_text, one as is_one, two as is_two}
use Rattle.qtt_lexer.specs.Forms.IsGap.{blank as is_blank_gap, line as is_line, comment as is_comment}
use Rattle.qtt_lexer.specs.Piece.{name_tail, listed, pairs, singles}
use Rattle.qtt_lexer.specs.declared.token.TokenKind.{TokenKind}
use Rattle.qtt_lexer.proofs.Ascii.{begins_part-ascii}
use Rattle.qtt_lexer.proofs.Longest.{all_go_on-name_tail}
use Rattle.qtt_lexer.proofs.Words.{name_tail-le-length}
use Rattle.qtt_lexer_laws.specs.Cuts.{IsWord, BelongTogether, EndBefore}
use Rattle.qtt_lexer_laws.specs.Cuts.BelongTogether.{part, word, hole, digits, negative, opening}
use Rattle.qtt_lexer_laws.specs.Flaws.{BeginNothing}
use Rattle.qtt_lexer_laws.proofs.Least.{first_passes}

abbrev IsWordAt : List ℕ → Type 0
IsWordAt [] = ⊥
IsWordAt (c ∷ cs) = IsWord c cs

abbrev Asks : List ℕ → Type 0
Asks all = (es : List ℕ) × (all ≡ 63 ∷ es) × IsWordAt es

pub same_first : (a b : ℕ) (xs ys : List ℕ) → a ∷ xs ≡ b ∷ ys → a ≡ b
same_first a b xs ys e = cc

pub same_rest : (a b : ℕ) (xs ys : List ℕ) → a ∷ xs ≡ b ∷ ys → xs ≡ ys
same_rest a b xs ys e = cc

no_part : (c : ℕ) → c ≡ 63 → begins_part c ≡ true → ⊥
no_part c e h =
    let f : begins_part 63 ≡ false = begins_part-ascii 63 (omega arith) in
    let g = sym f ∙ ap begins_part (sym e) ∙ h in
    absurd (let k = g in cc)

no_digit : (c : ℕ) → c ≡ 63 → is_ascii_digit c ≡ true → ⊥
no_digit c e h = let f = ap is_ascii_digit (sym e) ∙ h in absurd (let k = f in cc)

asked_token : (k : TokenKind) (all behind ds : List ℕ) → IsToken k all → all ++ behind ≡ 63 ∷ ds → Asks all
asked_token k all behind ds (is_word c cs j h e) is =
    absurd (no_part c (same_first c 63 (cs ++ behind) ds is) h.begins)
asked_token k all behind ds (is_hole c cs w h e i) is =
    (c ∷ cs, refl, record { begins = h.begins; goes_on = h.goes_on })
asked_token k all behind ds (is_number c n cs h e i) is =
    absurd (no_digit c (same_first c 63 (cs ++ behind) ds is) (first_passes is_ascii_digit c cs h))
asked_token k all behind ds (is_negative c n cs h e i) is =
    absurd (omega (arith, same_first 45 63 (c ∷ (cs ++ behind)) ds is))
asked_token k all behind ds (is_text body value cs m e) is =
    absurd (omega (
      arith,
      same_first 34 63 ((body ++ 34 ∷ []) ++ behind) ds
          (ap (λ (es : List ℕ). es ++ behind) (sym e) ∙ is),
    ))
asked_token k all behind ds (is_one c j h) is =
    let f = ap (λ (x : ℕ). listed singles (x ∷ [])) (sym (same_first c 63 behind ds is)) ∙ h in
    absurd (let g = f in cc)
asked_token k all behind ds (is_two c e j h) is =
    let f = ap (λ (x : ℕ). listed pairs (x ∷ e ∷ [])) (sym (same_first c 63 (e ∷ behind) ds is)) ∙ h in
    absurd (let g = f in cc)

asked_gap : (all behind ds : List ℕ) → IsGap all → all ++ behind ≡ 63 ∷ ds → Asks all
asked_gap all behind ds (is_blank_gap c h) is =
    let f = ap is_blank (sym (same_first c 63 behind ds is)) ∙ h in absurd (let g = f in cc)
asked_gap all behind ds (is_line cs h) is = absurd (omega (arith, same_first 45 63 (45 ∷ (cs ++ behind)) ds is))
asked_gap all behind ds (is_comment cs m) is =
    absurd (omega (arith, same_first 123 63 (45 ∷ (cs ++ behind)) ds is))

asked_part : (o : Option TokenKind) (all behind ds : List ℕ) → IsPart o all → all ++ behind ≡ 63 ∷ ds → Asks all
asked_part None all behind ds h is = asked_gap all behind ds h is
asked_part (Some k) all behind ds h is = asked_token k all behind ds h is

asked : (all behind ds : List ℕ) → BelongTogether all → all ++ behind ≡ 63 ∷ ds → Asks all
asked all behind ds (part o cs h) is = asked_part o all behind ds h is
asked all behind ds (word c cs h) is = absurd (no_part c (same_first c 63 (cs ++ behind) ds is) h.begins)
asked all behind ds (hole c cs h) is = (c ∷ cs, refl, h)
asked all behind ds (digits c cs h) is =
    absurd (no_digit c (same_first c 63 (cs ++ behind) ds is) (first_passes is_ascii_digit c cs h))
asked all behind ds (negative c cs h) is =
    absurd (omega (arith, same_first 45 63 (c ∷ (cs ++ behind)) ds is))
asked all behind ds opening is = absurd (omega (arith, same_first 123 63 (45 ∷ behind) ds is))

no_word : (cs es behind : List ℕ) → begins begins_part cs ≡ false → IsWordAt es → cs ≡ es ++ behind → ⊥
no_word cs [] behind h w e = absurd w
no_word cs (c ∷ es) behind h w e =
    let f = sym h ∙ ap (begins begins_part) e ∙ w.begins in absurd (let g = f in cc)

-- a `?` before no name begins nothing
pub question_begins_nothing : (cs : List ℕ) → begins begins_part cs ≡ false → BeginNothing (63 ∷ cs)
question_begins_nothing cs h front behind e together =
    let a = asked front behind cs together (sym e) in
    no_word cs a.0 behind h a.2
    (same_rest 63 63 cs (a.0 ++ behind) (e ∙ ap (λ (ds : List ℕ). ds ++ behind) a.1))

longer : (c : ℕ) (cs more rest es : List ℕ) → IsWordAt es → c ∷ (take (name_tail cs) cs ++ more) ≡ es →
    cs ≡ (take (name_tail cs) cs ++ more) ++ rest → 0 < length more → ⊥
longer c cs more rest [] w e is some = absurd w
longer c cs more rest (d ∷ es) w e is some =
    let t = name_tail cs in
    let same : take t cs ++ more ≡ es = same_rest c d (take t cs ++ more) es e in
    let least = all_go_on-name_tail es rest w.goes_on in
    let whole : name_tail (es ++ rest) ≡ t =
    ap (λ (ds : List ℕ). name_tail (ds ++ rest)) (sym same) ∙ ap name_tail (sym is) in
    absurd (omega (
      arith,
      least,
      whole,
      ap length same,
      length-append (take t cs) more,
      length-take t cs,
      name_tail-le-length cs,
      some,
    ))

-- a `?` with its whole word is the longest that begins there
pub question_ends : (c : ℕ) (cs : List ℕ) →
    EndBefore (63 ∷ c ∷ take (name_tail cs) cs) (drop (name_tail cs) cs)
question_ends c cs more rest e some together =
    let t = name_tail cs in
    let whole : cs ≡ (take t cs ++ more) ++ rest =
    sym (take-append-drop t cs) ∙ ap (λ (ds : List ℕ). take t cs ++ ds) e ∙
    sym (append_assoc (take t cs) more rest) in
    let a = asked (63 ∷ c ∷ (take t cs ++ more)) rest (c ∷ ((take t cs ++ more) ++ rest)) together refl in
    longer c cs more rest a.0 a.2
    (same_rest 63 63 (c ∷ (take t cs ++ more)) a.0 a.1) whole some
