-- Words up to an end have blocks.
use Rattle.std.proofs.Common.{◌≡◌, ◌≢◌, ℕ, zero, suc, ◌<◌, ◌≤◌, nat_lt, nat_le, ◌==◌, Bool, true, false, List, [], ◌∷◌, ◌++◌, length, refl, arith, inl, inr, ltb-true, ltb-false, leb-true, leb-false, eqb-true}
use Rattle.std.proofs.lemmas.Bool.{eqb-false}
use Rattle.qtt_lexer.specs.declared.token.Token.{Token}
use Rattle.qtt_lexer.specs.declared.token.TokenKind.TheVariants as kind
use Rattle.qtt_layout.specs.Rules.{role_of}
use Rattle.qtt_layout.specs.declared.laid.Laid.{Laid}
use Rattle.qtt_layout.specs.declared.laid.Laid.TheVariants.{Open, Next, Close, Tok}
use Rattle.qtt_layout.specs.declared.role.Role.{Role}
use Rattle.qtt_layout.specs.declared.role.Role.TheVariants as role
use Rattle.qtt_layout_laws.specs.Words.{Word, kind_of, place_of, column_of, open_behind, words_behind, HasEnd}
use Rattle.qtt_layout_laws.specs.Blocks.{IsOpener, BeginsBlock, BeginsItem, Ends, Block, Within, Behind}
use Rattle.qtt_layout_laws.proofs.RoleFacts.{Is, is, Decided, end_or, bracket_or, plain_role}

-- ---- decisions

both_or : {A B : Type 0} → Decided A → Decided B → Decided (A × B)
both_or (inl a) (inl b) = inl (a, b)
both_or (inl a) (inr n) = inr (λ p. n p.1)
both_or (inr n) d = inr (λ p. n p.0)

not_or : {A : Type 0} → Decided A → Decided (A → ⊥)
not_or (inl a) = inr (λ n. n a)
not_or (inr n) = inl n

true_or : (f : Bool) → Decided (f ≡ true)
true_or true = inl refl
true_or false = inr (λ e. absurd (let g = e in cc))

lt_by : (a b : ℕ) (f : Bool) → nat_lt a b ≡ f → Decided (a < b)
lt_by a b true e = inl (ltb-true a b e)
lt_by a b false e = inr (λ lt. let le = ltb-false a b e in absurd (omega (arith, lt, le)))

lt_or : (a b : ℕ) → Decided (a < b)
lt_or a b = lt_by a b (nat_lt a b) refl

le_by : (a b : ℕ) (f : Bool) → nat_le a b ≡ f → Decided (a ≤ b)
le_by a b true e = inl (leb-true a b e)
le_by a b false e = inr (λ le. let lt = leb-false a b e in absurd (omega (arith, lt, le)))

le_or : (a b : ℕ) → Decided (a ≤ b)
le_or a b = le_by a b (nat_le a b) refl

eq_by : (a b : ℕ) (f : Bool) → (a == b) ≡ f → Decided (a ≡ b)
eq_by a b true e = inl (eqb-true a b e)
eq_by a b false e = inr (eqb-false a b e)

eq_or : (a b : ℕ) → Decided (a ≡ b)
eq_or a b = eq_by a b (a == b) refl

module _ (b w : Word) where
  ends_none : kind_of w ≢ kind.End → ((w.is_first ≡ true) × (column_of w < column_of b) → ⊥) →
      ((kind_of w ≡ kind.RightParen) × ((0 < w.brackets) × (w.brackets ≤ b.brackets)) → ⊥) → Ends b w → ⊥
  ends_none n l r (Ends.at_end k) = n k
  ends_none n l r (Ends.at_line f lt) = l (f, lt)
  ends_none n l r (Ends.at_bracket k pos le) = r (k, (pos, le))

  ends_by : Decided (kind_of w ≡ kind.End) → Decided ((w.is_first ≡ true) × (column_of w < column_of b)) →
      Decided ((kind_of w ≡ kind.RightParen) × ((0 < w.brackets) × (w.brackets ≤ b.brackets))) → Decided (Ends b w)
  ends_by (inl k) l r = inl (Ends.at_end k)
  ends_by (inr n) (inl l) r = inl (Ends.at_line l.0 l.1)
  ends_by (inr n) (inr l) (inl r) = inl (Ends.at_bracket r.0 r.1.0 r.1.1)
  ends_by (inr n) (inr l) (inr r) = inr (ends_none n l r)

  ends_or : Decided (Ends b w)
  ends_or =
      ends_by (end_or (kind_of w)) (both_or (true_or w.is_first) (lt_or (column_of w) (column_of b)))
      (both_or (bracket_or (kind_of w)) (both_or (lt_or 0 w.brackets) (le_or w.brackets b.brackets)))

  item_by : Decided ((w.is_first ≡ true) × (column_of w ≡ column_of b)) → Decided (BeginsItem b w)
  item_by (inl p) = inl (record { is_first = p.0; is_aligned = p.1 })
  item_by (inr n) = inr (λ i. n (i.is_first, i.is_aligned))

  item_or : Decided (BeginsItem b w)
  item_or = item_by (both_or (true_or w.is_first) (eq_or (column_of w) (column_of b)))

  block_by : Decided ((kind_of w ≢ kind.End) × (column_of b < column_of w)) → Decided (BeginsBlock b w)
  block_by (inl p) = inl (record { is_no_end = p.0; is_deeper = p.1 })
  block_by (inr n) = inr (λ h. n (h.is_no_end, h.is_deeper))

  block_or : Decided (BeginsBlock b w)
  block_or = block_by (both_or (not_or (end_or (kind_of w))) (lt_or (column_of b) (column_of w)))

-- ---- words up to an end

pub data WordsEnd : List Word → Type 0 where
  here : {w : Word} {ws : List Word} → kind_of w ≡ kind.End → WordsEnd (w ∷ ws)
  later : {w : Word} {ws : List Word} → WordsEnd ws → WordsEnd (w ∷ ws)

pub words_end : (line n : ℕ) {ts : List Token} → HasEnd ts → WordsEnd (words_behind line n ts)
words_end line n (HasEnd.here k) = WordsEnd.here k
words_end line n (HasEnd.later {t} {ts} h) = WordsEnd.later (words_end t.span.line (open_behind t.kind n) h)

pub none_end : WordsEnd [] → ⊥
none_end = elim [ ]

rest_end : {w : Word} {ws : List Word} → WordsEnd (w ∷ ws) → kind_of w ≢ kind.End → WordsEnd ws
rest_end (WordsEnd.here k) n = absurd (n k)
rest_end (WordsEnd.later h) n = h

-- ---- blocks of so many words

abbrev WithinFound : Word → Word → List Word → Type 0
WithinFound b w ws =
    (e : Word) × (es : List Word) × (ms : List Laid) × Within b w ws e es ms × WordsEnd (e ∷ es) ×
    (length es ≤ length ws)

abbrev BehindFound : Word → Word → List Word → Type 0
BehindFound b w ws =
    (e : Word) × (es : List Word) × (ms : List Laid) × Behind b w ws e es ms × WordsEnd (e ∷ es) ×
    (length es ≤ length ws)

abbrev pub BlockFound : Word → List Word → Type 0
BlockFound b ws =
    (e : Word) × (es : List Word) × (ms : List Laid) × Block b ws e es ms × WordsEnd (e ∷ es) ×
    (length es ≤ length ws)

abbrev Finds : ℕ → Type 0
Finds n =
    (b w : Word) (ws : List Word) → length ws < n → kind_of w ≢ kind.End → WordsEnd (w ∷ ws) → WithinFound b w ws

module _ (n : ℕ) (finds : Finds n) where
  behind_by : (b w : Word) (ws : List Word) → length ws < n → WordsEnd (w ∷ ws) → Decided (Ends b w) →
      Decided (BeginsItem b w) → BehindFound b w ws
  behind_by b w ws lt h (inl e) i = (w, ws, [], Behind.ends e, h, omega arith)
  behind_by b w ws lt h (inr e) (inl i) =
      let x = finds b w ws lt (λ k. e (Ends.at_end k)) h in
      (x.0, x.1, Next (place_of w) ∷ x.2, Behind.item e i x.3, x.4, x.5)
  behind_by b w ws lt h (inr e) (inr i) =
      let x = finds b w ws lt (λ k. e (Ends.at_end k)) h in
      (x.0, x.1, x.2, Behind.goes_on e i x.3, x.4, x.5)

  find_behind : (b w : Word) (ws : List Word) → length ws < n → WordsEnd (w ∷ ws) → BehindFound b w ws
  find_behind b w ws lt h = behind_by b w ws lt h (ends_or b w) (item_or b w)

  block_found : (b : Word) (ws : List Word) → length ws < n → kind_of b ≢ kind.End → WordsEnd (b ∷ ws) →
      Decided (Ends b b) → BlockFound b ws
  block_found b ws lt k h (inl e) = (b, ws, [], Block.bare e, h, omega arith)
  block_found b ws lt k h (inr e) =
      let x = finds b b ws lt k h in (x.0, x.1, x.2, Block.filled e x.3, x.4, x.5)

  find_block : (b : Word) (ws : List Word) → length ws < n → kind_of b ≢ kind.End → WordsEnd (b ∷ ws) →
      BlockFound b ws
  find_block b ws lt k h = block_found b ws lt k h (ends_or b b)

  module _ (b w v : Word) (ws : List Word) (lt : length ws < n) (h : WordsEnd (v ∷ ws)) where
    semicolon_found : kind_of w ≡ kind.Semicolon → WithinFound b w (v ∷ ws)
    semicolon_found s =
        let x = find_behind b v ws lt h in
        let le = x.5 in
        (x.0, x.1, Next (place_of w) ∷ x.2, Within.semicolon s x.3, x.4, omega (arith, le))

    word_found : (kind_of w ≢ kind.Semicolon) × (IsOpener (kind_of w) → ⊥) → WithinFound b w (v ∷ ws)
    word_found p =
        let x = find_behind b v ws lt h in
        let le = x.5 in
        (x.0, x.1, Tok w.token ∷ x.2, Within.word p.0 p.1 x.3, x.4, omega (arith, le))

    opener_found : IsOpener (kind_of w) → Decided (BeginsBlock b v) → WithinFound b w (v ∷ ws)
    opener_found o (inl bb) =
        let k = find_block v ws lt bb.is_no_end h in
        let le = k.5 in
        let x = find_behind b k.0 k.1 (omega (arith, le, lt)) k.4 in
        let more = x.5 in (
          x.0,
          x.1,
          Tok w.token ∷ Open (place_of v) ∷ (k.2 ++ Close (place_of k.0) ∷ x.2),
          Within.block o bb k.3 x.3,
          x.4,
          omega (arith, le, more),
        )
    opener_found o (inr n) =
        let x = find_behind b v ws lt h in
        let le = x.5 in (
          x.0,
          x.1,
          Tok w.token ∷ Open (place_of v) ∷ Close (place_of v) ∷ x.2,
          Within.empty o n x.3,
          x.4,
          omega (arith, le),
        )

    found_by : kind_of w ≢ kind.End → (r : Role) → role_of (kind_of w) ≡ r → Is r (kind_of w) →
        WithinFound b w (v ∷ ws)
    found_by k role.Opener e i = opener_found i (block_or b v)
    found_by k role.LeftBracket e i =
        word_found (plain_role (kind_of w) role.LeftBracket e (λ q. absurd (let g = q in cc))
        (λ q. absurd (let g = q in cc)))
    found_by k role.RightBracket e i =
        word_found (plain_role (kind_of w) role.RightBracket e (λ q. absurd (let g = q in cc))
        (λ q. absurd (let g = q in cc)))
    found_by k role.Semicolon e i = semicolon_found i
    found_by k role.End e i = absurd (k i)
    found_by k role.Plain e i =
        word_found (plain_role (kind_of w) role.Plain e (λ q. absurd (let g = q in cc))
        (λ q. absurd (let g = q in cc)))

  finds_more : Finds (suc n)
  finds_more b w [] lt k h = absurd (none_end (rest_end h k))
  finds_more b w (v ∷ ws) lt k h =
      found_by b w v ws (omega (arith, lt)) (rest_end h k) k (role_of (kind_of w)) refl (is (kind_of w))

finds_all : (n : ℕ) → Finds n
finds_all zero = λ b w ws lt k h. absurd (omega (arith, lt))
finds_all (suc n) = finds_more n (finds_all n)

-- each block ends
pub block_exists : (b : Word) (ws : List Word) → kind_of b ≢ kind.End → WordsEnd (b ∷ ws) → BlockFound b ws
block_exists b ws k h = find_block (suc (length ws)) (finds_all (suc (length ws))) b ws (omega arith) k h
