-- What a block has is what is put from its first word on.
use Rattle.std.proofs.Common.{◌≡◌, ◌≢◌, suc, ◌<◌, ◌≤◌, ◌==◌, nat_lt, Bool, true, false, cond, List, [], ◌∷◌, ◌++◌, Ok, Err, refl, sym, ap, ◌∙◌, arith, eq-eqb, eqb-true, ltb-true, ltb-false, lt_of_not-le, inl, inr}
use Rattle.qtt_base.specs.declared.place.Span.{Span}
use Rattle.qtt_layout.specs.Marks.{counted_before, counted}
use Rattle.qtt_layout.specs.Rules.{role_of, next_at, put_before, counted_of}
use Rattle.qtt_layout.specs.declared.block.Block as code
use Rattle.qtt_layout.specs.declared.laid.Laid.{Laid}
use Rattle.qtt_layout.specs.declared.laid.Laid.TheVariants.{Open, Next, Close, Tok}
use Rattle.qtt_layout.specs.declared.role.Role.{Role}
use Rattle.qtt_layout.specs.declared.role.Role.TheVariants as role
use Rattle.qtt_lexer.specs.declared.token.TokenKind.TheVariants as kind
use Rattle.qtt_layout_laws.specs.Words.{Word, kind_of, place_of, column_of}
use Rattle.qtt_layout_laws.specs.Blocks.{IsOpener, BeginsBlock, BeginsItem, Ends, Block, Within, Behind}
use Rattle.qtt_layout_laws.proofs.RoleFacts.{Is, is, Decided, end_or, opener_role, semicolon_role, bracket_role, end_role, not_end_role}
use Rattle.qtt_layout_laws.proofs.Machine.{Answer, ◌▸◌, block_of, stand, at_word, run, before_nil, before_both, not_end, begins, stays, left_closes, bracket_closes, closes_none, bracket_stays, end_closes, begins_block, begins_none}

-- ---- answers with the same marks that count

abbrev pub Same : Answer → Answer → Type 0
Same r q = counted_of r ≡ counted_of q

abbrev counted_behind : List Laid → List Laid → List Laid
counted_behind [] ns = ns
counted_behind (m ∷ ms) ns = counted_before m (counted_behind ms ns)

counted_both : (ms ns : List Laid) → counted (ms ++ ns) ≡ counted_behind ms (counted ns)
counted_both [] ns = refl
counted_both (m ∷ ms) ns = ap (counted_before m) (counted_both ms ns)

abbrev answer_behind : List Laid → Answer → Answer
answer_behind ms (Ok ns) = Ok (counted_behind ms ns)
answer_behind ms (Err m) = Err m

counted_put : (ms : List Laid) (r : Answer) → counted_of (put_before ms r) ≡ answer_behind ms (counted_of r)
counted_put ms (Ok ns) = ap Ok (counted_both ms ns)
counted_put ms (Err m) = refl

same_before : (ms : List Laid) (r q : Answer) → Same r q → Same (put_before ms r) (put_before ms q)
same_before ms r q h = counted_put ms r ∙ ap (answer_behind ms) h ∙ sym (counted_put ms q)

-- marks in front of an answer that is already known
pub onto : (ns ms : List Laid) (r q : Answer) → Same r (put_before ms q) →
    Same (put_before ns r) (put_before (ns ++ ms) q)
onto ns ms r q h = same_before ns r (put_before ms q) h ∙ ap counted_of (sym (before_both ns ms q))

idle : (s c : Span) (r : Answer) →
    Same (put_before (Next s ∷ []) (put_before (Close c ∷ []) r)) (put_before (Close c ∷ []) r)
idle s c (Ok ms) = refl
idle s c (Err m) = refl

-- ---- items

begins_by : (b w : Word) (f g : Bool) → w.is_first ≡ f → (column_of b == column_of w) ≡ g →
    (BeginsItem b w → ⊥) → cond f (cond g (Next (place_of w) ∷ []) []) [] ≡ []
begins_by b w true true e h n =
    absurd (n (record { is_first = e; is_aligned = sym (eqb-true (column_of b) (column_of w) h) }))
begins_by b w true false e h n = refl
begins_by b w false g e h n = refl

begins_nothing : (b w : Word) → (BeginsItem b w → ⊥) → begins b w ≡ []
begins_nothing b w n = begins_by b w w.is_first (column_of b == column_of w) refl refl n

begins_item : (b w : Word) → BeginsItem b w → begins b w ≡ Next (place_of w) ∷ []
begins_item b w i =
    ap (λ (f : Bool). cond f (next_at (block_of b) (place_of w)) []) i.is_first
    ∙ ap (λ (g : Bool). cond g (Next (place_of w) ∷ []) [])
    (eq-eqb (column_of b) (column_of w) (sym i.is_aligned))

-- an idle Next before a Close
idle_by : (f g : Bool) (s c : Span) (r : Answer) →
    Same (put_before (cond f (cond g (Next s ∷ []) []) []) (put_before (Close c ∷ []) r))
    (put_before (Close c ∷ []) r)
idle_by true true s c r = idle s c r
idle_by true false s c r = ap counted_of (before_nil (put_before (Close c ∷ []) r))
idle_by false g s c r = ap counted_of (before_nil (put_before (Close c ∷ []) r))

-- ---- ends

not_left : (b w : Word) → (Ends b w → ⊥) → w.is_first ≡ true → column_of b ≤ column_of w
not_left b w n f =
    let h : column_of w < suc (column_of w) = omega arith in
    let g : column_of b < suc (column_of w) = lt_of_not-le (λ lt. n (Ends.at_line f lt)) in
    omega (arith, g)

not_over : (b w : Word) → (Ends b w → ⊥) → kind_of w ≢ kind.End
not_over b w n k = n (Ends.at_end k)

mutual
  pub ends_within : {b w e : Word} {ws es : List Word} {ms : List Laid} → Within b w ws e es ms → Ends b e
  ends_within (Within.semicolon k d) = ends_behind d
  ends_within (Within.word k n d) = ends_behind d
  ends_within (Within.block o bb k d) = ends_behind d
  ends_within (Within.empty o n d) = ends_behind d

  pub ends_behind : {b w e : Word} {ws es : List Word} {ms : List Laid} → Behind b w ws e es ms → Ends b e
  ends_behind (Behind.ends h) = h
  ends_behind (Behind.item n i d) = ends_within d
  ends_behind (Behind.goes_on n i d) = ends_within d

pub ends_block : {b e : Word} {ws es : List Word} {ms : List Laid} → Block b ws e es ms → Ends b e
ends_block (Block.bare h) = h
ends_block (Block.filled n d) = ends_within d

-- ---- a word in a block

module _ (S : List code.Block) (b w : Word) (ws : List Word) where
  -- a word at which the block does not end
  stands_behind : (Ends b w → ⊥) → (ms : List Laid) → begins b w ≡ ms →
      run (w ∷ ws) false (S ▸ b) ≡ put_before ms (stand (role_of (kind_of w)) (S ▸ b) w (run ws))
  stands_behind n ms e =
      let r = role_of (kind_of w) in
      not_end r false (S ▸ b) w (run ws) (not_end_role (kind_of w) (not_over b w n))
      ∙ stays S b w (run ws) r (not_left b w n)
      ∙ ap (λ (l : List Laid). put_before l (stand r (S ▸ b) w (run ws))) e

  -- a word right of the block, if it is the first of its line
  stands_right : kind_of w ≢ kind.End → (w.is_first ≡ true → column_of b < column_of w) →
      run (w ∷ ws) false (S ▸ b) ≡ stand (role_of (kind_of w)) (S ▸ b) w (run ws)
  stands_right k h =
      let r = role_of (kind_of w) in
      not_end r false (S ▸ b) w (run ws) (not_end_role (kind_of w) k)
      ∙ stays S b w (run ws) r (λ f. let lt = h f in omega (arith, lt))
      ∙ ap (λ (l : List Laid). put_before l (stand r (S ▸ b) w (run ws)))
      (begins_nothing b w (λ i. let lt = h i.is_first in let same = i.is_aligned in omega (arith, lt, same)))
      ∙ before_nil (stand r (S ▸ b) w (run ws))

  word_by : (r : Role) → Is r (kind_of w) → kind_of w ≢ kind.Semicolon → (IsOpener (kind_of w) → ⊥) →
      (Ends b w → ⊥) →
      stand r (S ▸ b) w (run ws) ≡ put_before (Tok w.token ∷ []) (run ws false (S ▸ b))
  word_by role.Opener i s o n = absurd (o i)
  word_by role.LeftBracket i s o n = closes_none S b w (run ws) role.LeftBracket refl
  word_by role.RightBracket i s o n =
      closes_none S b w (run ws) role.RightBracket
      (bracket_stays S b w (run ws) (λ pos le. n (Ends.at_bracket i pos le)))
  word_by role.Semicolon i s o n = absurd (s i)
  word_by role.End i s o n = absurd (n (Ends.at_end i))
  word_by role.Plain i s o n = closes_none S b w (run ws) role.Plain refl

  word_stands : kind_of w ≢ kind.Semicolon → (IsOpener (kind_of w) → ⊥) → (Ends b w → ⊥) →
      stand (role_of (kind_of w)) (S ▸ b) w (run ws) ≡ put_before (Tok w.token ∷ []) (run ws false (S ▸ b))
  word_stands s o n = word_by (role_of (kind_of w)) (is (kind_of w)) s o n

  semicolon_stands : kind_of w ≡ kind.Semicolon →
      stand (role_of (kind_of w)) (S ▸ b) w (run ws) ≡ put_before (Next (place_of w) ∷ []) (run ws false (S ▸ b))
  semicolon_stands k =
      ap (λ (r : Role). stand r (S ▸ b) w (run ws)) (semicolon_role k)
      ∙ closes_none S b w (run ws) role.Semicolon refl

  opener_stands : IsOpener (kind_of w) →
      stand (role_of (kind_of w)) (S ▸ b) w (run ws) ≡ put_before (Tok w.token ∷ []) (run ws true (S ▸ b))
  opener_stands o =
      ap (λ (r : Role). stand r (S ▸ b) w (run ws)) (opener_role o) ∙ closes_none S b w (run ws) role.Opener refl

  -- behind an opener
  block_begins : BeginsBlock b w →
      run (w ∷ ws) true (S ▸ b) ≡ put_before (Open (place_of w) ∷ [])
      (stand (role_of (kind_of w)) (S ▸ b ▸ w) w (run ws))
  block_begins h =
      let r = role_of (kind_of w) in
      not_end r true (S ▸ b) w (run ws) (not_end_role (kind_of w) h.is_no_end)
      ∙ begins_block S b w (run ws) r h.is_deeper

  not_deeper : kind_of w ≢ kind.End → (BeginsBlock b w → ⊥) → column_of w ≤ column_of b
  not_deeper k n =
      let g : column_of w < suc (column_of b) = lt_of_not-le (λ lt. n (record { is_no_end = k; is_deeper = lt })) in
      omega (arith, g)

  empty_at_end : (r : Role) → r ≡ role.End →
      at_word r true (S ▸ b) w (run ws) ≡ put_before (Open (place_of w) ∷ Close (place_of w) ∷ [])
      (at_word r false (S ▸ b) w (run ws))
  empty_at_end role.End e = refl
  empty_at_end role.Opener e = absurd (let g = e in cc)
  empty_at_end role.LeftBracket e = absurd (let g = e in cc)
  empty_at_end role.RightBracket e = absurd (let g = e in cc)
  empty_at_end role.Semicolon e = absurd (let g = e in cc)
  empty_at_end role.Plain e = absurd (let g = e in cc)

  empty_else : (r : Role) → r ≢ role.End → column_of w ≤ column_of b →
      at_word r true (S ▸ b) w (run ws) ≡ put_before (Open (place_of w) ∷ Close (place_of w) ∷ [])
      (at_word r false (S ▸ b) w (run ws))
  empty_else r k le =
      not_end r true (S ▸ b) w (run ws) k
      ∙ begins_none S b w (run ws) r le
      ∙ ap (put_before (Open (place_of w) ∷ Close (place_of w) ∷ [])) (sym (not_end r false (S ▸ b) w (run ws) k))

  empty_by : Decided (kind_of w ≡ kind.End) → (BeginsBlock b w → ⊥) →
      run (w ∷ ws) true (S ▸ b) ≡ put_before (Open (place_of w) ∷ Close (place_of w) ∷ []) (run (w ∷ ws) false (S ▸ b))
  empty_by (inl k) n = empty_at_end (role_of (kind_of w)) (end_role k)
  empty_by (inr k) n = empty_else (role_of (kind_of w)) (not_end_role (kind_of w) k) (not_deeper k n)

  block_is_empty : (BeginsBlock b w → ⊥) →
      run (w ∷ ws) true (S ▸ b) ≡ put_before (Open (place_of w) ∷ Close (place_of w) ∷ []) (run (w ∷ ws) false (S ▸ b))
  block_is_empty n = empty_by (end_or (kind_of w)) n

  -- ---- the end of a block

  left_at_word : (r : Role) → w.is_first ≡ true → column_of w < column_of b →
      at_word r false (S ▸ b) w (run ws) ≡ put_before (Close (place_of w) ∷ []) (at_word r false S w (run ws))
  left_at_word role.Opener f lt = left_closes S b w (run ws) role.Opener f lt
  left_at_word role.LeftBracket f lt = left_closes S b w (run ws) role.LeftBracket f lt
  left_at_word role.RightBracket f lt = left_closes S b w (run ws) role.RightBracket f lt
  left_at_word role.Semicolon f lt = left_closes S b w (run ws) role.Semicolon f lt
  left_at_word role.End f lt = end_closes S b w (run ws)
  left_at_word role.Plain f lt = left_closes S b w (run ws) role.Plain f lt

  pub closes_at_line : w.is_first ≡ true → column_of w < column_of b →
      run (w ∷ ws) false (S ▸ b) ≡ put_before (Close (place_of w) ∷ []) (run (w ∷ ws) false S)
  closes_at_line f lt = left_at_word (role_of (kind_of w)) f lt

  pub closes_at_end : kind_of w ≡ kind.End →
      run (w ∷ ws) false (S ▸ b) ≡ put_before (Close (place_of w) ∷ []) (run (w ∷ ws) false S)
  closes_at_end k =
      ap (λ (r : Role). at_word r false (S ▸ b) w (run ws)) (end_role k)
      ∙ end_closes S b w (run ws)
      ∙ ap (λ (r : Role). put_before (Close (place_of w) ∷ []) (at_word r false S w (run ws))) (sym (end_role k))

-- a block c around the block b
module _ (S : List code.Block) (c b w : Word) (ws : List Word) (deeper : column_of c < column_of b) where
  abbrev bracket_stand : List code.Block → Answer
  bracket_stand T = stand role.RightBracket T w (run ws)

  -- a `)` that stands in the block, if it is the first of its line
  closes_within : kind_of w ≡ kind.RightParen → 0 < w.brackets → w.brackets ≤ b.brackets →
      (w.is_first ≡ true → column_of b ≤ column_of w) →
      Same (run (w ∷ ws) false (S ▸ c ▸ b)) (put_before (Close (place_of w) ∷ []) (run (w ∷ ws) false (S ▸ c)))
  closes_within k pos le right =
      let e = bracket_role k in
      let one : run (w ∷ ws) false (S ▸ c ▸ b) ≡ put_before (begins b w) (bracket_stand (S ▸ c ▸ b)) =
      ap (λ (r : Role). at_word r false (S ▸ c ▸ b) w (run ws)) e
      ∙ stays (S ▸ c) b w (run ws) role.RightBracket right in
      let two : bracket_stand (S ▸ c ▸ b) ≡ put_before (Close (place_of w) ∷ []) (bracket_stand (S ▸ c)) =
      bracket_closes (S ▸ c) b w (run ws) pos le in
      let not_over : kind_of w ≢ kind.End =
      (λ q. let g : role.RightBracket ≡ role.End = sym e ∙ end_role q in absurd cc) in
      let three : run (w ∷ ws) false (S ▸ c) ≡ bracket_stand (S ▸ c) =
      stands_right S c w ws not_over (λ f. let h = right f in omega (arith, h, deeper))
      ∙ ap (λ (r : Role). stand r (S ▸ c) w (run ws)) e in
      ap counted_of (one ∙ ap (put_before (begins b w)) two)
      ∙ idle_by w.is_first (column_of b == column_of w) (place_of w) (place_of w) (bracket_stand (S ▸ c))
      ∙ ap counted_of (ap (put_before (Close (place_of w) ∷ [])) (sym three))

  closes_by : (f g : Bool) → w.is_first ≡ f → nat_lt (column_of w) (column_of b) ≡ g → kind_of w ≡ kind.RightParen →
      0 < w.brackets → w.brackets ≤ b.brackets →
      Same (run (w ∷ ws) false (S ▸ c ▸ b)) (put_before (Close (place_of w) ∷ []) (run (w ∷ ws) false (S ▸ c)))
  closes_by true true e h k pos le =
      ap counted_of (closes_at_line (S ▸ c) b w ws e (ltb-true (column_of w) (column_of b) h))
  closes_by true false e h k pos le = closes_within k pos le (λ f. ltb-false (column_of w) (column_of b) h)
  closes_by false g e h k pos le = closes_within k pos le (λ f. absurd (let p = sym f ∙ e in cc))

  -- where the block ends, it closes, and the word is then judged in the block around it
  pub closes : Ends b w →
      Same (run (w ∷ ws) false (S ▸ c ▸ b)) (put_before (Close (place_of w) ∷ []) (run (w ∷ ws) false (S ▸ c)))
  closes (Ends.at_end k) = ap counted_of (closes_at_end (S ▸ c) b w ws k)
  closes (Ends.at_line f lt) = ap counted_of (closes_at_line (S ▸ c) b w ws f lt)
  closes (Ends.at_bracket k pos le) =
      closes_by w.is_first (nat_lt (column_of w) (column_of b)) refl refl k pos le

-- a block that ends at its first word
bare_closes : (S : List code.Block) (c b : Word) (ws : List Word) → column_of c < column_of b → kind_of b ≢ kind.End →
    Ends b b →
    Same (stand (role_of (kind_of b)) (S ▸ c ▸ b) b (run ws))
    (put_before (Close (place_of b) ∷ []) (run (b ∷ ws) false (S ▸ c)))
bare_closes S c b ws deeper k (Ends.at_end e) = absurd (k e)
bare_closes S c b ws deeper k (Ends.at_line f lt) = absurd (omega (arith, lt))
bare_closes S c b ws deeper k (Ends.at_bracket e pos le) =
    let r = bracket_role e in
    ap counted_of (ap (λ (q : Role). stand q (S ▸ c ▸ b) b (run ws)) r
    ∙ bracket_closes (S ▸ c) b b (run ws) pos le
    ∙ ap (λ (q : Role). put_before (Close (place_of b) ∷ []) (stand q (S ▸ c) b (run ws))) (sym r)
    ∙ ap (put_before (Close (place_of b) ∷ [])) (sym (stands_right S c b ws k (λ f. deeper))))

-- ---- steps of a block

module _ (S : List code.Block) (b w v e : Word) (ws es : List Word) where
  abbrev left_over : Answer
  left_over = run (e ∷ es) false (S ▸ b)

  -- a mark that is put before what is known
  known : (m : Laid) (ms : List Laid) (q r : Answer) → r ≡ put_before (m ∷ []) q →
      Same q (put_before ms left_over) → Same r (put_before (m ∷ ms) left_over)
  known m ms q r h k = ap counted_of h ∙ onto (m ∷ []) ms q left_over k

  block_known : (u : Word) (us : List Word) (ns ms : List Laid) → IsOpener (kind_of w) → BeginsBlock b v →
      Same (stand (role_of (kind_of v)) (S ▸ b ▸ v) v (run ws))
      (put_before ns (put_before (Close (place_of u) ∷ []) (run (u ∷ us) false (S ▸ b)))) →
      Same (run (u ∷ us) false (S ▸ b)) (put_before ms left_over) →
      Same (stand (role_of (kind_of w)) (S ▸ b) w (run (v ∷ ws)))
      (put_before (Tok w.token ∷ Open (place_of v) ∷ (ns ++ Close (place_of u) ∷ ms)) left_over)
  block_known u us ns ms o bb inner behind =
      let after = run (u ∷ us) false (S ▸ b) in
      let closed = put_before (Close (place_of u) ∷ []) after in
      let one : Same closed (put_before (Close (place_of u) ∷ ms) left_over) =
      onto (Close (place_of u) ∷ []) ms after left_over behind in
      let two : Same (put_before ns closed) (put_before (ns ++ Close (place_of u) ∷ ms) left_over) =
      onto ns (Close (place_of u) ∷ ms) closed left_over one in
      let three : Same (run (v ∷ ws) true (S ▸ b))
      (put_before (Open (place_of v) ∷ (ns ++ Close (place_of u) ∷ ms)) left_over) =
      known (Open (place_of v)) (ns ++ Close (place_of u) ∷ ms)
      (stand (role_of (kind_of v)) (S ▸ b ▸ v) v (run ws)) (run (v ∷ ws) true (S ▸ b))
      (block_begins S b v ws bb) (inner ∙ two) in
      known (Tok w.token) (Open (place_of v) ∷ (ns ++ Close (place_of u) ∷ ms)) (run (v ∷ ws) true (S ▸ b))
      (stand (role_of (kind_of w)) (S ▸ b) w (run (v ∷ ws))) (opener_stands S b w (v ∷ ws) o) three

  empty_known : (ms : List Laid) → IsOpener (kind_of w) → (BeginsBlock b v → ⊥) →
      Same (run (v ∷ ws) false (S ▸ b)) (put_before ms left_over) →
      Same (stand (role_of (kind_of w)) (S ▸ b) w (run (v ∷ ws)))
      (put_before (Tok w.token ∷ Open (place_of v) ∷ Close (place_of v) ∷ ms) left_over)
  empty_known ms o n behind =
      let one : Same (run (v ∷ ws) true (S ▸ b))
      (put_before (Open (place_of v) ∷ Close (place_of v) ∷ ms) left_over) =
      ap counted_of (block_is_empty S b v ws n)
      ∙ onto (Open (place_of v) ∷ Close (place_of v) ∷ []) ms (run (v ∷ ws) false (S ▸ b)) left_over behind in
      known (Tok w.token) (Open (place_of v) ∷ Close (place_of v) ∷ ms) (run (v ∷ ws) true (S ▸ b))
      (stand (role_of (kind_of w)) (S ▸ b) w (run (v ∷ ws))) (opener_stands S b w (v ∷ ws) o) one

  word_known : (ms : List Laid) → kind_of w ≢ kind.Semicolon → (IsOpener (kind_of w) → ⊥) → (Ends b w → ⊥) →
      Same (run (v ∷ ws) false (S ▸ b)) (put_before ms left_over) →
      Same (stand (role_of (kind_of w)) (S ▸ b) w (run (v ∷ ws))) (put_before (Tok w.token ∷ ms) left_over)
  word_known ms s o n behind =
      known (Tok w.token) ms (run (v ∷ ws) false (S ▸ b)) (stand (role_of (kind_of w)) (S ▸ b) w (run (v ∷ ws)))
      (word_stands S b w (v ∷ ws) s o n) behind

  semicolon_known : (ms : List Laid) → kind_of w ≡ kind.Semicolon →
      Same (run (v ∷ ws) false (S ▸ b)) (put_before ms left_over) →
      Same (stand (role_of (kind_of w)) (S ▸ b) w (run (v ∷ ws))) (put_before (Next (place_of w) ∷ ms) left_over)
  semicolon_known ms s behind =
      known (Next (place_of w)) ms (run (v ∷ ws) false (S ▸ b)) (stand (role_of (kind_of w)) (S ▸ b) w (run (v ∷ ws)))
      (semicolon_stands S b w (v ∷ ws) s) behind

  item_known : (ms : List Laid) → (Ends b w → ⊥) → BeginsItem b w →
      Same (stand (role_of (kind_of w)) (S ▸ b) w (run ws)) (put_before ms left_over) →
      Same (run (w ∷ ws) false (S ▸ b)) (put_before (Next (place_of w) ∷ ms) left_over)
  item_known ms n i inner =
      known (Next (place_of w)) ms (stand (role_of (kind_of w)) (S ▸ b) w (run ws)) (run (w ∷ ws) false (S ▸ b))
      (stands_behind S b w ws n (Next (place_of w) ∷ []) (begins_item b w i)) inner

  same_known : (ms : List Laid) → (Ends b w → ⊥) → (BeginsItem b w → ⊥) →
      Same (stand (role_of (kind_of w)) (S ▸ b) w (run ws)) (put_before ms left_over) →
      Same (run (w ∷ ws) false (S ▸ b)) (put_before ms left_over)
  same_known ms n i inner =
      ap counted_of (stands_behind S b w ws n [] (begins_nothing b w i)
      ∙ before_nil (stand (role_of (kind_of w)) (S ▸ b) w (run ws))) ∙ inner

mutual
  block_agrees : (S : List code.Block) (c : Word) {b e : Word} {ws es : List Word} {ms : List Laid} →
      Block b ws e es ms → column_of c < column_of b → kind_of b ≢ kind.End →
      Same (stand (role_of (kind_of b)) (S ▸ c ▸ b) b (run ws))
      (put_before ms (put_before (Close (place_of e) ∷ []) (run (e ∷ es) false (S ▸ c))))
  block_agrees S c (Block.bare {b} {ws} h) deeper k =
      bare_closes S c b ws deeper k h
      ∙ ap counted_of (sym (before_nil (put_before (Close (place_of b) ∷ []) (run (b ∷ ws) false (S ▸ c)))))
  block_agrees S c (Block.filled {b} {e} {ws} {es} {ms} n d) deeper k =
      within_agrees (S ▸ c) d n
      ∙ same_before ms (run (e ∷ es) false (S ▸ c ▸ b))
      (put_before (Close (place_of e) ∷ []) (run (e ∷ es) false (S ▸ c)))
      (closes S c b e es deeper (ends_within d))

  pub within_agrees : (S : List code.Block) {b w e : Word} {ws es : List Word} {ms : List Laid} →
      Within b w ws e es ms → (Ends b w → ⊥) →
      Same (stand (role_of (kind_of w)) (S ▸ b) w (run ws)) (put_before ms (run (e ∷ es) false (S ▸ b)))
  within_agrees S (Within.semicolon {b} {w} {v} {e} {ws} {es} {ms} s d) n =
      semicolon_known S b w v e ws es ms s (behind_agrees S d)
  within_agrees S (Within.word {b} {w} {v} {e} {ws} {es} {ms} s o d) n =
      word_known S b w v e ws es ms s o n (behind_agrees S d)
  within_agrees S (Within.block {b} {w} {v} {u} {e} {ws} {us} {es} {ns} {ms} o bb k d) n =
      block_known S b w v e ws es u us ns ms o bb (block_agrees S b k bb.is_deeper bb.is_no_end) (behind_agrees S d)
  within_agrees S (Within.empty {b} {w} {v} {e} {ws} {es} {ms} o m d) n =
      empty_known S b w v e ws es ms o m (behind_agrees S d)

  behind_agrees : (S : List code.Block) {b w e : Word} {ws es : List Word} {ms : List Laid} →
      Behind b w ws e es ms →
      Same (run (w ∷ ws) false (S ▸ b)) (put_before ms (run (e ∷ es) false (S ▸ b)))
  behind_agrees S (Behind.ends {b} {w} {ws} h) = ap counted_of (sym (before_nil (run (w ∷ ws) false (S ▸ b))))
  behind_agrees S (Behind.item {b} {w} {e} {ws} {es} {ms} n i d) =
      item_known S b w w e ws es ms n i (within_agrees S d n)
  behind_agrees S (Behind.goes_on {b} {w} {e} {ws} {es} {ms} n i d) =
      same_known S b w w e ws es ms n i (within_agrees S d n)
