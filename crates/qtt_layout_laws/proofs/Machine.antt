-- The layout of tokens word by word, with the open blocks as a list.
use Rattle.std.proofs.Common.{◌≡◌, ◌≢◌, ℕ, zero, suc, ◌+◌, ◌-◌, ◌<◌, ◌≤◌, ◌==◌, nat_lt, nat_le, not, Bool, true, false, cond, List, [], ◌∷◌, ◌++◌, length, take, Option, Some, None, slice_get, Result, Ok, Err, refl, sym, ap, ◌∙◌, length-append, append_assoc, arith, lt-ltb, le-ltb, le-leb, lt_of_not-le}
use Rattle.std.proofs.lemmas.Bool.{lt-leb}
use Rattle.std.proofs.lemmas.List.{reverse-append, take-append-le, take_all}
use Rattle.std.specs.List.{prefix_len, suffix_len}
use Rattle.qtt_lexer.specs.Lexed.{Mistake}
use Rattle.qtt_lexer.specs.declared.token.Token.{Token}
use Rattle.qtt_lexer.specs.declared.token.TokenKind.{TokenKind}
use Rattle.qtt_lexer.specs.declared.token.TokenKind.TheVariants as kind
use Rattle.qtt_layout.specs.Rules.{State, Put, role_of, newest, is_deeper, opens, empty_block, closes, without_newest, next_at, aligned, aligned_at, by_column, since_bracket, closed_by, brackets_behind, item_of, is_opener, added, behind, at_end, put_before, by_put, by_role, put_from}
use Rattle.qtt_layout.specs.declared.block.Block as code
use Rattle.qtt_layout.specs.declared.laid.Laid.{Laid}
use Rattle.qtt_layout.specs.declared.laid.Laid.TheVariants.{Open, Close, Tok}
use Rattle.qtt_layout.specs.declared.role.Role.{Role}
use Rattle.qtt_layout.specs.declared.role.Role.TheVariants as role
use Rattle.qtt_layout_laws.specs.Words.{Word, kind_of, place_of, column_of, open_behind, words_behind}
use Rattle.qtt_layout_laws.specs.Texts.{bad_indent}

infixl 40 ◌▸◌
abbrev pub Answer : Type 0
Answer = Result (List Laid) Mistake

-- ---- marks before an answer

pub before_nil : (r : Answer) → put_before [] r ≡ r
before_nil (Ok ms) = refl
before_nil (Err m) = refl

pub before_both : (ms ns : List Laid) (r : Answer) → put_before (ms ++ ns) r ≡ put_before ms (put_before ns r)
before_both ms ns (Ok rest) = ap Ok (append_assoc ms ns rest)
before_both ms ns (Err m) = refl

-- ---- lists with one more at the end

module _ {X : Type 0} where
  last_of : (xs : List X) (x : X) → slice_get (xs ++ x ∷ []) (length xs) ≡ Some x
  last_of [] x = refl
  last_of (y ∷ ys) x = last_of ys x

  newest_of : (xs : List X) (x : X) → slice_get (xs ++ x ∷ []) (length (xs ++ x ∷ []) - 1) ≡ Some x
  newest_of xs x =
      let e : length (xs ++ x ∷ []) - 1 ≡ length xs = omega (arith, length-append xs (x ∷ [])) in
      ap (slice_get (xs ++ x ∷ [])) e ∙ last_of xs x

  suffix_of : (p : X → Bool) (xs : List X) (x : X) →
      suffix_len p (xs ++ x ∷ []) ≡ cond (p x) (1 + suffix_len p xs) 0
  suffix_of p xs x = ap (prefix_len p) (reverse-append xs (x ∷ []))

  suffix_yes : (p : X → Bool) (xs : List X) (x : X) → p x ≡ true →
      suffix_len p (xs ++ x ∷ []) ≡ suc (suffix_len p xs)
  suffix_yes p xs x e =
      let next : 1 + suffix_len p xs ≡ suc (suffix_len p xs) = omega arith in
      suffix_of p xs x ∙ ap (λ (b : Bool). cond b (1 + suffix_len p xs) 0) e ∙ next

  suffix_no : (p : X → Bool) (xs : List X) (x : X) → p x ≡ false → suffix_len p (xs ++ x ∷ []) ≡ 0
  suffix_no p xs x e = suffix_of p xs x ∙ ap (λ (b : Bool). cond b (1 + suffix_len p xs) 0) e

  without_more : (n : ℕ) (xs : List X) (x : X) →
      take (length (xs ++ x ∷ []) - suc n) (xs ++ x ∷ []) ≡ take (length xs - n) xs
  without_more n xs x =
      let e : length (xs ++ x ∷ []) - suc n ≡ length xs - n = omega (arith, length-append xs (x ∷ [])) in
      ap (λ (k : ℕ). take k (xs ++ x ∷ [])) e ∙ take-append-le (length xs - n) xs (x ∷ []) (omega arith)

  without_none : (xs : List X) → take (length xs - 0) xs ≡ xs
  without_none xs = take_all (length xs - 0) xs (omega arith)

-- ---- word by word

abbrev pub block_of : Word → code.Block
block_of w = record { col = column_of w; brackets = w.brackets }

-- the open blocks with a newest one
abbrev pub ◌▸◌ : List code.Block → Word → List code.Block
S ▸ b = S ++ block_of b ∷ []

abbrev pub state : Bool → List code.Block → State
state awaits S = record { blocks = S; brackets = 0; line = 0; awaits = awaits }

-- what is put before a word by its column
abbrev pub column : Bool → List code.Block → Word → Option Put
column awaits S w =
    cond (opens (state awaits S) w.token) (Some (record { marks = Open (place_of w) ∷ []; blocks = S ▸ w }))
    (cond w.is_first (aligned_at (state awaits S) (place_of w))
    (Some (record { marks = empty_block (state awaits S) (place_of w); blocks = S })))

-- what comes of a word behind what its column puts
abbrev pub stand : Role → List code.Block → Word → (Bool → List code.Block → Answer) → Answer
stand r S w rest =
    put_before (closes (closed_by r w.brackets S) (place_of w) ++ item_of r w.token ∷ [])
    (rest (is_opener r) (without_newest (closed_by r w.brackets S) S))

abbrev pub by_found : Role → Word → Option Put → (Bool → List code.Block → Answer) → Answer
by_found r w None rest = Err (bad_indent w)
by_found r w (Some put) rest = put_before put.marks (stand r put.blocks w rest)

abbrev pub at_word : Role → Bool → List code.Block → Word → (Bool → List code.Block → Answer) → Answer
at_word role.End awaits S w rest = Ok (at_end (state awaits S) w.token)
at_word r awaits S w rest = by_found r w (column awaits S w) rest

abbrev pub run : List Word → Bool → List code.Block → Answer
run [] awaits S = Ok []
run (w ∷ ws) awaits S = at_word (role_of (kind_of w)) awaits S w (run ws)

-- ---- it is the layout of tokens

flip : {X : Type 0} (b : Bool) (x y : X) → cond b x y ≡ cond (not b) y x
flip true x y = refl
flip false x y = refl

brackets_same : (k : TokenKind) (n : ℕ) → open_behind k n ≡ brackets_behind (role_of k) n
brackets_same kind.LeftParen n = refl
brackets_same kind.DotParen n = refl
brackets_same kind.RightParen n = refl
brackets_same _ n = refl

module _ (s : State) (t : Token) where
  abbrev word_at : Word
  word_at = record { token = t; is_first = not (t.span.line == s.line); brackets = s.brackets }

  same_column : by_column s t ≡ column s.awaits s.blocks word_at
  same_column =
      ap (cond (opens s t) (Some (record { marks = Open t.span ∷ []; blocks = s.blocks ▸ word_at })))
      (flip (t.span.line == s.line) (Some (record { marks = empty_block s t.span; blocks = s.blocks }))
      (aligned_at s t.span))

  module _ (rest : State → Answer) (next : Bool → List code.Block → Answer) where
    same_put : (r : Role) (o : Option Put) →
        ((S : List code.Block) →
        rest (behind r s t S) ≡ next (is_opener r) (without_newest (closed_by r s.brackets S) S)) →
        by_put r s t o rest ≡ by_found r word_at o next
    same_put r None h = refl
    same_put r (Some put) h =
        ap (put_before (put.marks ++ added r s t put.blocks)) (h put.blocks)
        ∙ before_both put.marks (added r s t put.blocks)
        (next (is_opener r) (without_newest (closed_by r s.brackets put.blocks) put.blocks))

    same_found : (r : Role) →
        ((S : List code.Block) →
        rest (behind r s t S) ≡ next (is_opener r) (without_newest (closed_by r s.brackets S) S)) →
        by_put r s t (by_column s t) rest ≡ by_found r word_at (column s.awaits s.blocks word_at) next
    same_found r h =
        ap (λ (o : Option Put). by_put r s t o rest) same_column ∙ same_put r (column s.awaits s.blocks word_at) h

    same_role : (r : Role) →
        ((S : List code.Block) →
        rest (behind r s t S) ≡ next (is_opener r) (without_newest (closed_by r s.brackets S) S)) →
        by_role r s t rest ≡ at_word r s.awaits s.blocks word_at next
    same_role role.Opener h = same_found role.Opener h
    same_role role.LeftBracket h = same_found role.LeftBracket h
    same_role role.RightBracket h = same_found role.RightBracket h
    same_role role.Semicolon h = same_found role.Semicolon h
    same_role role.End h = refl
    same_role role.Plain h = same_found role.Plain h

pub same_run : (ts : List Token) (s : State) →
    put_from s ts ≡ run (words_behind s.line s.brackets ts) s.awaits s.blocks
unfolding put_from
same_run [] s = refl
same_run (t ∷ ts) s =
    let r = role_of t.kind in
    same_role s t (λ next. put_from next ts) (run (words_behind t.span.line (open_behind t.kind s.brackets) ts)) r
    (λ S. same_run ts (behind r s t S)
    ∙ ap (λ (n : ℕ). run (words_behind t.span.line n ts) (is_opener r)
    (without_newest (closed_by r s.brackets S) S))
    (sym (brackets_same t.kind s.brackets)))

-- ---- a word at the newest block

pub not_end : (r : Role) (awaits : Bool) (S : List code.Block) (w : Word) (rest : Bool → List code.Block → Answer) →
    r ≢ role.End → at_word r awaits S w rest ≡ by_found r w (column awaits S w) rest
not_end role.Opener awaits S w rest h = refl
not_end role.LeftBracket awaits S w rest h = refl
not_end role.RightBracket awaits S w rest h = refl
not_end role.Semicolon awaits S w rest h = refl
not_end role.End awaits S w rest h = absurd (h refl)
not_end role.Plain awaits S w rest h = refl

-- the Next of an item that begins
abbrev pub begins : Word → Word → List Laid
begins b w = cond w.is_first (next_at (block_of b) (place_of w)) []

module _ (S : List code.Block) (b w : Word) (rest : Bool → List code.Block → Answer) where
  abbrev aligned_by : ℕ → Option Put
  aligned_by n =
      aligned (place_of w) (closes n (place_of w)) (without_newest n (S ▸ b)) (newest (without_newest n (S ▸ b)))

  abbrev right : code.Block → Bool
  right block = nat_lt (column_of w) block.col

  aligned_stays : column_of b ≤ column_of w →
      aligned_at (state false (S ▸ b)) (place_of w) ≡ Some (record {
        marks = next_at (block_of b) (place_of w);
        blocks = S ▸ b;
      })
  aligned_stays le =
      ap aligned_by (suffix_no right S (block_of b) (le-ltb (column_of w) (column_of b) le))
      ∙ ap (λ (T : List code.Block). aligned (place_of w) [] T (newest T)) (without_none (S ▸ b))
      ∙ ap (aligned (place_of w) [] (S ▸ b)) (newest_of S (block_of b))

  stay_by : (r : Role) (f : Bool) → (f ≡ true → column_of b ≤ column_of w) →
      by_found r w (cond f (aligned_at (state false (S ▸ b)) (place_of w))
      (Some (record { marks = []; blocks = S ▸ b }))) rest ≡ put_before
      (cond f (next_at (block_of b) (place_of w)) []) (stand r (S ▸ b) w rest)
  stay_by r true h = ap (λ (o : Option Put). by_found r w o rest) (aligned_stays (h refl))
  stay_by r false h = refl

  -- a word that is not left of the block stands in it
  pub stays : (r : Role) → (w.is_first ≡ true → column_of b ≤ column_of w) →
      by_found r w (column false (S ▸ b) w) rest ≡ put_before (begins b w) (stand r (S ▸ b) w rest)
  stays r h = stay_by r w.is_first h

  left_found : (r : Role) (cs : List Laid) (T : List code.Block) (o : Option code.Block) →
      by_found r w (aligned (place_of w) (Close (place_of w) ∷ cs) T o) rest ≡ put_before
      (Close (place_of w) ∷ []) (by_found r w (aligned (place_of w) cs T o) rest)
  left_found r cs T None = refl
  left_found r cs T (Some block) =
      before_both (Close (place_of w) ∷ []) (cs ++ next_at block (place_of w)) (stand r T w rest)

  left_by : (r : Role) (f : Bool) → f ≡ true → column_of w < column_of b →
      by_found r w (cond f (aligned_at (state false (S ▸ b)) (place_of w))
      (Some (record { marks = []; blocks = S ▸ b }))) rest ≡ put_before
      (Close (place_of w) ∷ [])
      (by_found r w (cond f (aligned_at (state false S) (place_of w)) (Some (record { marks = []; blocks = S }))) rest)
  left_by r true e lt =
      let n = suffix_len right S in
      let T = without_newest n S in
      ap (λ (o : Option Put). by_found r w o rest)
      (ap aligned_by (suffix_yes right S (block_of b) (lt-ltb (column_of w) (column_of b) lt))
      ∙ ap (λ (U : List code.Block). aligned (place_of w) (closes (suc n) (place_of w)) U (newest U))
      (without_more n S (block_of b)))
      ∙ left_found r (closes n (place_of w)) T (newest T)
  left_by r false e lt = absurd (let g = e in cc)

  -- a first word of a line, left of the block, closes it and is then judged without it
  pub left_closes : (r : Role) → w.is_first ≡ true → column_of w < column_of b →
      by_found r w (column false (S ▸ b) w) rest ≡ put_before (Close (place_of w) ∷ [])
      (by_found r w (column false S w) rest)
  left_closes r e lt = left_by r w.is_first e lt

  since_more : (n : ℕ) → 0 < n → n ≤ b.brackets → since_bracket n (S ▸ b) ≡ suc (since_bracket n S)
  since_more zero pos le = absurd (omega (arith, pos))
  since_more (suc n) pos le =
      suffix_yes (λ (block : code.Block). nat_le (suc n) block.brackets) S (block_of b)
      (le-leb (suc n) b.brackets le)

  since_none : (n : ℕ) → (0 < n → n ≤ b.brackets → ⊥) → since_bracket n (S ▸ b) ≡ 0
  since_none zero h = refl
  since_none (suc n) h =
      suffix_no (λ (block : code.Block). nat_le (suc n) block.brackets) S (block_of b)
      (lt-leb (suc n) b.brackets (above (suc n) b.brackets (omega arith) h))
    where
      above : (n m : ℕ) → 0 < n → (0 < n → n ≤ m → ⊥) → m < n
      above n m pos g = lt_of_not-le (g pos)

  -- a `)` closes the block, where its bracket was open before it
  pub bracket_closes : 0 < w.brackets → w.brackets ≤ b.brackets →
      stand role.RightBracket (S ▸ b) w rest ≡ put_before (Close (place_of w) ∷ [])
      (stand role.RightBracket S w rest)
  bracket_closes pos le =
      let n = since_bracket w.brackets S in
      ap (λ (k : ℕ). put_before (closes k (place_of w) ++ Tok w.token ∷ [])
      (rest false (without_newest k (S ▸ b)))) (since_more w.brackets pos le)
      ∙ ap (λ (T : List code.Block). put_before (closes (suc n) (place_of w) ++ Tok w.token ∷ []) (rest false T))
      (without_more n S (block_of b))
      ∙ before_both (Close (place_of w) ∷ []) (closes n (place_of w) ++ Tok w.token ∷ [])
      (rest false (without_newest n S))

  -- any other word closes none
  pub closes_none : (r : Role) → closed_by r w.brackets (S ▸ b) ≡ 0 →
      stand r (S ▸ b) w rest ≡ put_before (item_of r w.token ∷ []) (rest (is_opener r) (S ▸ b))
  closes_none r e =
      ap (λ (k : ℕ). put_before (closes k (place_of w) ++ item_of r w.token ∷ [])
      (rest (is_opener r) (without_newest k (S ▸ b)))) e
      ∙ ap (λ (T : List code.Block). put_before (item_of r w.token ∷ []) (rest (is_opener r) T)) (without_none (S ▸ b))

  pub bracket_stays : (0 < w.brackets → w.brackets ≤ b.brackets → ⊥) →
      closed_by role.RightBracket w.brackets (S ▸ b) ≡ 0
  bracket_stays h = since_none w.brackets h

  -- at the end each block closes
  pub end_closes : at_word role.End false (S ▸ b) w rest ≡ put_before (Close (place_of w) ∷ [])
      (at_word role.End false S w rest)
  end_closes =
      let e : length (S ▸ b) ≡ suc (length S) = omega (arith, length-append S (block_of b ∷ [])) in
      ap (λ (k : ℕ). Ok (closes k (place_of w))) e

  opens_deeper : opens (state true (S ▸ b)) w.token ≡ nat_lt (column_of b) (column_of w)
  opens_deeper = ap (is_deeper (column_of w)) (newest_of S (block_of b))

  -- an awaited block begins at a word further right
  pub begins_block : (r : Role) → column_of b < column_of w →
      by_found r w (column true (S ▸ b) w) rest ≡ put_before (Open (place_of w) ∷ [])
      (stand r (S ▸ b ▸ w) w rest)
  begins_block r lt =
      ap (λ (t : Bool). by_found r w (cond t
      (Some (record { marks = Open (place_of w) ∷ []; blocks = S ▸ b ▸ w }))
      (cond w.is_first (aligned_at (state true (S ▸ b)) (place_of w))
      (Some (record { marks = empty_block (state true (S ▸ b)) (place_of w); blocks = S ▸ b })))) rest)
      (opens_deeper ∙ lt-ltb (column_of b) (column_of w) lt)

  abbrev empty_marks : List Laid
  empty_marks = Open (place_of w) ∷ Close (place_of w) ∷ []

  empty_found : (r : Role) (cs : List Laid) (T : List code.Block) (o : Option code.Block) →
      by_found r w (aligned (place_of w) (empty_marks ++ cs) T o) rest ≡ put_before
      empty_marks (by_found r w (aligned (place_of w) cs T o) rest)
  empty_found r cs T None = refl
  empty_found r cs T (Some block) =
      before_both empty_marks (cs ++ next_at block (place_of w)) (stand r T w rest)

  empty_by : (r : Role) (f : Bool) →
      by_found r w (cond f (aligned_at (state true (S ▸ b)) (place_of w))
      (Some (record { marks = empty_marks; blocks = S ▸ b }))) rest ≡ put_before empty_marks
      (by_found r w (cond f (aligned_at (state false (S ▸ b)) (place_of w))
      (Some (record { marks = []; blocks = S ▸ b }))) rest)
  empty_by r true =
      let n = suffix_len right (S ▸ b) in
      let T = without_newest n (S ▸ b) in
      empty_found r (closes n (place_of w)) T (newest T)
  empty_by r false = ap (put_before empty_marks) (sym (before_nil (stand r (S ▸ b) w rest)))

  -- or it is empty
  pub begins_none : (r : Role) → column_of w ≤ column_of b →
      by_found r w (column true (S ▸ b) w) rest ≡ put_before empty_marks
      (by_found r w (column false (S ▸ b) w) rest)
  begins_none r le =
      ap (λ (t : Bool). by_found r w (cond t
      (Some (record { marks = Open (place_of w) ∷ []; blocks = S ▸ b ▸ w }))
      (cond w.is_first (aligned_at (state true (S ▸ b)) (place_of w))
      (Some (record { marks = empty_block (state true (S ▸ b)) (place_of w); blocks = S ▸ b })))) rest)
      (opens_deeper ∙ le-ltb (column_of b) (column_of w) le)
      ∙ empty_by r w.is_first
