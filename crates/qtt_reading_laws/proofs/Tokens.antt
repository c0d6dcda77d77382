-- Where the tokens of a text stand, their marks, and the faults of lexing and layout.
use Rattle.std.proofs.Common.{◌≡◌, ℕ, zero, suc, ◌-◌, ◌==◌, nat_lt, Bool, true, false, cond, List, [], ◌∷◌, ◌++◌, length, take, drop, Option, Some, None, Result, Ok, Err, refl, sym, ap, subst, ◌∙◌, append_assoc}
use Rattle.std.proofs.lemmas.List.{take-append-drop}
use Rattle.std.proofs.lemmas.List.Sums.{fold-append}
use Rattle.std.specs.Str.Lossy.{utf8_valid_len}
use Rattle.qtt_base.specs.declared.place.Span.{Span}
use Rattle.qtt_lexer.specs.Lexed.{Mistake, mistake, put_first, by_piece, token, tokens_from, lexed}
use Rattle.qtt_lexer.specs.Piece.{piece_at}
use Rattle.qtt_lexer.specs.Place.{start, place_behind, place_after}
use Rattle.qtt_lexer.specs.declared.place.Place.{Place}
use Rattle.qtt_lexer.specs.declared.piece.Cause.TheVariants.{NotUtf8}
use Rattle.qtt_lexer.specs.declared.piece.Piece.{Piece}
use Rattle.qtt_lexer.specs.declared.piece.Piece.TheVariants.{Gap, Token as TokenPiece, Wrong}
use Rattle.qtt_lexer.specs.declared.token.Token.{Token}
use Rattle.qtt_lexer.specs.declared.token.TokenKind.TheVariants.{End}
use Rattle.qtt_layout.specs.Marks.{counted, next_before}
use Rattle.qtt_layout.specs.Rules as layout
use Rattle.qtt_layout.specs.Rules.{State, Put, role_of, newest, opens, empty_block, closes, without_newest, next_at, aligned, aligned_at, right_of, by_column, closed_by, item_of, added, behind, put_before, by_put, by_role, put_from, counted_of, laid}
use Rattle.qtt_layout.specs.declared.block.Block.{Block}
use Rattle.qtt_layout.specs.declared.laid.Laid.{Laid}
use Rattle.qtt_layout.specs.declared.laid.Laid.TheVariants.{Open, Next, Close, Tok}
use Rattle.qtt_layout.specs.declared.role.Role.{Role}
use Rattle.qtt_layout.specs.declared.role.Role.TheVariants as role
use Rattle.qtt_reading_laws.specs.Standing.{Each}
use Rattle.qtt_reading_laws.specs.Places.{characters_in, IsPlaceOf}

-- ---- lexing

-- a place behind some of these characters
record IsAt (all : List ℕ) (p : Place) (rest : List ℕ) : Type 0 where
  before : List ℕ
  whole : all ≡ before ++ rest
  place : p ≡ place_after start before

at_later : (all : List ℕ) (p : Place) (front rest : List ℕ) → IsAt all p (front ++ rest) →
    IsAt all (place_after p front) rest
at_later all p front rest h = record {
  before = h.before ++ front;
  whole = h.whole ∙ sym (append_assoc h.before front rest);
  place = ap (λ (q : Place). place_after q front) h.place ∙ sym (fold-append place_behind start h.before front);
}

abbrev pub Token_stands : (Span → Type 0) → Token → Type 0
Token_stands P t = P t.span

abbrev Lexed_stand : (Span → Type 0) → Result (List Token) Mistake → Type 0
Lexed_stand P (Ok ts) = Each (Token_stands P) ts
Lexed_stand P (Err m) = P m.span

module _ (bytes : List ℕ) where
  abbrev Here : Span → Type 0
  Here = IsPlaceOf bytes

  at_place : (p : Place) (n : ℕ) (rest : List ℕ) → IsAt (characters_in bytes) p rest →
      Here (record { line = p.line; col = p.col; len = n })
  at_place p n rest h = record {
    before = h.before;
    behind = rest;
    whole = h.whole;
    line = ap (λ (q : Place). q.line) h.place;
    col = ap (λ (q : Place). q.col) h.place;
  }

  first_stands : (t : Token) (r : Result (List Token) Mistake) → Here t.span → Lexed_stand Here r →
      Lexed_stand Here (put_first t r)
  first_stands t (Ok ts) h k = (h, k)
  first_stands t (Err m) h k = k

  piece_stands : (p : Place) (cs : List ℕ) (q : Piece) (more : ℕ → Result (List Token) Mistake) →
      IsAt (characters_in bytes) p cs → ((n : ℕ) → Lexed_stand Here (more n)) → Lexed_stand Here (by_piece p cs q more)
  piece_stands p cs (Gap n) more h k = k (n - 1)
  piece_stands p cs (TokenPiece kind n) more h k =
      first_stands (token kind p (take n cs)) (more (n - 1)) (at_place p (length (take n cs)) cs h) (k (n - 1))
  piece_stands p cs (Wrong cause before n) more h k =
      at_place (place_after p (take before cs)) n (drop before cs)
      (at_later (characters_in bytes) p (take before cs) (drop before cs)
      (subst (λ (z : List ℕ). IsAt (characters_in bytes) p z) (sym (take-append-drop before cs)) h))

  end_stands : (broken : Bool) (p : Place) → IsAt (characters_in bytes) p [] →
      Lexed_stand Here (cond broken (Err (mistake NotUtf8 p 0)) (Ok (token End p [] ∷ [])))
  end_stands true p h = at_place p 0 [] h
  end_stands false p h = (at_place p 0 [] h, tt)

  from_stands : (broken : Bool) (p : Place) (n : ℕ) (cs : List ℕ) → IsAt (characters_in bytes) p cs →
      Lexed_stand Here (tokens_from broken p n cs)
  unfolding tokens_from
  from_stands broken p n [] h = end_stands broken p h
  from_stands broken p (suc n) (c ∷ cs) h =
      from_stands broken (place_behind p c) n cs (at_later (characters_in bytes) p (c ∷ []) cs h)
  from_stands broken p zero (c ∷ cs) h =
      piece_stands p (c ∷ cs) (piece_at broken (c ∷ cs)) (λ n. tokens_from broken (place_behind p c) n cs) h
      (λ n. from_stands broken (place_behind p c) n cs (at_later (characters_in bytes) p (c ∷ []) cs h))

  pub lexed_stand : Lexed_stand Here (lexed bytes)
  unfolding lexed
  lexed_stand = from_stands (nat_lt (utf8_valid_len bytes) (length bytes)) start 0 (characters_in bytes)
      (record { before = []; whole = refl; place = refl })

  pub start_stands : Here (record { line = 1; col = 1; len = 0 })
  start_stands = record { before = []; behind = characters_in bytes; whole = refl; line = refl; col = refl }

  pub tokens_stand : (ts : List Token) → lexed bytes ≡ Ok ts → Each (Token_stands Here) ts
  tokens_stand ts e = subst (Lexed_stand Here) e lexed_stand

  pub lexing_stands : (m : Mistake) → lexed bytes ≡ Err m → Here m.span
  lexing_stands m e = subst (Lexed_stand Here) e lexed_stand

-- ---- layout

module _ (P : Span → Type 0) where
  abbrev pub Mark_stands : Laid → Type 0
  Mark_stands (Open s) = P s
  Mark_stands (Next s) = P s
  Mark_stands (Close s) = P s
  Mark_stands (Tok t) = P t.span

  abbrev Marks_stand : List Laid → Type 0
  Marks_stand ms = Each Mark_stands ms

  abbrev Laid_stand : Result (List Laid) Mistake → Type 0
  Laid_stand (Ok ms) = Marks_stand ms
  Laid_stand (Err m) = P m.span

  each_append : (ms ns : List Laid) → Marks_stand ms → Marks_stand ns → Marks_stand (ms ++ ns)
  each_append [] ns h k = k
  each_append (m ∷ ms) ns h k = (h.0, each_append ms ns h.1 k)

  next_stands : (s : Span) (ms : List Laid) → P s → Marks_stand ms → Marks_stand (next_before s ms)
  next_stands s [] h k = (h, tt)
  next_stands s (Open r ∷ ms) h k = (h, k)
  next_stands s (Next r ∷ ms) h k = (h, k.1)
  next_stands s (Close r ∷ ms) h k = k
  next_stands s (Tok t ∷ ms) h k = (h, k)

  counted_stand : (ms : List Laid) → Marks_stand ms → Marks_stand (counted ms)
  counted_stand [] h = tt
  counted_stand (Open s ∷ ms) h = (h.0, counted_stand ms h.1)
  counted_stand (Next s ∷ ms) h = next_stands s (counted ms) h.0 (counted_stand ms h.1)
  counted_stand (Close s ∷ ms) h = (h.0, counted_stand ms h.1)
  counted_stand (Tok t ∷ ms) h = (h.0, counted_stand ms h.1)

  closes_stand : (n : ℕ) (s : Span) → P s → Marks_stand (closes n s)
  closes_stand zero s h = tt
  closes_stand (suc n) s h = (h, closes_stand n s h)

  empty_stands : (b : Bool) (s : Span) → P s → Marks_stand (cond b (Open s ∷ Close s ∷ []) [])
  empty_stands true s h = (h, (h, tt))
  empty_stands false s h = tt

  next_if : (b : Bool) (s : Span) → P s → Marks_stand (cond b (Next s ∷ []) [])
  next_if true s h = (h, tt)
  next_if false s h = tt

  abbrev Put_stands : Option Put → Type 0
  Put_stands None = Unit {0}
  Put_stands (Some put) = Marks_stand put.marks

  put_if : (b : Bool) (o p : Option Put) → Put_stands o → Put_stands p → Put_stands (cond b o p)
  put_if true o p h k = h
  put_if false o p h k = k

  aligned_stands : (s : Span) (marks : List Laid) (blocks : List Block) (o : Option Block) → P s →
      Marks_stand marks → Put_stands (aligned s marks blocks o)
  aligned_stands s marks blocks None h k = tt
  aligned_stands s marks blocks (Some block) h k =
      each_append marks (next_at block s) k (next_if (block.col == s.col) s h)

  column_stands : (s : State) (t : Token) → P t.span → Put_stands (by_column s t)
  column_stands s t h =
      put_if (opens s t) _ _ (h, tt)
      (put_if (t.span.line == s.line) _ (aligned_at s t.span) (empty_stands s.awaits t.span h)
      (aligned_stands t.span (empty_block s t.span ++ closes (right_of t.span.col s.blocks) t.span)
      (without_newest (right_of t.span.col s.blocks) s.blocks)
      (newest (without_newest (right_of t.span.col s.blocks) s.blocks)) h
      (each_append (empty_block s t.span) (closes (right_of t.span.col s.blocks) t.span)
      (empty_stands s.awaits t.span h) (closes_stand (right_of t.span.col s.blocks) t.span h))))

  item_stands : (r : Role) (t : Token) → P t.span → Marks_stand (item_of r t ∷ [])
  item_stands role.Opener t h = (h, tt)
  item_stands role.LeftBracket t h = (h, tt)
  item_stands role.RightBracket t h = (h, tt)
  item_stands role.Semicolon t h = (h, tt)
  item_stands role.End t h = (h, tt)
  item_stands role.Plain t h = (h, tt)

  before_stands : (ms : List Laid) (r : Result (List Laid) Mistake) → Marks_stand ms → Laid_stand r →
      Laid_stand (put_before ms r)
  before_stands ms (Ok rest) h k = each_append ms rest h k
  before_stands ms (Err m) h k = k

  put_stands : (r : Role) (s : State) (t : Token) (o : Option Put) (rest : State → Result (List Laid) Mistake) →
      P t.span → Put_stands o → ((next : State) → Laid_stand (rest next)) → Laid_stand (by_put r s t o rest)
  put_stands r s t None rest h k later = h
  put_stands r s t (Some put) rest h k later =
      let n = closed_by r s.brackets put.blocks in
      before_stands (put.marks ++ added r s t put.blocks) (rest (behind r s t put.blocks))
      (each_append put.marks (added r s t put.blocks) k
      (each_append (closes n t.span) (item_of r t ∷ []) (closes_stand n t.span h) (item_stands r t h)))
      (later (behind r s t put.blocks))

  role_stands : (r : Role) (s : State) (t : Token) (rest : State → Result (List Laid) Mistake) → P t.span →
      ((next : State) → Laid_stand (rest next)) → Laid_stand (by_role r s t rest)
  role_stands role.End s t rest h later =
      each_append (empty_block s t.span) (closes (length s.blocks) t.span) (empty_stands s.awaits t.span h)
      (closes_stand (length s.blocks) t.span h)
  role_stands role.Opener s t rest h later =
      put_stands role.Opener s t (by_column s t) rest h (column_stands s t h) later
  role_stands role.LeftBracket s t rest h later =
      put_stands role.LeftBracket s t (by_column s t) rest h (column_stands s t h) later
  role_stands role.RightBracket s t rest h later =
      put_stands role.RightBracket s t (by_column s t) rest h (column_stands s t h) later
  role_stands role.Semicolon s t rest h later =
      put_stands role.Semicolon s t (by_column s t) rest h (column_stands s t h) later
  role_stands role.Plain s t rest h later =
      put_stands role.Plain s t (by_column s t) rest h (column_stands s t h) later

  put_from_stands : (s : State) (ts : List Token) → Each (Token_stands P) ts → Laid_stand (put_from s ts)
  unfolding put_from
  put_from_stands s [] h = tt
  put_from_stands s (t ∷ ts) h =
      role_stands (role_of t.kind) s t (λ next. put_from next ts) h.0 (λ next. put_from_stands next ts h.1)

  counted_of_stands : (r : Result (List Laid) Mistake) → Laid_stand r → Laid_stand (counted_of r)
  counted_of_stands (Ok ms) h = counted_stand ms h
  counted_of_stands (Err m) h = h

  laid_stand : (ts : List Token) → Each (Token_stands P) ts → Laid_stand (laid ts)
  unfolding laid
  laid_stand ts h = counted_of_stands (put_from layout.start ts) (put_from_stands layout.start ts h)

  pub marks_stand : (ts : List Token) (ms : List Laid) → Each (Token_stands P) ts → laid ts ≡ Ok ms →
      Each Mark_stands ms
  marks_stand ts ms h e = subst Laid_stand e (laid_stand ts h)

  pub layout_stands : (ts : List Token) (m : Mistake) → Each (Token_stands P) ts → laid ts ≡ Err m → P m.span
  layout_stands ts m h e = subst Laid_stand e (laid_stand ts h)
