-- The laws of tokens with their marks.
use Rattle.std.proofs.Common.{◌≡◌, ℕ, zero, suc, ◌-◌, ◌≤◌, ◌==◌, nat_lt, nat_le, Bool, true, false, cond, List, [], ◌∷◌, ◌++◌, length, Option, Some, None, Result, Ok, Err, Vec, IfOk, refl, sym, ap, ◌∙◌, length-append, arith}
use Rattle.std.proofs.lemmas.List.{length-take}
use Rattle.std.proofs.lemmas.List.Sums.{suffix_len-le-length}
use Rattle.std.specs.Global.{Global}
use Rattle.qtt_base.specs.declared.place.Span.{Span}
use Rattle.qtt_lexer.specs.Lexed.{Mistake}
use Rattle.qtt_lexer.specs.declared.token.Token.{Token}
use Rattle.qtt_layout.specs.Marks.{counted, next_before}
use Rattle.qtt_layout.specs.Laws.{tokens_in, kept_by, kept, ends_by, has_end, open_behind, each_next_counts}
use Rattle.qtt_layout.specs.Rules.{State, Put, start, role_of, newest, opens, empty_block, closes, without_newest, next_at, aligned, aligned_at, right_of, by_column, since_bracket, closed_by, item_of, added, behind, at_end, put_before, by_put, by_role, put_from, counted_of, laid}
use Rattle.qtt_layout.specs.Answer.{Gives}
use Rattle.qtt_layout.specs.declared.block.Block.{Block}
use Rattle.qtt_layout.specs.declared.errors.LayoutError.{LayoutError}
use Rattle.qtt_layout.specs.declared.laid.Laid.{Laid}
use Rattle.qtt_layout.specs.declared.laid.Laid.TheVariants.{Open, Next, Close, Tok}
use Rattle.qtt_layout.specs.declared.role.Role.{Role}
use Rattle.qtt_layout.specs.declared.role.Role.TheVariants as role

-- Marks that count

next_before-tokens : (s : Span) (ms : List Laid) → tokens_in (next_before s ms) ≡ tokens_in ms
next_before-tokens s [] = refl
next_before-tokens s (Open r ∷ ms) = refl
next_before-tokens s (Next r ∷ ms) = refl
next_before-tokens s (Close r ∷ ms) = refl
next_before-tokens s (Tok t ∷ ms) = refl

counted-tokens : (ms : List Laid) → tokens_in (counted ms) ≡ tokens_in ms
counted-tokens [] = refl
counted-tokens (Open s ∷ ms) = counted-tokens ms
counted-tokens (Next s ∷ ms) = next_before-tokens s (counted ms) ∙ counted-tokens ms
counted-tokens (Close s ∷ ms) = counted-tokens ms
counted-tokens (Tok t ∷ ms) = ap (λ (ts : List Token). t ∷ ts) (counted-tokens ms)

next_before-open : (n : ℕ) (s : Span) (ms : List Laid) → open_behind n (next_before s ms) ≡ open_behind n ms
next_before-open n s [] = refl
next_before-open n s (Open r ∷ ms) = refl
next_before-open n s (Next r ∷ ms) = refl
next_before-open n s (Close r ∷ ms) = refl
next_before-open n s (Tok t ∷ ms) = refl

counted-open : (n : ℕ) (ms : List Laid) → open_behind n (counted ms) ≡ open_behind n ms
counted-open n [] = refl
counted-open n (Open s ∷ ms) = counted-open (suc n) ms
counted-open n (Next s ∷ ms) = next_before-open n s (counted ms) ∙ counted-open n ms
counted-open zero (Close s ∷ ms) = refl
counted-open (suc n) (Close s ∷ ms) = counted-open n ms
counted-open n (Tok t ∷ ms) = counted-open n ms

next_before-counts : (s : Span) (ms : List Laid) → each_next_counts ms ≡ true →
    each_next_counts (next_before s ms) ≡ true
next_before-counts s [] h = refl
next_before-counts s (Open r ∷ ms) h = h
next_before-counts s (Next r ∷ ms) h = h
next_before-counts s (Close r ∷ ms) h = h
next_before-counts s (Tok t ∷ ms) h = h

counted-counts : (ms : List Laid) → each_next_counts (counted ms) ≡ true
counted-counts [] = refl
counted-counts (Open s ∷ ms) = counted-counts ms
counted-counts (Next s ∷ ms) = next_before-counts s (counted ms) (counted-counts ms)
counted-counts (Close s ∷ ms) = counted-counts ms
counted-counts (Tok t ∷ ms) = counted-counts ms

-- Tokens

tokens_in-append : (ms ns : List Laid) → tokens_in (ms ++ ns) ≡ tokens_in ms ++ tokens_in ns
tokens_in-append [] ns = refl
tokens_in-append (Open s ∷ ms) ns = tokens_in-append ms ns
tokens_in-append (Next s ∷ ms) ns = tokens_in-append ms ns
tokens_in-append (Close s ∷ ms) ns = tokens_in-append ms ns
tokens_in-append (Tok t ∷ ms) ns = ap (λ (ts : List Token). t ∷ ts) (tokens_in-append ms ns)

tokens_in-closes : (n : ℕ) (s : Span) → tokens_in (closes n s) ≡ []
tokens_in-closes zero s = refl
tokens_in-closes (suc n) s = tokens_in-closes n s

tokens_in-empty : (b : Bool) (s : Span) → tokens_in (cond b (Open s ∷ Close s ∷ []) []) ≡ []
tokens_in-empty true s = refl
tokens_in-empty false s = refl

tokens_in-next : (b : Bool) (s : Span) → tokens_in (cond b (Next s ∷ []) []) ≡ []
tokens_in-next true s = refl
tokens_in-next false s = refl

none_of : (ms ns : List Laid) → tokens_in ms ≡ [] → tokens_in ns ≡ [] → tokens_in (ms ++ ns) ≡ []
none_of ms ns h k = tokens_in-append ms ns ∙ ap (λ (ts : List Token). ts ++ tokens_in ns) h ∙ k

-- How many blocks are open

behind_both : (n m : ℕ) (ms ns : List Laid) → open_behind n ms ≡ Some m → open_behind n (ms ++ ns) ≡ open_behind m ns
behind_both n m [] ns h = ap (λ (k : ℕ). open_behind k ns) (let e = h in cc)
behind_both n m (Open s ∷ ms) ns h = behind_both (suc n) m ms ns h
behind_both n m (Next s ∷ ms) ns h = behind_both n m ms ns h
behind_both zero m (Close s ∷ ms) ns h = absurd (let e = h in cc)
behind_both (suc n) m (Close s ∷ ms) ns h = behind_both n m ms ns h
behind_both n m (Tok t ∷ ms) ns h = behind_both n m ms ns h

behind_closes : (n k : ℕ) (s : Span) → k ≤ n → open_behind n (closes k s) ≡ Some (n - k)
behind_closes n zero s h = ap Some (omega arith)
behind_closes zero (suc k) s h = absurd (omega (arith, h))
behind_closes (suc n) (suc k) s h = behind_closes n k s (omega (arith, h)) ∙ ap Some (omega arith)

behind_empty : (n : ℕ) (b : Bool) (s : Span) → open_behind n (cond b (Open s ∷ Close s ∷ []) []) ≡ Some n
behind_empty n true s = refl
behind_empty n false s = refl

behind_next : (n : ℕ) (b : Bool) (s : Span) → open_behind n (cond b (Next s ∷ []) []) ≡ Some n
behind_next n true s = refl
behind_next n false s = refl

-- Marks before a token

-- the marks put before a token have no token, and leave open the blocks that are then there
record Fair (n : ℕ) (put : Put) : Type 0 where
  none : tokens_in put.marks ≡ []
  open_blocks : open_behind n put.marks ≡ Some (length put.blocks)

abbrev IsFair : ℕ → Option Put → Type 0
IsFair n None = Unit {0}
IsFair n (Some put) = Fair n put

fair_if : (b : Bool) (n : ℕ) (o p : Option Put) → IsFair n o → IsFair n p → IsFair n (cond b o p)
fair_if true n o p h k = h
fair_if false n o p h k = k

left_length : (n : ℕ) (blocks : List Block) → length (without_newest n blocks) ≡ length blocks - n
left_length n blocks = omega (arith, length-take (length blocks - n) blocks)

aligned_fair : (n : ℕ) (span : Span) (marks : List Laid) (blocks : List Block) (o : Option Block) →
    tokens_in marks ≡ [] → open_behind n marks ≡ Some (length blocks) → IsFair n (aligned span marks blocks o)
aligned_fair n span marks blocks None h k = tt
aligned_fair n span marks blocks (Some block) h k = record {
  none = none_of marks (next_at block span) h (tokens_in-next (block.col == span.col) span);
  open_blocks = behind_both n (length blocks) marks (next_at block span) k ∙ behind_next (length blocks)
      (block.col == span.col) span;
}

aligned_at-fair : (s : State) (span : Span) → IsFair (length s.blocks) (aligned_at s span)
aligned_at-fair s span =
    let n = right_of span.col s.blocks in
    let some = suffix_len-le-length (λ (block : Block). nat_lt span.col block.col) s.blocks in
    aligned_fair (length s.blocks) span (empty_block s span ++ closes n span) (without_newest n s.blocks)
    (newest (without_newest n s.blocks))
    (none_of (empty_block s span) (closes n span) (tokens_in-empty s.awaits span) (tokens_in-closes n span))
    (behind_both (length s.blocks) (length s.blocks) (empty_block s span) (closes n span)
    (behind_empty (length s.blocks) s.awaits span)
    ∙ behind_closes (length s.blocks) n span some ∙ ap Some (sym (left_length n s.blocks)))

by_column-fair : (s : State) (t : Token) → IsFair (length s.blocks) (by_column s t)
by_column-fair s t =
    fair_if (opens s t) (length s.blocks) _ _
    (record { none = refl; open_blocks = ap Some (opened_length s.blocks _) })
    (fair_if (t.span.line == s.line) (length s.blocks) _ (aligned_at s t.span)
    (record { none = tokens_in-empty s.awaits t.span; open_blocks = behind_empty (length s.blocks) s.awaits t.span })
    (aligned_at-fair s t.span))
  where
    opened_length : (blocks : List Block) (b : Block) → suc (length blocks) ≡ length (blocks ++ b ∷ [])
    opened_length blocks b = omega (arith, length-append blocks (b ∷ []))

-- What a token adds

since_bracket-within : (n : ℕ) (blocks : List Block) → since_bracket n blocks ≤ length blocks
since_bracket-within zero blocks = omega arith
since_bracket-within (suc n) blocks = suffix_len-le-length (λ (block : Block). nat_le (suc n) block.brackets) blocks

closed_by-within : (r : Role) (n : ℕ) (blocks : List Block) → closed_by r n blocks ≤ length blocks
closed_by-within role.Opener n blocks = omega arith
closed_by-within role.LeftBracket n blocks = omega arith
closed_by-within role.RightBracket n blocks = since_bracket-within n blocks
closed_by-within role.Semicolon n blocks = omega arith
closed_by-within role.End n blocks = omega arith
closed_by-within role.Plain n blocks = omega arith

item-open : (n : ℕ) (r : Role) (t : Token) → open_behind n (item_of r t ∷ []) ≡ Some n
item-open n role.Opener t = refl
item-open n role.LeftBracket t = refl
item-open n role.RightBracket t = refl
item-open n role.Semicolon t = refl
item-open n role.End t = refl
item-open n role.Plain t = refl

added-open : (r : Role) (s : State) (t : Token) (blocks : List Block) →
    open_behind (length blocks) (added r s t blocks) ≡ Some (length (behind r s t blocks).blocks)
added-open r s t blocks =
    let k = closed_by r s.brackets blocks in
    behind_both (length blocks) (length blocks - k) (closes k t.span) (item_of r t ∷ [])
    (behind_closes (length blocks) k t.span (closed_by-within r s.brackets blocks))
    ∙ item-open (length blocks - k) r t ∙ ap Some (sym (left_length k blocks))

added-tokens : (r : Role) (s : State) (t : Token) (blocks : List Block) →
    tokens_in (added r s t blocks) ≡ tokens_in (item_of r t ∷ [])
added-tokens r s t blocks =
    let k = closed_by r s.brackets blocks in
    tokens_in-append (closes k t.span) (item_of r t ∷ []) ∙
    ap (λ (ts : List Token). ts ++ tokens_in (item_of r t ∷ [])) (tokens_in-closes k t.span)

put_before-ok : (marks : List Laid) (r : Result (List Laid) Mistake) (ms : List Laid) →
    put_before marks r ≡ Ok ms → (rest : List Laid) × (r ≡ Ok rest) × (marks ++ rest ≡ ms)
put_before-ok marks (Ok rest) ms h = (rest, refl, let e = h in cc)
put_before-ok marks (Err m) ms h = absurd (let e = h in cc)

at_end-tokens : (s : State) (t : Token) → tokens_in (at_end s t) ≡ []
at_end-tokens s t =
    none_of (empty_block s t.span) (closes (length s.blocks) t.span) (tokens_in-empty s.awaits t.span)
    (tokens_in-closes (length s.blocks) t.span)

at_end-open : (s : State) (t : Token) → open_behind (length s.blocks) (at_end s t) ≡ Some 0
at_end-open s t =
    let n = length s.blocks in
    behind_both n n (empty_block s t.span) (closes n t.span) (behind_empty n s.awaits t.span) ∙
    behind_closes n n t.span (omega arith) ∙ ap Some (omega arith)

module _ (s : State) (t : Token) (rest : State → Result (List Laid) Mistake) (ms : List Laid) where
  by_put-tokens : (r : Role) (o : Option Put) (ks : List Token) → IsFair (length s.blocks) o →
      ((next : State) (ns : List Laid) → rest next ≡ Ok ns → tokens_in ns ≡ ks) → by_put r s t o rest ≡ Ok ms →
      tokens_in ms ≡ tokens_in (item_of r t ∷ []) ++ ks
  by_put-tokens r None ks fair later h = absurd (let e = h in cc)
  by_put-tokens r (Some put) ks fair later h =
      let parts = put_before-ok (put.marks ++ added r s t put.blocks) (rest (behind r s t put.blocks)) ms h in
      ap tokens_in (sym parts.2)
      ∙ tokens_in-append (put.marks ++ added r s t put.blocks) parts.0
      ∙ ap (λ (ts : List Token). ts ++ tokens_in parts.0)
      (tokens_in-append put.marks (added r s t put.blocks) ∙
      ap (λ (ts : List Token). ts ++ tokens_in (added r s t put.blocks)) fair.none ∙
      added-tokens r s t put.blocks)
      ∙ ap (λ (ts : List Token). tokens_in (item_of r t ∷ []) ++ ts) (later (behind r s t put.blocks) parts.0 parts.1)

  by_put-open : (r : Role) (o : Option Put) → IsFair (length s.blocks) o →
      ((next : State) (ns : List Laid) → rest next ≡ Ok ns → open_behind (length next.blocks) ns ≡ Some 0) →
      by_put r s t o rest ≡ Ok ms → open_behind (length s.blocks) ms ≡ Some 0
  by_put-open r None fair later h = absurd (let e = h in cc)
  by_put-open r (Some put) fair later h =
      let next = behind r s t put.blocks in
      let parts = put_before-ok (put.marks ++ added r s t put.blocks) (rest next) ms h in
      let both = behind_both (length s.blocks) (length put.blocks) put.marks
      (added r s t put.blocks) fair.open_blocks ∙ added-open r s t put.blocks in
      ap (open_behind (length s.blocks)) (sym parts.2)
      ∙ behind_both (length s.blocks) (length next.blocks) (put.marks ++ added r s t put.blocks) parts.0 both
      ∙ later next parts.0 parts.1

  by_role-tokens : (r : Role) (ks : List Token) →
      ((next : State) (ns : List Laid) → rest next ≡ Ok ns → tokens_in ns ≡ ks) → by_role r s t rest ≡ Ok ms →
      tokens_in ms ≡ kept_by r t ks
  by_role-tokens role.Opener ks later h = by_put-tokens role.Opener (by_column s t) ks (by_column-fair s t) later h
  by_role-tokens role.LeftBracket ks later h =
      by_put-tokens role.LeftBracket (by_column s t) ks (by_column-fair s t) later h
  by_role-tokens role.RightBracket ks later h =
      by_put-tokens role.RightBracket (by_column s t) ks (by_column-fair s t) later h
  by_role-tokens role.Semicolon ks later h =
      by_put-tokens role.Semicolon (by_column s t) ks (by_column-fair s t) later h
  by_role-tokens role.End ks later h =
      let same : at_end s t ≡ ms = (let e = h in cc) in
      ap tokens_in (sym same) ∙ at_end-tokens s t
  by_role-tokens role.Plain ks later h = by_put-tokens role.Plain (by_column s t) ks (by_column-fair s t) later h

  by_role-open : (r : Role) (b : Bool) → ends_by r b ≡ true →
      (b ≡ true → (next : State) (ns : List Laid) → rest next ≡ Ok ns →
      open_behind (length next.blocks) ns ≡ Some 0) → by_role r s t rest ≡ Ok ms →
      open_behind (length s.blocks) ms ≡ Some 0
  by_role-open role.Opener b e later h = by_put-open role.Opener (by_column s t) (by_column-fair s t) (later e) h
  by_role-open role.LeftBracket b e later h =
      by_put-open role.LeftBracket (by_column s t) (by_column-fair s t) (later e) h
  by_role-open role.RightBracket b e later h =
      by_put-open role.RightBracket (by_column s t) (by_column-fair s t) (later e) h
  by_role-open role.Semicolon b e later h = by_put-open role.Semicolon (by_column s t) (by_column-fair s t) (later e) h
  by_role-open role.End b e later h =
      let same : at_end s t ≡ ms = (let e = h in cc) in
      ap (open_behind (length s.blocks)) (sym same) ∙ at_end-open s t
  by_role-open role.Plain b e later h = by_put-open role.Plain (by_column s t) (by_column-fair s t) (later e) h

put_from-tokens : (tokens : List Token) (s : State) (ms : List Laid) → put_from s tokens ≡ Ok ms →
    tokens_in ms ≡ kept tokens
unfolding put_from
put_from-tokens [] s ms h = let same : [] ≡ ms = (let e = h in cc) in sym (ap tokens_in same)
put_from-tokens (t ∷ ts) s ms h =
    by_role-tokens s t (λ next. put_from next ts) ms (role_of t.kind) (kept ts)
    (λ next ns k. put_from-tokens ts next ns k) h

put_from-open : (tokens : List Token) (s : State) (ms : List Laid) → has_end tokens ≡ true →
    put_from s tokens ≡ Ok ms → open_behind (length s.blocks) ms ≡ Some 0
unfolding put_from
put_from-open [] s ms ends h = absurd (let e = ends in cc)
put_from-open (t ∷ ts) s ms ends h =
    by_role-open s t (λ next. put_from next ts) ms (role_of t.kind) (has_end ts) ends
    (λ more next ns k. put_from-open ts next ns more k) h

counted_of-ok : (r : Result (List Laid) Mistake) (ms : List Laid) → counted_of r ≡ Ok ms →
    (ns : List Laid) × (r ≡ Ok ns) × (counted ns ≡ ms)
counted_of-ok (Ok ns) ms h = (ns, refl, let e = h in cc)
counted_of-ok (Err m) ms h = absurd (let e = h in cc)

-- the answer's own words
module _ (tokens : List Token) where
  pub tokens_of_answer : (r : Result (Vec Laid Global) LayoutError) → Gives r (laid tokens) →
      IfOk r (λ marks. tokens_in marks.items ≡ kept tokens)
  unfolding laid
  tokens_of_answer (Ok marks) h =
      let parts = counted_of-ok (put_from start tokens) marks.items h in
      ap tokens_in (sym parts.2) ∙ counted-tokens parts.0 ∙ put_from-tokens tokens start parts.0 parts.1
  tokens_of_answer (Err e) h = tt

  pub blocks_of_answer : (r : Result (Vec Laid Global) LayoutError) → Gives r (laid tokens) →
      has_end tokens ≡ true → IfOk r (λ marks. open_behind 0 marks.items ≡ Some 0)
  unfolding laid
  blocks_of_answer (Ok marks) h ends =
      let parts = counted_of-ok (put_from start tokens) marks.items h in
      ap (open_behind 0) (sym parts.2) ∙ counted-open 0 parts.0 ∙ put_from-open tokens start parts.0 ends parts.1
  blocks_of_answer (Err e) h ends = tt

  pub nexts_of_answer : (r : Result (Vec Laid Global) LayoutError) → Gives r (laid tokens) →
      IfOk r (λ marks. each_next_counts marks.items ≡ true)
  unfolding laid
  nexts_of_answer (Ok marks) h =
      let parts = counted_of-ok (put_from start tokens) marks.items h in
      ap each_next_counts (sym parts.2) ∙ counted-counts parts.0
  nexts_of_answer (Err e) h = tt
